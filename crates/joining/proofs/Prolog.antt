-- What stands before the first document in the first part of a text is what stands there in the whole, where it ends inside the part. Assumes nothing.
use mathlib.Core.Path.{◌≡◌, refl, sym, ap, ap₂, ◌∙◌}
use mathlib.Core.Bool.{Bool, true, false, cond, ◌&&◌}
use mathlib.Core.List.{List, [], ◌∷◌}
use Prim.Native.Nat.{ℕ, ◌+◌, ◌≤◌, ◌<◌}
use native.Mathlib.Omega.{arith}
use lib.Dec.{eqb, ltb}
use lib.ListN.{length, drop}
use borrow.Author.Tests.{ltb-true}
use Rattle.wire.specs.Field.{text}
use Rattle.letters.specs.Places.{byte_at, run_end, expected, on_reach, Reach}
use Rattle.letters.specs.References.{stands}
use Rattle.std.specs.Prelude.{Ok, Err}
use Rattle.letters.proofs.Walks.{went, match_forward}
use Rattle.letters.proofs.Characters.{front_true}
use Rattle.tags.specs.Names.{is_space, space_end}
use Rattle.tags.specs.Attributes.{is_quote}
use Rattle.prolog.specs.Prolog.{mark, after_mark, same_letter, any_case, digit, version_end, encoding_end, standalone_end, setting_name, value_end, quoted, equated, setting_at, maybe_setting, declaration_at, prolog}
use Rattle.joining.proofs.Parts.{Part, byte_in, run_in, word_in, stands_in, stands_not}

module _ {s t : List ℕ} (p : Part s t 0) where
  -- ---- the same place in both

  byte_front : (q : ℕ) → q < length s → byte_at t q ≡ byte_at s q
  byte_front q h = byte_in p q q (omega arith) h

  run_front : (f : ℕ → Bool) (q : ℕ) → run_end f t q ≤ length s → run_end f t q ≡ run_end f s q
  run_front f q h = omega (arith, run_in p f q q (omega arith) (omega arith) (omega arith))

  word_front : (word : List ℕ) (q n : ℕ) → expected t word q ≡ Ok n → n ≤ length s → expected s word q ≡ Ok n
  word_front word q n told room =
      let ends = match_forward word (drop q t) q n told in
      word_in p word q q n (omega arith) (omega arith) told (omega arith) ∙ ap Ok (sym ends)

  stands_front : (word : List ℕ) (q : ℕ) → q + length word ≤ length s → stands t q word ≡ stands s q word
  stands_front word q h = stands_in p word q q (omega arith) h

  none_front : (word : List ℕ) (q : ℕ) → 0 < length word → stands t q word ≡ false → stands s q word ≡ false
  none_front word q h e = stands_not p word q q (omega arith) h e

  -- ---- values

  case_front : (word : List ℕ) (q : ℕ) → q + length word ≤ length s → any_case word t q ≡ any_case word s q
  unfolding any_case
  case_front [] q h = refl
  case_front (c ∷ cs) q h = ap₂ ◌&&◌ (ap (λ (b : ℕ). same_letter b c) (byte_front q (omega arith))) (case_front cs (q + 1) (omega arith))

  -- one that is not empty, and ends inside
  version_front : (q : ℕ) → q < version_end t q → version_end t q ≤ length s → version_end s q ≡ version_end t q
  version_front q some room = by_test (stands t q (text "1.") && ltb (q + 2) (run_end digit t (q + 2))) refl some room
    where
      by_test : (b : Bool) → (stands t q (text "1.") && ltb (q + 2) (run_end digit t (q + 2))) ≡ b
          → q < cond b (run_end digit t (q + 2)) q → cond b (run_end digit t (q + 2)) q ≤ length s
          → cond (stands s q (text "1.") && ltb (q + 2) (run_end digit s (q + 2))) (run_end digit s (q + 2)) q ≡ cond b (run_end digit t (q + 2)) q
      by_test true b some room = rw (← (stands_front (text "1.") q (omega arith)), ← (run_front digit (q + 2) room), b)
      by_test false b some room = absurd (omega arith)

  encoding_front : (q : ℕ) → q < encoding_end t q → encoding_end t q ≤ length s → encoding_end s q ≡ encoding_end t q
  encoding_front q some room = by_test (any_case (text "UTF-8") t q) refl some room
    where
      by_test : (b : Bool) → any_case (text "UTF-8") t q ≡ b → q < cond b (q + 5) q → cond b (q + 5) q ≤ length s
          → cond (any_case (text "UTF-8") s q) (q + 5) q ≡ cond b (q + 5) q
      by_test true b some room = rw (← (case_front (text "UTF-8") q room), b)
      by_test false b some room = absurd (omega arith)

  standalone_front : (q : ℕ) → q < standalone_end t q → standalone_end t q ≤ length s → standalone_end s q ≡ standalone_end t q
  standalone_front q some room = by_test (stands t q (text "yes")) refl (stands t q (text "no")) refl some room
    where
      by_test : (a : Bool) → stands t q (text "yes") ≡ a → (b : Bool) → stands t q (text "no") ≡ b
          → q < cond a (q + 3) (cond b (q + 2) q) → cond a (q + 3) (cond b (q + 2) q) ≤ length s
          → cond (stands s q (text "yes")) (q + 3) (cond (stands s q (text "no")) (q + 2) q) ≡ cond a (q + 3) (cond b (q + 2) q)
      by_test true a b e some room = rw (← (stands_front (text "yes") q room), a)
      by_test false a true e some room = rw (none_front (text "yes") q (omega arith) a, ← (stands_front (text "no") q room), e)
      by_test false a false e some room = absurd (omega arith)

  value_front : (k q : ℕ) → q < value_end k t q → value_end k t q ≤ length s → value_end k s q ≡ value_end k t q
  value_front k q some room = by_test (eqb k 0) (eqb k 1) some room
    where
      by_test : (a b : Bool) → q < cond a (version_end t q) (cond b (encoding_end t q) (standalone_end t q)) → cond a (version_end t q) (cond b (encoding_end t q) (standalone_end t q)) ≤ length s
          → cond a (version_end s q) (cond b (encoding_end s q) (standalone_end s q)) ≡ cond a (version_end t q) (cond b (encoding_end t q) (standalone_end t q))
      by_test true b some room = version_front q some room
      by_test false true some room = encoding_front q some room
      by_test false false some room = standalone_front q some room

  -- ---- settings

  quoted_front : (k q n : ℕ) → quoted k t q ≡ Ok n → n ≤ length s → (quoted k s q ≡ Ok n) × (q < n)
  quoted_front k q n told room =
      by_test (is_quote (byte_at t q)) refl (ltb (q + 1) (value_end k t (q + 1)) && eqb (byte_at t (value_end k t (q + 1))) (byte_at t q)) refl told
    where
      by_test : (a : Bool) → is_quote (byte_at t q) ≡ a → (b : Bool) → (ltb (q + 1) (value_end k t (q + 1)) && eqb (byte_at t (value_end k t (q + 1))) (byte_at t q)) ≡ b
          → cond a (cond b (Ok (value_end k t (q + 1) + 1)) (Err (q + 1))) (Err q) ≡ Ok n → (quoted k s q ≡ Ok n) × (q < n)
      by_test true a true b told =
          let ends : value_end k t (q + 1) + 1 ≡ n = cc in
          let some = ltb-true (q + 1) (value_end k t (q + 1)) (front_true _ _ b) in
          let value = value_front k (q + 1) some (omega arith) in
          let first = byte_front q (omega arith) in
          let last = byte_front (value_end k t (q + 1)) (omega arith) in
          (rw (value, ← first, ← last, a, b, ends), omega arith)
      by_test true a false b told = absurd (let z : ◌≡◌ {A = ℕ} 0 1 = cc in omega arith)
      by_test false a b e told = absurd (let z : ◌≡◌ {A = ℕ} 0 1 = cc in omega arith)

  equated_front : (k q n : ℕ) → equated k t q ≡ Ok n → n ≤ length s → (equated k s q ≡ Ok n) × (q < n)
  equated_front k q n told room = by_test (eqb (byte_at t (space_end t q)) 61) refl told
    where
      by_test : (a : Bool) → eqb (byte_at t (space_end t q)) 61 ≡ a → cond a (quoted k t (space_end t (space_end t q + 1))) (Err (space_end t q)) ≡ Ok n → (equated k s q ≡ Ok n) × (q < n)
      by_test true a told =
          let value = quoted_front k (space_end t (space_end t q + 1)) n told room in
          let before = value.1 in
          let one = run_front is_space q (omega arith) in
          let two : space_end t (space_end t q + 1) ≡ space_end s (space_end s q + 1) = run_front is_space (space_end t q + 1) (omega arith) ∙ ap (λ (k : ℕ). space_end s (k + 1)) one in
          let sign = byte_front (space_end t q) (omega arith) in
          (rw (← two, ← one, ← sign, a) value.0, omega arith)
      by_test false a told = absurd (let z : ◌≡◌ {A = ℕ} 0 1 = cc in omega arith)

  setting_front : (k q n : ℕ) → setting_at k t q ≡ Ok n → n ≤ length s → (setting_at k s q ≡ Ok n) × (space_end t q < n)
  unfolding setting_at
  setting_front k q n told room = by_test (is_space (byte_at t q)) refl told
    where
      by_test : (a : Bool) → is_space (byte_at t q) ≡ a → cond a (on_reach (expected t (setting_name k) (space_end t q)) (λ n. equated k t n)) (Err q) ≡ Ok n
          → (cond (is_space (byte_at s q)) (on_reach (expected s (setting_name k) (space_end s q)) (λ n. equated k s n)) (Err q) ≡ Ok n) × (space_end t q < n)
      by_test true a told =
          let w = went (expected t (setting_name k) (space_end t q)) (λ n. equated k t n) n told in
          let named = match_forward (setting_name k) (drop (space_end t q) t) (space_end t q) w.mid w.first in
          let value = equated_front k w.mid n w.then room in
          let before = value.1 in
          let one = run_front is_space q (omega arith) in
          let name = word_front (setting_name k) (space_end t q) w.mid w.first (omega arith) in
          let space = byte_front q (omega arith) in
          (rw (← one, ← space, a, name) value.0, omega arith)
      by_test false a told = absurd (let z : ◌≡◌ {A = ℕ} 0 1 = cc in omega arith)

  -- one that may be missing; the spaces behind it end no earlier than those before it
  maybe_front : (k letter q n : ℕ) → maybe_setting k letter t q ≡ Ok n → space_end t n < length s → (maybe_setting k letter s q ≡ Ok n) × (space_end t q ≤ space_end t n)
  maybe_front k letter q n told room = by_test (eqb (byte_at t (space_end t q)) letter) refl told
    where
      by_test : (a : Bool) → eqb (byte_at t (space_end t q)) letter ≡ a → cond a (setting_at k t q) (Ok q) ≡ Ok n → (maybe_setting k letter s q ≡ Ok n) × (space_end t q ≤ space_end t n)
      by_test true a told =
          let setting = setting_front k q n told (omega arith) in
          let before = setting.1 in
          let one = run_front is_space q (omega arith) in
          let sign = byte_front (space_end t q) (omega arith) in
          (rw (← one, ← sign, a) setting.0, omega arith)
      by_test false a told =
          let same : q ≡ n = cc in
          let spaces : space_end t q ≡ space_end t n = ap (space_end t) same in
          let one = run_front is_space q (omega arith) in
          let sign = byte_front (space_end t q) (omega arith) in
          (rw (← one, ← sign, a) (ap Ok same), omega arith)

  -- ---- the declaration, and all of it

  declaration_front : (q n : ℕ) → declaration_at t q ≡ Ok n → n ≤ length s → (declaration_at s q ≡ Ok n) × (q ≤ n)
  unfolding declaration_at
  declaration_front q n told room =
      let x = went (setting_at 0 t q) (λ a. on_reach (maybe_setting 1 101 t a) (λ b. on_reach (maybe_setting 2 115 t b) (λ c. expected t (text "?>") (space_end t c)))) n told in
      let y = went (maybe_setting 1 101 t x.mid) (λ b. on_reach (maybe_setting 2 115 t b) (λ c. expected t (text "?>") (space_end t c))) n x.then in
      let z = went (maybe_setting 2 115 t y.mid) (λ c. expected t (text "?>") (space_end t c)) n y.then in
      let ends = match_forward (text "?>") (drop (space_end t z.mid) t) (space_end t z.mid) n z.then in
      let third = maybe_front 2 115 y.mid z.mid z.first (omega arith) in
      let before = third.1 in
      let second = maybe_front 1 101 x.mid y.mid y.first (omega arith) in
      let earlier = second.1 in
      let first = setting_front 0 q x.mid x.first (omega arith) in
      let low = first.1 in (
        declared x.mid y.mid z.mid first.0 second.0 third.0
            ((rw (← (run_front is_space z.mid (omega arith)))) ∙ word_front (text "?>") (space_end t z.mid) n z.then room),
        omega arith,
      )
    where
      declared : (a b c : ℕ) → setting_at 0 s q ≡ Ok a → maybe_setting 1 101 s a ≡ Ok b → maybe_setting 2 115 s b ≡ Ok c → expected s (text "?>") (space_end s c) ≡ Ok n
          → on_reach (setting_at 0 s q) (λ a. on_reach (maybe_setting 1 101 s a) (λ b. on_reach (maybe_setting 2 115 s b) (λ c. expected s (text "?>") (space_end s c)))) ≡ Ok n
      declared a b c one two three four = rw (one, two, three, four)

  abbrev opening : List ℕ → ℕ → Reach
  opening u from = cond (stands u from (text "<?xml")) (declaration_at u (from + 5)) (Ok from)

  opening_front : (from n : ℕ) → opening t from ≡ Ok n → n ≤ length s → (opening s from ≡ Ok n) × (from ≤ n)
  opening_front from n told room = by_test (stands t from (text "<?xml")) refl told
    where
      by_test : (b : Bool) → stands t from (text "<?xml") ≡ b → cond b (declaration_at t (from + 5)) (Ok from) ≡ Ok n → (opening s from ≡ Ok n) × (from ≤ n)
      by_test true b told =
          let declared = declaration_front (from + 5) n told room in
          let low = declared.1 in
          (rw (← (stands_front (text "<?xml") from (omega arith)), b) declared.0, omega arith)
      by_test false b told =
          let same : from ≡ n = cc in
          (rw (none_front (text "<?xml") from (omega arith) b) (ap Ok same), omega arith)

  mark_front : after_mark t ≤ length s → after_mark s ≡ after_mark t
  mark_front room = by_test (stands t 0 mark) refl room
    where
      by_test : (b : Bool) → stands t 0 mark ≡ b → cond b 3 0 ≤ length s → after_mark s ≡ cond b 3 0
      by_test true b room = rw (← (stands_front mark 0 (omega arith)), b)
      by_test false b room = rw (none_front mark 0 (omega arith) b)

  pub prolog_front : (n : ℕ) → prolog t ≡ Ok n → n ≤ length s → prolog s ≡ Ok n
  unfolding prolog
  prolog_front n told room =
      let w = went (opening t (after_mark t)) (λ n. Ok (space_end t n)) n told in
      let ends : space_end t w.mid ≡ n = (let then = w.then in cc) in
      let opened = opening_front (after_mark t) w.mid w.first (omega arith) in
      let low = opened.1 in
      let marked = mark_front (omega arith) in
      ap (λ (k : ℕ). on_reach (opening s k) (λ n. Ok (space_end s n))) marked
      ∙ ap (λ (r : Reach). on_reach r (λ n. Ok (space_end s n))) opened.0
      ∙ ap Ok (sym (run_front is_space w.mid (omega arith)) ∙ ends)
