-- Characters, references and walks in a part of a text: what ends inside the part is there what it is in the whole. Assumes nothing.
use mathlib.Core.Path.{◌≡◌, refl, sym, ap₂, ◌∙◌}
use mathlib.Core.Bool.{Bool, true, false, cond}
use mathlib.Core.List.{List}
use Prim.Native.Nat.{ℕ, zero, suc, ◌+◌, ◌-◌, ◌≤◌, ◌<◌}
use native.Mathlib.Omega.{arith}
use lib.Dec.{eqb, ltb}
use lib.ListN.{length}
use borrow.Author.Tests.{lt-ltb, ltb-true}
use Rattle.wire.specs.Field.{text}
use Rattle.letters.specs.Places.{byte_at, run_end, between, on_turn, walk_by}
use Rattle.letters.specs.Characters.{is_character, single, double, triple, quadruple, width_of, width_at}
use Rattle.letters.specs.References.{digit_in, numeral, numbered, numbered_at, stands, reference_at, refers}
use Rattle.letters.proofs.References.{refers_same, refers_next}
use Rattle.std.specs.Prelude.{Ok, Option, None}
use Rattle.letters.specs.declared.Turn.{Turn}
use Rattle.letters.specs.declared.Turn.TheVariants.{On, Ends, Breaks}
use Rattle.letters.specs.declared.Reference.{Reference}
use Rattle.joining.proofs.Parts.{Part, byte_in, run_in, between_in, stands_in, stands_not}

-- ---- characters

-- a width is told by so many bytes, and no byte behind them matters
width_kept : (a b c d b' c' d' w : ℕ) → width_of a b c d ≡ w → 0 < w → (2 ≤ w → b' ≡ b) → (3 ≤ w → c' ≡ c) → (4 ≤ w → d' ≡ d) → width_of a b' c' d' ≡ w
unfolding width_of
width_kept a b c d b' c' d' w e some two three four = by_tests_lem (single a) refl (double a b) refl (triple a b c) refl (quadruple a b c d) refl e
  where
    by_tests_lem : (t : Bool) → single a ≡ t → (u : Bool) → double a b ≡ u → (v : Bool) → triple a b c ≡ v → (x : Bool) → quadruple a b c d ≡ x
        → cond t 1 (cond u 2 (cond v 3 (cond x 4 0))) ≡ w
        → cond (single a) 1 (cond (double a b') 2 (cond (triple a b' c') 3 (cond (quadruple a b' c' d') 4 0))) ≡ w
    by_tests_lem true p u q v r x o told = (rw p) ∙ told
    by_tests_lem false p true q v r x o told = (rw (p, two (omega arith), q)) ∙ told
    by_tests_lem false p false q true r x o told = (rw (p, two (omega arith), three (omega arith), q, r)) ∙ told
    by_tests_lem false p false q false r true o told = (rw (p, two (omega arith), three (omega arith), four (omega arith), q, r, o)) ∙ told
    by_tests_lem false p false q false r false o told = absurd (omega arith)

module _ {s t : List ℕ} {d : ℕ} (p : Part s t d) where
  pub width_in : (q i w : ℕ) → q ≡ d + i → width_at t q ≡ w → 0 < w → i + w ≤ length s → width_at s i ≡ w
  unfolding width_at
  width_in q i w e told some room =
      let first = byte_in p q i e (omega arith) in
      width_kept (byte_at s i) (byte_at t (q + 1)) (byte_at t (q + 2)) (byte_at t (q + 3)) (byte_at s (i + 1)) (byte_at s (i + 2)) (byte_at s (i + 3)) w
      ((rw (← first)) ∙ told) some
      (λ h. sym (byte_in p (q + 1) (i + 1) (omega arith) (omega arith)))
      (λ h. sym (byte_in p (q + 2) (i + 2) (omega arith) (omega arith)))
      (λ h. sym (byte_in p (q + 3) (i + 3) (omega arith) (omega arith)))

  -- ---- references

  numbered_in : (base q i c n : ℕ) → q ≡ d + i → i ≤ length s → numbered_at base t q ≡ refers c n → n ≤ d + length s → numbered_at base s i ≡ refers c (n - d)
  unfolding numbered_at
  numbered_in base q i c n e h told room =
      by_tests_lem (run_end (digit_in base) t q) refl (ltb q (run_end (digit_in base) t q)) refl (eqb (byte_at t (run_end (digit_in base) t q)) 59)
      (is_character (numeral base (between t q (run_end (digit_in base) t q)))) refl refl told
    where
      by_tests_lem : (to : ℕ) → run_end (digit_in base) t q ≡ to → (x : Bool) → ltb q to ≡ x → (y z : Bool) → eqb (byte_at t to) 59 ≡ y → is_character (numeral base (between t q to)) ≡ z
          → cond x (cond y (cond z (refers (numeral base (between t q to)) (to + 1)) None) None) None ≡ refers c n
          → numbered base s i (run_end (digit_in base) s i) ≡ refers c (n - d)
      by_tests_lem to is true low true true semicolon some told =
          let ends : to + 1 ≡ n = refers_next told in
          let same : numeral base (between t q to) ≡ c = refers_same told in
          let run : to ≡ d + run_end (digit_in base) s i = sym is ∙ run_in p (digit_in base) q i e h (omega arith) in
          let before = ltb-true q to low in
          let digits : between t q to ≡ between s i (run_end (digit_in base) s i) = between_in p q i to (run_end (digit_in base) s i) e run (omega arith) (omega arith) in
          let sign : byte_at t to ≡ byte_at s (run_end (digit_in base) s i) = byte_in p to (run_end (digit_in base) s i) run (omega arith) in
          let place : run_end (digit_in base) s i + 1 ≡ n - d = omega arith in
          (rw (lt-ltb i (run_end (digit_in base) s i) (omega arith), ← sign, semicolon, ← digits, some, same, place))
      by_tests_lem to is true low true false semicolon some told = absurd (let z : ◌≡◌ {A = ℕ} 0 1 = cc in omega arith)
      by_tests_lem to is true low false z semicolon some told = absurd (let z : ◌≡◌ {A = ℕ} 0 1 = cc in omega arith)
      by_tests_lem to is false low y z semicolon some told = absurd (let z : ◌≡◌ {A = ℕ} 0 1 = cc in omega arith)

  numbered_after : (base q c n : ℕ) → numbered_at base t q ≡ refers c n → q < n
  unfolding numbered_at
  numbered_after base q c n told =
      by_tests_lem (ltb q (run_end (digit_in base) t q)) (eqb (byte_at t (run_end (digit_in base) t q)) 59) (is_character (numeral base (between t q (run_end (digit_in base) t q)))) told
    where
      by_tests_lem : (x y z : Bool)
          → cond x (cond y (cond z (refers (numeral base (between t q (run_end (digit_in base) t q))) (run_end (digit_in base) t q + 1)) None) None) None ≡ refers c n → q < n
      by_tests_lem true true true told = let ends : run_end (digit_in base) t q + 1 ≡ n = refers_next told in omega arith
      by_tests_lem true true false told = absurd (let z : ◌≡◌ {A = ℕ} 0 1 = cc in omega arith)
      by_tests_lem true false z told = absurd (let z : ◌≡◌ {A = ℕ} 0 1 = cc in omega arith)
      by_tests_lem false y z told = absurd (let z : ◌≡◌ {A = ℕ} 0 1 = cc in omega arith)

  module _ (q i c n : ℕ) (e : q ≡ d + i) (h : i ≤ length s) (room : n ≤ d + length s) where
    digits_inside : (base w : ℕ) → numbered_at base t (q + w) ≡ refers c n → i + w ≤ length s
    digits_inside base w told = omega (arith, numbered_after base (q + w) c n told)

    digits_in : (base w : ℕ) → numbered_at base t (q + w) ≡ refers c n → numbered_at base s (i + w) ≡ refers c (n - d)
    digits_in base w told = numbered_in base (q + w) (i + w) c n (omega arith) (digits_inside base w told) told room

    step : (word : List ℕ) (x x' y y' : Option Reference) → 0 < length word → (x ≡ refers c n → i + length word ≤ length s) → (x ≡ refers c n → x' ≡ refers c (n - d)) → (y ≡ refers c n → y' ≡ refers c (n - d))
        → cond (stands t q word) x y ≡ refers c n → cond (stands s i word) x' y' ≡ refers c (n - d)
    step word x x' y y' some inside f g told = by_test (stands t q word) refl told
      where
        by_test : (b : Bool) → stands t q word ≡ b → cond b x y ≡ refers c n → cond (stands s i word) x' y' ≡ refers c (n - d)
        by_test true b told = (rw (← (stands_in p word q i e (inside told)), b)) ∙ f told
        by_test false b told = (rw (stands_not p word q i e some b)) ∙ g told

    named_in : (k w : ℕ) → refers k (q + w) ≡ refers c n → refers k (i + w) ≡ refers c (n - d)
    named_in k w told =
        let same : k ≡ c = refers_same told in
        let ends : q + w ≡ n = refers_next told in
        ap₂ refers same (omega arith)

    named_inside : (k w : ℕ) → refers k (q + w) ≡ refers c n → i + w ≤ length s
    named_inside k w told = let ends : q + w ≡ n = refers_next told in omega arith

    pub reference_in : reference_at t q ≡ refers c n → reference_at s i ≡ refers c (n - d)
    unfolding reference_at
    reference_in =
        step (text "&lt;") _ _ _ _ (omega arith) (named_inside 60 4) (named_in 60 4)
        (step (text "&gt;") _ _ _ _ (omega arith) (named_inside 62 4) (named_in 62 4)
        (step (text "&amp;") _ _ _ _ (omega arith) (named_inside 38 5) (named_in 38 5)
        (step (text "&apos;") _ _ _ _ (omega arith) (named_inside 39 6) (named_in 39 6)
        (step (text "&quot;") _ _ _ _ (omega arith) (named_inside 34 6) (named_in 34 6)
        (step (text "&#x") _ _ _ _ (omega arith) (digits_inside 16 3) (digits_in 16 3)
        (step (text "&#") _ _ _ _ (omega arith) (digits_inside 10 2) (digits_in 10 2)
        (λ none. absurd (let z : ◌≡◌ {A = ℕ} 0 1 = cc in omega arith))))))))

-- ---- walks

-- a turn that does not break, and leads to a place before a limit
abbrev pub Inside : ℕ → Turn → Type 0
Inside limit (On n) = n < limit
Inside limit (Ends n) = n < limit
Inside limit (Breaks p) = ⊥

abbrev pub lower_turn : ℕ → Turn → Turn
lower_turn d (On n) = On (n - d)
lower_turn d (Ends n) = Ends (n - d)
lower_turn d (Breaks p) = Breaks p

-- turns of the whole are those of the part, as long as something holds that each of them keeps
pub record Alike (whole turn : ℕ → Turn) (d long : ℕ) (Kept : ℕ → Type 0) : Type 0 where
  pub forward : (q n : ℕ) → whole q ≡ On n → q < n
  pub ending : (q n : ℕ) → whole q ≡ Ends n → q ≤ n
  pub keeps : (q n : ℕ) → Kept q → whole q ≡ On n → Kept n
  pub same : (q i : ℕ) → q ≡ d + i → i < long → Kept q → Inside (d + long) (whole q) → turn i ≡ lower_turn d (whole q)

module _ (whole turn : ℕ → Turn) (d long : ℕ) (Kept : ℕ → Type 0) (alike : Alike whole turn d long Kept) where
  walk_on : (f q n : ℕ) → walk_by whole f q ≡ Ok n → q ≤ n
  unfolding walk_by
  walk_on zero q n e = absurd (let z : ◌≡◌ {A = ℕ} 0 1 = cc in omega arith)
  walk_on (suc f) q n e = by_turn (walk_on f) (whole q) refl e
    where
      by_turn : ((q n : ℕ) → walk_by whole f q ≡ Ok n → q ≤ n) → (r : Turn) → whole q ≡ r → on_turn r (λ next. walk_by whole f next) ≡ Ok n → q ≤ n
      by_turn rest (On next) e told = omega (arith, alike.forward q next e, rest next n told)
      by_turn rest (Ends m) e told = let same : m ≡ n = cc in omega (arith, alike.ending q m e)
      by_turn rest (Breaks p) e told = absurd (let z : ◌≡◌ {A = ℕ} 0 1 = cc in omega arith)

  -- what walks on to a place inside does so in the part, by any bound that passes what is left of it
  pub walk_in : (f g q i n : ℕ) → q ≡ d + i → Kept q → walk_by whole f q ≡ Ok n → n < d + long → long < i + g → walk_by turn g i ≡ Ok (n - d)
  unfolding walk_by
  walk_in zero g q i n e k told room bound = absurd (let z : ◌≡◌ {A = ℕ} 0 1 = cc in omega arith)
  walk_in (suc f) zero q i n e k told room bound = absurd (omega (arith, walk_on (suc f) q n told))
  walk_in (suc f) (suc g) q i n e k told room bound = by_turn (walk_in f g) (whole q) refl told
    where
      by_turn : ((q i n : ℕ) → q ≡ d + i → Kept q → walk_by whole f q ≡ Ok n → n < d + long → long < i + g → walk_by turn g i ≡ Ok (n - d))
          → (r : Turn) → whole q ≡ r → on_turn r (λ next. walk_by whole f next) ≡ Ok n → on_turn (turn i) (λ next. walk_by turn g next) ≡ Ok (n - d)
      by_turn rest (On next) is told =
          let ahead = alike.forward q next is in
          let later = walk_on f next n told in
          let same = alike.same q i e (omega arith) k (rw is (omega arith)) in
          (rw (same, is)) ∙ rest next (next - d) n (omega arith) (alike.keeps q next k is) told room (omega arith)
      by_turn rest (Ends m) is told =
          let ends : m ≡ n = cc in
          let later = alike.ending q m is in
          let same = alike.same q i e (omega arith) k (rw is (omega arith)) in
          (rw (same, is, ends))
      by_turn rest (Breaks b) is told = absurd (let z : ◌≡◌ {A = ℕ} 0 1 = cc in omega arith)
