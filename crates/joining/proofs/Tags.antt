-- Start tags and end tags in a part of a text are those of the whole, where they end inside the part. Assumes nothing.
use mathlib.Core.Path.{◌≡◌, refl, sym, ap, ap₂, ◌∙◌}
use mathlib.Core.Bool.{Bool, true, false, cond}
use mathlib.Core.List.{List}
use Prim.Native.Nat.{ℕ, ◌+◌, ◌-◌, ◌≤◌, ◌<◌}
use native.Mathlib.Omega.{arith}
use lib.Dec.{eqb, ltb}
use lib.ListN.{length, drop}
use Rattle.wire.specs.Field.{text}
use Rattle.letters.specs.Places.{byte_at, expected, on_reach, Reach}
use Rattle.std.specs.Prelude.{Ok, Err, Result}
use Rattle.letters.proofs.Walks.{went, match_forward}
use Rattle.tags.specs.Names.{is_space, name_start, name_byte, name_end, space_end, name_at}
use Rattle.tags.specs.Attributes.{attributes_at}
use Rattle.tags.specs.Tags.{closed_at, closing, start_at, end_at}
use Rattle.tags.specs.declared.Tag.{Tag}
use Rattle.tags.specs.declared.Tag.TheVariants.{Open, Empty}
use Rattle.tags.proofs.AttributeWalk.{attributes_forward}
use Rattle.tags.proofs.Tags.{start_named}
use Rattle.joining.proofs.Parts.{Part, byte_in, run_in, word_in}
use Rattle.joining.proofs.Values.{name_in}
use Rattle.joining.proofs.Attributes.{attributes_in}

-- a tag that is one, and ends before a limit
abbrev pub Sound : ℕ → Result Tag ℕ → Type 0
Sound limit (Ok (Open end n)) = n ≤ limit
Sound limit (Ok (Empty end n)) = n ≤ limit
Sound limit (Err p) = ⊥

abbrev pub lower_tag : ℕ → Result Tag ℕ → Result Tag ℕ
lower_tag d (Ok (Open end n)) = Ok (Open (end - d) (n - d))
lower_tag d (Ok (Empty end n)) = Ok (Empty (end - d) (n - d))
lower_tag d (Err p) = Err p

-- ---- a start tag that was read

pub record Started (s : List ℕ) (at : ℕ) (tag : Result Tag ℕ) : Type 0 where
  pub end : ℕ
  pub begins : name_start (byte_at s (at + 1)) ≡ true
  pub attributes : attributes_at s (name_end s (at + 1)) ≡ Ok end
  pub closed : closed_at s end ≡ tag

pub started : (s : List ℕ) (at limit : ℕ) → Sound limit (start_at s at) → Started s at (start_at s at)
unfolding start_at
started s at limit sound = by_test (ltb at (length s)) (name_start (byte_at s (at + 1))) refl (attributes_at s (name_end s (at + 1))) refl sound
  where
    by_test : (a b : Bool) → name_start (byte_at s (at + 1)) ≡ b → (r : Reach) → attributes_at s (name_end s (at + 1)) ≡ r
        → Sound limit (cond a (cond b (closing s r) (Err (at + 1))) (Err at)) → Started s at (cond a (cond b (closing s r) (Err (at + 1))) (Err at))
    by_test false b p r q sound = absurd sound
    by_test true false p r q sound = absurd sound
    by_test true true p (Ok end) q sound = record { end = end; begins = p; attributes = q; closed = refl }
    by_test true true p (Err k) q sound = absurd sound

-- it ends behind its attributes
pub closed_behind : (s : List ℕ) (end limit : ℕ) → Sound limit (closed_at s end) → end < limit
closed_behind s end limit sound = by_test (eqb (byte_at s end) 62) (eqb (byte_at s end) 47) (eqb (byte_at s (end + 1)) 62) sound
  where
    by_test : (a b c : Bool) → Sound limit (cond a (Ok (Open end (end + 1))) (cond b (cond c (Ok (Empty end (end + 2))) (Err (end + 1))) (Err end))) → end < limit
    by_test true b c sound = omega arith
    by_test false true true sound = omega arith
    by_test false true false sound = absurd sound
    by_test false false c sound = absurd sound

abbrev pub EndsAt : ℕ → Result Tag ℕ → Type 0
EndsAt end (Ok (Open e n)) = e ≡ end
EndsAt end (Ok (Empty e n)) = e ≡ end
EndsAt end (Err p) = Unit {0}

pub closed_ends : (s : List ℕ) (end : ℕ) → EndsAt end (closed_at s end)
closed_ends s end = by_test (eqb (byte_at s end) 62) (eqb (byte_at s end) 47) (eqb (byte_at s (end + 1)) 62)
  where
    by_test : (a b c : Bool) → EndsAt end (cond a (Ok (Open end (end + 1))) (cond b (cond c (Ok (Empty end (end + 2))) (Err (end + 1))) (Err end)))
    by_test true b c = refl
    by_test false true true = refl
    by_test false true false = tt
    by_test false false c = tt

module _ {s t : List ℕ} {d : ℕ} (p : Part s t d) where
  closed_in_lem : (q i : ℕ) → q ≡ d + i → Sound (d + length s) (closed_at t q) → closed_at s i ≡ lower_tag d (closed_at t q)
  closed_in_lem q i e sound =
      let before = closed_behind t q (d + length s) sound in
      rw (← (byte_in p q i e (omega arith))) (by_test (eqb (byte_at t q) 62) (eqb (byte_at t q) 47) (eqb (byte_at t (q + 1)) 62) refl sound)
    where
      by_test : (a b c : Bool) → eqb (byte_at t (q + 1)) 62 ≡ c
          → Sound (d + length s) (cond a (Ok (Open q (q + 1))) (cond b (cond c (Ok (Empty q (q + 2))) (Err (q + 1))) (Err q)))
          → cond a (Ok (Open i (i + 1))) (cond b (cond (eqb (byte_at s (i + 1)) 62) (Ok (Empty i (i + 2))) (Err (i + 1))) (Err i))
          ≡ lower_tag d (cond a (Ok (Open q (q + 1))) (cond b (cond c (Ok (Empty q (q + 2))) (Err (q + 1))) (Err q)))
      by_test true b c x sound = ap Ok (ap₂ Open (omega arith) (omega arith))
      by_test false true true x sound =
          let next = byte_in p (q + 1) (i + 1) (omega arith) (omega arith) in
          rw (← next, x) (ap Ok (ap₂ Empty (omega arith) (omega arith)))
      by_test false true false x sound = absurd sound
      by_test false false c x sound = absurd sound

  pub start_in : (q i : ℕ) → q ≡ d + i → Sound (d + length s) (start_at t q) → start_at s i ≡ lower_tag d (start_at t q)
  start_in q i e sound =
      let was = started t q (d + length s) sound in
      let limited : Sound (d + length s) (closed_at t was.end) = rw was.closed sound in
      let before = closed_behind t was.end (d + length s) limited in
      let on = attributes_forward t (name_end t (q + 1)) was.end was.attributes in
      let first = byte_in p (q + 1) (i + 1) (omega arith) (omega arith) in
      let named = run_in p name_byte (q + 1) (i + 1) (omega arith) (omega arith) (omega arith) in
      let attributes = attributes_in p (name_end t (q + 1)) (name_end s (i + 1)) named was.end was.attributes before in
      sym (start_named s i (ap name_start (sym first) ∙ was.begins) (name_end s (i + 1)) refl (Ok (was.end - d)) attributes)
      ∙ closed_in_lem was.end (was.end - d) (omega arith) limited
      ∙ ap (lower_tag d) was.closed

  pub end_in_lem : (start start' q i n : ℕ) → start ≡ d + start' → q ≡ d + i → name_end t (start + 1) ≤ d + length s → end_at t start q ≡ Ok n → n ≤ d + length s → end_at s start' i ≡ Ok (n - d)
  unfolding end_at
  end_in_lem start start' q i n w e named told room =
      let a = went (expected t (text "</") q) (λ n. on_reach (expected t (name_at t (start + 1)) n) (λ m. expected t (text ">") (space_end t m))) n told in
      let b = went (expected t (name_at t (start + 1)) a.mid) (λ m. expected t (text ">") (space_end t m)) n a.then in
      let opened = match_forward (text "</") (drop q t) q a.mid a.first in
      let again = match_forward (name_at t (start + 1)) (drop a.mid t) a.mid b.mid b.first in
      let closed = match_forward (text ">") (drop (space_end t b.mid) t) (space_end t b.mid) n b.then in
      let name = name_in p (start + 1) (start' + 1) (omega arith) (omega arith) named in
      let size : length (name_at t (start + 1)) ≡ length (name_at s (start' + 1)) = ap length name in
      let one = word_in p (text "</") q i a.mid e (omega arith) a.first (omega arith) in
      let two = word_in p (name_at t (start + 1)) a.mid (i + 2) b.mid (omega arith) (omega arith) b.first (omega arith) in
      let two' : expected s (name_at s (start' + 1)) (i + 2) ≡ Ok (b.mid - d) = rw (← name) (two ∙ ap Ok (omega arith)) in
      let run = run_in p is_space b.mid (b.mid - d) (omega arith) (omega arith) (omega arith) in
      let three = word_in p (text ">") (space_end t b.mid) (space_end s (b.mid - d)) n run (omega arith) b.then room in
      rw (one, two', three) (ap Ok (omega arith))
