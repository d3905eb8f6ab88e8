-- The laws that the proofs of the tests share. Assumes nothing.
use mathlib.Core.Path.{◌≡◌, refl, sym, ap, ◌∙◌}
use mathlib.Core.Bool.{Bool, true, false, cond, ◌&&◌, ◌||◌, or-false}
use mathlib.Core.List.{List, [], ◌∷◌, ◌++◌}
use Prim.Native.Nat.{ℕ, ◌+◌, ◌*◌, ◌≤◌, ◌<◌}
use native.Mathlib.Numerals.{add-one}
use native.Mathlib.Omega.{arith}
use lib.ListN.{length, get_or, drop, drop_of_length-le}
use lib.Seq.{drop-cons}
use Rattle.wire.specs.Field.{part, same}
use Rattle.wire.specs.Places.{every_from}
use Rattle.wire.proofs.Texts.{same_equal}
use Rattle.wire.proofs.Scans.{every_holds}
use Rattle.wording.specs.Wording.{upper, digit, upper_or_digit, one_of, reasons}

-- ---- BICs

pub letter : (digits : Bool) (c : ℕ) → (upper c || digits && digit c) ≡ cond digits upper_or_digit upper c
letter true c = refl
letter false c = or-false (upper c)

-- ---- one of several texts

-- a loop at text i of ts, with what the comparison there said
module _ (s : List ℕ) (ts : List (List ℕ)) (i : ℕ) where
  one_of_next : i < length ts → one_of s (drop i ts) ≡ (same s (get_or ts i []) || one_of s (drop (i + 1) ts))
  unfolding one_of
  one_of_next h = rw (add-one i, drop-cons ts i [] h)

  pub one_of_ends : length ts ≤ i → false ≡ one_of s (drop i ts)
  unfolding one_of
  one_of_ends h = sym (rw (drop_of_length-le ts h))

  module _ (h : i < length ts) (told : Bool) (tested : told ≡ same s (get_or ts i [])) where
    pub one_of_here : told ≡ true → true ≡ one_of s (drop i ts)
    one_of_here e = sym (one_of_next h ∙ (rw (← tested, e)))

    pub one_of_more : told ≡ false → one_of s (drop (i + 1) ts) ≡ one_of s (drop i ts)
    one_of_more e = sym (one_of_next h ∙ (rw (← tested, e)))

-- the reasons one after another, four characters each
abbrev pub joined : List (List ℕ) → List ℕ
joined [] = []
joined (t ∷ ts) = t ++ joined ts

reason_is : ℕ → Bool
reason_is i = same (part (joined reasons) (4 * i) 4) (get_or reasons i [])

every_reason : every_from reason_is (length reasons) 0 ≡ true
unfolding every_from reason_is same
every_reason = refl

pub reason_at : (s code : List ℕ) (told : Bool) (i : ℕ) → i < length reasons → code ≡ part (joined reasons) (4 * i) 4 → told ≡ same s code
    → told ≡ same s (get_or reasons i [])
unfolding reason_is
reason_at s code told i h cut tested =
    let here : reason_is i ≡ true = every_holds reason_is (length reasons) 0 i every_reason (omega arith) (omega arith) in
    tested ∙ ap (same s) (cut ∙ same_equal (part (joined reasons) (4 * i) 4) (get_or reasons i []) here)
