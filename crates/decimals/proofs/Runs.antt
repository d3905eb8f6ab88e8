-- The laws of printing into a lent buffer: one text after another. A place is never past the end, so that nothing here asks for room.
-- Assumes nothing.
use mathlib.Core.Path.{◌≡◌, refl, sym, ap, ◌∙◌}
use mathlib.Core.Logic.{⊎_elim}
use mathlib.Core.List.{List, [], ◌∷◌, ◌++◌}
use Prim.Native.Nat.{ℕ, ◌+◌, ◌≤◌, ◌<◌, min}
use native.Mathlib.Nat.{add-zero}
use native.Mathlib.Omega.{arith}
use lib.ListN.{length, length-append}
use lib.Seq.{sets, length-sets}
use Rattle.wire.proofs.Stores.{sets_append, sets_out}
use Rattle.wire.proofs.Sides.{le_or_lt}
use Rattle.decimals.specs.Printed.{Printed}

-- what starts at the clipped place may as well start at the place
clipped : (d : List ℕ) (at : ℕ) (xs : List ℕ) → sets d (min at (length d)) xs ≡ sets d at xs
clipped d at xs = ⊎_elim
    (λ (h : at ≤ length d). let same : min at (length d) ≡ at = omega arith in rw same)
    (λ (h : length d < at).
    let end : min at (length d) ≡ length d = omega arith in
    rw end (sets_out d (length d) xs (omega arith) ∙ sym (sets_out d at xs (omega arith))))
    (le_or_lt at (length d))

pub printed_length : {before after : List ℕ} {at next : ℕ} {text : List ℕ} → Printed before after at next text → length after ≡ length before
printed_length {before} {after} {at} {next} {text} p = ap length p.bytes ∙ length-sets before at text

-- one text, then another from the next place on
pub then : {before middle after : List ℕ} {at next end : ℕ} {xs ys : List ℕ}
    → Printed before middle at next xs → Printed middle after next end ys → Printed before after at end (xs ++ ys)
then {before} {middle} {after} {at} {next} {end} {xs} {ys} p q =
    record {
      bytes =
          q.bytes
          ∙ ap (λ (k : ℕ). sets middle k ys) p.place
          ∙ ap (λ (m : List ℕ). sets m (min (at + length xs) (length before)) ys) p.bytes
          ∙ ap (λ (n : ℕ). sets (sets before at xs) (min (at + length xs) n) ys) (sym (length-sets before at xs))
          ∙ clipped (sets before at xs) (at + length xs) ys
          ∙ sym (sets_append before at xs ys);
      place =
          let same = printed_length p in
          let first = p.place in
          let second = q.place in
          rw (length-append xs ys) (omega arith);
    }

-- nothing, at a place that is not past the end
pub nothing_printed : (d : List ℕ) (at next : ℕ) → next ≡ min at (length d) → Printed d d at next []
nothing_printed d at next e = record { bytes = refl; place = e ∙ ap (λ (k : ℕ). min k (length d)) (sym (add-zero at)) }

pub reading : {before after : List ℕ} {at next : ℕ} {xs ys : List ℕ} → xs ≡ ys → Printed before after at next xs → Printed before after at next ys
reading {before} {after} {at} {next} e p = rw e at p

-- a byte that has no room
pub byte_lost : (d : List ℕ) (at b : ℕ) → length d ≤ at → Printed d d at (length d) (b ∷ [])
byte_lost d at b h = record { bytes = sym (sets_out d at (b ∷ []) h); place = omega arith }
