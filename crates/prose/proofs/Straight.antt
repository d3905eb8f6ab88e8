-- The law of a straight text: where a tag follows straight bytes, they are what the text says. Assumes nothing.
use mathlib.Core.Path.{◌≡◌, ap, ◌∙◌}
use mathlib.Core.Bool.{true, false, not}
use mathlib.Core.List.{List, ◌++◌}
use Prim.Native.Nat.{ℕ, suc, ◌+◌, ◌-◌, ◌≤◌, ◌<◌}
use native.Mathlib.Numerals.{add-one}
use native.Mathlib.Omega.{arith}
use lib.Dec.{eqb}
use lib.ListN.{length}
use lib.Seq.{drop-cons}
use borrow.Author.Tests.{not-true}
use Rattle.wire.specs.Field.{part}
use Rattle.letters.specs.Places.{byte_at, run_end, between}
use Rattle.letters.proofs.Characters.{front_true, back_true, width_first}
use Rattle.prose.specs.Plain.{plain, straight}
use Rattle.prose.specs.Prose.{piece_at, said_at}
use Rattle.prose.specs.declared.Piece.TheVariants.{Itself, Silent}
use Rattle.prose.proofs.Turns.{no_start, alone, unsigned}
use Rattle.prose.proofs.Pieces.{said_from, said_piece}
use Rattle.prose.proofs.Runs.{run_back}

module _ (s : List ℕ) (i : ℕ) where
  piece_straight : straight (byte_at s i) ≡ true → piece_at false s i ≡ Itself 1
  unfolding piece_at
  piece_straight e =
      let simple = front_true (plain (byte_at s i)) (not (eqb (byte_at s i) 13)) e in
      let returned = not-true (eqb (byte_at s i) 13) (back_true (plain (byte_at s i)) (not (eqb (byte_at s i) 13)) e) in
      rw ((unsigned s i simple).0, (unsigned s i simple).1, returned, ← (width_first s i (alone s i simple)))

  piece_tag : byte_at s i ≡ 60 → (byte_at s (i + 1) ≡ 33 → ⊥) → piece_at false s i ≡ Silent
  unfolding piece_at
  piece_tag sign other = rw (no_start s i other, sign)

  -- a byte more in front
  between_more : (e : ℕ) → i < length s → i + 1 ≤ e → part s i 1 ++ between s (i + 1) e ≡ between s i e
  between_more e there h =
      let more : e - i ≡ suc (e - (i + 1)) = omega arith in
      rw (more, drop-cons s i 0 there, add-one i)

module _ (s : List ℕ) (at e : ℕ) (straightly : e ≡ run_end straight s at) (sign : byte_at s e ≡ 60) (other : byte_at s (e + 1) ≡ 33 → ⊥) where
  -- what is said from a place of the run on
  abbrev Left : ℕ → Type 0
  Left i = (i ≤ e) × (said_from s false i ≡ between s i e)

  last : Left e
  last =
      let none : e - e ≡ 0 = omega arith in
      (omega arith, said_piece s false e Silent (piece_tag s e sign other) ∙ (rw none))

  back : (i : ℕ) → i < length s → straight (byte_at s i) ≡ true → Left (i + 1) → Left i
  back i there passes rest = (
    omega (arith, rest.0),
    said_piece s false i (Itself 1) (piece_straight s i passes) ∙ ap (λ (l : List ℕ). part s i 1 ++ l) rest.1 ∙ between_more s i e there rest.0,
  )

  pub straight_said : said_at s at ≡ between s at e
  unfolding said_at
  straight_said = (run_back straight s Left back at (rw (← straightly) last)).1
