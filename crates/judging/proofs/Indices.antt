-- What the building of an index comes to. Assumes nothing.
use mathlib.Core.Path.{◌≡◌}
use mathlib.Core.Bool.{Bool, true, false}
use mathlib.Core.List.{List}
use Prim.Native.Nat.{ℕ}
use lib.ListN.{length}
use borrow.Author.Tests.{eq-eqb, ne_eqb}
use Rattle.register.specs.Room.{FormTold}
use Rattle.index.specs.Index.{index_length, index_of}
use Rattle.refusing.specs.declared.Refusal.TheVariants.{Register, IndexLength}
use Rattle.judging.specs.Indexed.{built_left, index_built}
use Rattle.std.specs.Prelude.{Ok, Err}

module _ (register index : List ℕ) (good : Bool) where
  pub unformed_told : FormTold register good → good ≡ false → built_left (Err Register) index ≡ index_built register index
  unfolding index_built
  unformed_told told bad = rw (← told.is, bad)

  module _ (n : ℕ) (told : FormTold register good) (yes_formed : good ≡ true) (long : n ≡ index_length register) where
    pub other_length_told : (length index ≡ n → ⊥) → built_left (Err IndexLength) index ≡ index_built register index
    unfolding index_built
    other_length_told differs = rw (← told.is, yes_formed, ← long, ne_eqb (length index) n differs)

    pub built_told : length index ≡ n → (index' : List ℕ) → index' ≡ index_of register → built_left (Ok tt) index' ≡ index_built register index
    unfolding index_built
    built_told e index' is = rw (← told.is, yes_formed, ← long, eq-eqb (length index) n e, is)
