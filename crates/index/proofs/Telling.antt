-- What `seek`, `enter`, `build` and `is_built` tell, from what the functions that they call tell. Assumes nothing.
use mathlib.Core.Path.{◌≡◌, sym, ap, ◌∙◌}
use mathlib.Core.Bool.{Bool, true, false, false≢true}
use mathlib.Core.List.{List}
use Prim.Native.Nat.{ℕ, ◌<◌}
use native.Mathlib.Omega.{arith}
use lib.ListN.{length}
use Rattle.wire.specs.Field.{same}
use Rattle.slots.specs.Slots.{End, names}
use Rattle.slots.specs.Stored.{searched_in, added, built_in}
use Rattle.slots.specs.Asked.{end_of}
use Rattle.slots.specs.declared.Layout.{Layout}
use Rattle.slots.specs.declared.Ended.{Ended}
use Rattle.register.specs.Register.{used, room, in_use, add}
use Rattle.index.specs.Index.{entry_layout, searched_by, index_of, end_in}
use Rattle.index.specs.Ready.{index_by, Ready, SoughtTold, EnterReady, Measured}
use Rattle.index.specs.declared.Sought.{Sought}
use Rattle.index.proofs.Laws.{finds, index_add}

module _ (r index key : List ℕ) where
  -- ---- a search

  pub sought_by : (t : Bool) (more : ℕ) (layout : Layout) (bound : ℕ) (ended : Ended) (there : Bool) → Ready t r index more → t ≡ true
      → layout ≡ entry_layout → bound ≡ in_use r → end_of ended ≡ searched_in layout r bound key index → there ≡ names bound ended.name
      → SoughtTold t r key (record { there = there; ended = ended })
  sought_by false more layout bound ended there q e el eb ee et = absurd (false≢true e)
  sought_by true more layout bound ended there q e el eb ee et =
      let is : end_of ended ≡ end_in r key =
      ee
      ∙ ap (λ (l : Layout). searched_in l r bound key index) el
      ∙ ap (λ (n : ℕ). searched_in entry_layout r n key index) eb
      ∙ ap (λ (x : List ℕ). searched_by r x key) q.kept in
      record {
        there = et ∙ ap (λ (n : ℕ). names n ended.name) eb ∙ ap (λ (x : End). names (in_use r) x.name) is ∙ finds r q.spare.formed key;
        ended = is;
      }

  -- ---- an addition

  pub entered_by_lem : (t : Bool) (sought : Sought) (k : ℕ) (index' : List ℕ) → EnterReady t r index key sought → t ≡ true → k ≡ used r
      → index' ≡ added (end_of sought.ended) k index → index' ≡ index_by t index (add r key)
  entered_by_lem false sought k index' q e ek ei = absurd (false≢true e)
  entered_by_lem true sought k index' q e ek ei =
      let enough = q.ready.spare.left in
      let left : used r < room r = omega arith in
      ei
      ∙ ap (λ (n : ℕ). added (end_of sought.ended) n index) ek
      ∙ ap (λ (x : List ℕ). added (end_of sought.ended) (used r) x) q.ready.kept
      ∙ ap (λ (x : End). added x (used r) (index_of r)) q.told.ended
      ∙ index_add r key q.ready.spare.formed left q.wide

  pub entered_plain : (t : Bool) (index' : List ℕ) → t ≡ false → index' ≡ index → index' ≡ index_by t index (add r key)
  entered_plain true index' e ei = absurd (false≢true (sym e))
  entered_plain false index' e ei = ei

-- ---- the whole index

pub built_told : (r index : List ℕ) (layout : Layout) (bound : ℕ) → Measured r index → layout ≡ entry_layout → bound ≡ in_use r
    → built_in layout r (length index) bound ≡ index_of r
unfolding index_of
built_told r index layout bound q el eb = rw (el, eb, q.long)

pub told_built : (r index : List ℕ) (layout : Layout) (bound : ℕ) (told : Bool) → Measured r index → layout ≡ entry_layout → bound ≡ in_use r
    → told ≡ same index (built_in layout r (length index) bound) → told ≡ same index (index_of r)
told_built r index layout bound told q el eb et = et ∙ ap (same index) (built_told r index layout bound q el eb)
