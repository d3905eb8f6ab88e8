-- The contract of each public function determines what a call of it comes to: the result, and every byte left in what was lent.
-- Here: slots, the register's index, and what is judged or built with one. There is a statement for each function, and `.ci/determined`
-- asks that none is missing. Assumes nothing.
use mathlib.Core.Path.{refl, sym, ◌∙◌}
use mathlib.Core.List.{is_set}
use native.Mathlib.Nat.{ℕ_set}
use seplogic.Ra.Ura.{Ura}
use base.Logic.{SProp}
use prog.Memory.{Memory}
use prog.Routine.{Routine}
use types.Logic.{Logic}
use contract.Monad.{Fun}
use Rattle.promises.specs.Determined.{Determined}
use Rattle.promises.proofs.Told.{results, both, same, number, truth, bytes}
use Rattle.promises.proofs.IndexReadings.{ended_one, sought_one, indexed_outcomes, index_builts, indexed_one, indexed_door_one, built_one, built_door_one}
use Rattle.slots.specs.contracts as slots
use Rattle.index.specs.contracts as index
use Rattle.judging.specs.contracts as judging
use Rattle.tynderaxo.specs.contracts as tynderaxo

module _ {M : Type 1} {𝓤 : Ura M} (𝓛 : Logic 𝓤) (mem : Memory → SProp 𝓤) (run : Routine → Fun 𝓤) where
  -- ---- slots

  pub slots_names : Determined 𝓛 mem run slots.names.ended slots.names.clauses
  slots_names κs a g r r' ws ws' h h' = (truth 𝓤 _ h.told h'.told, refl)

  pub slots_search : Determined 𝓛 mem run slots.search.ended slots.search.clauses
  slots_search κs a g r r' ws ws' h h' = (both 𝓤 (results slots.search.ended κs) ended_one h.told h'.told, refl)

  pub slots_add : Determined 𝓛 mem run slots.add.ended slots.add.clauses
  slots_add κs a g r r' ws ws' h h' = (refl, λ i. (bytes 𝓤 _ h.told h'.told i, ws.1))

  pub slots_build : Determined 𝓛 mem run slots.build.ended slots.build.clauses
  slots_build κs a g r r' ws ws' h h' = (refl, λ i. (tt, (tt, (tt, (bytes 𝓤 _ h.told h'.told i, tt)))))

  pub slots_is_built : Determined 𝓛 mem run slots.is_built.ended slots.is_built.clauses
  slots_is_built κs a g r r' ws ws' h h' = (truth 𝓤 _ h.told h'.told, refl)

  -- ---- index

  pub index_length_for : Determined 𝓛 mem run index.length_for.ended index.length_for.clauses
  index_length_for κs a g r r' ws ws' h h' = (number 𝓤 _ h.told h'.told, refl)

  pub index_seek : Determined 𝓛 mem run index.seek.ended index.seek.clauses
  index_seek κs a g r r' ws ws' h h' = (both 𝓤 (results index.seek.ended κs) sought_one h.told h'.told, refl)

  pub index_enter : Determined 𝓛 mem run index.enter.ended index.enter.clauses
  index_enter κs a g r r' ws ws' h h' = (
    refl,
    λ i. (
      tt,
      (
        both 𝓤 (is_set ℕ_set) (λ t t'. t.recorded ∙ sym t'.recorded) h.told h'.told i,
        (both 𝓤 (is_set ℕ_set) (λ t t'. t.kept ∙ sym t'.kept) h.told h'.told i, (tt, (tt, tt))),
      ),
    ),
  )

  pub index_enter_anew : Determined 𝓛 mem run index.enter_anew.ended index.enter_anew.clauses
  index_enter_anew κs a g r r' ws ws' h h' = (
    both 𝓤 ℕ_set (λ t t'. t.read ∙ sym t'.read) h.told h'.told,
    λ i. (
      tt,
      (
        both 𝓤 (is_set ℕ_set) (λ t t'. t.entered.recorded ∙ sym t'.entered.recorded) h.told h'.told i,
        (both 𝓤 (is_set ℕ_set) (λ t t'. t.entered.kept ∙ sym t'.entered.kept) h.told h'.told i, (tt, tt)),
      ),
    ),
  )

  pub index_is_built : Determined 𝓛 mem run index.is_built.ended index.is_built.clauses
  index_is_built κs a g r r' ws ws' h h' = (truth 𝓤 _ h.told h'.told, refl)

  pub index_build : Determined 𝓛 mem run index.build.ended index.build.clauses
  index_build κs a g r r' ws ws' h h' = (refl, λ i. (tt, (bytes 𝓤 _ h.told h'.told i, tt)))

  -- ---- judging

  pub judging_judge_indexed : Determined 𝓛 mem run judging.judge_indexed.ended judging.judge_indexed.clauses
  judging_judge_indexed κs a g r r' ws ws' h h' = indexed_one ws ws' (same 𝓤 indexed_outcomes _ h.told h'.told)

  pub judging_build_index : Determined 𝓛 mem run judging.build_index.ended judging.build_index.clauses
  judging_build_index κs a g r r' ws ws' h h' = built_one ws ws' (same 𝓤 index_builts _ h.told h'.told)

  pub judging_number_built : Determined 𝓛 mem run judging.number_built.ended judging.number_built.clauses
  judging_number_built κs a g r r' ws ws' h h' = (number 𝓤 _ h.told h'.told, refl)

  -- ---- tynderaxo

  pub tynderaxo_tynderaxo_judge_indexed : Determined 𝓛 mem run tynderaxo.tynderaxo_judge_indexed.ended tynderaxo.tynderaxo_judge_indexed.clauses
  tynderaxo_tynderaxo_judge_indexed κs a g r r' ws ws' h h' = indexed_door_one ws ws' (same 𝓤 indexed_outcomes _ h.told h'.told)

  pub tynderaxo_tynderaxo_build_index : Determined 𝓛 mem run tynderaxo.tynderaxo_build_index.ended tynderaxo.tynderaxo_build_index.clauses
  tynderaxo_tynderaxo_build_index κs a g r r' ws ws' h h' = built_door_one ws ws' (same 𝓤 index_builts _ h.told h'.told)
