-- What is promised of a judge with an index, proved of the outcome that it is proved to compute: it follows from what holds of the plain one, since a
-- call is judged by an index only where that is the register's own. Assumes nothing.
use mathlib.Core.Path.{◌≡◌, refl, sym, ap, ap₂, subst, ◌∙◌}
use mathlib.Core.Bool.{Bool, true, false, cond, false≢true}
use mathlib.Core.List.{List, [], ◌∷◌, ◌++◌}
use Prim.Native.Nat.{ℕ, ◌+◌}
use native.Mathlib.Decide.{ℕ_discrete}
use lib.Dec.{eqb}
use lib.ListN.{length}
use borrow.Author.Tests.{eq-eqb, ne_eqb}
use Rattle.wire.specs.Field.{Bytes, same}
use Rattle.wire.proofs.Texts.{same_equal, same_itself}
use Rattle.sheet.specs.Sheet.{bulks_of, bulk_count, message_count, count_messages}
use Rattle.register.specs.Register.{well_formed}
use Rattle.index.specs.Index.{index_of, index_length}
use Rattle.index.proofs.Ways.{AllFormed}
use Rattle.index.proofs.Laws.{reads_most}
use Rattle.rules.specs.declared.Terms.{Terms}
use Rattle.refusing.specs.Refusals.{Call, refusal_number, length_wrong, holds_given, refusal, indexed_refusal}
use Rattle.refusing.specs.declared.Refusal.TheVariants.{Register, IndexLength, IndexContents}
use Rattle.refusing.proofs.Clear.{clear_of, never_first, indexed_clear, index_passes, indexed_as_plain}
use Rattle.messages.specs.Messages.{State}
use Rattle.judging.specs.Outcome.{Outcome, turned_away, outcome}
use Rattle.judging.specs.Indexed.{IndexedOutcome, IndexBuilt, searches_of, indexed_judged, indexed_away, indexed_outcome, index_built}
use Rattle.judging.proofs.Answers.{outcome_judged, outcome_refused}
use Rattle.judging.proofs.Entries.{searches_formed}
use Rattle.judging.proofs.Widths.{bulk_number, message_number}
use Rattle.promises.specs.Reading.{accepted, recorded}
use Rattle.promises.specs.Demands.{LinesTell, Leaves}
use Rattle.promises.specs.Cut.{first_call, second_call}
use Rattle.promises.specs.Runs.{File, Ran, call_on, state_after, run, RunHolds}
use Rattle.promises.specs.Indexed.{IndexedMeets, TellsAsPlain, IndexedCutsAnywhere, indexed_run, IndexedRunsAsPromised, BuildsAsWritten, BuildsForTheJudge, AllIndexed}
use Rattle.promises.proofs.Cutting.{cut_anywhere}
use Rattle.promises.proofs.Leaving.{leaves_the_rest}
use Rattle.promises.proofs.Running.{runs_as_promised}
use Rattle.promises.proofs.Telling.{every_line_tells}

-- ---- what a call comes to by whether it is refused

module _ (call : Call) (index : List ℕ) where
  pub indexed_judged_lem : indexed_refusal call index ≡ 0 → indexed_outcome call index ≡ indexed_judged call
  unfolding indexed_outcome
  indexed_judged_lem e = rw e

  pub indexed_refused : (indexed_refusal call index ≡ 0 → ⊥) → indexed_outcome call index ≡ indexed_away call index (indexed_refusal call index)
  unfolding indexed_outcome
  indexed_refused e = rw (ne_eqb (indexed_refusal call index) 0 e)

  -- judged, it is what the plain judge comes to, and the index is that of the register left
  judged_plain : indexed_refusal call index ≡ 0 → (indexed_outcome call index).outcome ≡ outcome call
  judged_plain e =
      ap (λ (o : IndexedOutcome). o.outcome) (indexed_judged_lem e) ∙ sym (outcome_judged call (indexed_clear call index e).0)

  judged_index : indexed_refusal call index ≡ 0 → (indexed_outcome call index).index ≡ index_of (indexed_outcome call index).outcome.register
  judged_index e = rw (indexed_judged_lem e)

  -- by an index that is the register's own, that holds of a refusal too
  record AsOwn : Type 0 where
    is : (indexed_outcome call index).outcome ≡ outcome call
    kept : (indexed_outcome call index).index ≡ index_of (outcome call).register

  as_own : index ≡ index_of call.register → AsOwn
  as_own own = by_answer (ℕ_discrete (indexed_refusal call index) 0)
    where
      number : indexed_refusal call index ≡ refusal call
      number = index_passes call index own

      by_answer : Dec (indexed_refusal call index ≡ 0) → AsOwn
      by_answer (yes e) = record { is = judged_plain e; kept = judged_index e ∙ ap (λ (o : Outcome). index_of o.register) (judged_plain e) }
      by_answer (no e) =
          let refused : outcome call ≡ turned_away call (refusal call) = outcome_refused call (λ z. e (number ∙ z)) in
          record {
            is = ap (λ (o : IndexedOutcome). o.outcome) (indexed_refused e) ∙ ap (turned_away call) number ∙ sym refused;
            kept = ap (λ (o : IndexedOutcome). o.index) (indexed_refused e) ∙ own ∙ ap (λ (o : Outcome). index_of o.register) (sym refused);
          }

-- ---- one call

-- a call that is judged finds room for all its entries, so each of its searches is made in a register that is well formed
all_formed : (call : Call) → refusal call ≡ 0 → AllFormed (searches_of call)
all_formed call e =
    let clear = clear_of call e in
    let many : length (bulks_of call.sheet) + count_messages (bulks_of call.sheet) ≡ bulk_count call.sheet + message_count call.sheet =
    ap₂ ◌+◌ (bulk_number call clear.whole) (message_number call clear.whole) in
    searches_formed call.terms call.table (bulks_of call.sheet) (record { register = call.register; positions = call.positions })
    (record { formed = clear.formed; left = rw many clear.room })

indexed_demanded : IndexedMeets indexed_outcome
indexed_demanded call index =
    record {
      number = number (ℕ_discrete (indexed_refusal call index) 0);
      untouched = λ e. rw (indexed_refused call index e) (record { rest = record { length = refl; register = refl; positions = refl; report = refl }; slots = refl; kept = refl });
      tells = λ bytes e.
          let plain = (indexed_clear call index e).0 in
          record {
            lines = subst (LinesTell call) (sym (judged_plain call index e)) (every_line_tells call bytes plain);
            rest = subst (Leaves call) (sym (judged_plain call index e)) (leaves_the_rest call bytes plain);
            index = judged_index call index e;
            slots = rw (indexed_judged_lem call index e);
            few = rw (indexed_judged_lem call index e) (reads_most (searches_of call) (all_formed call plain));
          };
      own = λ own. let left = as_own call index own in left.kept ∙ ap (λ (o : Outcome). index_of o.register) (sym left.is);
    }
  where
    number : Dec (indexed_refusal call index ≡ 0) → (indexed_outcome call index).outcome.number ≡ indexed_refusal call index
    number (yes e) = ap (λ (o : IndexedOutcome). o.outcome.number) (indexed_judged_lem call index e) ∙ sym e
    number (no e) = ap (λ (o : IndexedOutcome). o.outcome.number) (indexed_refused call index e)

tells_as_plain : TellsAsPlain outcome indexed_outcome
tells_as_plain call index not12 not13 = by_answer (ℕ_discrete (indexed_refusal call index) 0)
  where
    told : (indexed_outcome call index).outcome.number ≡ indexed_refusal call index
    told = (indexed_demanded call index).number

    number : indexed_refusal call index ≡ refusal call
    number = indexed_as_plain call index (λ e. not12 (told ∙ e)) (λ e. not13 (told ∙ e))

    by_answer : Dec (indexed_refusal call index ≡ 0) → (indexed_outcome call index).outcome ≡ outcome call
    by_answer (yes e) = judged_plain call index e
    by_answer (no e) =
        ap (λ (o : IndexedOutcome). o.outcome) (indexed_refused call index e)
        ∙ ap (turned_away call) number
        ∙ sym (outcome_refused call (λ z. e (number ∙ z)))

-- ---- the cut

indexed_cut : IndexedCutsAnywhere indexed_outcome
indexed_cut call index bytes e k low space space' enough enough' =
    let clear = indexed_clear call index e in
    let plain = cut_anywhere call bytes clear.0 k low space space' enough enough' in
    let whole = as_own call index clear.1 in
    let first = as_own (first_call call k space) index clear.1 in
    let left = indexed_outcome (first_call call k space) index in
    let own : left.index ≡ index_of left.outcome.register = first.kept ∙ ap (λ (o : Outcome). index_of o.register) (sym first.is) in
    let second = as_own (second_call call k left.outcome space') left.index own in
    let last : (indexed_outcome (second_call call k left.outcome space') left.index).outcome ≡ outcome (second_call call k (outcome (first_call call k space)) space') =
    second.is ∙ ap (λ (o : Outcome). outcome (second_call call k o space')) first.is in
    record {
      parts = rw (last, whole.is, first.is) plain;
      index =
          second.kept
          ∙ ap (λ (o : Outcome). index_of (outcome (second_call call k o space')).register) first.is
          ∙ ap index_of plain.register
          ∙ sym whole.kept;
    }

-- ---- the run

module _ (terms : Terms) (table : List ℕ) where
  -- by the register's own index it is the plain run
  record Runs (files : List File) (before : State) (index : List ℕ) : Type 0 where
    is : (indexed_run indexed_outcome terms table files before index).ran ≡ run outcome terms table files before
    kept : (indexed_run indexed_outcome terms table files before index).index ≡ index_of (run outcome terms table files before).after.register

  runs_own : (files : List File) (before : State) (index : List ℕ) → index ≡ index_of before.register → Runs files before index
  unfolding indexed_run run
  runs_own [] before index own = record { is = refl; kept = own }
  runs_own (f ∷ fs) before index own =
      let left = indexed_outcome (call_on terms table f before) index in
      let first = as_own (call_on terms table f before) index own in
      let after : State = record { register = left.outcome.register; positions = left.outcome.positions } in
      let next : after ≡ state_after outcome terms table f before = ap (λ (o : Outcome). record { register = o.register; positions = o.positions }) first.is in
      let rest = runs_own fs after left.index (first.kept ∙ ap (λ (o : Outcome). index_of o.register) (sym first.is)) in
      let same_rest : run outcome terms table fs after ≡ run outcome terms table fs (state_after outcome terms table f before) = ap (run outcome terms table fs) next in
      record {
        is = λ i. record {
          accepted = accepted f.sheet (first.is i) ++ ((rest.is ∙ same_rest) i).accepted;
          recorded = recorded f.sheet (first.is i) ++ ((rest.is ∙ same_rest) i).recorded;
          after = ((rest.is ∙ same_rest) i).after;
        };
        kept = rest.kept ∙ ap (λ (r : Ran). index_of r.after.register) same_rest;
      }

  -- by any other, every file is refused
  runs_other : (files : List File) (before : State) (index : List ℕ) → (index ≡ index_of before.register → ⊥)
      → (indexed_run indexed_outcome terms table files before index).ran ≡ run outcome terms table [] before
  unfolding indexed_run run accepted recorded
  runs_other [] before index other = refl
  runs_other (f ∷ fs) before index other =
      let call = call_on terms table f before in
      let some : indexed_refusal call index ≡ 0 → ⊥ = λ e. other (indexed_clear call index e).1 in
      rw (indexed_refused call index some, ne_eqb (indexed_refusal call index) 0 some) (runs_other fs before index other)

  indexed_run_lem : (before : State) (index : List ℕ) (files : List File) → Bytes before.positions
      → RunHolds terms table before (indexed_run indexed_outcome terms table files before index).ran
  indexed_run_lem before index files bytes = by_test (same index (index_of before.register)) refl
    where
      by_test : (t : Bool) → same index (index_of before.register) ≡ t → RunHolds terms table before (indexed_run indexed_outcome terms table files before index).ran
      by_test true e = rw (runs_own files before index (same_equal index (index_of before.register) e)).is (runs_as_promised terms table before files bytes)
      by_test false e =
          rw (runs_other files before index (λ own. false≢true (sym e ∙ ap (λ (x : List ℕ). same x (index_of before.register)) own ∙ same_itself (index_of before.register))))
          (runs_as_promised terms table before [] bytes)

indexed_runs : IndexedRunsAsPromised indexed_outcome
indexed_runs terms table before index files bytes =
    record {
      run = indexed_run_lem terms table before index files bytes;
      kept = λ own. let all = runs_own terms table files before index own in all.kept ∙ ap (λ (r : Ran). index_of r.after.register) (sym all.is);
    }

-- ---- what builds an index

builds_as_written : BuildsAsWritten index_built
unfolding index_built
builds_as_written register index =
    record {
      unformed = λ e. rw e (refl, refl);
      other_length = λ e differs. rw (e, ne_eqb (length index) (index_length register) differs) (refl, refl);
      fits = λ e long. rw (e, eq-eqb (length index) (index_length register) long) (refl, refl);
    }

-- what was built is the register's own
built_own : (register index : List ℕ) → (index_built register index).number ≡ 0 → (index_built register index).index ≡ index_of register
unfolding index_built
built_own register index e = by_tests_lem (well_formed register) (length_wrong index register) e
  where
    built : Bool → Bool → IndexBuilt
    built t u =
        cond t
        (cond u (record { number = refusal_number IndexLength; index = index }) (record { number = 0; index = index_of register }))
        (record { number = refusal_number Register; index = index })

    by_tests_lem : (t u : Bool) → (built t u).number ≡ 0 → (built t u).index ≡ index_of register
    by_tests_lem true true z = absurd (false≢true (ap (λ (n : ℕ). eqb n 0) z))
    by_tests_lem true false z = refl
    by_tests_lem false u z = absurd (false≢true (ap (λ (n : ℕ). eqb n 0) z))

-- where it is no reason to refuse, neither of its numbers is answered
builds_for_the_judge : BuildsForTheJudge index_built indexed_outcome
unfolding holds_given
builds_for_the_judge call index e =
    record { length = λ n. never_first IndexLength call refl (sym number ∙ n); contents = λ n. never_first IndexContents call refl (sym number ∙ n) }
  where
    number : (indexed_outcome call (index_built call.register index).index).outcome.number ≡ refusal call
    number = (indexed_demanded call (index_built call.register index).index).number ∙ index_passes call _ (built_own call.register index e)

pub all_indexed : AllIndexed outcome indexed_outcome index_built
all_indexed =
    record {
      meets = indexed_demanded;
      as_plain = tells_as_plain;
      cut = indexed_cut;
      run = indexed_runs;
      builds = builds_as_written;
      for_the_judge = builds_for_the_judge;
    }
