-- The run of texts, proved of the reader's definition: it is the run of the sheets that were read. Assumes nothing.
use mathlib.Core.Path.{◌≡◌, refl, sym, ap₂, subst}
use mathlib.Core.Bool.{Bool, true, false, cond}
use mathlib.Core.List.{List, [], ◌∷◌, ◌++◌}
use Prim.Native.Nat.{ℕ}
use lib.Dec.{eqb}
use borrow.Author.Tests.{eqb-true}
use Rattle.sheet.specs.Sheet.{Bulk}
use Rattle.rules.specs.declared.Terms.{Terms}
use Rattle.report.specs.Line.{sections_place}
use Rattle.messages.specs.Messages.{State}
use Rattle.reading.specs.Reading.{number_of, reads}
use Rattle.judging.specs.Outcome.{Outcome}
use Rattle.promises.specs.Reading.{Judge, Payment, accepted_from, accepted, recorded_from, recorded}
use Rattle.promises.specs.Runs.{File, Ran, call_on, state_after, run, RunHolds, RunsAsPromised}
use Rattle.text_promises.specs.Texts.{the_reader, ReadAs}
use Rattle.text_promises.specs.TextRuns.{Sent, accepted_in, recorded_in, file_of, run_texts, TextsRunAsPromised}
use Rattle.text_promises.proofs.Texts.{holds_meant}

-- what a report tells of the documents it tells of the sheet
module _ (text sheet : List ℕ) (how : ReadAs the_reader text sheet) (left : Outcome) where
  accepted_same : accepted_in text left ≡ accepted sheet left
  unfolding accepted_in accepted
  accepted_same =
      ap₂ (λ (bs : List Bulk) (n : ℕ). cond (eqb left.number 0) (accepted_from left.report bs (sections_place n)) [])
      (sym (holds_meant text sheet how).bulks) (sym (holds_meant text sheet how).count)

  recorded_same : recorded_in text left ≡ recorded sheet left
  unfolding recorded_in recorded
  recorded_same =
      ap₂ (λ (bs : List Bulk) (n : ℕ). cond (eqb left.number 0) (recorded_from left.report bs (sections_place n)) [])
      (sym (holds_meant text sheet how).bulks) (sym (holds_meant text sheet how).count)

module _ (judge : Judge) (terms : Terms) (table : List ℕ) where
  -- the files that were read, in order
  unfoldable files_read : List Sent → List File
  files_read [] = []
  files_read (t ∷ ts) = cond (eqb (number_of (reads t.text t.space).answer) 0) (file_of the_reader judge terms table t ∷ files_read ts) (files_read ts)

  abbrev texts : List Sent → State → Ran
  texts ts before = run_texts the_reader judge terms table ts before

  abbrev files : List Sent → State → Ran
  files ts before = run judge terms table (files_read ts) before

  -- a text, and what is left after it
  module _ (t : Sent) (ts : List Sent) (before : State) where
    abbrev file : File
    file = file_of the_reader judge terms table t

    abbrev next : State
    next = state_after judge terms table file before

    abbrev left : Outcome
    left = judge (call_on terms table file before)

    abbrev ran : List Payment → List (List ℕ) → State → Ran
    ran ps ks after = record { accepted = ps; recorded = ks; after = after }

    one_more_lem : texts ts before ≡ files ts before → texts ts next ≡ files ts next → (b : Bool) → eqb (number_of (reads t.text t.space).answer) 0 ≡ b
        → cond b (ran (accepted_in t.text left ++ (texts ts next).accepted) (recorded_in t.text left ++ (texts ts next).recorded) (texts ts next).after) (texts ts before)
        ≡ run judge terms table (cond b (file ∷ files_read ts) (files_read ts)) before
    unfolding run
    one_more_lem unread later true e =
        let how : ReadAs the_reader t.text file.sheet = record { space = t.space; was = eqb-true _ 0 e; made = refl } in
        let taken = accepted_same t.text file.sheet how left in
        let kept = recorded_same t.text file.sheet how left in
        λ i. ran (taken i ++ (later i).accepted) (kept i ++ (later i).recorded) (later i).after
    one_more_lem unread later false e = unread

  texts_are_files : (ts : List Sent) (before : State) → texts ts before ≡ files ts before
  unfolding run_texts run files_read
  texts_are_files [] before = refl
  texts_are_files (t ∷ ts) before =
      one_more_lem t ts before (texts_are_files ts before) (texts_are_files ts (next t ts before)) (eqb (number_of (reads t.text t.space).answer) 0) refl

-- What a judge promises over any run of files it promises over any run of texts, those that are not read among them.
pub texts_run_as_promised : (judge : Judge) → RunsAsPromised judge → TextsRunAsPromised the_reader judge
texts_run_as_promised judge runs terms table before texts bytes =
    subst (λ (r : Ran). RunHolds terms table before r) (sym (texts_are_files judge terms table texts before))
    (runs terms table before (files_read judge terms table texts) bytes)
