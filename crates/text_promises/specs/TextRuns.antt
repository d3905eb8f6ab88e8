-- A run of texts on the same terms and table: each is read, and what was read is judged on what the one before it left. Assumes
-- nothing.
use Rattle.std.specs.Prelude.{ℕ, cond, List, [], ◌++◌, ◌∷◌, length, eqb}
use Rattle.wire.specs.Field.{Bytes}
use Rattle.rules.specs.declared.Terms.{Terms}
use Rattle.report.specs.Line.{sections_place}
use Rattle.messages.specs.Messages.{State}
use Rattle.judging.specs.Outcome.{Outcome}
use Rattle.promises.specs.Reading.{Judge, Payment, accepted_from, recorded_from}
use Rattle.promises.specs.Runs.{File, Ran, call_on, state_after, RunHolds}
use Rattle.text_promises.specs.Texts.{Reader, sheet_left, meant}

-- a text, the space that is lent for its sheet, and that for its report
pub record Sent : Type 0 where
  pub text : List ℕ
  pub space : List ℕ
  pub report : List ℕ

-- which messages of a text's documents a report says were accepted, and which keys that records: of the bulks that they mean, so
-- that no sheet is looked at
unfoldable pub accepted_in : List ℕ → Outcome → List Payment
accepted_in text left = cond (eqb left.number 0) (accepted_from left.report (meant text) (sections_place (length (meant text)))) []

unfoldable pub recorded_in : List ℕ → Outcome → List (List ℕ)
recorded_in text left = cond (eqb left.number 0) (recorded_from left.report (meant text) (sections_place (length (meant text)))) []

module _ (reader : Reader) (judge : Judge) (terms : Terms) (table : List ℕ) where
  abbrev pub file_of : Sent → File
  file_of sent = record { sheet = sheet_left (reader sent.text sent.space); space = sent.report }

  -- a text that is not read leaves everything as it was
  unfoldable pub run_texts : List Sent → State → Ran
  run_texts [] before = record { accepted = []; recorded = []; after = before }
  run_texts (t ∷ ts) before =
      let left = judge (call_on terms table (file_of t) before) in
      let rest = run_texts ts (state_after judge terms table (file_of t) before) in
      cond (eqb (reader t.text t.space).number 0)
      (record {
        accepted = accepted_in t.text left ++ rest.accepted;
        recorded = recorded_in t.text left ++ rest.recorded;
        after = rest.after;
      })
      (run_texts ts before)

-- demand 3, the run: for any texts, those that are not read and those that are refused among them, from any register and any positions
abbrev pub TextsRunAsPromised : Reader → Judge → Type 0
TextsRunAsPromised reader judge =
    (terms : Terms) (table : List ℕ) (before : State) (texts : List Sent) → Bytes before.positions
    → RunHolds terms table before (run_texts reader judge terms table texts before)
