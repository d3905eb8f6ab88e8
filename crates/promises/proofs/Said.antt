-- The messages that a report says were accepted are those that the judgement accepted. Assumes nothing.
use mathlib.Core.Path.{◌≡◌, refl, sym, ap, ap₂, subst, ◌∙◌}
use mathlib.Core.Bool.{Bool, true, false, cond, not, ◌&&◌}
use mathlib.Core.List.{List, [], ◌∷◌, ◌++◌}
use Prim.Native.Nat.{ℕ, ◌+◌, ◌*◌, ◌≤◌, ◌<◌}
use native.Mathlib.Nat.{add-zero, add_assoc}
use native.Mathlib.Omega.{arith}
use lib.Dec.{lit<, eqb}
use borrow.Author.Tests.{ne_eqb}
use lib.ListN.{length, length-append}
use lib.Seq.{take_all}
use Rattle.wire.specs.Field.{part, bytes_of}
use Rattle.wire.proofs.Numbers.{bytes_length}
use Rattle.wire.proofs.Texts.{part_front, part_back}
use Rattle.sheet.specs.Sheet.{message_width, kind_of, Bulk, bulk_count, bulks_of, identifier_of}
use Rattle.sheet.proofs.Fields.{identifier_long}
use Rattle.rules.specs.declared.Terms.{Terms}
use Rattle.faults.proofs.Laws.{message_few}
use Rattle.report.specs.Line.{message_line_width, count_width, sections_place, lines_at, after_lines}
use Rattle.report.proofs.Fields.{LineRead, message_line_read}
use Rattle.messages.specs.Messages.{State, is_accepted, message_accepted, message_rejected, message_fell, message_outcome, faults_of, line_of, after_message, judge_messages}
use Rattle.judging.specs.Judgement.{falls, messages_judged, section_of, after_bulk, judge_bulks}
use Rattle.refusing.specs.Refusals.{Call, refusal}
use Rattle.judging.specs.Outcome.{judgement, judged_of, outcome}
use Rattle.promises.specs.Reading.{Payment, payment_of, message_line_from, says_accepted, accepted_of, accepted_from, accepted}
use Rattle.sheet.proofs.Bulks.{MessagesWide, BulkWide, BulksWide}
use Rattle.refusing.proofs.Clear.{clear_of}
use Rattle.judging.proofs.Answers.{outcome_judged, outcome_refused}
use Rattle.messages.proofs.Widths.{line_wide}
use Rattle.judging.proofs.Widths.{section_wide, all_wide}
use Rattle.promises.proofs.Lines.{sections_read}

-- the text of n bytes stands in the report from place at on
abbrev pub Stands : List ℕ → ℕ → List ℕ → Type 0
Stands report at text = (o n : ℕ) → o + n ≤ length text → part report (at + o) n ≡ part text o n

pub stands_front : (report : List ℕ) (at : ℕ) (xs ys : List ℕ) → Stands report at (xs ++ ys) → Stands report at xs
stands_front report at xs ys h o n fits = h o n (rw (length-append xs ys) (omega arith)) ∙ part_front xs ys o n fits

pub stands_back : (report : List ℕ) (at k : ℕ) (xs ys : List ℕ) → length xs ≡ k → Stands report at (xs ++ ys) → Stands report (at + k) ys
stands_back report at k xs ys e h o n fits =
    ap (λ (a : ℕ). part report a n) (add_assoc at k o)
    ∙ h (k + o) n (rw (length-append xs ys) (omega arith))
    ∙ part_back xs ys k o n e

-- all of it
pub text_there : (report : List ℕ) (at k : ℕ) (text : List ℕ) → length text ≡ k → Stands report at text → part report at k ≡ text
text_there report at k text e there =
    ap (λ (a : ℕ). part report a k) (sym (add-zero at)) ∙ there 0 k (omega arith) ∙ take_all k text (omega arith)

-- ---- one line

outcome_small : (fallen : Bool) (faults : ℕ) → message_outcome fallen faults < 256
outcome_small fallen faults = by_tests_lem fallen (eqb faults 0)
  where
    by_tests_lem : (f t : Bool) → cond f message_fell (cond t message_accepted message_rejected) < 256
    by_tests_lem true t = lit< tt
    by_tests_lem false true = lit< tt
    by_tests_lem false false = lit< tt

outcome_read : (fallen : Bool) (faults : ℕ) → eqb (message_outcome fallen faults) message_accepted ≡ is_accepted fallen faults
outcome_read fallen faults = by_tests_lem fallen (eqb faults 0)
  where
    by_tests_lem : (f t : Bool) → eqb (cond f message_fell (cond t message_accepted message_rejected)) message_accepted ≡ (not f && t)
    by_tests_lem true t = refl
    by_tests_lem false true = refl
    by_tests_lem false false = refl

module _ (terms : Terms) (table : List ℕ) where
  module _ (report : List ℕ) (at : ℕ) (header : List ℕ) (fallen : Bool) (kind : ℕ) (m : List ℕ) (before : State) (wide : length m ≡ message_width kind)
      (there : Stands report at (line_of terms table header fallen m before)) where
    abbrev faults : ℕ
    faults = faults_of terms table header m before

    pub line_read : LineRead (identifier_of m) (message_outcome fallen faults) faults (message_line_from report at)
    unfolding line_of
    line_read =
        rw (text_there report at message_line_width (line_of terms table header fallen m before) (line_wide terms table header fallen kind m before wide) there)
        (message_line_read (identifier_of m) (message_outcome fallen faults) faults (identifier_long kind m wide) (outcome_small fallen faults) (message_few terms table before.register header m))

    pub says : says_accepted (message_line_from report at) ≡ is_accepted fallen faults
    says = ap (λ (x : ℕ). eqb x message_accepted) line_read.outcome_is ∙ outcome_read fallen faults

  -- ---- what the judgement accepted

  unfoldable pub paid : List ℕ → Bool → List (List ℕ) → State → List Payment
  paid header fallen [] before = []
  paid header fallen (m ∷ ms) before =
      let later = paid header fallen ms (after_message terms table header fallen m before) in
      cond (is_accepted fallen (faults_of terms table header m before)) (payment_of header m ∷ later) later

  unfoldable pub paid_by : List Bulk → State → List Payment
  paid_by [] before = []
  paid_by (b ∷ bs) before = paid b.header (falls terms table b before) b.messages before ++ paid_by bs (after_bulk terms table b before)

  pub said_messages : (report : List ℕ) (at : ℕ) (header : List ℕ) (fallen : Bool) (kind : ℕ) (ms : List (List ℕ)) (before : State) → MessagesWide kind ms
      → Stands report at (judge_messages terms table header fallen ms before).lines → accepted_of report header ms at ≡ paid header fallen ms before
  unfolding accepted_of paid judge_messages MessagesWide
  said_messages report at header fallen kind [] before wide there = refl
  said_messages report at header fallen kind (m ∷ ms) before wide there =
      let line = line_of terms table header fallen m before in
      let rest = (judge_messages terms table header fallen ms (after_message terms table header fallen m before)).lines in
      let first = says report at header fallen kind m before wide.0 (stands_front report at line rest there) in
      let later =
      said_messages report (at + message_line_width) header fallen kind ms (after_message terms table header fallen m before) wide.1
      (stands_back report at message_line_width line rest (line_wide terms table header fallen kind m before wide.0) there)
      in
      ap₂ (λ (t : Bool) (ps : List Payment). cond t (payment_of header m ∷ ps) ps) first later

  -- the lines of a bulk's section, and the sections after it, where all of them stand
  module _ (report : List ℕ) (at : ℕ) (b : Bulk) (bs : List Bulk) (before : State) (shaped : BulkWide b)
      (there : Stands report at (judge_bulks terms table (b ∷ bs) before).sections) where
    abbrev section : List ℕ
    section = section_of terms table b before

    abbrev rest : List ℕ
    rest = (judge_bulks terms table bs (after_bulk terms table b before)).sections

    pub section_there : Stands report at section
    unfolding judge_bulks
    section_there = stands_front report at section rest there

    pub lines_there : Stands report (lines_at at) (messages_judged terms table b before).lines
    unfolding section_of
    lines_there =
        stands_back report at count_width (bytes_of count_width (length b.messages)) (messages_judged terms table b before).lines (bytes_length count_width (length b.messages)) section_there

    pub rest_there : Stands report (after_lines at (length b.messages)) rest
    unfolding judge_bulks
    rest_there =
        let long : length section ≡ count_width + message_line_width * length b.messages = section_wide terms table b before shaped in
        let place : at + (count_width + message_line_width * length b.messages) ≡ after_lines at (length b.messages) = omega arith in
        subst (λ (k : ℕ). Stands report k rest) place (stands_back report at (count_width + message_line_width * length b.messages) section rest long there)

    -- which of its messages it says were accepted
    pub said_bulk : accepted_of report b.header b.messages (lines_at at) ≡ paid b.header (falls terms table b before) b.messages before
    said_bulk = said_messages report (lines_at at) b.header (falls terms table b before) (kind_of b.header) b.messages before shaped.messages lines_there

  said_bulks : (report : List ℕ) (at : ℕ) (bs : List Bulk) (before : State) → BulksWide bs → Stands report at (judge_bulks terms table bs before).sections
      → accepted_from report bs at ≡ paid_by bs before
  unfolding accepted_from paid_by BulksWide
  said_bulks report at [] before shaped there = refl
  said_bulks report at (b ∷ bs) before shaped there =
      ap₂ (λ (x y : List Payment). x ++ y)
      (said_bulk report at b bs before shaped.0 there)
      (said_bulks report (after_lines at (length b.messages)) bs (after_bulk terms table b before) shaped.1 (rest_there report at b bs before shaped.0 there))

-- a file that was judged, and one that was refused
pub said_judged : (call : Call) → refusal call ≡ 0
    → accepted call.sheet (outcome call) ≡ paid_by call.terms call.table (bulks_of call.sheet) (record { register = call.register; positions = call.positions })
unfolding accepted
said_judged call e =
    let clear = clear_of call e in
    let before : State = record { register = call.register; positions = call.positions } in
    rw (outcome_judged call e)
    (said_bulks call.terms call.table (judged_of call (judgement call)).report (sections_place (bulk_count call.sheet)) (bulks_of call.sheet) before (all_wide call clear.whole)
    (sections_read call clear))

pub said_refused : (call : Call) → (refusal call ≡ 0 → ⊥) → accepted call.sheet (outcome call) ≡ []
unfolding accepted
said_refused call e = rw (outcome_refused call e, ne_eqb (refusal call) 0 e)
