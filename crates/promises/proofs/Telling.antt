-- The first two demands, proved of the outcome that the judge is proved to compute. Assumes nothing.
use mathlib.Core.Path.{◌≡◌, refl, sym, ap, ap₂, ◌∙◌}
use mathlib.Core.Bool.{Bool, true, false, cond, not}
use mathlib.Core.List.{List, [], ◌∷◌}
use Prim.Native.Nat.{ℕ, zero, suc, ◌+◌, ◌*◌, ◌^◌, ◌≤◌, ◌<◌}
use native.Mathlib.Nat.{mod-eq_of_lt}
use native.Mathlib.Omega.{arith}
use lib.Dec.{lit<, eqb}
use lib.ListN.{length}
use Rattle.wire.specs.Field.{Bytes, number_of, number_at, bytes_of}
use Rattle.wire.proofs.Numbers.{bytes_length, written_read}
use Rattle.masks.specs.Mask.{shown}
use Rattle.sheet.specs.Sheet.{header_width, message_width, kind_of, records_at, header_at, message_at, Bulk, bulks_of, bulks_from, bulk_count, first_section, count_at, after_messages, count_messages, bulk_identifier_of, amount_of}
use Rattle.sheet.proofs.Fields.{bulk_identifier_long, amount_word}
use Rattle.rules.specs.declared.Terms.{Terms}
use Rattle.faults.proofs.Laws.{bulk_few}
use Rattle.tally.specs.Tally.{Totals}
use Rattle.report.specs.Line.{message_line_width, bulk_line_width, count_width, first_line, sections_place, lines_at, after_lines}
use Rattle.report.proofs.Fields.{BulkLineRead, bulk_line_read}
use Rattle.refusing.specs.Refusals.{most_messages}
use Rattle.refusing.proofs.Clear.{clear_of}
use Rattle.messages.specs.Messages.{State, message_outcome, sum_of, line_of, after_message, judge_messages}
use Rattle.faults.proofs.Named.{bulk_shows, message_shows}
use Rattle.judging.specs.Judgement.{bulk_accepted, bulk_partial, bulk_rejected, bulk_outcome, faults_of_bulk, falls, messages_judged, bulk_line_of, section_of, after_bulk, judge_bulks}
use Rattle.judging.specs.Outcome.{judgement, judged_of, outcome}
use Rattle.judging.proofs.Answers.{number_is_lem, outcome_judged, outcome_refused}
use Rattle.judging.proofs.Demands.{numbers_add_up, cents_add_up}
use Rattle.promises.specs.Reading.{bulk_line_from, message_line_from, says_fallen}
use Rattle.promises.specs.Demands.{RefusesAsWritten, cents_paid, MessageTells, MessagesTell, BulkTells, BulksTell, EveryLineTells}
use Rattle.sheet.proofs.Bulks.{MessagesWide, BulkWide, BulksWide}
use Rattle.messages.proofs.Widths.{line_wide}
use Rattle.judging.proofs.Widths.{bulk_line_wide, all_wide, message_number}
use Rattle.promises.proofs.Lines.{count_read, lines_read, sections_read}
use Rattle.promises.proofs.Entered.{come, message_register, bulk_register}
use Rattle.promises.proofs.Said.{Stands, stands_front, stands_back, text_there, line_read, says, section_there, lines_there, rest_there, said_bulk}

-- ---- demand 1

pub refuses_as_written : RefusesAsWritten outcome
refuses_as_written call =
    record {
      number = number_is_lem call;
      untouched = λ e. rw (outcome_refused call e) (record { length = refl; register = refl; positions = refl; report = refl });
    }

-- ---- amounts are numbers of eight bytes

unfoldable Small : List Bulk → Type 0
Small [] = Unit {0}
Small (b ∷ bs) = (sum_of b.messages ≤ length b.messages * 2 ^ 64) × Small bs

small_messages : (kind : ℕ) (s : List ℕ) (n at : ℕ) → Bytes s
    → sum_of (records_at s (message_width kind) n at) ≤ length (records_at s (message_width kind) n at) * 2 ^ 64
unfolding records_at sum_of
small_messages kind s zero at bytes = omega arith
small_messages kind s (suc n) at bytes =
    let first = amount_word kind s at (amount_of (message_at s kind at)) bytes refl in
    let rest = small_messages kind s n (at + message_width kind) bytes in
    omega arith

small_bulks : (s : List ℕ) (n head at : ℕ) → Bytes s → Small (bulks_from s n head at)
unfolding bulks_from Small
small_bulks s zero head at bytes = tt
small_bulks s (suc n) head at bytes = (
  small_messages (kind_of (header_at s head)) s (count_at s at) (at + count_width) bytes,
  small_bulks s n (head + header_width) (after_messages s head at) bytes,
)

-- ---- message lines

module _ (terms : Terms) (table report : List ℕ) where
  message_tells : (at : ℕ) (header : List ℕ) (fallen : Bool) (kind : ℕ) (m : List ℕ) (before : State) → length m ≡ message_width kind
      → Stands report at (line_of terms table header fallen m before) → MessageTells terms table report header fallen m before.register (message_line_from report at)
  message_tells at header fallen kind m before wide there =
      let read = line_read terms table report at header fallen kind m before wide there in
      record {
        identifier = read.identifier_is;
        outcome = read.outcome_is ∙ ap (message_outcome fallen) (sym read.faults_is);
        faults = λ k. ap (λ (n : ℕ). shown n k) read.faults_is ∙ message_shows terms table before.register header m k;
      }

  messages_tell : (at : ℕ) (header : List ℕ) (fallen : Bool) (kind : ℕ) (ms : List (List ℕ)) (before : State) → MessagesWide kind ms
      → Stands report at (judge_messages terms table header fallen ms before).lines → MessagesTell terms table report header fallen ms before.register at
  unfolding MessagesTell judge_messages MessagesWide
  messages_tell at header fallen kind [] before wide there = tt
  messages_tell at header fallen kind (m ∷ ms) before wide there =
      let text = line_of terms table header fallen m before in
      let next = after_message terms table header fallen m before in
      let rest = (judge_messages terms table header fallen ms next).lines in
      let first = stands_front report at text rest there in (
        message_tells at header fallen kind m before wide.0 first,
        rw (says terms table report at header fallen kind m before wide.0 first, message_register terms table header fallen m before)
            (messages_tell (at + message_line_width) header fallen kind ms next wide.1
            (stands_back report at message_line_width text rest (line_wide terms table header fallen kind m before wide.0) there)),
      )

  -- ---- a bulk line

  bulk_outcome_small : (fallen : Bool) (t : Totals) → bulk_outcome fallen t < 256
  bulk_outcome_small fallen t = by_tests_lem fallen (eqb t.rejected_number 0) (eqb t.accepted_number 0)
    where
      by_tests_lem : (f r a : Bool) → cond f bulk_rejected (cond r bulk_accepted (cond a bulk_rejected bulk_partial)) < 256
      by_tests_lem true r a = lit< tt
      by_tests_lem false true a = lit< tt
      by_tests_lem false false true = lit< tt
      by_tests_lem false false false = lit< tt

  module _ (b : Bulk) (bs : List Bulk) (before : State) (at section : ℕ) (is : BulkWide b) (few : length b.messages ≤ most_messages)
      (summed : sum_of b.messages ≤ length b.messages * 2 ^ 64) (there : Stands report at (bulk_line_of terms table b before))
      (there' : Stands report section (judge_bulks terms table (b ∷ bs) before).sections) where
    abbrev t : Totals
    t = (messages_judged terms table b before).totals

    abbrev fallen : Bool
    fallen = falls terms table b before

    abbrev line : List ℕ
    line = bulk_line_from report at

    read : BulkLineRead (bulk_identifier_of b.header) (bulk_outcome fallen t) (faults_of_bulk terms table b before) t line
    unfolding bulk_line_of
    read =
        let numbers = numbers_add_up terms table b before in
        let cents = cents_add_up terms table b before in
        let small = (come terms table b.header fallen b.messages before).small in
        rw (text_there report at bulk_line_width (bulk_line_of terms table b before) (bulk_line_wide terms table b before is) there)
        (bulk_line_read (bulk_identifier_of b.header) (bulk_outcome fallen t) (faults_of_bulk terms table b before)
        (bulk_identifier_long b.header is.header) (bulk_outcome_small fallen t)
        (bulk_few terms table before.register b.header (length b.messages) (sum_of b.messages))
        t (omega arith) (omega arith) (omega arith) (omega arith))

    abbrev count : List ℕ
    count = bytes_of count_width (length b.messages)

    count_there : number_at report section count_width ≡ length b.messages
    unfolding section_of
    count_there =
        ap number_of (text_there report section count_width count (bytes_length count_width (length b.messages))
        (stands_front report section count (messages_judged terms table b before).lines (section_there terms table report section b bs before is there')))
        ∙ written_read count_width (length b.messages)
        ∙ mod-eq_of_lt (omega arith)

    fallen_read : says_fallen line ≡ fallen
    fallen_read = ap (λ (n : ℕ). not (eqb n 0)) read.faults_is

    bulk_tells : BulkTells terms table report b before.register line section
    bulk_tells =
        let said = said_bulk terms table report section b bs before is there' in
        let come = come terms table b.header fallen b.messages before in
        let totals = read.totals_is in
        record {
          identifier = read.identifier_is;
          outcome = read.outcome_is ∙ ap₂ bulk_outcome (sym fallen_read) (sym totals);
          faults = λ k. ap (λ (n : ℕ). shown n k) read.faults_is ∙ bulk_shows terms table before.register b.header (length b.messages) (sum_of b.messages) k;
          accepted_number = ap (λ (s : Totals). s.accepted_number) totals ∙ come.number ∙ ap length (sym said);
          accepted_cents = ap (λ (s : Totals). s.accepted_cents) totals ∙ come.cents ∙ ap cents_paid (sym said);
          numbers = ap (λ (s : Totals). s.accepted_number + s.rejected_number) totals ∙ numbers_add_up terms table b before;
          cents = ap (λ (s : Totals). s.accepted_cents + s.rejected_cents) totals ∙ cents_add_up terms table b before;
          count = count_there;
          messages =
              rw fallen_read
              (messages_tell (lines_at section) b.header fallen (kind_of b.header) b.messages before is.messages (lines_there terms table report section b bs before is there'));
        }

  -- ---- all bulks

  bulks_tell : (bs : List Bulk) (before : State) (line at : ℕ) → BulksWide bs → count_messages bs ≤ most_messages → Small bs
      → Stands report line (judge_bulks terms table bs before).lines → Stands report at (judge_bulks terms table bs before).sections
      → BulksTell terms table report bs before.register line at
  unfolding BulksTell judge_bulks BulksWide count_messages Small
  bulks_tell [] before line at is few small there there' = tt
  bulks_tell (b ∷ bs) before line at is few small there there' =
      let next = after_bulk terms table b before in
      let text = bulk_line_of terms table b before in
      let lines = (judge_bulks terms table bs next).lines in (
        bulk_tells b bs before line at is.0 (omega arith) small.0 (stands_front report line text lines there) there',
        rw (said_bulk terms table report at b bs before is.0 there', bulk_register terms table b before)
            (bulks_tell bs next (line + bulk_line_width) (after_lines at (length b.messages)) is.1 (omega arith) small.1
            (stands_back report line bulk_line_width text lines (bulk_line_wide terms table b before is.0) there)
            (rest_there terms table report at b bs before is.0 there')),
      )

-- ---- demand 2

pub every_line_tells : EveryLineTells outcome
every_line_tells call bytes e =
    let clear = clear_of call e in
    let few = clear.few_messages in
    rw (outcome_judged call e)
    (record {
      length = refl;
      count = count_read call clear;
      bulks =
          bulks_tell call.terms call.table (judged_of call (judgement call)).report (bulks_of call.sheet) (record { register = call.register; positions = call.positions })
          first_line (sections_place (bulk_count call.sheet)) (all_wide call clear.whole) (rw (message_number call clear.whole) few)
          (small_bulks call.sheet (bulk_count call.sheet) count_width (first_section call.sheet) bytes.sheet)
          (lines_read call clear) (sections_read call clear);
    })
