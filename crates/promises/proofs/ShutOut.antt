-- Each wrong judge is shut out by a statement: were the statement true of it, there would be a contradiction on a small file, most
-- often that 0 is 1. Assumes nothing.
use mathlib.Core.Path.{◌≡◌, refl, sym, ap, ◌∙◌}
use mathlib.Core.Bool.{Bool, true, ◌&&◌, false≢true, and-eq-true_iff}
use mathlib.Core.List.{List, [], ◌∷◌}
use Prim.Native.Nat.{ℕ, zero, suc, ◌-◌, ◌/◌}
use Prim.Native.String.{String}
use native.Mathlib.Omega.{arith}
use lib.Dec.{lit<, lit≤, ltb}
use lib.IntN.{ℤ, pos, nat_abs}
use lib.ListN.{length, get_or, replicate}
use borrow.Author.Tests.{ltb-true}
use Rattle.wire.specs.Field.{Bytes, text, number_at}
use Rattle.wire.specs.Written.{padded}
use Rattle.routing.specs.Written.{table_bytes}
use Rattle.register.specs.Register.{key, bulk_tag, tag_place, used}
use Rattle.register.specs.Written.{register_bytes}
use Rattle.positions.specs.Written.{positions_bytes}
use Rattle.sheet.specs.Sheet.{identifier_width, Bulk, payment_kind, return_kind}
use Rattle.sheet.specs.Written.{header_bytes, message_bytes, payment_bytes, sheet_bytes}
use Rattle.rules.specs.declared.Terms.{Terms}
use Rattle.rules.specs.Terms.{dated}
use Rattle.faults.specs.Bits.{sum_wrong_bit, date_closed_bit, returned_amount_wrong_bit}
use Rattle.report.specs.Line.{bulk_line_width, report_length}
use Rattle.messages.specs.Messages.{State}
use Rattle.refusing.specs.Refusals.{Call}
use Rattle.judging.proofs.Computing.{outcomes_compute}
use Rattle.promises.specs.Reading.{InBytes, accepted_of, accepted_from, accepted, recorded_from, recorded, with_keys, cents_to, cents_from}
use Rattle.promises.specs.Demands.{BulksTell, MessagesTell, cents_paid}
use Rattle.promises.specs.Runs.{File, run, NoneLike, NoneTwice, with_message_tag, AllStand}
use Rattle.promises.specs.Edges.{row}
use Rattle.promises.specs.Wrong.{refuses_all, writes_on_refusal, one_fixed_report, writes_nothing, copies_the_first_line, makes_up_the_number, hides_beside_a_repeat, drops_a_line, copies_the_first_file, records_the_fallen, records_nothing, moves_the_stated_sum, bulks_first, ShutOut}

-- ---- bytes, by a test

unfoldable pub all_bytes : List ℕ → Bool
all_bytes [] = true
all_bytes (x ∷ xs) = ltb x 256 && all_bytes xs

pub bytes_by : (s : List ℕ) → all_bytes s ≡ true → Bytes s
unfolding all_bytes
bytes_by [] e i = lit< tt
bytes_by (x ∷ xs) e zero = ltb-true x 256 ((and-eq-true_iff (ltb x 256) (all_bytes xs)).0 e).0
bytes_by (x ∷ xs) e (suc i) = bytes_by xs ((and-eq-true_iff (ltb x 256) (all_bytes xs)).0 e).1 i

-- ---- the cases: payments from AAAALV22 to BBBBLV22

-- a bulk with its stated number and sum
abbrev bulk : String → ℕ → ℕ → List (List ℕ) → Bulk
bulk identifier number sum messages = record { header = header_bytes payment_kind identifier "AAAALV22" number sum 20260615 3; messages = messages }

-- a message of one cent
abbrev message : String → List ℕ
message identifier = payment_bytes identifier "BBBBLV22XXX" 1

-- one bulk of one message
abbrev pub one : List ℕ
one = sheet_bytes (bulk "D1" 1 1 (message "T1" ∷ []) ∷ [])

-- another one
abbrev other : List ℕ
other = sheet_bytes (bulk "D2" 1 1 (message "T1" ∷ []) ∷ [])

-- two bulks, both in order
abbrev pub both : List ℕ
both = sheet_bytes (bulk "D1" 1 1 (message "T1" ∷ []) ∷ bulk "D2" 1 1 (message "T2" ∷ []) ∷ [])

-- one bulk with a wrong sum
abbrev fallen : List ℕ
fallen = sheet_bytes (bulk "D1" 1 2 (message "T1" ∷ []) ∷ [])

-- one bulk whose second message repeats the first
abbrev partial : List ℕ
partial = sheet_bytes (bulk "D1" 2 2 (message "T1" ∷ message "T1" ∷ []) ∷ [])

-- two bulks, the second of which falls
abbrev two : List ℕ
two = sheet_bytes (bulk "D1" 1 1 (message "T1" ∷ []) ∷ bulk "D2" 1 2 (message "T2" ∷ []) ∷ [])

-- one bulk of another value date
abbrev valued : ℕ → List ℕ
valued date = sheet_bytes (record { header = header_bytes payment_kind "D1" "AAAALV22" 1 1 date 3; messages = message "T1" ∷ [] } ∷ [])

-- one bulk of a return of so many cents, of an original of so many, for a reason
abbrev returned : ℕ → ℕ → String → List ℕ
returned amount original reason =
    sheet_bytes (record {
      header = header_bytes return_kind "D1" "AAAALV22" 1 amount 20260615 3;
      messages = message_bytes "R1" "BBBBLV22XXX" amount original reason "pacs.008.001.08" ∷ [];
    } ∷ [])

abbrev pub today : Terms
today = dated 20260615

abbrev pub table : List ℕ
table = table_bytes (row "AAAALV22XXX" ∷ row "BBBBLV22XXX" ∷ [])

abbrev pub empty : List ℕ
empty = register_bytes [] 4

abbrev zeros : List ℕ
zeros = positions_bytes (pos 0 ∷ pos 0 ∷ [])

-- enough for each of these sheets
abbrev pub space : List ℕ
space = replicate (report_length 2 2) 0

abbrev pub start : State
start = record { register = empty; positions = zeros }

abbrev pub call_on : List ℕ → Call
call_on sheet = record { terms = today; sheet = sheet; table = table; register = empty; positions = zeros; report = space }

-- the bulk D1 stands in the register
abbrev repeated : Call
repeated =
    record {
      terms = today;
      sheet = fallen;
      table = table;
      register = register_bytes (key (text "AAAALV22") (padded identifier_width "D1") bulk_tag ∷ []) 4;
      positions = zeros;
      report = space;
    }

abbrev pub file : List ℕ → File
file sheet = record { sheet = sheet; space = space }

pub no_cents : Bytes zeros
unfolding outcomes_compute all_bytes
no_cents = bytes_by zeros refl

pub in_bytes : (sheet : List ℕ) → all_bytes sheet ≡ true → InBytes (call_on sheet)
unfolding outcomes_compute all_bytes
in_bytes sheet e =
    record {
      sheet = bytes_by sheet e;
      table = bytes_by table refl;
      register = bytes_by empty refl;
      positions = no_cents;
      report = bytes_by space refl;
    }

repeated_in_bytes : InBytes repeated
unfolding outcomes_compute all_bytes
repeated_in_bytes =
    record {
      sheet = bytes_by repeated.sheet refl;
      table = bytes_by table refl;
      register = bytes_by repeated.register refl;
      positions = no_cents;
      report = bytes_by space refl;
    }

-- the tag of the first entry
abbrev tag_of : List (List ℕ) → ℕ
tag_of es = number_at (get_or es 0 []) tag_place 1

pub zero_is_one : ◌≡◌ {A = ℕ} 0 1 → ⊥
zero_is_one e = omega arith

pub shut_out : ShutOut
unfolding outcomes_compute all_bytes accepted_of accepted_from accepted recorded_from recorded with_keys bulks_first BulksTell MessagesTell cents_paid run NoneLike NoneTwice with_message_tag AllStand cents_to cents_from
shut_out =
    record {
      tells_nothing = λ s. zero_is_one (s (call_on one) (in_bytes one refl) refl).count;
      refuses_all = λ s. zero_is_one (sym (s (call_on one)).number);
      writes_on_refusal = λ s. zero_is_one (ap (λ (r : List ℕ). 1 - get_or r 0 0) ((s (call_on [])).untouched (λ e. omega arith)).report);
      one_fixed_report = λ fixed s.
          zero_is_one (ap (λ (l : List ℕ). get_or l 1 0 - 49)
          (sym (s (call_on one) (in_bytes one refl) refl).bulks.0.identifier ∙ (s (call_on other) (in_bytes other refl) refl).bulks.0.identifier));
      writes_nothing = λ s. zero_is_one (s (call_on one) (in_bytes one refl) refl).count;
      copies_the_first_line = λ s. zero_is_one (sym (s (call_on two) (in_bytes two refl) refl).bulks.1.0.accepted_number);
      makes_up_the_number = λ s. zero_is_one (ap (λ (n : ℕ). 2 - n) (s (call_on partial) (in_bytes partial refl) refl).bulks.0.accepted_number);
      hides_beside_a_repeat = λ s. false≢true ((s repeated repeated_in_bytes refl).bulks.0.faults sum_wrong_bit);
      closed_today_only = λ s. false≢true ((s (call_on (valued 20260614)) (in_bytes (valued 20260614) refl) refl).bulks.0.faults date_closed_bit);
      closed_by_the_call = λ s. false≢true ((s (call_on (valued 20260614)) (in_bytes (valued 20260614) refl) refl).bulks.0.faults date_closed_bit);
      open_on_easter_monday = λ s. false≢true ((s (call_on (valued 20260406)) (in_bytes (valued 20260406) refl) refl).bulks.0.faults date_closed_bit);
      whole_is_more = λ s.
          false≢true (sym ((s (call_on (returned 2 2 "FOCR")) (in_bytes (returned 2 2 "FOCR") refl) refl).bulks.0.messages.0.faults returned_amount_wrong_bit));
      no_charge_allowed = λ s.
          false≢true (sym ((s (call_on (returned 1 2 "FOCR")) (in_bytes (returned 1 2 "FOCR") refl) refl).bulks.0.messages.0.faults returned_amount_wrong_bit));
      any_reason_allows = λ s.
          false≢true ((s (call_on (returned 1 2 "AC04")) (in_bytes (returned 1 2 "AC04") refl) refl).bulks.0.messages.0.faults returned_amount_wrong_bit);
      leaves_no_bulk = λ s. zero_is_one (ap (λ (n : ℕ). n - 1) (s (call_on one) (in_bytes one refl) refl).number);
      leaves_the_bulk_first = λ s. zero_is_one (ap (λ (es : List (List ℕ)). 2 - tag_of es) (s (call_on one) (in_bytes one refl) refl).entries);
      writes_past_the_entries = λ s. zero_is_one (sym (ap (λ (e : List ℕ). get_or e 0 0) ((s (call_on one) (in_bytes one refl) refl).later_places 2 (lit≤ tt))));
      writes_past_the_report = λ s. zero_is_one (sym (ap (λ (r : List ℕ). get_or r 0 0) (s (call_on one) (in_bytes one refl) refl).later_bytes));
      drops_a_line = λ s.
          zero_is_one (ap (λ (l : List ℕ). (length l - bulk_line_width) / bulk_line_width) (s (call_on two) (in_bytes two refl) refl 1 (lit≤ tt) space space (lit≤ tt) (lit≤ tt)).bulk_lines);
      forgets_a_lone_bulk = λ s.
          zero_is_one (ap (λ (r : List ℕ). (used r - 2) / 2) (s (call_on both) (in_bytes both refl) refl 1 (lit≤ tt) space space (lit≤ tt) (lit≤ tt)).register);
      copies_the_first_file = (call_on one, (refl, λ s. (s today table start (file one ∷ file one ∷ []) no_cents).once.0.0 (refl, refl)));
      records_the_fallen = λ s. zero_is_one (sym (ap length (s today table start (file fallen ∷ []) no_cents).messages));
      records_nothing = λ s. zero_is_one (ap length (s today table start (file one ∷ []) no_cents).messages);
      records_no_bulk = λ s. zero_is_one (ap (λ (es : List (List ℕ)). length es - 1) (s today table start (file one ∷ []) no_cents).recorded);
      records_the_bulk_first = λ s. zero_is_one (ap (λ (es : List (List ℕ)). 2 - tag_of es) (s today table start (file one ∷ []) no_cents).recorded);
      moves_the_stated_sum = λ s. zero_is_one (ap (λ (k : ℤ). 2 - nat_abs k) ((s today table start (file partial ∷ []) no_cents).positions 1));
      moves_the_original = λ s. zero_is_one (ap (λ (k : ℤ). 2 - nat_abs k) ((s today table start (file (returned 1 2 "FOCR") ∷ []) no_cents).positions 1));
    }
