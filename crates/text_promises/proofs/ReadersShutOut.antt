-- Each wrong reader is shut out by a statement: were the statement true of it, there would be a contradiction on a text of one or two
-- small documents, or of none. Assumes nothing.
use mathlib.Core.Path.{refl, sym, ap}
use mathlib.Core.List.{List, [], ◌∷◌, ◌++◌}
use Prim.Native.Nat.{ℕ, ◌-◌}
use Prim.Native.String.{String}
use native.Mathlib.Omega.{arith}
use lib.Dec.{lit≤, lit<}
use lib.ListN.{length, get_or, replicate}
use Rattle.wire.specs.Field.{text}
use Rattle.refusing.specs.Refusals.{Call}
use Rattle.judging.proofs.Computing.{outcomes_compute}
use Rattle.promises.specs.Reading.{accepted_of, accepted_from, recorded_from, with_keys}
use Rattle.promises.specs.Demands.{BulksTell, MessagesTell}
use Rattle.text_promises.specs.Texts.{Reader, sheet_left, TextInBytes, MessagesNamed, DocumentsNamed}
use Rattle.text_promises.specs.TextRuns.{Sent, accepted_in, recorded_in, run_texts}
use Rattle.text_promises.specs.WrongReaders.{stops_at_the_first, last_document_first, another_kind, a_byte_short, one_fixed_sheet, writes_before_it_refuses, writes_behind_the_sheet, ReadersShutOut}
use Rattle.text_promises.proofs.Computing.{readings_compute}
use Rattle.promises.proofs.ShutOut.{all_bytes, bytes_by, today, table, empty, start, space, one, call_on, no_cents, zero_is_one}

-- a document without payments, by its identifier
abbrev document : String → List ℕ
document identifier =
    text "<Document><FIToFICstmrCdtTrf><GrpHdr><MsgId>"
    ++ text identifier
    ++ text "</MsgId><NbOfTxs>0</NbOfTxs><TtlIntrBkSttlmAmt Ccy='EUR'>0</TtlIntrBkSttlmAmt><IntrBkSttlmDt>2026-06-15</IntrBkSttlmDt>"
    ++ text "<SttlmInf><SttlmMtd>CLRG</SttlmMtd><ClrSys><Prtry>EKS</Prtry></ClrSys></SttlmInf>"
    ++ text "<InstgAgt><FinInstnId><BICFI>AAAALV22</BICFI></FinInstnId></InstgAgt></GrpHdr></FIToFICstmrCdtTrf></Document>"

abbrev single : List ℕ
single = document "D1"

abbrev two : List ℕ
two = document "D1" ++ document "D2"

-- an element that is no document
abbrev stranger : List ℕ
stranger = text "<A/>"

-- such an element, and behind it the beginning of something
abbrev unfinished : List ℕ
unfinished = text "<A/><"

-- more than their sheet takes
abbrev room : List ℕ
room = replicate 160 0

-- the call on what a reader makes of a text
abbrev call_by : Reader → List ℕ → Call
call_by reader documents = call_on (sheet_left (reader documents room))

abbrev sent : Sent
sent = record { text = []; space = room; report = space }

in_bytes : (sheet : List ℕ) → TextInBytes two (call_on sheet)
unfolding outcomes_compute all_bytes
in_bytes sheet =
    record {
      documents = bytes_by two refl;
      table = bytes_by table refl;
      register = bytes_by empty refl;
      positions = no_cents;
      report = bytes_by space refl;
    }

pub readers_shut_out : ReadersShutOut
unfolding outcomes_compute readings_compute all_bytes accepted_of accepted_from recorded_from with_keys BulksTell MessagesTell MessagesNamed DocumentsNamed accepted_in recorded_in run_texts
readers_shut_out =
    record {
      refuses_all = λ s. zero_is_one (ap (λ (n : ℕ). 1 - n) ((s single room).made _ _ refl (lit≤ tt) refl).0);
      asks_for_space_first = λ s. zero_is_one (ap (λ (n : ℕ). 24 - n) ((s stranger []).lacking _ _ refl (lit< tt)).0);
      tells_lack_first = λ s. zero_is_one (ap (λ (n : ℕ). 22 - n) ((s unfinished []).formless _ refl).0);
      any_fixed_sheet = λ sheet s. zero_is_one (ap (λ (n : ℕ). n - 20) ((s [] []).formless _ refl).0);
      stops_at_the_first = λ s. zero_is_one (ap (λ (l : List ℕ). 2 - get_or l 3 0) (sym (s two (call_by stops_at_the_first two).sheet (record { space = room; was = refl; made = refl })).bytes));
      cuts_after_the_first = λ s.
          zero_is_one (ap (λ (l : List ℕ). get_or l 3 0)
          (s two (call_by stops_at_the_first two) (record { space = room; was = refl; made = refl }) (in_bytes (call_by stops_at_the_first two).sheet) refl 1 (lit≤ tt) space space (lit≤ tt) (lit≤ tt)).later);
      last_document_first = λ s.
          zero_is_one (ap (λ (l : List ℕ). get_or l 1 0 - 49)
          (sym (s two (call_by last_document_first two) (record { space = room; was = refl; made = refl }) (in_bytes (call_by last_document_first two).sheet) refl).named.0));
      another_kind = λ s. (s single (call_by another_kind single) (record { space = room; was = refl; made = refl })).kinds refl;
      a_byte_short = λ s. (s single (call_by a_byte_short single) (record { space = room; was = refl; made = refl })).form refl;
      one_fixed_sheet = (one, λ s. zero_is_one (sym (ap (λ (es : List (List ℕ)). length es - 1) (s today table start (sent ∷ []) no_cents).recorded)));
      writes_before_it_refuses = λ s. zero_is_one (sym (ap (λ (l : List ℕ). get_or l 0 0) ((s [] room).refused (λ e. omega arith)).1));
      writes_behind_the_sheet = λ s. zero_is_one (sym (ap (λ (l : List ℕ). get_or l 0 0) (s single room).behind));
    }
