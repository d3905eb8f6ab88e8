-- The definitions tried on the whole case, before any code: what its outcome is, field by field. Assumes nothing.
use mathlib.Core.Path.{◌≡◌, refl}
use mathlib.Core.List.{List, [], ◌∷◌, ◌++◌}
use Prim.Native.Nat.{ℕ, ◌+◌, ◌^◌}
use Prim.Native.String.{String}
use lib.IntN.{pos, negsuc}
use lib.ListN.{replicate}
use Rattle.wire.specs.Field.{text, bytes_of}
use Rattle.wire.specs.Written.{padded}
use Rattle.routing.specs.Table.{participant, not_reachable}
use Rattle.routing.specs.Written.{row_bytes, table_bytes}
use Rattle.sheet.specs.Sheet.{identifier_width, payment_kind}
use Rattle.sheet.specs.Written.{header_bytes, payment_bytes, sheet_bytes}
use Rattle.register.specs.Register.{key, message_tag, bulk_tag}
use Rattle.register.specs.Written.{register_bytes}
use Rattle.positions.specs.Written.{positions_bytes}
use Rattle.rules.specs.Terms.{dated}
use Rattle.faults.specs.Bits.{repeated_bit, unreachable_bit}
use Rattle.report.specs.Line.{count_width, bulk_line, message_line, report_length}
use Rattle.refusing.specs.Refusals.{Call}
use Rattle.messages.specs.Messages.{message_accepted, message_rejected}
use Rattle.judging.specs.Judgement.{bulk_partial}
use Rattle.judging.specs.Outcome.{Outcome, outcome}
use Rattle.judging.proofs.Computing.{outcomes_compute}

abbrev pub row : String → ℕ → List ℕ
row bic kind = row_bytes bic 20260101 20991231 kind

identified : String → List ℕ
identified s = padded identifier_width s

abbrev pub call : Call
call =
    record {
      terms = dated 20260615;
      sheet = sheet_bytes (record {
        header = header_bytes payment_kind "D1" "AAAALV22" 3 600 20260615 3;
        messages = payment_bytes "T1" "BBBBLV22RIX" 100 ∷ payment_bytes "T2" "BBBBLV22KUL" 200 ∷ payment_bytes "T1" "BBBBLV22XXX" 300 ∷ [];
      } ∷ []);
      table = table_bytes (row "AAAALV22XXX" participant ∷ row "BBBBLV22XXX" participant ∷ row "BBBBLV22KUL" not_reachable ∷ []);
      register = register_bytes [] 8;
      positions = positions_bytes (pos 0 ∷ pos 0 ∷ pos 0 ∷ []);
      report = replicate (report_length 1 3 + 4) 7;
    }

-- T1 of 100 cents was accepted; T2 cannot be reached, and the second T1 is a repeat. negsuc 99 is -100. The report's last four
-- bytes stay as they were
expected : Outcome
expected =
    record {
      number = 0;
      length = report_length 1 3;
      register = register_bytes (key (text "AAAALV22") (identified "T1") message_tag ∷ key (text "AAAALV22") (identified "D1") bulk_tag ∷ []) 6;
      positions = positions_bytes (negsuc 99 ∷ pos 100 ∷ pos 0 ∷ []);
      report =
          bytes_of count_width 1
          ++ bulk_line (identified "D1") bulk_partial 0 (record { accepted_number = 1; accepted_cents = 100; rejected_number = 2; rejected_cents = 500 })
          ++ bytes_of count_width 3
          ++ message_line (identified "T1") message_accepted 0
          ++ message_line (identified "T2") message_rejected (2 ^ unreachable_bit)
          ++ message_line (identified "T1") message_rejected (2 ^ repeated_bit)
          ++ replicate 4 7;
    }

whole_case : outcome call ≡ expected
unfolding outcomes_compute identified expected
whole_case = refl
