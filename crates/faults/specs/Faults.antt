-- All facts against a bulk and against a message, in the order of their bits, and the mask that shows them. Assumes nothing.
use Rattle.std.specs.Prelude.{ℕ, Bool, List, [], ◌∷◌}
use Rattle.std.proofs.Math.Option.{Option}
use Rattle.masks.specs.Mask.{mask}
use Rattle.routing.specs.Lookup.{head_office_row, route}
use Rattle.sheet.specs.Sheet.{kind_of, bulk_identifier_of, sender_of, stated_number_of, stated_sum_of, value_date_of, marks_of, identifier_of, receiver_of, amount_of, original_of, reason_of, name_of}
use Rattle.register.specs.Register.{message_tag, bulk_tag}
use Rattle.wording.specs.Wording.{badly_formed}
use Rattle.rules.specs.declared.Terms.{Terms}
use Rattle.rules.specs.OfBulk.{marks_wrong, no_participant, date_wrong, date_closed, repeated, empty, number_wrong, sum_wrong}
use Rattle.rules.specs.OfMessage.{receiver_badly_formed, unreachable, amount_wrong, tells_original, reason_unknown, name_unknown, returned_amount_wrong}

-- ---- the rows

-- of a bulk's sender: the first that counts of the sender followed by XXX
abbrev pub sender_row : Terms → List ℕ → List ℕ → Option ℕ
sender_row terms table header = head_office_row terms.date table (sender_of header)

-- of a message's receiver: its own, else its head office's
abbrev pub receiver_row : Terms → List ℕ → List ℕ → Option ℕ
receiver_row terms table message = route terms.date table (receiver_of message)

-- ---- a bulk: of a header whose section holds so many messages, with amounts of so many cents

-- given whether it is a repeat
abbrev pub bulk_facts_given : Bool → Terms → List ℕ → List ℕ → ℕ → ℕ → List Bool
bulk_facts_given repeats terms table header number sum =
    marks_wrong (marks_of header)
    ∷ no_participant table (sender_row terms table header)
    ∷ date_wrong terms (value_date_of header)
    ∷ badly_formed (bulk_identifier_of header)
    ∷ repeats
    ∷ empty number
    ∷ number_wrong (stated_number_of header) number
    ∷ sum_wrong (stated_sum_of header) sum
    ∷ date_closed (value_date_of header)
    ∷ []

abbrev pub bulk_facts : Terms → List ℕ → List ℕ → List ℕ → ℕ → ℕ → List Bool
bulk_facts terms table register header number sum =
    bulk_facts_given (repeated register (sender_of header) (bulk_identifier_of header) bulk_tag) terms table header number sum

unfoldable pub bulk_faults : Terms → List ℕ → List ℕ → List ℕ → ℕ → ℕ → ℕ
bulk_faults terms table register header number sum = mask (bulk_facts terms table register header number sum)

-- ---- a message, of a bulk with this header

-- given whether it is a repeat
abbrev pub message_facts_given : Bool → Terms → List ℕ → List ℕ → List ℕ → List Bool
message_facts_given repeats terms table header message =
    badly_formed (identifier_of message)
    ∷ repeats
    ∷ receiver_badly_formed (receiver_of message)
    ∷ unreachable table (receiver_row terms table message)
    ∷ amount_wrong (amount_of message)
    ∷ tells_original (kind_of header) (original_of message) (reason_of message) (name_of message)
    ∷ reason_unknown (kind_of header) (reason_of message)
    ∷ name_unknown (kind_of header) (name_of message)
    ∷ returned_amount_wrong (kind_of header) (amount_of message) (original_of message) (reason_of message)
    ∷ []

abbrev pub message_facts : Terms → List ℕ → List ℕ → List ℕ → List ℕ → List Bool
message_facts terms table register header message =
    message_facts_given (repeated register (sender_of header) (identifier_of message) message_tag) terms table header message

unfoldable pub message_faults : Terms → List ℕ → List ℕ → List ℕ → List ℕ → ℕ
message_faults terms table register header message = mask (message_facts terms table register header message)
