-- The fact that each bit shows, and no other: the masks and the lists of facts agree, and the names and the lists. Assumes nothing.
use mathlib.Core.Path.{◌≡◌, refl}
use mathlib.Core.Bool.{Bool, false}
use mathlib.Core.List.{List}
use Prim.Native.Nat.{ℕ, ◌+◌}
use lib.ListN.{length, get_or}
use Rattle.masks.specs.Mask.{shown}
use Rattle.masks.proofs.Laws.{mask_shows, mask_zero}
use Rattle.sheet.specs.Sheet.{kind_of, bulk_identifier_of, sender_of, stated_number_of, stated_sum_of, value_date_of, marks_of, identifier_of, receiver_of, amount_of, original_of, reason_of, name_of}
use Rattle.register.specs.Register.{message_tag, bulk_tag}
use Rattle.wording.specs.Wording.{badly_formed}
use Rattle.rules.specs.declared.Terms.{Terms}
use Rattle.rules.specs.OfBulk.{marks_wrong, no_participant, date_wrong, date_closed, repeated, empty, number_wrong, sum_wrong}
use Rattle.rules.specs.OfMessage.{receiver_badly_formed, unreachable, amount_wrong, tells_original, reason_unknown, name_unknown, returned_amount_wrong}
use Rattle.faults.specs.Bits.{marks_wrong_bit, no_participant_bit, date_wrong_bit, bulk_badly_formed_bit, bulk_repeated_bit, empty_bit, number_wrong_bit, sum_wrong_bit, date_closed_bit, badly_formed_bit, repeated_bit, receiver_badly_formed_bit, unreachable_bit, amount_wrong_bit, tells_original_bit, reason_unknown_bit, name_unknown_bit, returned_amount_wrong_bit}
use Rattle.faults.specs.Faults.{sender_row, receiver_row, bulk_facts, bulk_faults, message_facts, message_faults}

module _ (terms : Terms) (table register header : List ℕ) (number sum : ℕ) where
  abbrev pub of_bulk : ℕ → Bool
  of_bulk bit = get_or (bulk_facts terms table register header number sum) bit false

  -- a bit is shown if its fact holds, and only then
  pub bulk_shows : (bit : ℕ) → shown (bulk_faults terms table register header number sum) bit ≡ of_bulk bit
  unfolding bulk_faults
  bulk_shows bit = mask_shows (bulk_facts terms table register header number sum) bit

  -- where there is no fault, no fact holds
  pub bulk_clean : bulk_faults terms table register header number sum ≡ 0 → (bit : ℕ) → of_bulk bit ≡ false
  unfolding bulk_faults
  bulk_clean e bit = mask_zero (bulk_facts terms table register header number sum) bit e

  pub record BulkBits : Type 0 where
    pub at_marks_wrong_bit : of_bulk marks_wrong_bit ≡ marks_wrong (marks_of header)
    pub at_no_participant_bit : of_bulk no_participant_bit ≡ no_participant table (sender_row terms table header)
    pub at_date_wrong_bit : of_bulk date_wrong_bit ≡ date_wrong terms (value_date_of header)
    pub at_bulk_badly_formed_bit : of_bulk bulk_badly_formed_bit ≡ badly_formed (bulk_identifier_of header)
    pub at_bulk_repeated_bit : of_bulk bulk_repeated_bit ≡ repeated register (sender_of header) (bulk_identifier_of header) bulk_tag
    pub at_empty_bit : of_bulk empty_bit ≡ empty number
    pub at_number_wrong_bit : of_bulk number_wrong_bit ≡ number_wrong (stated_number_of header) number
    pub at_sum_wrong_bit : of_bulk sum_wrong_bit ≡ sum_wrong (stated_sum_of header) sum
    pub at_date_closed_bit : of_bulk date_closed_bit ≡ date_closed (value_date_of header)

  pub bulk_bits : BulkBits
  bulk_bits = record { at_marks_wrong_bit = refl; at_no_participant_bit = refl; at_date_wrong_bit = refl; at_bulk_badly_formed_bit = refl; at_bulk_repeated_bit = refl; at_empty_bit = refl; at_number_wrong_bit = refl; at_sum_wrong_bit = refl; at_date_closed_bit = refl }

  -- and no fact stands past them
  bulk_all : length (bulk_facts terms table register header number sum) ≡ date_closed_bit + 1
  bulk_all = refl

module _ (terms : Terms) (table register header message : List ℕ) where
  abbrev pub of_message : ℕ → Bool
  of_message bit = get_or (message_facts terms table register header message) bit false

  pub message_shows : (bit : ℕ) → shown (message_faults terms table register header message) bit ≡ of_message bit
  unfolding message_faults
  message_shows bit = mask_shows (message_facts terms table register header message) bit

  pub message_clean : message_faults terms table register header message ≡ 0 → (bit : ℕ) → of_message bit ≡ false
  unfolding message_faults
  message_clean e bit = mask_zero (message_facts terms table register header message) bit e

  pub record MessageBits : Type 0 where
    pub at_badly_formed_bit : of_message badly_formed_bit ≡ badly_formed (identifier_of message)
    pub at_repeated_bit : of_message repeated_bit ≡ repeated register (sender_of header) (identifier_of message) message_tag
    pub at_receiver_badly_formed_bit : of_message receiver_badly_formed_bit ≡ receiver_badly_formed (receiver_of message)
    pub at_unreachable_bit : of_message unreachable_bit ≡ unreachable table (receiver_row terms table message)
    pub at_amount_wrong_bit : of_message amount_wrong_bit ≡ amount_wrong (amount_of message)
    pub at_tells_original_bit : of_message tells_original_bit ≡ tells_original (kind_of header) (original_of message) (reason_of message) (name_of message)
    pub at_reason_unknown_bit : of_message reason_unknown_bit ≡ reason_unknown (kind_of header) (reason_of message)
    pub at_name_unknown_bit : of_message name_unknown_bit ≡ name_unknown (kind_of header) (name_of message)
    pub at_returned_amount_wrong_bit : of_message returned_amount_wrong_bit ≡ returned_amount_wrong (kind_of header) (amount_of message) (original_of message) (reason_of message)

  pub message_bits : MessageBits
  message_bits = record { at_badly_formed_bit = refl; at_repeated_bit = refl; at_receiver_badly_formed_bit = refl; at_unreachable_bit = refl; at_amount_wrong_bit = refl; at_tells_original_bit = refl; at_reason_unknown_bit = refl; at_name_unknown_bit = refl; at_returned_amount_wrong_bit = refl }

  message_all : length (message_facts terms table register header message) ≡ returned_amount_wrong_bit + 1
  message_all = refl
