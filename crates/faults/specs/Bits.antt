-- The bit of each fault. The lists of facts in Faults are in this order. Assumes nothing.
use Rattle.std.specs.Prelude.{ℕ}

-- ---- of a bulk

abbrev pub marks_wrong_bit : ℕ
marks_wrong_bit = 0

abbrev pub no_participant_bit : ℕ
no_participant_bit = 1

abbrev pub date_wrong_bit : ℕ
date_wrong_bit = 2

abbrev pub bulk_badly_formed_bit : ℕ
bulk_badly_formed_bit = 3

abbrev pub bulk_repeated_bit : ℕ
bulk_repeated_bit = 4

abbrev pub empty_bit : ℕ
empty_bit = 5

abbrev pub number_wrong_bit : ℕ
number_wrong_bit = 6

abbrev pub sum_wrong_bit : ℕ
sum_wrong_bit = 7

abbrev pub date_closed_bit : ℕ
date_closed_bit = 8

-- ---- of a message

abbrev pub badly_formed_bit : ℕ
badly_formed_bit = 0

abbrev pub repeated_bit : ℕ
repeated_bit = 1

abbrev pub receiver_badly_formed_bit : ℕ
receiver_badly_formed_bit = 2

abbrev pub unreachable_bit : ℕ
unreachable_bit = 3

abbrev pub amount_wrong_bit : ℕ
amount_wrong_bit = 4

abbrev pub tells_original_bit : ℕ
tells_original_bit = 5

abbrev pub reason_unknown_bit : ℕ
reason_unknown_bit = 6

abbrev pub name_unknown_bit : ℕ
name_unknown_bit = 7

abbrev pub returned_amount_wrong_bit : ℕ
returned_amount_wrong_bit = 8
