-- The roles that elements play: each needed path leads to one of them. All other elements are stepped over. Assumes nothing.
use Rattle.std.specs.Prelude.{ℕ, Bool, cond, ◌||◌, leb, eqb}

-- ---- groups

-- what no row of the table names
abbrev pub other : ℕ
other = 0

-- the root of a document that is none
abbrev pub stranger : ℕ
stranger = 1

abbrev pub document : ℕ
document = 2

abbrev pub payments : ℕ
payments = 3

abbrev pub returns : ℕ
returns = 4

abbrev pub payments_header : ℕ
payments_header = 5

abbrev pub returns_header : ℕ
returns_header = 6

abbrev pub settlement : ℕ
settlement = 7

abbrev pub clearing : ℕ
clearing = 8

abbrev pub sender_agent : ℕ
sender_agent = 9

abbrev pub sender_institution : ℕ
sender_institution = 10

abbrev pub one_payment : ℕ
one_payment = 11

abbrev pub one_return : ℕ
one_return = 12

abbrev pub payment_identification : ℕ
payment_identification = 13

abbrev pub receiver_agent : ℕ
receiver_agent = 14

abbrev pub receiver_institution : ℕ
receiver_institution = 15

abbrev pub original_group : ℕ
original_group = 16

abbrev pub reason_information : ℕ
reason_information = 17

abbrev pub reason_group : ℕ
reason_group = 18

abbrev pub original_reference : ℕ
original_reference = 19

abbrev pub recipient : ℕ
recipient = 20

-- ---- fields: elements whose text the sheet takes

abbrev pub bulk_identifier : ℕ
bulk_identifier = 21

abbrev pub stated_number : ℕ
stated_number = 22

abbrev pub stated_sum : ℕ
stated_sum = 23

abbrev pub value_date : ℕ
value_date = 24

abbrev pub method : ℕ
method = 25

abbrev pub system : ℕ
system = 26

abbrev pub sender : ℕ
sender = 27

abbrev pub identifier : ℕ
identifier = 28

abbrev pub receiver : ℕ
receiver = 29

abbrev pub amount : ℕ
amount = 30

abbrev pub original_amount : ℕ
original_amount = 31

abbrev pub reason : ℕ
reason = 32

abbrev pub original_name : ℕ
original_name = 33

abbrev pub roles : ℕ
roles = 34

-- ---- kinds of roles

abbrev pub is_field : ℕ → Bool
is_field role = leb bulk_identifier role

abbrev pub is_amount : ℕ → Bool
is_amount role = eqb role stated_sum || eqb role amount || eqb role original_amount

abbrev pub is_message : ℕ → Bool
is_message role = eqb role one_payment || eqb role one_return

-- the role that an element counts as, where one of two may stand: a document holds payments or returns
abbrev pub counts_as : ℕ → ℕ
counts_as role = cond (eqb role returns) payments role
