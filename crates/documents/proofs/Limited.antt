-- A header and a message that are read from any text are such as documents can carry. Assumes nothing.
use mathlib.Core.Path.{◌≡◌, refl, sym, ap, ◌∙◌}
use mathlib.Core.Bool.{Bool, true, false, cond, not, false≢true}
use mathlib.Core.List.{List, []}
use Prim.Native.Nat.{ℕ, ◌+◌, ◌*◌, ◌^◌, ◌≤◌, ◌<◌}
use native.Mathlib.Nat.{mod-eq_of_lt}
use native.Mathlib.Omega.{arith}
use lib.Dec.{eqb, leb}
use lib.ListN.{length}
use borrow.Author.Tests.{leb-true}
use Rattle.wire.specs.Field.{Bytes, bit, number_of}
use Rattle.wire.proofs.Numbers.{written_read}
use Rattle.sheet.specs.Sheet.{message_width, payment_kind, marks_of}
use Rattle.prose.specs.Prose.{said_at}
use Rattle.meanings.specs.Meanings.{decimal, is_number, number_meant, cents, is_amount, amount_meant, is_date, date_number, date_meant, meant_if}
use Rattle.meanings.proofs.Forms.{number_small_lem, amount_small, date_small}
use Rattle.paths.specs.Roles as roles
use Rattle.fields.specs.Fields.{fits, meant_bytes, field_bytes, is_clearing, is_system}
use Rattle.records.specs.Records.{Places, there, said_of, header_of, message_of}
use Rattle.records.specs.Records as records
use Rattle.records.proofs.Laws.{header_length, message_length, header_known}
use Rattle.records.proofs.Told.{sender_told, bulk_identifier_told, receiver_told, identifier_told}
use Rattle.elements.specs.Forest.{Forest}
use Rattle.elements.specs.Questions.{place_in}
use Rattle.reading.specs.Meaning.{places_in}
use Rattle.documents.specs.Amounts.{carried_amount}
use Rattle.documents.specs.Carried.{characters, CarriedHeader, NoOriginal, CarriedMessage}
use Rattle.documents.proofs.Fields.{no_amount, no_reason, no_name}
use Rattle.documents.proofs.Limits.{amount_limit}
use Rattle.documents.proofs.Sayings.{none_left, said_characters}
use Rattle.documents.proofs.Fills.{filled_characters, receiver_characters}
use Rattle.documents.proofs.Standing.{marks_stand, date_stands, sum_stands, number_stands, name_stands, reason_stands, original_stands, amount_stands}
use Rattle.documents.proofs.Grown.{Sound}
use Rattle.documents.proofs.Within.{Within, place_such}

-- ---- numbers, whatever the texts are: one that means nothing counts as 0

number_meant_lem : (t : List ℕ) → number_of (meant_bytes 8 (number_meant t)) < 10 ^ 15
number_meant_lem t = by_test (is_number t) refl
  where
    by_test : (b : Bool) → is_number t ≡ b → number_of (meant_bytes 8 (meant_if b (decimal t))) < 10 ^ 15
    by_test true e = let limit = number_small_lem t e in rw (written_read 8 (decimal t)) (omega arith)
    by_test false e = rw (written_read 8 0) (omega arith)

date_meant_lem : (t : List ℕ) → number_of (meant_bytes 4 (date_meant t)) < 10 ^ 8
date_meant_lem t = by_test (is_date t) refl
  where
    by_test : (b : Bool) → is_date t ≡ b → number_of (meant_bytes 4 (meant_if b (date_number t))) < 10 ^ 8
    by_test true e = let limit = date_small t e in rw (written_read 4 (date_number t)) (omega arith)
    by_test false e = rw (written_read 4 0) (omega arith)

amount_meant_lem : (t : List ℕ) → carried_amount (number_of (meant_bytes 8 (amount_meant t))) ≡ true
amount_meant_lem t = by_test (is_amount t) refl
  where
    by_test : (b : Bool) → is_amount t ≡ b → carried_amount (number_of (meant_bytes 8 (meant_if b (cents t)))) ≡ true
    by_test true e = rw (written_read 8 (cents t), mod-eq_of_lt (amount_small t e)) (amount_limit t e)
    by_test false e = rw (written_read 8 0)

few_marks : (a b c : Bool) → bit a + 2 * bit b + 4 * bit c < 8
few_marks true true true = omega arith
few_marks true true false = omega arith
few_marks true false true = omega arith
few_marks true false false = omega arith
few_marks false true true = omega arith
few_marks false true false = omega arith
few_marks false false true = omega arith
few_marks false false false = omega arith

-- ---- texts

module _ (s : List ℕ) (set : ℕ → Bool) (f : Forest) (w : Within s set f) where
  abbrev places : Places
  places = places_in f

  abbrev said_if : ℕ → List ℕ
  said_if p = cond (not (eqb p 0)) (said_at s p) []

  told : (k : ℕ) → characters (said_of s places k) ≡ true
  told k = by_test (there places k)
    where
      by_test : (b : Bool) → characters (cond b (said_at s (places k)) []) ≡ true
      by_test true = said_characters s (places k)
      by_test false = none_left 0

  said_short : (k width : ℕ) → ((t : List ℕ) → fits k t ≡ leb (length t) width) → roles.is_field k ≡ true → length (said_of s places k) ≤ width
  said_short k width form is_field = place_such s set k (λ p. length (said_if p) ≤ width) (λ e place sound. by_test place sound (eqb place 0)) f w 0 (omega arith)
    where
      by_test : (place : ℕ) → Sound s k place → (b : Bool) → length (cond (not b) (said_at s place) []) ≤ width
      by_test place sound true = omega arith
      by_test place sound false = leb-true (length (said_at s place)) width (sym (form (said_at s place)) ∙ sound.form is_field)

  pub unplayed : (k : ℕ) → set k ≡ false → place_in k f 0 ≡ 0
  unplayed k out = place_such s set k (λ p. p ≡ 0) (λ e place sound. absurd (false≢true (sym out ∙ e))) f w 0 refl

  unsaid : (k : ℕ) → set k ≡ false → said_of s places k ≡ []
  unsaid k out = rw (unplayed k out)

  -- ---- the header

  pub header_carried : Bytes (header_of s places) → CarriedHeader (header_of s places)
  unfolding fits field_bytes
  header_carried bytes = record {
    width = header_length s places;
    bytes = bytes;
    kind = header_known s places;
    identifier = rw (bulk_identifier_told s places) (filled_characters 35 (said_of s places roles.bulk_identifier) (said_short roles.bulk_identifier 35 (λ t. refl) refl) (told roles.bulk_identifier));
    sender = rw (sender_told s places) (filled_characters 8 (said_of s places roles.sender) (said_short roles.sender 8 (λ t. refl) refl) (told roles.sender));
    number = rw (number_stands s places) (number_meant_lem (said_of s places roles.stated_number));
    sum = rw (sum_stands s places) (amount_meant_lem (said_of s places roles.stated_sum));
    date = rw (date_stands s places) (date_meant_lem (said_of s places roles.value_date));
    marks = few;
  }
    where
      few : marks_of (header_of s places) < 8
      few =
          let small = few_marks (is_clearing (said_of s places roles.method)) (is_system (said_of s places roles.system)) (there places roles.recipient) in
          rw (marks_stand s places, written_read 1 (records.marks_of s places)) (omega arith)

  -- ---- a message

  no_original : set roles.original_amount ≡ false → set roles.reason ≡ false → set roles.original_name ≡ false → NoOriginal (message_of s places)
  no_original a b c = record {
    amount = ap number_of (original_stands s places ∙ ap (field_bytes roles.original_amount) (unsaid roles.original_amount a) ∙ no_amount) ∙ written_read 8 0;
    reason = reason_stands s places ∙ ap (field_bytes roles.reason) (unsaid roles.reason b) ∙ no_reason;
    name = name_stands s places ∙ ap (field_bytes roles.original_name) (unsaid roles.original_name c) ∙ no_name;
  }

  pub message_carried : (kind : ℕ) → (kind ≡ payment_kind → (set roles.original_amount ≡ false) × (set roles.reason ≡ false) × (set roles.original_name ≡ false))
      → Bytes (message_of s places) → CarriedMessage kind (message_of s places)
  unfolding fits field_bytes message_width
  message_carried kind out bytes = record {
    width = message_length s places;
    bytes = bytes;
    identifier = rw (identifier_told s places) (filled_characters 35 (said_of s places roles.identifier) (said_short roles.identifier 35 (λ t. refl) refl) (told roles.identifier));
    receiver = rw (receiver_told s places) (receiver_characters (said_of s places roles.receiver) (said_short roles.receiver 11 (λ t. refl) refl) (told roles.receiver));
    amount = rw (amount_stands s places) (amount_meant_lem (said_of s places roles.amount));
    original = rw (original_stands s places) (amount_meant_lem (said_of s places roles.original_amount));
    reason = rw (reason_stands s places) (filled_characters 4 (said_of s places roles.reason) (said_short roles.reason 4 (λ t. refl) refl) (told roles.reason));
    name = rw (name_stands s places) (filled_characters 15 (said_of s places roles.original_name) (said_short roles.original_name 15 (λ t. refl) refl) (told roles.original_name));
    payment = λ e. no_original (out e).0 (out e).1 (out e).2;
  }
