-- One message: its elements fit, lack nothing, and come back as the message. Assumes nothing.
use mathlib.Core.Path.{◌≡◌, refl, sym, ap, ◌∙◌}
use mathlib.Core.Bool.{true, false}
use mathlib.Core.List.{List, [], ◌++◌}
use Prim.Native.Nat.{ℕ}
use native.Mathlib.Omega.{arith}
use lib.ListN.{length}
use lib.Seq.{take_all}
use Rattle.wire.specs.Field.{text, part, bytes_of, same}
use Rattle.wire.proofs.Numbers.{number_small_lem}
use Rattle.sheet.specs.Sheet.{message_width, payment_kind, return_kind, identifier_of, receiver_of, amount_of, original_of, reason_of, name_of}
use Rattle.sheet.proofs.Fields.{identifier_long, receiver_long, reason_long, name_long}
use Rattle.tags.specs.Names.{name_start, name_byte}
use Rattle.paths.specs.Roles as roles
use Rattle.paths.specs.Table.{among, child_role, all_met, lacks}
use Rattle.documents.specs.Brevity.{Brevity, worded}
use Rattle.documents.specs.Amounts.{euro_text}
use Rattle.documents.specs.Carried.{CarriedMessage}
use Rattle.documents.specs.Documents.{payment_of, return_of}
use Rattle.documents.proofs.Here.{all}
use Rattle.documents.proofs.Tags.{is_name}
use Rattle.documents.proofs.Elements.{FieldFits, Fitting}
use Rattle.documents.proofs.Questions.{text_in, count_in, lack_in, messages_of, message_in}
use Rattle.documents.proofs.Fields.{Carries, number_back, part_then, amount_carries, original_carries, no_amount, no_reason, no_name}
use Rattle.documents.proofs.Worded.{identifier_carries, receiver_carries, reason_carries, name_carries}
use Rattle.documents.proofs.Each.{one}

-- a field that carries something fits
pub fitting_field : (parent role : ℕ) (name said bytes : List ℕ) → Carries role said bytes → is_name name ≡ true → child_role parent name ≡ role → roles.is_field role ≡ true
    → FieldFits parent role name said
fitting_field parent role name said bytes c named plays kind = record { named = named; plays = plays; kind = kind; carried = c.carried; form = c.form }

-- ---- the parts of a message

module _ (m : List ℕ) (width : length m ≡ 81) where
  message_parts : part m 0 35 ++ part m 35 11 ++ part m 46 8 ++ part m 54 8 ++ part m 62 4 ++ part m 66 15 ≡ m
  message_parts =
      rw (part_then m 0 35 11, part_then m 0 46 8, part_then m 0 54 8, part_then m 0 62 4, part_then m 0 66 15) (take_all 81 m (omega arith))

module _ (kind : ℕ) (m : List ℕ) (c : CarriedMessage kind m) where
  identifier : (brief : Brevity) → Carries roles.identifier (worded brief roles.identifier (identifier_of m)) (identifier_of m)
  identifier brief = identifier_carries brief (identifier_of m) c.identifier (identifier_long kind m c.width)

  receiver : (brief : Brevity) → Carries roles.receiver (worded brief roles.receiver (receiver_of m)) (receiver_of m)
  receiver brief = receiver_carries brief (receiver_of m) c.receiver (receiver_long kind m c.width)

  amount : Carries roles.amount (euro_text (amount_of m)) (bytes_of 8 (amount_of m))
  amount = amount_carries (amount_of m) c.amount (number_small_lem m 46 8 c.bytes)

  original : Carries roles.original_amount (euro_text (original_of m)) (bytes_of 8 (original_of m))
  original = original_carries (original_of m) c.original (number_small_lem m 54 8 c.bytes)

  reason : (brief : Brevity) → Carries roles.reason (worded brief roles.reason (reason_of m)) (reason_of m)
  reason brief = reason_carries brief (reason_of m) c.reason (reason_long kind m c.width)

  name : (brief : Brevity) → Carries roles.original_name (worded brief roles.original_name (name_of m)) (name_of m)
  name brief = name_carries brief (name_of m) c.name (name_long kind m c.width)

  wide : length m ≡ 81
  unfolding message_width
  wide = c.width

  amount_there : bytes_of 8 (amount_of m) ≡ part m 46 8
  amount_there = number_back m 46 8 c.bytes (omega (arith, wide))

  original_there : bytes_of 8 (original_of m) ≡ part m 54 8
  original_there = number_back m 54 8 c.bytes (omega (arith, wide))

  -- the bytes of its fields, one after the other
  together : (a b d e f g : List ℕ) → a ≡ identifier_of m → b ≡ receiver_of m → d ≡ part m 46 8 → e ≡ part m 54 8 → f ≡ reason_of m → g ≡ name_of m
      → a ++ b ++ d ++ e ++ f ++ g ≡ m
  together a b d e f g p q r t u v = rw (p, q, r, t, u, v) (message_parts m wide)

-- ---- a payment

module _ (brief : Brevity) (m : List ℕ) where
  pub payment_complete : lacks roles.one_payment (count_in (payment_of brief m)) ≡ false
  unfolding lacks all_met count_in
  payment_complete = refl

  pub payment_below : lack_in (payment_of brief m) ≡ false
  unfolding lack_in lacks all_met count_in
  payment_below = refl

  pub payment_lone : messages_of (payment_of brief m) ≡ []
  unfolding messages_of
  payment_lone = refl

  module _ (c : CarriedMessage payment_kind m) where
    pub payment_fits : Fitting 29 roles.one_payment (payment_of brief m)
    unfolding Fitting name_start name_byte all child_role among same
    payment_fits = (
      record { named = refl; plays = refl; kind = refl; known = refl },
      (fitting_field roles.payment_identification roles.identifier (text "TxId") (worded brief roles.identifier (identifier_of m)) _ (identifier payment_kind m c brief) refl refl refl, tt),
      (
        record { named = refl; plays = refl; kind = refl; known = refl },
        (record { named = refl; plays = refl; kind = refl; known = refl }, (fitting_field roles.receiver_institution roles.receiver (text "BICFI") (worded brief roles.receiver (receiver_of m)) _ (receiver payment_kind m c brief) refl refl refl, tt), tt),
        (fitting_field roles.one_payment roles.amount (text "IntrBkSttlmAmt") (euro_text (amount_of m)) _ (amount payment_kind m c) refl refl refl, tt),
      ),
    )

    pub payment_back : message_in (one roles.one_payment (text "CdtTrfTxInf") (payment_of brief) m) ≡ m
    unfolding text_in
    payment_back =
        let none = c.payment refl in
        together payment_kind m c _ _ _ _ _ _
        (identifier payment_kind m c brief).back (receiver payment_kind m c brief).back ((amount payment_kind m c).back ∙ amount_there payment_kind m c)
        (no_amount ∙ ap (bytes_of 8) (sym none.amount) ∙ original_there payment_kind m c) (no_reason ∙ sym none.reason) (no_name ∙ sym none.name)

-- ---- a return

module _ (brief : Brevity) (m : List ℕ) where
  pub return_complete : lacks roles.one_return (count_in (return_of brief m)) ≡ false
  unfolding lacks all_met count_in
  return_complete = refl

  pub return_below : lack_in (return_of brief m) ≡ false
  unfolding lack_in lacks all_met count_in
  return_below = refl

  pub return_lone : messages_of (return_of brief m) ≡ []
  unfolding messages_of
  return_lone = refl

  module _ (c : CarriedMessage return_kind m) where
    pub return_fits : Fitting 29 roles.one_return (return_of brief m)
    unfolding Fitting name_start name_byte all child_role among same
    return_fits = (
      fitting_field roles.one_return roles.identifier (text "RtrId") (worded brief roles.identifier (identifier_of m)) _ (identifier return_kind m c brief) refl refl refl,
      (
        record { named = refl; plays = refl; kind = refl; known = refl },
        (record { named = refl; plays = refl; kind = refl; known = refl }, (record { named = refl; plays = refl; kind = refl; known = refl }, (fitting_field roles.receiver_institution roles.receiver (text "BICFI") (worded brief roles.receiver (receiver_of m)) _ (receiver return_kind m c brief) refl refl refl, tt), tt), tt),
        (
          fitting_field roles.one_return roles.amount (text "RtrdIntrBkSttlmAmt") (euro_text (amount_of m)) _ (amount return_kind m c) refl refl refl,
          (
            fitting_field roles.one_return roles.original_amount (text "OrgnlIntrBkSttlmAmt") (euro_text (original_of m)) _ (original return_kind m c) refl refl refl,
            (
              record { named = refl; plays = refl; kind = refl; known = refl },
              (record { named = refl; plays = refl; kind = refl; known = refl }, (fitting_field roles.reason_group roles.reason (text "Cd") (worded brief roles.reason (reason_of m)) _ (reason return_kind m c brief) refl refl refl, tt), tt),
              (record { named = refl; plays = refl; kind = refl; known = refl }, (fitting_field roles.original_group roles.original_name (text "OrgnlMsgNmId") (worded brief roles.original_name (name_of m)) _ (name return_kind m c brief) refl refl refl, tt), tt),
            ),
          ),
        ),
      ),
    )

    pub return_back : message_in (one roles.one_return (text "TxInf") (return_of brief) m) ≡ m
    unfolding text_in
    return_back =
        together return_kind m c _ _ _ _ _ _
        (identifier return_kind m c brief).back (receiver return_kind m c brief).back ((amount return_kind m c).back ∙ amount_there return_kind m c)
        ((original return_kind m c).back ∙ original_there return_kind m c) (reason return_kind m c brief).back (name return_kind m c brief).back
