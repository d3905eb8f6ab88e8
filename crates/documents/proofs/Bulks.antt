-- One bulk: its document fits, lacks nothing, and comes back as the bulk. Assumes nothing.
use mathlib.Core.Path.{◌≡◌, refl, sym, ap, ◌∙◌}
use mathlib.Core.Bool.{Bool, true, false, cond, ◌||◌}
use mathlib.Core.List.{List, [], map, append-nil}
use Prim.Native.Nat.{ℕ, ◌+◌, ◌*◌}
use lib.Dec.{eqb}
use borrow.Author.Tests.{eqb-true}
use Rattle.wire.specs.Field.{text, bit, same}
use Rattle.sheet.specs.Sheet.{Bulk, payment_kind, return_kind, kind_of, bulk_identifier_of, sender_of, stated_number_of, stated_sum_of, value_date_of, marks_of}
use Rattle.tags.specs.Names.{name_start, name_byte}
use Rattle.meanings.specs.Written.{decimal_text, date_text}
use Rattle.paths.specs.Roles as roles
use Rattle.paths.specs.Table.{among, child_role, all_met, lacks}
use Rattle.fields.specs.Fields.{field_bytes, is_clearing, is_system}
use Rattle.documents.specs.Brevity.{Brevity, worded}
use Rattle.documents.specs.Amounts.{euro_text}
use Rattle.documents.specs.Markup.{Markup}
use Rattle.documents.specs.Carried.{CarriedHeader, CarriedMessages, CarriedBulk}
use Rattle.documents.specs.Documents.{clears, own_system, received, method_text, system_text, header_of, payment_of, return_of, each_of, payments_of, returns_of, content_of}
use Rattle.documents.proofs.Here.{all}
use Rattle.documents.proofs.Elements.{Fitting}
use Rattle.documents.proofs.Questions.{text_in, there_in, count_in, lack_in, messages_of, header_in, message_in}
use Rattle.documents.proofs.Each.{one, each_silent, each_absent, each_count, each_complete, each_messages, each_fits, each_back}
use Rattle.documents.proofs.Messages.{payment_complete, payment_below, payment_lone, payment_fits, payment_back, return_complete, return_below, return_lone, return_fits, return_back}
use Rattle.documents.proofs.Headers.{method_told, system_told, marks_back, recipient_silent, header_lone, header_there, header_no_payments, header_complete, header_complete_too, header_below, identifier, sender, number, total, date, header_together, header_fits}

-- ---- the texts of a header

pub record HeaderTexts (brief : Brevity) (w : Markup) (h : List ℕ) : Type 0 where
  pub identifier_is : text_in roles.bulk_identifier w [] ≡ worded brief roles.bulk_identifier (bulk_identifier_of h)
  pub number_is : text_in roles.stated_number w [] ≡ decimal_text (stated_number_of h)
  pub sum_is : text_in roles.stated_sum w [] ≡ euro_text (stated_sum_of h)
  pub date_is : text_in roles.value_date w [] ≡ date_text (value_date_of h)
  pub method_is : text_in roles.method w [] ≡ method_text (clears (marks_of h))
  pub system_is : text_in roles.system w [] ≡ system_text (own_system (marks_of h))
  pub sender_is : text_in roles.sender w [] ≡ worded brief roles.sender (sender_of h)
  pub recipient_is : there_in roles.recipient w false ≡ received (marks_of h)

texts_back : (brief : Brevity) (w : Markup) (h : List ℕ) → CarriedHeader h → HeaderTexts brief w h → cond (there_in roles.payments w false) payment_kind return_kind ≡ kind_of h → header_in w ≡ h
texts_back brief w h c texts kind =
    let marks : bit (is_clearing (text_in roles.method w [])) + 2 * bit (is_system (text_in roles.system w [])) + 4 * bit (there_in roles.recipient w false) ≡ marks_of h =
    rw (texts.method_is, texts.system_is, texts.recipient_is, method_told (clears (marks_of h)), system_told (own_system (marks_of h))) (marks_back (marks_of h) c.marks) in
    header_together h c _ _ _ _ _ _ _ kind
    (ap (field_bytes roles.bulk_identifier) texts.identifier_is ∙ (identifier h c brief).back)
    (ap (field_bytes roles.sender) texts.sender_is ∙ (sender h c brief).back)
    (ap (field_bytes roles.stated_number) texts.number_is ∙ (number h c).back)
    (ap (field_bytes roles.stated_sum) texts.sum_is ∙ (total h c).back)
    (ap (field_bytes roles.value_date) texts.date_is ∙ (date h c).back)
    marks

-- ---- what is shown of a document's content

pub record Told (b : Bulk) (w : Markup) : Type 0 where
  pub fits : Fitting 31 roles.document w
  pub own : lacks roles.document (count_in w) ≡ false
  pub below : lack_in w ≡ false
  pub header : header_in w ≡ b.header
  pub messages : map message_in (messages_of w) ≡ b.messages

-- ---- payments

module _ (brief : Brevity) (b : Bulk) (c : CarriedBulk b) (kind : kind_of b.header ≡ payment_kind) where
  abbrev h : List ℕ
  h = b.header

  abbrev each : Markup
  each = each_of roles.one_payment (text "CdtTrfTxInf") (payment_of brief) b.messages

  paid : CarriedMessages payment_kind b.messages
  paid = rw kind at c.messages

  silent : (k : ℕ) → ((m t : List ℕ) → text_in k (payment_of brief m) t ≡ t) → (t : List ℕ) → text_in k each t ≡ t
  silent k none t = each_silent roles.one_payment (text "CdtTrfTxInf") (payment_of brief) k none b.messages t

  payments_texts : HeaderTexts brief (payments_of brief b) h
  unfolding text_in there_in
  payments_texts =
      let r = received (marks_of h) in
      record {
        identifier_is = silent roles.bulk_identifier (λ m t. refl) _ ∙ recipient_silent roles.bulk_identifier r (worded brief roles.bulk_identifier (bulk_identifier_of h));
        number_is = silent roles.stated_number (λ m t. refl) _ ∙ recipient_silent roles.stated_number r (decimal_text (stated_number_of h));
        sum_is = silent roles.stated_sum (λ m t. refl) _ ∙ recipient_silent roles.stated_sum r (euro_text (stated_sum_of h));
        date_is = silent roles.value_date (λ m t. refl) _ ∙ recipient_silent roles.value_date r (date_text (value_date_of h));
        method_is = silent roles.method (λ m t. refl) _ ∙ recipient_silent roles.method r (method_text (clears (marks_of h)));
        system_is = silent roles.system (λ m t. refl) _ ∙ recipient_silent roles.system r (system_text (own_system (marks_of h)));
        sender_is = silent roles.sender (λ m t. refl) _ ∙ recipient_silent roles.sender r (worded brief roles.sender (sender_of h));
        recipient_is =
            each_absent roles.one_payment (text "CdtTrfTxInf") (payment_of brief) roles.recipient refl (λ m b. refl) b.messages (there_in roles.recipient (header_of brief "TtlIntrBkSttlmAmt" h) false)
            ∙ header_there brief "TtlIntrBkSttlmAmt" h;
      }

  payments_fit : Fitting 31 roles.document (payments_of brief b)
  unfolding Fitting name_start name_byte all child_role among same
  payments_fit = (
    record { named = refl; plays = refl; kind = refl; known = refl },
    (
      record { named = refl; plays = refl; kind = refl; known = refl },
      header_fits h c.header brief roles.payments_header "TtlIntrBkSttlmAmt" refl refl refl refl refl refl refl refl,
      each_fits roles.one_payment (text "CdtTrfTxInf") (payment_of brief) payment_kind 29 roles.payments (record { named = refl; plays = refl; kind = refl; known = refl }) (payment_fits brief) b.messages paid,
    ),
    tt,
  )

  payments_own : lacks roles.document (count_in (payments_of brief b)) ≡ false
  unfolding lacks all_met count_in
  payments_own = refl

  payments_below : lack_in (payments_of brief b) ≡ false
  unfolding lack_in lacks all_met count_in
  payments_below =
      rw (
        each_count roles.one_payment (text "CdtTrfTxInf") (payment_of brief) roles.payments_header refl b.messages,
        header_complete brief "TtlIntrBkSttlmAmt" h,
        header_below brief "TtlIntrBkSttlmAmt" h,
        each_complete roles.one_payment (text "CdtTrfTxInf") (payment_of brief) (payment_complete brief) (payment_below brief) b.messages,
      )

  payments_messages : map message_in (messages_of (payments_of brief b)) ≡ b.messages
  unfolding messages_of
  payments_messages =
      rw (header_lone brief "TtlIntrBkSttlmAmt" h, each_messages roles.one_payment (text "CdtTrfTxInf") (payment_of brief) refl (payment_lone brief) b.messages, append-nil (map (one roles.one_payment (text "CdtTrfTxInf") (payment_of brief)) b.messages))
      (each_back roles.one_payment (text "CdtTrfTxInf") (payment_of brief) payment_kind (payment_back brief) b.messages paid)

  payments_told : Told b (payments_of brief b)
  unfolding there_in
  payments_told = record {
    fits = payments_fit;
    own = payments_own;
    below = payments_below;
    header = texts_back brief (payments_of brief b) h c.header payments_texts (sym kind);
    messages = payments_messages;
  }

-- ---- returns

module _ (brief : Brevity) (b : Bulk) (c : CarriedBulk b) (kind : kind_of b.header ≡ return_kind) where
  abbrev head : List ℕ
  head = b.header

  abbrev every : Markup
  every = each_of roles.one_return (text "TxInf") (return_of brief) b.messages

  returned : CarriedMessages return_kind b.messages
  returned = rw kind at c.messages

  hushed : (k : ℕ) → ((m t : List ℕ) → text_in k (return_of brief m) t ≡ t) → (t : List ℕ) → text_in k every t ≡ t
  hushed k none t = each_silent roles.one_return (text "TxInf") (return_of brief) k none b.messages t

  returns_texts : HeaderTexts brief (returns_of brief b) head
  unfolding text_in there_in
  returns_texts =
      let r = received (marks_of head) in
      record {
        identifier_is = hushed roles.bulk_identifier (λ m t. refl) _ ∙ recipient_silent roles.bulk_identifier r (worded brief roles.bulk_identifier (bulk_identifier_of head));
        number_is = hushed roles.stated_number (λ m t. refl) _ ∙ recipient_silent roles.stated_number r (decimal_text (stated_number_of head));
        sum_is = hushed roles.stated_sum (λ m t. refl) _ ∙ recipient_silent roles.stated_sum r (euro_text (stated_sum_of head));
        date_is = hushed roles.value_date (λ m t. refl) _ ∙ recipient_silent roles.value_date r (date_text (value_date_of head));
        method_is = hushed roles.method (λ m t. refl) _ ∙ recipient_silent roles.method r (method_text (clears (marks_of head)));
        system_is = hushed roles.system (λ m t. refl) _ ∙ recipient_silent roles.system r (system_text (own_system (marks_of head)));
        sender_is = hushed roles.sender (λ m t. refl) _ ∙ recipient_silent roles.sender r (worded brief roles.sender (sender_of head));
        recipient_is =
            each_absent roles.one_return (text "TxInf") (return_of brief) roles.recipient refl (λ m b. refl) b.messages (there_in roles.recipient (header_of brief "TtlRtrdIntrBkSttlmAmt" head) false)
            ∙ header_there brief "TtlRtrdIntrBkSttlmAmt" head;
      }

  returns_fit : Fitting 31 roles.document (returns_of brief b)
  unfolding Fitting name_start name_byte all child_role among same
  returns_fit = (
    record { named = refl; plays = refl; kind = refl; known = refl },
    (
      record { named = refl; plays = refl; kind = refl; known = refl },
      header_fits head c.header brief roles.returns_header "TtlRtrdIntrBkSttlmAmt" refl refl refl refl refl refl refl refl,
      each_fits roles.one_return (text "TxInf") (return_of brief) return_kind 29 roles.returns (record { named = refl; plays = refl; kind = refl; known = refl }) (return_fits brief) b.messages returned,
    ),
    tt,
  )

  returns_own : lacks roles.document (count_in (returns_of brief b)) ≡ false
  unfolding lacks all_met count_in
  returns_own = refl

  returns_below : lack_in (returns_of brief b) ≡ false
  unfolding lack_in lacks all_met count_in
  returns_below =
      rw (
        each_count roles.one_return (text "TxInf") (return_of brief) roles.returns_header refl b.messages,
        header_complete_too brief "TtlRtrdIntrBkSttlmAmt" head,
        header_below brief "TtlRtrdIntrBkSttlmAmt" head,
        each_complete roles.one_return (text "TxInf") (return_of brief) (return_complete brief) (return_below brief) b.messages,
      )

  returns_messages : map message_in (messages_of (returns_of brief b)) ≡ b.messages
  unfolding messages_of
  returns_messages =
      rw (header_lone brief "TtlRtrdIntrBkSttlmAmt" head, each_messages roles.one_return (text "TxInf") (return_of brief) refl (return_lone brief) b.messages, append-nil (map (one roles.one_return (text "TxInf") (return_of brief)) b.messages))
      (each_back roles.one_return (text "TxInf") (return_of brief) return_kind (return_back brief) b.messages returned)

  returned_kind : cond (there_in roles.payments (returns_of brief b) false) payment_kind return_kind ≡ kind_of head
  unfolding there_in
  returned_kind =
      let none =
      each_absent roles.one_return (text "TxInf") (return_of brief) roles.payments refl (λ m b. refl) b.messages (there_in roles.payments (header_of brief "TtlRtrdIntrBkSttlmAmt" head) false)
      ∙ header_no_payments brief "TtlRtrdIntrBkSttlmAmt" head in
      ap (λ (t : Bool). cond t payment_kind return_kind) none ∙ sym kind

  returns_told : Told b (returns_of brief b)
  unfolding there_in
  returns_told = record {
    fits = returns_fit;
    own = returns_own;
    below = returns_below;
    header = texts_back brief (returns_of brief b) head c.header returns_texts returned_kind;
    messages = returns_messages;
  }

-- ---- either

pub bulk_told : (brief : Brevity) (b : Bulk) → CarriedBulk b → Told b (content_of brief b)
bulk_told brief b c = by_kind (eqb (kind_of b.header) payment_kind) refl
  where
    known : (t u : Bool) → t ≡ false → (t || u) ≡ true → u ≡ true
    known t u e h = rw e at h

    by_kind : (t : Bool) → eqb (kind_of b.header) payment_kind ≡ t → Told b (cond t (payments_of brief b) (returns_of brief b))
    by_kind true e = payments_told brief b c (eqb-true (kind_of b.header) payment_kind e)
    by_kind false e =
        returns_told brief b c (eqb-true (kind_of b.header) return_kind (known (eqb (kind_of b.header) payment_kind) (eqb (kind_of b.header) return_kind) e c.header.kind))
