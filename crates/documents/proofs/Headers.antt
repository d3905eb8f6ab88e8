-- One header: its elements fit, lack nothing, and come back as the header. Assumes nothing.
use mathlib.Core.Path.{◌≡◌, refl}
use mathlib.Core.Bool.{Bool, true, false}
use mathlib.Core.List.{List, [], ◌++◌}
use Prim.Native.String.{String}
use Prim.Native.Nat.{ℕ, ◌+◌, ◌*◌, ◌≤◌, ◌<◌}
use native.Mathlib.Omega.{arith}
use lib.Dec.{eqb, lit≤}
use lib.Seq.{take_all}
use Rattle.wire.specs.Field.{text, part, number_of, bytes_of, bit, same}
use Rattle.wire.specs.Places.{every_from}
use Rattle.wire.proofs.Scans.{every_holds}
use Rattle.wire.proofs.Numbers.{number_small_lem}
use Rattle.sheet.specs.Sheet.{kind_of, bulk_identifier_of, sender_of, stated_number_of, stated_sum_of, value_date_of, marks_of}
use Rattle.sheet.proofs.Fields.{bulk_identifier_long, sender_long}
use Rattle.letters.specs.Characters.{width_of, width_at}
use Rattle.tags.specs.Names.{name_start, name_byte}
use Rattle.meanings.specs.Written.{decimal_text, date_text}
use Rattle.paths.specs.Roles as roles
use Rattle.paths.specs.Table.{among, child_role, all_met, lacks}
use Rattle.fields.specs.Fields.{fits, is_clearing, is_system}
use borrow.Author.Tests.{eqb-true}
use Rattle.documents.specs.Brevity.{Brevity, worded}
use Rattle.documents.specs.Amounts.{euro_text}
use Rattle.documents.specs.Markup.{Markup, nothing, field, group}
use Rattle.documents.specs.Carried.{characters_by, characters, CarriedHeader}
use Rattle.documents.specs.Documents.{clears, own_system, received, method_text, system_text, recipient_if, header_of}
use Rattle.documents.proofs.Here.{all}
use Rattle.documents.proofs.Tags.{is_name}
use Rattle.documents.proofs.Elements.{Fitting}
use Rattle.documents.proofs.Questions.{text_in, there_in, count_in, lack_in, messages_of}
use Rattle.documents.proofs.Fields.{Carries, number_back, part_then, number_carries, sum_carries, date_carries}
use Rattle.documents.proofs.Worded.{bulk_identifier_carries, sender_carries}
use Rattle.documents.proofs.Messages.{fitting_field}

-- ---- the marks

method_characters : (b : Bool) → characters (method_text b) ≡ true
unfolding characters_by width_at width_of
method_characters true = refl
method_characters false = refl

system_characters : (b : Bool) → characters (system_text b) ≡ true
unfolding characters_by width_at width_of
system_characters true = refl
system_characters false = refl

pub method_told : (b : Bool) → is_clearing (method_text b) ≡ b
unfolding is_clearing same
method_told true = refl
method_told false = refl

pub system_told : (b : Bool) → is_system (system_text b) ≡ b
unfolding is_system same
system_told true = refl
system_told false = refl

abbrev marked : ℕ → ℕ
marked marks = bit (clears marks) + 2 * bit (own_system marks) + 4 * bit (received marks)

every_marked : every_from (λ marks. eqb (marked marks) marks) 8 0 ≡ true
unfolding every_from
every_marked = refl

pub marks_back : (marks : ℕ) → marks < 8 → marked marks ≡ marks
marks_back marks h = eqb-true (marked marks) marks (every_holds (λ k. eqb (marked k) k) 8 0 marks every_marked (omega arith) (omega arith))

-- ---- a bulk recipient or none

pub recipient_silent : (k : ℕ) (b : Bool) (t : List ℕ) → text_in k (recipient_if b) t ≡ t
unfolding text_in
recipient_silent k true t = refl
recipient_silent k false t = refl

recipient_fits : (parent : ℕ) → child_role parent (text "InstdAgt") ≡ roles.recipient → (b : Bool) → Fitting 29 parent (recipient_if b)
unfolding Fitting name_start name_byte all
recipient_fits parent plays true = (record { named = refl; plays = plays; kind = refl; known = refl }, tt, tt)
recipient_fits parent plays false = tt

-- ---- the header's elements, with anything behind them

abbrev headed : Brevity → String → List ℕ → Markup → Markup
headed brief sum h rest =
    field roles.bulk_identifier (text "MsgId") (worded brief roles.bulk_identifier (bulk_identifier_of h))
    (field roles.stated_number (text "NbOfTxs") (decimal_text (stated_number_of h))
    (field roles.stated_sum (text sum) (euro_text (stated_sum_of h))
    (field roles.value_date (text "IntrBkSttlmDt") (date_text (value_date_of h))
    (group roles.settlement (text "SttlmInf")
    (field roles.method (text "SttlmMtd") (method_text (clears (marks_of h)))
    (group roles.clearing (text "ClrSys") (field roles.system (text "Prtry") (system_text (own_system (marks_of h))) nothing) nothing))
    (group roles.sender_agent (text "InstgAgt")
    (group roles.sender_institution (text "FinInstnId") (field roles.sender (text "BICFI") (worded brief roles.sender (sender_of h)) nothing) nothing)
    rest)))))

module _ (brief : Brevity) (sum : String) (h : List ℕ) where
  pub header_lone : messages_of (header_of brief sum h) ≡ []
  unfolding messages_of
  header_lone = by_recipient (received (marks_of h))
    where
      by_recipient : (b : Bool) → messages_of (headed brief sum h (recipient_if b)) ≡ []
      by_recipient true = refl
      by_recipient false = refl

  pub header_there : there_in roles.recipient (header_of brief sum h) false ≡ received (marks_of h)
  unfolding there_in
  header_there = by_recipient (received (marks_of h))
    where
      by_recipient : (b : Bool) → there_in roles.recipient (headed brief sum h (recipient_if b)) false ≡ b
      by_recipient true = refl
      by_recipient false = refl

  pub header_no_payments : there_in roles.payments (header_of brief sum h) false ≡ false
  unfolding there_in
  header_no_payments = by_recipient (received (marks_of h))
    where
      by_recipient : (b : Bool) → there_in roles.payments (headed brief sum h (recipient_if b)) false ≡ false
      by_recipient true = refl
      by_recipient false = refl

  pub header_complete : lacks roles.payments_header (count_in (header_of brief sum h)) ≡ false
  unfolding lacks all_met count_in
  header_complete = by_recipient (received (marks_of h))
    where
      by_recipient : (b : Bool) → lacks roles.payments_header (count_in (headed brief sum h (recipient_if b))) ≡ false
      by_recipient true = refl
      by_recipient false = refl

  pub header_complete_too : lacks roles.returns_header (count_in (header_of brief sum h)) ≡ false
  unfolding lacks all_met count_in
  header_complete_too = by_recipient (received (marks_of h))
    where
      by_recipient : (b : Bool) → lacks roles.returns_header (count_in (headed brief sum h (recipient_if b))) ≡ false
      by_recipient true = refl
      by_recipient false = refl

  pub header_below : lack_in (header_of brief sum h) ≡ false
  unfolding lack_in lacks all_met count_in
  header_below = by_recipient (received (marks_of h))
    where
      by_recipient : (b : Bool) → lack_in (headed brief sum h (recipient_if b)) ≡ false
      by_recipient true = refl
      by_recipient false = refl

-- ---- the header's fields

module _ (h : List ℕ) (c : CarriedHeader h) where
  pub identifier : (brief : Brevity) → Carries roles.bulk_identifier (worded brief roles.bulk_identifier (bulk_identifier_of h)) (bulk_identifier_of h)
  identifier brief = bulk_identifier_carries brief (bulk_identifier_of h) c.identifier (bulk_identifier_long h c.width)

  pub sender : (brief : Brevity) → Carries roles.sender (worded brief roles.sender (sender_of h)) (sender_of h)
  sender brief = sender_carries brief (sender_of h) c.sender (sender_long h c.width)

  pub number : Carries roles.stated_number (decimal_text (stated_number_of h)) (bytes_of 8 (stated_number_of h))
  number = number_carries (stated_number_of h) c.number

  pub total : Carries roles.stated_sum (euro_text (stated_sum_of h)) (bytes_of 8 (stated_sum_of h))
  total = sum_carries (stated_sum_of h) c.sum (number_small_lem h 52 8 c.bytes)

  pub date : Carries roles.value_date (date_text (value_date_of h)) (bytes_of 4 (value_date_of h))
  date = date_carries (value_date_of h) c.date

  number_there : (at w : ℕ) → at + w ≤ 65 → bytes_of w (number_of (part h at w)) ≡ part h at w
  number_there at w fits = number_back h at w c.bytes (omega (arith, c.width))

  header_parts : part h 0 1 ++ part h 1 35 ++ part h 36 8 ++ part h 44 8 ++ part h 52 8 ++ part h 60 4 ++ part h 64 1 ≡ h
  header_parts =
      rw (part_then h 0 1 35, part_then h 0 36 8, part_then h 0 44 8, part_then h 0 52 8, part_then h 0 60 4, part_then h 0 64 1) (take_all 65 h (omega (arith, c.width)))

  -- its bytes from the kind, what its fields' texts become, and the marks
  pub header_together : (kind : ℕ) (i s n t d : List ℕ) (marks : ℕ) → kind ≡ kind_of h → i ≡ bulk_identifier_of h → s ≡ sender_of h
      → n ≡ bytes_of 8 (stated_number_of h) → t ≡ bytes_of 8 (stated_sum_of h) → d ≡ bytes_of 4 (value_date_of h) → marks ≡ marks_of h
      → bytes_of 1 kind ++ i ++ s ++ n ++ t ++ d ++ bytes_of 1 marks ≡ h
  header_together kind i s n t d marks p q r u v x y =
      rw (p, q, r, u, v, x, y, number_there 0 1 (lit≤ tt), number_there 44 8 (lit≤ tt), number_there 52 8 (lit≤ tt), number_there 60 4 (lit≤ tt), number_there 64 1 (lit≤ tt)) header_parts

  -- ---- they fit, where the table names them

  pub header_fits : (brief : Brevity) (parent : ℕ) (sum : String)
      → child_role parent (text "MsgId") ≡ roles.bulk_identifier
      → child_role parent (text "NbOfTxs") ≡ roles.stated_number
      → is_name (text sum) ≡ true
      → child_role parent (text sum) ≡ roles.stated_sum
      → child_role parent (text "IntrBkSttlmDt") ≡ roles.value_date
      → child_role parent (text "SttlmInf") ≡ roles.settlement
      → child_role parent (text "InstgAgt") ≡ roles.sender_agent
      → child_role parent (text "InstdAgt") ≡ roles.recipient
      → Fitting 29 parent (header_of brief sum h)
  unfolding Fitting name_start name_byte all child_role among same fits
  header_fits brief parent sum a b named d e f g k = (
    fitting_field parent roles.bulk_identifier (text "MsgId") (worded brief roles.bulk_identifier (bulk_identifier_of h)) _ (identifier brief) refl a refl,
    (
      fitting_field parent roles.stated_number (text "NbOfTxs") (decimal_text (stated_number_of h)) _ number refl b refl,
      (
        fitting_field parent roles.stated_sum (text sum) (euro_text (stated_sum_of h)) _ total named d refl,
        (
          fitting_field parent roles.value_date (text "IntrBkSttlmDt") (date_text (value_date_of h)) _ date refl e refl,
          (
            record { named = refl; plays = f; kind = refl; known = refl },
            (
              record { named = refl; plays = refl; kind = refl; carried = method_characters (clears (marks_of h)); form = refl },
              (
                record { named = refl; plays = refl; kind = refl; known = refl },
                (record { named = refl; plays = refl; kind = refl; carried = system_characters (own_system (marks_of h)); form = refl }, tt),
                tt,
              ),
            ),
            (
              record { named = refl; plays = g; kind = refl; known = refl },
              (record { named = refl; plays = refl; kind = refl; known = refl }, (fitting_field roles.sender_institution roles.sender (text "BICFI") (worded brief roles.sender (sender_of h)) _ (sender brief) refl refl refl, tt), tt),
              recipient_fits parent k (received (marks_of h)),
            ),
          ),
        ),
      ),
    ),
  )
