-- Bulks written as documents: each needed element once, in the order of the table, and nothing more. Assumes nothing.
use Prim.Native.String.{String}
use Rattle.std.specs.Prelude.{ℕ, ◌/◌, ◌%◌, Bool, cond, List, [], ◌∷◌, ◌++◌, leb, eqb}
use Rattle.wire.specs.Field.{text}
use Rattle.sheet.specs.Sheet.{Bulk, payment_kind, kind_of, bulk_identifier_of, sender_of, stated_number_of, stated_sum_of, value_date_of, marks_of, identifier_of, receiver_of, amount_of, original_of, reason_of, name_of}
use Rattle.meanings.specs.Written.{decimal_text, date_text}
use Rattle.paths.specs.Roles as roles
use Rattle.paths.specs.Table.{receiver_path, return_receiver_path}
use Rattle.documents.specs.Spelling.{Spelling}
use Rattle.documents.specs.Brevity.{Brevity, worded}
use Rattle.documents.specs.Amounts.{euro_text}
use Rattle.documents.specs.Markup.{Markup, nothing, field, group, written_to}

-- a field that is kept as text, whole or short
abbrev pub text_field : Brevity → ℕ → String → List ℕ → Markup → Markup
text_field brief role name t rest = field role (text name) (worded brief role t) rest

-- ---- the header

-- the three marks: method CLRG, system EKS, a bulk recipient
abbrev pub clears : ℕ → Bool
clears marks = eqb (marks % 2) 1

abbrev pub own_system : ℕ → Bool
own_system marks = eqb (marks / 2 % 2) 1

abbrev pub received : ℕ → Bool
received marks = leb 4 marks

abbrev pub method_text : Bool → List ℕ
method_text clearing = cond clearing (text "CLRG") (text "COVE")

abbrev pub system_text : Bool → List ℕ
system_text own = cond own (text "EKS") (text "OTHER")

abbrev pub settled : Bool → Bool → Markup
settled clearing own =
    field roles.method (text "SttlmMtd") (method_text clearing)
    (group roles.clearing (text "ClrSys") (field roles.system (text "Prtry") (system_text own) nothing)
    nothing)

-- an institution by its BIC; the roles of the two elements go by whose it is
abbrev pub institution : Brevity → ℕ → ℕ → List ℕ → Markup
institution brief holder held bic = group holder (text "FinInstnId") (text_field brief held "BICFI" bic nothing) nothing

abbrev pub recipient_if : Bool → Markup
recipient_if there = cond there (group roles.recipient (text "InstdAgt") nothing nothing) nothing

-- the sum's element is named by the kind of the bulk
abbrev pub header_of : Brevity → String → List ℕ → Markup
header_of brief sum header =
    text_field brief roles.bulk_identifier "MsgId" (bulk_identifier_of header)
    (field roles.stated_number (text "NbOfTxs") (decimal_text (stated_number_of header))
    (field roles.stated_sum (text sum) (euro_text (stated_sum_of header))
    (field roles.value_date (text "IntrBkSttlmDt") (date_text (value_date_of header))
    (group roles.settlement (text "SttlmInf") (settled (clears (marks_of header)) (own_system (marks_of header)))
    (group roles.sender_agent (text "InstgAgt") (institution brief roles.sender_institution roles.sender (sender_of header))
    (recipient_if (received (marks_of header))))))))

-- ---- the messages

-- the receiver, in an element whose name goes by the kind, and what follows
abbrev pub receiver_then : Brevity → String → List ℕ → Markup → Markup
receiver_then brief path message rest = group roles.receiver_agent (text path) (institution brief roles.receiver_institution roles.receiver (receiver_of message)) rest

abbrev pub payment_of : Brevity → List ℕ → Markup
payment_of brief message =
    group roles.payment_identification (text "PmtId") (text_field brief roles.identifier "TxId" (identifier_of message) nothing)
    (receiver_then brief receiver_path message
    (field roles.amount (text "IntrBkSttlmAmt") (euro_text (amount_of message))
    nothing))

abbrev pub return_of : Brevity → List ℕ → Markup
return_of brief message =
    text_field brief roles.identifier "RtrId" (identifier_of message)
    (group roles.original_reference (text "OrgnlTxRef") (receiver_then brief return_receiver_path message nothing)
    (field roles.amount (text "RtrdIntrBkSttlmAmt") (euro_text (amount_of message))
    (field roles.original_amount (text "OrgnlIntrBkSttlmAmt") (euro_text (original_of message))
    (group roles.reason_information (text "RtrRsnInf") (group roles.reason_group (text "Rsn") (text_field brief roles.reason "Cd" (reason_of message) nothing) nothing)
    (group roles.original_group (text "OrgnlGrpInf") (text_field brief roles.original_name "OrgnlMsgNmId" (name_of message) nothing)
    nothing)))))

-- one element for each message, of a role and a name
unfoldable pub each_of : ℕ → List ℕ → (List ℕ → Markup) → List (List ℕ) → Markup
each_of role name inner [] = nothing
each_of role name inner (m ∷ ms) = group role name (inner m) (each_of role name inner ms)

-- ---- the documents

abbrev pub payments_of : Brevity → Bulk → Markup
payments_of brief bulk =
    group roles.payments (text "FIToFICstmrCdtTrf")
    (group roles.payments_header (text "GrpHdr") (header_of brief "TtlIntrBkSttlmAmt" bulk.header)
    (each_of roles.one_payment (text "CdtTrfTxInf") (payment_of brief) bulk.messages))
    nothing

abbrev pub returns_of : Brevity → Bulk → Markup
returns_of brief bulk =
    group roles.returns (text "PmtRtr")
    (group roles.returns_header (text "GrpHdr") (header_of brief "TtlRtrdIntrBkSttlmAmt" bulk.header)
    (each_of roles.one_return (text "TxInf") (return_of brief) bulk.messages))
    nothing

abbrev pub content_of : Brevity → Bulk → Markup
content_of brief bulk = cond (eqb (kind_of bulk.header) payment_kind) (payments_of brief bulk) (returns_of brief bulk)

unfoldable pub documents : Brevity → List Bulk → Markup
documents brief [] = nothing
documents brief (b ∷ bs) = group roles.document (text "Document") (content_of brief b) (documents brief bs)

abbrev pub declaration : List ℕ
declaration = text "<?xml version=\"1.0\" encoding=\"UTF-8\"?>"

-- what a writer is free to choose: a declaration in front or none, how characters are spelled, and which texts are written short
pub record Manner : Type 0 where
  pub declared : Bool
  pub spelling : Spelling
  pub brevity : Brevity

unfoldable pub documents_of : Manner → List Bulk → List ℕ
documents_of manner bulks = cond manner.declared declaration [] ++ written_to manner.spelling (documents manner.brevity bulks) []
