-- The table of needed elements: in an element of one role, a child of a name plays another. Assumes nothing.
use Rattle.std.specs.Prelude.{ℕ, Bool, true, cond, not, ◌&&◌, ◌||◌, List, [], ◌∷◌, eqb}
use Prim.Native.String.{String}
use Rattle.wire.specs.Field.{text, same}
use Rattle.paths.specs.Roles as roles

pub record Row : Type 0 where
  pub parent : ℕ
  pub name : List ℕ
  pub role : ℕ

abbrev pub row : ℕ → String → ℕ → Row
row parent name role = record { parent = parent; name = text name; role = role }

-- the element that holds the BIC of a payment's receiver: the creditor's agent (002, section 4.5)
abbrev pub receiver_path : String
receiver_path = "CdtrAgt"

-- the same of a return, in the reference to the original
abbrev pub return_receiver_path : String
return_receiver_path = "CdtrAgt"

abbrev pub rows : List Row
rows =
    row roles.document "FIToFICstmrCdtTrf" roles.payments
    ∷ row roles.document "PmtRtr" roles.returns
    ∷ row roles.payments "GrpHdr" roles.payments_header
    ∷ row roles.payments "CdtTrfTxInf" roles.one_payment
    ∷ row roles.returns "GrpHdr" roles.returns_header
    ∷ row roles.returns "TxInf" roles.one_return
    ∷ row roles.payments_header "MsgId" roles.bulk_identifier
    ∷ row roles.payments_header "NbOfTxS" roles.stated_number
    ∷ row roles.payments_header "NbOfTxs" roles.stated_number
    ∷ row roles.payments_header "TtlIntrBkSttlmAmt" roles.stated_sum
    ∷ row roles.payments_header "IntrBkSttlmDt" roles.value_date
    ∷ row roles.payments_header "SttlmInf" roles.settlement
    ∷ row roles.payments_header "InstgAgt" roles.sender_agent
    ∷ row roles.payments_header "InstdAgt" roles.recipient
    ∷ row roles.returns_header "MsgId" roles.bulk_identifier
    ∷ row roles.returns_header "NbOfTxS" roles.stated_number
    ∷ row roles.returns_header "NbOfTxs" roles.stated_number
    ∷ row roles.returns_header "TtlRtrdIntrBkSttlmAmt" roles.stated_sum
    ∷ row roles.returns_header "IntrBkSttlmDt" roles.value_date
    ∷ row roles.returns_header "SttlmInf" roles.settlement
    ∷ row roles.returns_header "InstgAgt" roles.sender_agent
    ∷ row roles.returns_header "InstdAgt" roles.recipient
    ∷ row roles.settlement "SttlmMtd" roles.method
    ∷ row roles.settlement "ClrSys" roles.clearing
    ∷ row roles.clearing "Prtry" roles.system
    ∷ row roles.sender_agent "FinInstnId" roles.sender_institution
    ∷ row roles.sender_institution "BICFI" roles.sender
    ∷ row roles.one_payment "PmtId" roles.payment_identification
    ∷ row roles.one_payment "IntrBkSttlmAmt" roles.amount
    ∷ row roles.one_payment receiver_path roles.receiver_agent
    ∷ row roles.payment_identification "TxId" roles.identifier
    ∷ row roles.receiver_agent "FinInstnId" roles.receiver_institution
    ∷ row roles.receiver_institution "BICFI" roles.receiver
    ∷ row roles.one_return "RtrId" roles.identifier
    ∷ row roles.one_return "OrgnlGrpInf" roles.original_group
    ∷ row roles.one_return "OrgnlIntrBkSttlmAmt" roles.original_amount
    ∷ row roles.one_return "RtrdIntrBkSttlmAmt" roles.amount
    ∷ row roles.one_return "RtrRsnInf" roles.reason_information
    ∷ row roles.one_return "OrgnlTxRef" roles.original_reference
    ∷ row roles.original_group "OrgnlMsgNmId" roles.original_name
    ∷ row roles.reason_information "Rsn" roles.reason_group
    ∷ row roles.reason_group "Cd" roles.reason
    ∷ row roles.original_reference return_receiver_path roles.receiver_agent
    ∷ []

-- ---- which role a child plays

-- the row is about a child of that name there
abbrev pub about : Row → ℕ → List ℕ → Bool
about r parent name = eqb r.parent parent && same name r.name

unfoldable pub among : List Row → ℕ → List ℕ → ℕ
among [] parent name = roles.other
among (r ∷ rs) parent name = cond (about r parent name) r.role (among rs parent name)

-- the child of a name, in an element of a role
unfoldable pub child_role : ℕ → List ℕ → ℕ
child_role parent name = among rows parent name

-- what a header's children of that name play, whatever the sum is called there
abbrev pub header_role : List ℕ → List ℕ → ℕ
header_role sum name =
    cond (same name (text "MsgId")) roles.bulk_identifier
    (cond (same name (text "NbOfTxS")) roles.stated_number
    (cond (same name (text "NbOfTxs")) roles.stated_number
    (cond (same name sum) roles.stated_sum
    (cond (same name (text "IntrBkSttlmDt")) roles.value_date
    (cond (same name (text "SttlmInf")) roles.settlement
    (cond (same name (text "InstgAgt")) roles.sender_agent
    (cond (same name (text "InstdAgt")) roles.recipient roles.other)))))))

unfoldable pub root_role : List ℕ → ℕ
root_role name = cond (same name (text "Document")) roles.document roles.stranger

-- ---- what an element lacks

-- messages may stand any number of times, and a bulk recipient may be missing
abbrev pub free : ℕ → Bool
free role = roles.is_message role || eqb role roles.recipient

-- a row is of another parent, is free, or one child counts as its role
abbrev pub met : (ℕ → ℕ) → Row → ℕ → Bool
met count r parent = not (eqb r.parent parent) || free r.role || eqb (count (roles.counts_as r.role)) 1

unfoldable pub all_met : (ℕ → ℕ) → List Row → ℕ → Bool
all_met count [] parent = true
all_met count (r ∷ rs) parent = met count r parent && all_met count rs parent

-- something needed is missing or stands twice, as the counts by role tell; what should have been a document lacks it
unfoldable pub lacks : ℕ → (ℕ → ℕ) → Bool
lacks role count = eqb role roles.stranger || not (all_met count rows role)
