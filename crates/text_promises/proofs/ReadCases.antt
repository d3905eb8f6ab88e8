-- The statements over texts speak of something: a text of two documents, each spelt in its own way, is read as the sheet that the small
-- cases of the judge use, and the call on it is judged. Assumes nothing.
use mathlib.Core.Path.{◌≡◌, refl}
use mathlib.Core.List.{List, ◌++◌}
use Prim.Native.Nat.{ℕ}
use lib.ListN.{replicate}
use Rattle.wire.specs.Field.{text}
use Rattle.refusing.specs.Refusals.{refusal}
use Rattle.judging.proofs.Computing.{outcomes_compute}
use Rattle.text_promises.specs.Texts.{the_reader, ReadAs}
use Rattle.text_promises.proofs.Computing.{readings_compute}
use Rattle.promises.proofs.ShutOut.{both, call_on}

-- after a declaration, without a space that is not needed
abbrev first : List ℕ
first =
    text "<?xml version=\"1.0\" encoding=\"UTF-8\"?><Document><FIToFICstmrCdtTrf><GrpHdr><MsgId>D1</MsgId><NbOfTxs>1</NbOfTxs>"
    ++ text "<TtlIntrBkSttlmAmt Ccy=\"EUR\">0.01</TtlIntrBkSttlmAmt><IntrBkSttlmDt>2026-06-15</IntrBkSttlmDt>"
    ++ text "<SttlmInf><SttlmMtd>CLRG</SttlmMtd><ClrSys><Prtry>EKS</Prtry></ClrSys></SttlmInf>"
    ++ text "<InstgAgt><FinInstnId><BICFI>AAAALV22</BICFI></FinInstnId></InstgAgt></GrpHdr>"
    ++ text "<CdtTrfTxInf><PmtId><TxId>T1</TxId></PmtId><IntrBkSttlmAmt Ccy=\"EUR\">0.01</IntrBkSttlmAmt>"
    ++ text "<CdtrAgt><FinInstnId><BICFI>BBBBLV22</BICFI></FinInstnId></CdtrAgt></CdtTrfTxInf></FIToFICstmrCdtTrf></Document>"

-- with attributes, spaces, references, a section, elements that are stepped over, in another order
abbrev second : List ℕ
second =
    text " <Document xmlns='urn:x' >\n <FIToFICstmrCdtTrf><GrpHdr><CreDtTm>now</CreDtTm><NbOfTxS>01</NbOfTxS><MsgId>&#68;&#x32;</MsgId>"
    ++ text "<IntrBkSttlmDt>2026-06-15</IntrBkSttlmDt><TtlIntrBkSttlmAmt x='1' Ccy = '&#69;UR'>.01</TtlIntrBkSttlmAmt>"
    ++ text "<InstgAgt><FinInstnId><BICFI><![CDATA[AAAA]]>LV22</BICFI></FinInstnId></InstgAgt>"
    ++ text "<SttlmInf><ClrSys><Cd/><Prtry>EKS</Prtry></ClrSys><SttlmMtd>CLRG</SttlmMtd></SttlmInf></GrpHdr>"
    ++ text "<CdtTrfTxInf><Dbtr><Nm>A &amp; B</Nm></Dbtr><CdtrAgt><FinInstnId><BICFI>BBBBLV22XXX</BICFI></FinInstnId></CdtrAgt>"
    ++ text "<IntrBkSttlmAmt Ccy='EUR'>0.01</IntrBkSttlmAmt><PmtId><TxId>T2</TxId><EndToEndId>E</EndToEndId></PmtId></CdtTrfTxInf>"
    ++ text "</FIToFICstmrCdtTrf></Document>\n"

pub two_documents_read : ReadAs the_reader (first ++ second) both
unfolding outcomes_compute readings_compute
two_documents_read = record { space = replicate 400 7; was = refl; made = refl }

pub two_documents_judged : refusal (call_on both) ≡ 0
unfolding outcomes_compute
two_documents_judged = refl
