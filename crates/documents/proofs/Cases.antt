-- The definitions tried on small texts, one payment and one return. Assumes nothing.
use mathlib.Core.Path.{◌≡◌, refl}
use mathlib.Core.Bool.{true, false}
use mathlib.Core.List.{List, [], ◌∷◌, ◌++◌}
use lib.ListN.{replicate}
use Prim.Native.Nat.{ℕ}
use Prim.Native.String.{String}
use Rattle.wire.specs.Field.{text}
use Rattle.letters.specs.Characters.{width_of, width_at}
use Rattle.wording.specs.Wording.{kept}
use Rattle.paths.specs.Roles as roles
use Rattle.paths.specs.Table.{receiver_path, return_receiver_path}
use Rattle.fields.proofs.Computing.{fields_compute}
use Rattle.documents.specs.Spelling.{hexadecimally, hexadecimal_in, spelled_by, number_in, long_by, spelled_in, spelled, as_it_stands, by_numbers, by_names}
use Rattle.documents.specs.Brevity.{short_receiver, shortened, as_banks_write, in_full}
use Rattle.documents.specs.Markup.{written_to}
use Rattle.documents.specs.Amounts.{carried_amount, tenths_text, euro_text}
use Rattle.documents.specs.Carried.{characters_by, characters}
use Rattle.documents.specs.Documents.{each_of, documents, documents_of}
use Rattle.documents.proofs.Instances.{payments, returns}

unfoldable computes : Unit {0}
unfolding fields_compute width_of width_at hexadecimal_in spelled_by number_in long_by spelled_in spelled kept short_receiver shortened written_to tenths_text euro_text characters_by each_of documents documents_of
computes = tt

-- ---- spellings

stands : spelled as_it_stands (text "a<b]]>'") ≡ text "a&#60;b]]&#62;'"
unfolding computes
stands = refl

numbered : spelled by_numbers (text "A&") ≡ text "&#65;&#38;"
unfolding computes
numbered = refl

sixteenths : spelled (λ left. hexadecimally) (text "J>") ≡ text "&#x4A;&#x3E;"
unfolding computes
sixteenths = refl

named : spelled by_names (text "<>&'\"x") ≡ text "&lt;&gt;&amp;&apos;&quot;x"
unfolding computes
named = refl

-- letters of two, three and four bytes
longer : spelled by_numbers (65 ∷ 195 ∷ 164 ∷ []) ≡ text "&#65;&#228;"
unfolding computes
longer = refl

longest : spelled (λ left. hexadecimally) (226 ∷ 130 ∷ 172 ∷ 240 ∷ 159 ∷ 152 ∷ 128 ∷ []) ≡ text "&#x20AC;&#x1F600;"
unfolding computes
longest = refl

unchanged : spelled by_names (195 ∷ 164 ∷ 38 ∷ []) ≡ 195 ∷ 164 ∷ text "&amp;"
unfolding computes
unchanged = refl

-- ---- short texts

blanks : ℕ → List ℕ
blanks n = replicate n 32

trimmed_end : shortened roles.identifier (text " P 1" ++ blanks 31) ≡ text " P 1"
unfolding computes blanks
trimmed_end = refl

blank_all : shortened roles.original_name (blanks 15) ≡ []
unfolding computes blanks
blank_all = refl

head_office_lem : shortened roles.receiver (text "BBBBLV22XXX") ≡ text "BBBBLV22"
unfolding computes
head_office_lem = refl

-- by its eight bytes alone it would be another
no_office : shortened roles.receiver (text "BBBBLV22   ") ≡ text "BBBBLV22   "
unfolding computes
no_office = refl

seven : shortened roles.receiver (text "BBBBLV2    ") ≡ text "BBBBLV2"
unfolding computes
seven = refl

-- ---- what can be carried

carried : characters (9 ∷ 65 ∷ 195 ∷ 164 ∷ 32 ∷ []) ≡ true
unfolding computes
carried = refl

broken_off : characters (65 ∷ 195 ∷ []) ≡ false
unfolding computes
broken_off = refl

no_character : characters (65 ∷ 0 ∷ []) ≡ false
unfolding computes
no_character = refl

two_digits : euro_text 999999999999999999 ≡ text "9999999999999999.99"
unfolding computes
two_digits = refl

one_digit : euro_text 1000000000000000010 ≡ text "10000000000000000.1"
unfolding computes
one_digit = refl

no_digit : euro_text 18446744073709551600 ≡ text "184467440737095516"
unfolding computes
no_digit = refl

too_fine : carried_amount 1000000000000000001 ≡ false
too_fine = refl

too_fine_too : carried_amount 18446744073709551610 ≡ false
too_fine_too = refl

-- ---- documents

-- the element of a receiver, by its name in the table
opening : String → List ℕ
opening name = text "<" ++ text name ++ text ">"

closing : String → List ℕ
closing name = text "</" ++ text name ++ text ">"

-- in full
paid : documents_of (record { declared = true; spelling = by_names; brevity = in_full }) (payments ∷ [])
    ≡ text "<?xml version=\"1.0\" encoding=\"UTF-8\"?><Document><FIToFICstmrCdtTrf><GrpHdr>"
    ++ text "<MsgId>B&amp;1" ++ blanks 32 ++ text "</MsgId><NbOfTxs>1</NbOfTxs>"
    ++ text "<TtlIntrBkSttlmAmt Ccy=\"EUR\">2.50</TtlIntrBkSttlmAmt><IntrBkSttlmDt>2024-02-29</IntrBkSttlmDt>"
    ++ text "<SttlmInf><SttlmMtd>CLRG</SttlmMtd><ClrSys><Prtry>EKS</Prtry></ClrSys></SttlmInf>"
    ++ text "<InstgAgt><FinInstnId><BICFI>AAAALV22</BICFI></FinInstnId></InstgAgt></GrpHdr>"
    ++ text "<CdtTrfTxInf><PmtId><TxId>P1" ++ blanks 33 ++ text "</TxId></PmtId>"
    ++ opening receiver_path ++ text "<FinInstnId><BICFI>BBBBLV22   </BICFI></FinInstnId>" ++ closing receiver_path
    ++ text "<IntrBkSttlmAmt Ccy=\"EUR\">2.50</IntrBkSttlmAmt></CdtTrfTxInf></FIToFICstmrCdtTrf></Document>"
unfolding computes payments blanks opening closing
paid = refl

-- short, the receiver as a head office
returned : documents_of (record { declared = false; spelling = as_it_stands; brevity = as_banks_write }) (returns ∷ [])
    ≡ text "<Document><PmtRtr><GrpHdr><MsgId>B2</MsgId><NbOfTxs>1</NbOfTxs>"
    ++ text "<TtlRtrdIntrBkSttlmAmt Ccy=\"EUR\">1.99</TtlRtrdIntrBkSttlmAmt><IntrBkSttlmDt>2024-03-01</IntrBkSttlmDt>"
    ++ text "<SttlmInf><SttlmMtd>COVE</SttlmMtd><ClrSys><Prtry>OTHER</Prtry></ClrSys></SttlmInf>"
    ++ text "<InstgAgt><FinInstnId><BICFI>AAAALV22</BICFI></FinInstnId></InstgAgt><InstdAgt></InstdAgt></GrpHdr>"
    ++ text "<TxInf><RtrId>R1</RtrId>"
    ++ text "<OrgnlTxRef>" ++ opening return_receiver_path ++ text "<FinInstnId><BICFI>BBBBLV22</BICFI></FinInstnId>" ++ closing return_receiver_path ++ text "</OrgnlTxRef>"
    ++ text "<RtrdIntrBkSttlmAmt Ccy=\"EUR\">1.99</RtrdIntrBkSttlmAmt><OrgnlIntrBkSttlmAmt Ccy=\"EUR\">2.50</OrgnlIntrBkSttlmAmt>"
    ++ text "<RtrRsnInf><Rsn><Cd>AC01</Cd></Rsn></RtrRsnInf><OrgnlGrpInf><OrgnlMsgNmId>pacs.008.001.08</OrgnlMsgNmId></OrgnlGrpInf>"
    ++ text "</TxInf></PmtRtr></Document>"
unfolding computes returns opening closing
returned = refl
