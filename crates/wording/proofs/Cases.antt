-- The tests of texts tried on cases, before any code: one table, one statement. Assumes nothing.
use mathlib.Core.Path.{◌≡◌, refl}
use mathlib.Core.Bool.{Bool, true, false}
use mathlib.Core.List.{List, [], ◌∷◌, ◌++◌, map}
use Prim.Native.Nat.{ℕ, ◌-◌}
use Prim.Native.String.{String}
use lib.ListN.{length, replicate}
use Rattle.wire.specs.Field.{text}
use Rattle.wording.specs.Wording.{badly_formed, bic_formed, blank, one_of, reasons, answers_cancellation, names}
use Rattle.wording.proofs.Computing.{wording_computes}

-- what a test says of a text, and what it has to say
record Case : Type 0 where
  says : Bool
  right : Bool

padded : ℕ → List ℕ → List ℕ
padded n s = s ++ replicate (n - length s) 32

-- an identifier in its field of 35 bytes
good : String → Case
good s = record { says = badly_formed (padded 35 (text s)); right = false }

bad : String → Case
bad s = record { says = badly_formed (padded 35 (text s)); right = true }

-- one with this byte between two letters
bad_amid : ℕ → Case
bad_amid b = record { says = badly_formed (padded 35 (65 ∷ b ∷ 66 ∷ [])); right = true }

bic : String → Bool → Case
bic s r = record { says = bic_formed (text s); right = r }

blanks : String → Bool → Case
blanks s r = record { says = blank (text s); right = r }

reason : String → Bool → Case
reason s r = record { says = one_of (text s) reasons; right = r }

cancellation : String → Bool → Case
cancellation s r = record { says = answers_cancellation (text s); right = r }

name : String → Bool → Case
name s r = record { says = one_of (text s) names; right = r }

cases : List Case
cases =
    -- slashes: none first, none last, no two together
    good "A/B" ∷ good "A/B/C" ∷ bad "/A" ∷ bad "A/" ∷ bad "A//B" ∷ bad "A///B" ∷ bad "/"
    -- spaces: inside, first, only
    ∷ good "A B" ∷ good "A  B" ∷ good "A / B" ∷ bad " A" ∷ bad "A /" ∷ bad "" ∷ bad " "
    -- from 1 to 35 characters
    ∷ good "A" ∷ good "ABCDEFGHIJKLMNOPQRSTUVWXYZ012345678" ∷ bad "ABCDEFGHIJKLMNOPQRSTUVWXYZ01234567/"
    ∷ bad "ABCDEFGHIJKLMNOPQRSTUVWXYZ0123456789"
    -- every mark, and both ends of the letters and digits
    ∷ good "A/B-C?D:E(F)G.H,I'J+K" ∷ good "-?:().,'+" ∷ good "AZ" ∷ good "az" ∷ good "09"
    -- any other byte, the neighbours of each run among them
    ∷ bad_amid 0 ∷ bad_amid 31 ∷ bad_amid 33 ∷ bad_amid 38 ∷ bad_amid 42 ∷ bad_amid 59 ∷ bad_amid 62 ∷ bad_amid 64 ∷ bad_amid 91
    ∷ bad_amid 96 ∷ bad_amid 123 ∷ bad_amid 127 ∷ bad_amid 200 ∷ bad_amid 255
    -- a digit stands anywhere in a BIC but at places 4 and 5
    ∷ bic "AAAALV22XXX" true ∷ bic "ZZZZZZZZZZZ" true ∷ bic "1AAALV22XXX" true ∷ bic "0000LV99999" true
    ∷ bic "AAAA1V22XXX" false ∷ bic "AAAAL122XXX" false
    -- nothing else stands anywhere
    ∷ bic "aAAALV22XXX" false ∷ bic "AAAAlV22XXX" false ∷ bic "AAAALV22XXx" false ∷ bic "AAA LV22XXX" false
    ∷ bic "AAAA V22XXX" false ∷ bic "AAAALV22XX " false ∷ bic "AAAALV2/XXX" false ∷ bic "AAAALV2:XXX" false
    ∷ bic "AAAALV2@XXX" false ∷ bic "AAAALV2[XXX" false
    -- of 11 characters only
    ∷ bic "" false ∷ bic "AAAALV22" false ∷ bic "AAAALV22XX" false ∷ bic "AAAALV22XXXX" false
    -- blanks
    ∷ blanks "" true ∷ blanks "    " true ∷ blanks "   A" false ∷ blanks "A   " false
    -- the reasons, and their likes
    ∷ reason "AC01" true ∷ reason "AC04" true ∷ reason "AC06" true ∷ reason "AG01" true ∷ reason "AG02" true
    ∷ reason "AM05" true ∷ reason "BE04" true ∷ reason "CNOR" true ∷ reason "FOCR" true ∷ reason "MD07" true
    ∷ reason "MS02" true ∷ reason "MS03" true ∷ reason "RC01" true ∷ reason "RR01" true ∷ reason "RR02" true
    ∷ reason "RR03" true ∷ reason "RR04" true ∷ reason "AC02" false ∷ reason "    " false ∷ reason "ac01" false
    ∷ reason "AC0" false ∷ reason "AC010" false ∷ reason "RR05" false ∷ reason "" false
    -- the one that answers a cancellation request
    ∷ cancellation "FOCR" true ∷ cancellation "FOCS" false ∷ cancellation "focr" false ∷ cancellation "FOC" false
    ∷ cancellation "FOCRX" false ∷ cancellation "    " false ∷ cancellation "AC01" false
    -- the names, and their likes
    ∷ name "pacs.008.001.08" true ∷ name "pacs.008.001.02" true ∷ name "pacs.008.001.03" false
    ∷ name "               " false ∷ name "pacs.004.001.02" false ∷ name "pacs.008.001.0" false
    ∷ name "PACS.008.001.08" false
    ∷ []

cases_right : map (λ c. c.says) cases ≡ map (λ c. c.right) cases
unfolding wording_computes cases good bad bad_amid padded bic blanks reason cancellation name
cases_right = refl
