-- The facts against a bulk, each of the fields that it looks at and no more. Assumes nothing.
use Rattle.std.specs.Prelude.{ℕ, Bool, not, List, eqb}
use Rattle.std.proofs.Math.Option.{Option}
use Rattle.opendays.specs.OpenDay.{open_day}
use Rattle.routing.specs.Lookup.{participates}
use Rattle.register.specs.Register.{key, stands}
use Rattle.rules.specs.declared.Terms.{Terms}

-- the marks are bit 0 CLRG, bit 1 EKS, bit 2 a bulk recipient: the first two and no other make 3
abbrev pub marks_wrong : ℕ → Bool
marks_wrong marks = not (eqb marks 3)

-- the sender has no counting row, or its first one is no participant's
abbrev pub no_participant : List ℕ → Option ℕ → Bool
no_participant table row = not (participates table row)

-- the value date is not the call's
abbrev pub date_wrong : Terms → ℕ → Bool
date_wrong terms date = not (eqb date terms.date)

-- the key of sender, identifier and tag is in the register: a bulk's here, a message's among its facts
abbrev pub repeated : List ℕ → List ℕ → List ℕ → ℕ → Bool
repeated register sender identifier tag = stands register (key sender identifier tag)

-- the value date is no open day, whatever the call's date is
abbrev pub date_closed : ℕ → Bool
date_closed date = not (open_day date)

-- no messages
abbrev pub empty : ℕ → Bool
empty number = eqb number 0

-- the stated number is not the actual
abbrev pub number_wrong : ℕ → ℕ → Bool
number_wrong stated number = not (eqb stated number)

-- the stated sum is not the true one, however large that is
abbrev pub sum_wrong : ℕ → ℕ → Bool
sum_wrong stated sum = not (eqb stated sum)
