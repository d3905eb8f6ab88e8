-- The facts against a message, each of the fields that it looks at and no more; `repeated` stands with those of a bulk. Assumes
-- nothing.
use Rattle.std.specs.Prelude.{ℕ, Bool, not, cond, ◌&&◌, ◌||◌, List, leb, ltb, eqb}
use Rattle.std.proofs.Math.Option.{Option}
use Rattle.routing.specs.Lookup.{reachable}
use Rattle.sheet.specs.Sheet.{payment_kind, return_kind}
use Rattle.wording.specs.Wording.{bic_formed, blank, one_of, reasons, answers_cancellation, names}

abbrev pub receiver_badly_formed : List ℕ → Bool
receiver_badly_formed receiver = not (bic_formed receiver)

-- no row was found for the receiver, or one that is not reachable
abbrev pub unreachable : List ℕ → Option ℕ → Bool
unreachable table row = not (reachable table row)

-- the EPC limits
abbrev pub most_cents : ℕ
most_cents = 99999999999

abbrev pub amount_wrong : ℕ → Bool
amount_wrong amount = not (leb 1 amount && leb amount most_cents)

abbrev pub is_payment : ℕ → Bool
is_payment kind = eqb kind payment_kind

abbrev pub is_return : ℕ → Bool
is_return kind = eqb kind return_kind

-- a payment tells nothing of an original: no amount, and reason and name blank
abbrev pub tells_original : ℕ → ℕ → List ℕ → List ℕ → Bool
tells_original kind original reason name = is_payment kind && (not (eqb original 0) || not (blank reason) || not (blank name))

-- a return gives a reason of the list
abbrev pub reason_unknown : ℕ → List ℕ → Bool
reason_unknown kind reason = is_return kind && not (one_of reason reasons)

-- a return names a message that may be returned
abbrev pub name_unknown : ℕ → List ℕ → Bool
name_unknown kind name = is_return kind && not (one_of name names)

-- a return that answers a cancellation request is over the original amount or less, since a charge may be taken off; any other is over
-- exactly that amount
abbrev pub returned_amount_wrong : ℕ → ℕ → ℕ → List ℕ → Bool
returned_amount_wrong kind amount original reason =
    is_return kind && cond (answers_cancellation reason) (ltb original amount) (not (eqb amount original))
