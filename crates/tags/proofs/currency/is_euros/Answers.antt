-- `tags::currency::is_euros` meets its contract: each answer is that of the way that led to it. Assumes nothing.
use mathlib.Core.Path.{◌≡◌, sym, ap, ◌∙◌}
use mathlib.Core.List.{List}
use Prim.Native.Nat.{ℕ, ◌+◌}
use native.Mathlib.Omega.{arith}
use Rattle.wire.specs.Field.{text, same}
use Rattle.letters.specs.Places.{byte_at}
use Rattle.tags.specs.Names.{space_end}
use Rattle.tags.specs.Attributes.{equals_at, quote_at, spells}
use Rattle.tags.proofs.Searches.{euros_other, euros_past, euros_spelled}
use Rattle.tags.proofs.currency.is_euros.Goals as goal

pub returns-then-not-same : goal.returns-then-not-same
returns-then-not-same c =
    let args = c.args in
    euros_other args.s.now args.at (sym (c.same.ensures ∙ ap (λ (t : List ℕ). same t (text "Ccy")) c.name_at.ensures) ∙ c.if-not-same.true)

pub returns-then-s-equals : goal.returns-then-s-equals
returns-then-s-equals c =
    let args = c.args in
    let s = args.s.now in
    let equals : c.space_end-equals.result ≡ equals_at s args.at = c.space_end-equals.ensures ∙ ap (space_end s) c.name_end.ensures in
    euros_past s args.at (omega (arith, c.if-s-equals.true))

pub returns-then-s-from : goal.returns-then-s-from
returns-then-s-from c =
    let args = c.args in
    let space_end_lem = c.space_end-equals in
    let s = args.s.now in
    let equals : space_end_lem.result ≡ equals_at s args.at = space_end_lem.ensures ∙ ap (space_end s) c.name_end.ensures in
    let quote : c.space_end-from.result ≡ quote_at s args.at = c.space_end-from.ensures ∙ ap (λ (k : ℕ). space_end s (k + 1)) equals in
    euros_past s args.at (omega (arith, c.if-s-from.true))

pub returns : goal.returns
returns c =
    let args = c.args in
    let space_end_lem = c.space_end-equals in
    let space_end2 = c.space_end-from in
    let s = args.s.now in
    let equals : space_end_lem.result ≡ equals_at s args.at = space_end_lem.ensures ∙ ap (space_end s) c.name_end.ensures in
    let quote : space_end2.result ≡ quote_at s args.at = space_end2.ensures ∙ ap (λ (k : ℕ). space_end s (k + 1)) equals in
    c.spells_euros.ensures
    ∙ ap (λ (k : ℕ). spells (text "EUR") (byte_at s k) s (k + 1)) quote
    ∙ euros_spelled s args.at (sym (c.same.ensures ∙ ap (λ (t : List ℕ). same t (text "Ccy")) c.name_at.ensures) ∙ c.if-not-same.false)
