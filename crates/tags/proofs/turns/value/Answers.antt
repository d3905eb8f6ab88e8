-- `tags::turns::value` meets its contract: its turns lead on, and to where the value ends. Assumes nothing.
use mathlib.Core.Path.{◌≡◌, sym}
use native.Mathlib.Omega.{arith}
use borrow.Author.Rules.{rules}
use Rattle.letters.specs.declared.Turn.TheVariants.{On}
use Rattle.tags.specs.Attributes.{value_turn, value_at}
use Rattle.tags.proofs.Values.{value_on, value_turn_lem}
use Rattle.tags.proofs.turns.value.Goals as goal

pub walk-requires-clause-onward : goal.walk-requires-clause-onward
walk-requires-clause-onward c = λ i n h post.
    let is : value_turn c.args.quote c.args.s.now i ≡ On n = search rules in
    let on = value_on c.args.quote c.args.s.now i n is in
    (omega arith, omega arith)

pub returns : goal.returns
returns c =
    let args = c.args in
    c.walk.ensures (value_at args.quote args.s.now) (λ i t h post. sym (value_turn_lem args.quote args.s.now i t (search rules)))
