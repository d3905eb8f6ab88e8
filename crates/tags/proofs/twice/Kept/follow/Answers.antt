-- `tags::twice::Kept::follow` meets its contract: its turns lead on, and to where the walk ends. Assumes nothing.
use mathlib.Core.Path.{◌≡◌, sym}
use borrow.Author.Rules.{rules}
use Rattle.letters.specs.Places.{walk}
use Rattle.letters.specs.declared.Turn.TheVariants.{On}
use Rattle.tags.specs.Twice.{block, among, turn_by}
use Rattle.tags.proofs.Late.{by_onward, by_turn}
use Rattle.tags.proofs.twice.Kept.follow.Goals as goal

pub walk-requires-clause-onward : goal.walk-requires-clause-onward
walk-requires-clause-onward c = λ i n h post.
    let twice = among c.args.s.now c.args.self.now.places block in
    let on : turn_by twice c.args.s.now i ≡ On n = search rules in
    let onward = by_onward twice c.args.s.now in
    (onward.forward i n on, onward.inside i n on)

pub returns : goal.returns
returns c =
    let args = c.args in
    let twice = among args.s.now args.self.now.places block in
    c.walk.ensures (walk (turn_by twice args.s.now) args.s.now) (λ i t h post. sym (by_turn twice args.s.now i t (search rules)))
