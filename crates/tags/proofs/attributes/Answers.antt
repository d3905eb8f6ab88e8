-- `tags::attributes` meets its contract: what is left of the attributes from place i on comes to what the whole comes to. Assumes nothing.
use mathlib.Core.Path.{refl, sym, ◌∙◌}
use Rattle.letters.specs.declared.Turn.TheVariants.{On, Ends, Breaks}
use Rattle.tags.specs.Attributes.{attributes_at}
use Rattle.tags.proofs.AttributeWalk.{attributes_turn}
use Rattle.tags.proofs.attributes.Goals as goal

pub loop-init : goal.loop-init
unfolding attributes_at
loop-init c = refl

pub loop-preserved : goal.loop-preserved
loop-preserved c =
    let args = c.args in
    let loop = c.loop in
    sym (attributes_turn args.s.now args.from loop.i (On c.in-On.next) (sym c.attribute_turn.ensures ∙ c.in-On.is)) ∙ loop.invariant

pub returns-in-Ends : goal.returns-in-Ends
returns-in-Ends c =
    let args = c.args in
    let loop = c.loop in
    sym (attributes_turn args.s.now args.from loop.i (Ends c.in-Ends.e) (sym c.attribute_turn.ensures ∙ c.in-Ends.is)) ∙ loop.invariant

pub returns-in-Breaks : goal.returns-in-Breaks
returns-in-Breaks c =
    let args = c.args in
    let loop = c.loop in
    sym (attributes_turn args.s.now args.from loop.i (Breaks c.in-Breaks.p) (sym c.attribute_turn.ensures ∙ c.in-Breaks.is)) ∙ loop.invariant
