-- `tags::attributes` meets its contract: what is left of the attributes from place i on comes to what the whole comes to. Assumes nothing.
use mathlib.Core.Path.{◌≡◌}
use Rattle.letters.specs.Places.{walk}
use Rattle.tags.specs.Attributes.{attribute_turn, attributes_at}
use Rattle.tags.proofs.attributes.Given as goal

abbrev pub invariant-loop : goal.invariant-loop
invariant-loop l = walk (attribute_turn l.s l.from) l.s l.i ≡ attributes_at l.s l.from
