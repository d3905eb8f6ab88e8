-- `lines::put_identifier` meets its contract. Assumes nothing.
use Rattle.decimals.proofs.Runs.{reading}
use Rattle.lines.proofs.Pieces.{identifier_blank, identifier_kept}
use Rattle.lines.proofs.put_identifier.Goals as goal

pub returns-then-kept-eq0 : goal.returns-then-kept-eq0
returns-then-kept-eq0 c = reading (identifier_blank c.args.identifier.now c.kept-kept.result c.kept-kept.ensures c.if-kept-eq0.true) c.put_byte.ensures

pub returns : goal.returns
returns c = reading (identifier_kept c.args.identifier.now c.text_at.result.now c.kept-kept.result c.kept-kept.ensures c.if-kept-eq0.false c.text_at.ensures) c.put_shown.ensures
