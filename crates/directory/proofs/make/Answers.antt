-- `directory::make` meets its contract: a turn of the loop adds a row. Assumes nothing.
use Rattle.directory.proofs.Laws.{make_starts}
use Rattle.directory.proofs.make.Goals as goal

pub loop-i-init : goal.loop-i-init
loop-i-init c = make_starts c.args.date c.args.table.now _ c.requires.empty
