-- `directory::make` meets its contract: a turn of the loop adds a row. Assumes nothing.
use mathlib.Core.Path.{◌≡◌}
use Rattle.directory.specs.Directory.{directory_to}
use Rattle.directory.proofs.make.Given as goal

abbrev pub invariant-loop-i : goal.invariant-loop-i
invariant-loop-i l = l.directory ≡ directory_to l.date l.table l.i
