-- `edges::files::large` meets its contract. The length is cited and not counted out. Assumes nothing.
use Rattle.std.proofs.Common.{ℕ, sym}
use lib.ListN.{length-replicate}
use Rattle.edges.proofs.files.large.Goals as goal

pub returns : goal.returns
returns c = sym (length-replicate {0} {A = ℕ} 1215196 0)
