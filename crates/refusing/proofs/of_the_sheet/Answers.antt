-- `refusing::of_the_sheet` meets its contract: each header lies in a whole sheet. Assumes nothing.
use Rattle.refusing.proofs.Checking.{header_room}
use Rattle.refusing.proofs.of_the_sheet.Goals as goal

pub kinds_known-requires : goal.kinds_known-requires
kinds_known-requires c = header_room _ _ c.requires

pub kinds_mixed-requires : goal.kinds_mixed-requires
kinds_mixed-requires c = header_room _ _ c.requires
