-- `register::key_of` meets its contract: the three parts written one after the other fill the key. Assumes nothing.
use Rattle.register.proofs.Laws.{key_written}
use Rattle.register.proofs.key_of.Goals as goal

pub returns : goal.returns
returns c =
    let args = c.args in
    key_written args.sender.now args.identifier.now args.tag _ _ c.requires c.put_text.ensures c.put_text-2.ensures
