-- `register::has_word` meets its contract: a word of an entry's key is a word of the register. Assumes nothing.
use native.Mathlib.Omega.{arith}
use Rattle.register.proofs.Search.{word_between}
use Rattle.register.proofs.has_word.Goals as goal

pub returns : goal.returns
returns c =
    let args = c.args in
    word_between args.register.now args.key.now args.k _ args.place 8 (omega arith) c.same.ensures
