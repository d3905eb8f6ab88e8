-- `register::has_key` meets its contract: an entry that differs in a word differs, and any other is compared whole. Assumes nothing.
use mathlib.Core.Path.{◌∙◌}
use Rattle.register.proofs.Search.{word_differs, key_between}
use Rattle.register.proofs.has_key.Goals as goal

pub returns-then-has_word : goal.returns-then-has_word
returns-then-has_word c =
    let args = c.args in
    key_between args.register.now args.key.now args.k _ c.same.ensures

pub returns-else-has_word : goal.returns-else-has_word
returns-else-has_word c =
    let args = c.args in
    let differs = c.if-has_word.false in
    differs ∙ word_differs args.register.now args.key.now args.k _ args.place 8 c.has_word.ensures differs
