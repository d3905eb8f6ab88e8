-- `prolog::is_utf8` meets its contract. Assumes nothing.
use borrow.Author.Rules.{rules}
use Rattle.prolog.proofs.Values.{utf8_short, utf8_letters}
use Rattle.prolog.proofs.is_utf8.Goals as goal

pub returns-then-t-lt5 : goal.returns-then-t-lt5
returns-then-t-lt5 c =
    let args = c.args in
    utf8_short args.s.now args.at _ c.text_at-t.ensures (search rules)

pub returns : goal.returns
returns c =
    let args = c.args in
    rw (c.same_letter.ensures, c.same_letter-2.ensures, c.same_letter-3.ensures, c.same_letter-4.ensures, c.same_letter-5.ensures)
    (utf8_letters args.s.now args.at _ c.text_at-t.ensures)
