-- `elements::notes::note` meets its contract. Assumes nothing.
use borrow.Author.Tests.{eq-eqb, ne_eqb}
use Rattle.elements.specs.Notes.{noting}
use Rattle.elements.proofs.notes.note.Goals as goal

pub returns-then-role-eq-OTHER : goal.returns-then-role-eq-OTHER
unfolding noting
returns-then-role-eq-OTHER c = rw (eq-eqb _ _ c.if-role-eq-OTHER.true)

pub returns : goal.returns
unfolding noting
returns c = rw (ne_eqb _ _ c.if-role-eq-OTHER.false, c.warn.ensures, c.count_message.ensures, c.is_message.ensures, c.put_place.ensures)
