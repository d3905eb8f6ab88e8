-- `reading::survey::look` meets its contract. Assumes nothing.
use mathlib.Core.Path.{refl}
use Rattle.std.proofs.lemmas.Result.{err_from_is_err_and}
use Rattle.elements.specs.Grammar.{element_at}
use Rattle.reading.proofs.Looks.{looked}
use Rattle.reading.proofs.survey.look.Goals as goal

pub returns-in_err-next : goal.returns-in_err-next
returns-in_err-next c =
    let p = err_from_is_err_and c.from_residual.result c.from_residual.ensures.1 in
    rw (← c.name_at.ensures, ← c.root_role-role.ensures, p.1, p.2, ← c.in_err-next.was) record { step = c.read_element.ensures.step; told = tt }

pub returns : goal.returns
returns c =
    let a = c.args in
    rw (← c.name_at.ensures, ← c.root_role-role.ensures) record {
      step = rw (← c.in_ok-next.was) c.read_element.ensures.step;
      told = looked (element_at 32 a.s.now c.root_role-role.result a.at) a.lack _ _ c.read_element.ensures.notes refl refl;
    }
