-- `fields::Told::at` meets its contract. Assumes nothing.
use borrow.Author.Tests.{ltb-true, ltb-false}
use Rattle.prose.specs.Prose.{said_at}
use Rattle.fields.proofs.Keeping.{kept_whole, kept_long, kept_told}
use Rattle.fields.proofs.Told.at.Goals as goal

pub returns-in-None : goal.returns-in-None
returns-in-None c =
    let t = said_at c.args.s.now c.args.at in
    let said = c.said_at in
    record {
      whole = λ e. kept_whole t _ _ said.ensures (ltb-false 35 said.result.length e);
      long = λ e. kept_long t _ _ said.ensures (ltb-true 35 said.result.length e);
      kept = kept_told t _ _ said.ensures;
    }
