-- `routing::route` meets its contract. Assumes nothing.
use borrow.Author.Rules.{rules}
use Rattle.routing.proofs.Laws.{route_told}
use Rattle.routing.proofs.route.Goals as goal

pub returns : goal.returns
returns c =
    let args = c.args in
    route_told args.date args.table.now args.bic.now _ (λ bytes told h. search rules) _ c.route_by.ensures
