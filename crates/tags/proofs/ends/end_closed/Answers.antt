-- `tags::ends::end_closed` meets its contract. Assumes nothing.
use Rattle.tags.proofs.Tags.{ended_here}
use Rattle.tags.proofs.ends.end_closed.Goals as goal

pub returns-then-byte_at-eq62 : goal.returns-then-byte_at-eq62
returns-then-byte_at-eq62 c =
    let args = c.args in
    ended_here args.s.now args.at (cc)
