-- `elements::over::skip` and `elements::over::skip_content`, which call each other, end by the measures of `elements::element` and
-- `elements::content`. The loop of a content: what is left from place i on leads to where the whole leads. Assumes nothing.
use Rattle.std.proofs.Common.{◌≡◌, ◌+◌, ◌-◌, ◌*◌, length}
use Rattle.paths.specs.Roles.{other}
use Rattle.elements.specs.Grammar.{content_at}
use Rattle.elements.specs.Notes.{step_of}
use Rattle.elements.proofs.over.+skip_skip_content.Given as goal

abbrev pub decreases-skip : goal.decreases-skip
decreases-skip l = 2 * l.depth

abbrev pub decreases-skip_content : goal.decreases-skip_content
decreases-skip_content l = 2 * l.depth + 1

abbrev pub invariant-skip_content-loop-j : goal.invariant-skip_content-loop-j
invariant-skip_content-loop-j l = step_of (content_at l.depth l.s other l.i) ≡ step_of (content_at l.depth l.s other l.at)

abbrev pub decreases-skip_content-loop-j : goal.decreases-skip_content-loop-j
decreases-skip_content-loop-j l = length l.s - l.i
