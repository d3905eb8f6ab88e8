-- `prose::rest_end` meets its contract: its turns lead on, and to where the walk ends. Assumes nothing.
use mathlib.Core.Path.{◌≡◌, refl}
use borrow.Author.Rules.{rules}
use Rattle.letters.specs.Places.{walk}
use Rattle.letters.specs.declared.Turn.TheVariants.{On}
use Rattle.prose.specs.Prose.{past_plain, text_turn, text_at}
use Rattle.prose.proofs.Turns.{text_plain, text_onward}
use Rattle.prose.proofs.Runs.{walk_past, past_forward}
use Rattle.prose.proofs.rest_end.Goals as goal

pub walk-requires-clause-onward : goal.walk-requires-clause-onward
walk-requires-clause-onward c = λ i n h post.
    let s = c.args.s.now in
    let is : past_plain s (text_turn s i) ≡ On n = search rules in
    past_forward (text_turn s) s (text_onward s) (text_plain s) i n _ refl is

pub returns : goal.returns
unfolding text_at
returns c =
    let s = c.args.s.now in
    c.walk.ensures (walk (text_turn s) s) (λ i t h post. (let is : t ≡ past_plain s (text_turn s i) = search rules in rw is (walk_past (text_turn s) s (text_onward s) (text_plain s) i _ refl)))
