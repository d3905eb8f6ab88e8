-- `meanings::run` meets its contract: it goes up to the first byte that is no digit. Assumes nothing.
use mathlib.Core.Path.{◌≡◌, refl, sym, ◌∙◌}
use mathlib.Core.Bool.{true, false}
use native.Mathlib.Numerals.{add-one}
use Prim.Native.Nat.{ℕ}
use borrow.Author.Rules.{rules}
use borrow.Author.Tests.{tests}
use Rattle.std.proofs.lemmas.Iterator.{YieldsList-from_slice, IsFirst-from_position, index_from_first}
use Rattle.letters.specs.Places.{run}
use Rattle.meanings.specs.Meanings.{digit}
use Rattle.meanings.proofs.Decimals.{digit_ascii}
use Rattle.meanings.proofs.run.Goals as goal

pub returns : goal.returns
unfolding run
returns c =
    let t = c.args.t.now in
    let first = IsFirst-from_position _ _ _ (λ (b : ℕ). digit b ≡ false) (λ (b : ℕ). digit b ≡ true) c.position.ensures.ran (YieldsList-from_slice t (cc))
    (λ x q k. rw (← digit_ascii x.now) (search (rules, tests))) (λ x q k. (search rules, rw (← digit_ascii x.now) (search (rules, tests)))) in
    c.unwrap_or.ensures ∙ sym (index_from_first (run digit) (λ (b : ℕ). digit b ≡ false) (λ (b : ℕ). digit b ≡ true) refl (λ x xs e. rw e) (λ x xs e. rw (e, add-one)) t c.position.result first)
