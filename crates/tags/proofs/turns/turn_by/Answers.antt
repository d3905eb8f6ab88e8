-- `tags::turns::turn_by` meets its contract: each answer is that of the way that led to it. Assumes nothing.
use mathlib.Core.Path.{◌≡◌, sym, ap, ◌∙◌}
use mathlib.Core.Bool.{true}
use Rattle.letters.specs.Places.{byte_at}
use Rattle.tags.specs.Names.{is_space, name_start}
use Rattle.tags.proofs.Blocks.{by_plain, by_ends, by_twice, by_on}
use Rattle.tags.proofs.turns.turn_by.Goals as goal

pub returns-then-not-is_space : goal.returns-then-not-is_space
returns-then-not-is_space g c = λ twice says.
    let args = c.args in
    by_plain twice args.s.now args.at (ap is_space (sym c.byte_at.ensures) ∙ sym c.is_space.ensures ∙ c.if-not-is_space.true)

pub returns-then-not-name_starts : goal.returns-then-not-name_starts
returns-then-not-name_starts g c = λ twice says.
    let args = c.args in
    let spaced : is_space (byte_at args.s.now args.at) ≡ true = ap is_space (sym c.byte_at.ensures) ∙ sym c.is_space.ensures ∙ c.if-not-is_space.false in
    by_ends twice args.s.now args.at spaced c.space_end-k.result c.space_end-k.ensures
    (ap name_start (sym c.byte_at-2.ensures) ∙ sym c.name_starts.ensures ∙ c.if-not-name_starts.true)

pub returns-then-stood : goal.returns-then-stood
returns-then-stood g c = λ twice says.
    let s = c.args.s.now in
    let k = c.space_end-k.result in
    let spaced : is_space (byte_at s c.args.at) ≡ true = ap is_space (sym c.byte_at.ensures) ∙ sym c.is_space.ensures ∙ c.if-not-is_space.false in
    let begins : name_start (byte_at s k) ≡ true = ap name_start (sym c.byte_at-2.ensures) ∙ sym c.name_starts.ensures ∙ c.if-not-name_starts.false in
    by_twice twice s c.args.at spaced k c.space_end-k.ensures begins (sym (says k _ c.space_end-k.type_inv c.stood.ensures) ∙ c.if-stood.true)

pub returns-in-Ok : goal.returns-in-Ok
returns-in-Ok g c = λ twice says.
    let s = c.args.s.now in
    let k = c.space_end-k.result in
    let spaced : is_space (byte_at s c.args.at) ≡ true = ap is_space (sym c.byte_at.ensures) ∙ sym c.is_space.ensures ∙ c.if-not-is_space.false in
    let begins : name_start (byte_at s k) ≡ true = ap name_start (sym c.byte_at-2.ensures) ∙ sym c.name_starts.ensures ∙ c.if-not-name_starts.false in
    by_on twice s c.args.at spaced k c.space_end-k.ensures begins (sym (says k _ c.space_end-k.type_inv c.stood.ensures) ∙ c.if-stood.false)
    _ (sym c.attribute.ensures ∙ c.in-Ok.is)

pub returns : goal.returns
returns g c = λ twice says.
    let s = c.args.s.now in
    let k = c.space_end-k.result in
    let spaced : is_space (byte_at s c.args.at) ≡ true = ap is_space (sym c.byte_at.ensures) ∙ sym c.is_space.ensures ∙ c.if-not-is_space.false in
    let begins : name_start (byte_at s k) ≡ true = ap name_start (sym c.byte_at-2.ensures) ∙ sym c.name_starts.ensures ∙ c.if-not-name_starts.false in
    by_on twice s c.args.at spaced k c.space_end-k.ensures begins (sym (says k _ c.space_end-k.type_inv c.stood.ensures) ∙ c.if-stood.false)
    _ (sym c.attribute.ensures ∙ c.in-Err.is)
