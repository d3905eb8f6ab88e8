-- `prose::said_at` meets its contract: what was said so far is kept, and what is left to say comes to the whole. Assumes nothing.
use mathlib.Core.Path.{◌≡◌, refl, sym, ◌∙◌}
use mathlib.Core.Bool.{not}
use mathlib.Core.List.{[]}
use Prim.Native.Nat.{◌+◌}
use native.Mathlib.Omega.{arith}
use lib.ListN.{length}
use Rattle.wire.specs.Field.{part}
use Rattle.wire.proofs.Texts.{part_length}
use Rattle.letters.specs.Characters.{encoded}
use Rattle.letters.proofs.Characters.{encoded_small}
use Rattle.prose.specs.declared.Piece.TheVariants.{Itself, Other, Turns, Silent}
use Rattle.prose.proofs.Pieces.{piece_told, said_piece}
use Rattle.prose.proofs.Sayings.{saying_first, saying_long, saying_more, saying_ends, saying_full}
use Rattle.prose.proofs.said_at.Goals as goal

pub loop-n-init : goal.loop-n-init
loop-n-init c = saying_first c.args.s.now c.args.at

pub slice_bounds-put_text-end : goal.slice_bounds-put_text-end
slice_bounds-put_text-end c =
    let loop = c.loop-n in
    saying_long c.args.s.now c.args.at loop.bytes loop.n loop.inside loop.i loop.invariant

pub overflow_add-n : goal.overflow_add-n
overflow_add-n c = let on = piece_told c.args.s.now c.loop-n.i c.loop-n.inside (Itself c.in-Itself.width) (sym c.piece_at.ensures ∙ c.in-Itself.is) in omega arith

pub overflow_add-i : goal.overflow_add-i
overflow_add-i c = let on = piece_told c.args.s.now c.loop-n.i c.loop-n.inside (Itself c.in-Itself.width) (sym c.piece_at.ensures ∙ c.in-Itself.is) in omega arith

pub loop-n-smaller-in-Itself : goal.loop-n-smaller-in-Itself
loop-n-smaller-in-Itself c = let on = piece_told c.args.s.now c.loop-n.i c.loop-n.inside (Itself c.in-Itself.width) (sym c.piece_at.ensures ∙ c.in-Itself.is) in omega arith

pub loop-n-preserved-in-Itself : goal.loop-n-preserved-in-Itself
loop-n-preserved-in-Itself c =
    let s = c.args.s.now in
    let loop = c.loop-n in
    let w = c.in-Itself.width in
    let piece = sym c.piece_at.ensures ∙ c.in-Itself.is in
    let on = piece_told s loop.i loop.inside (Itself w) piece in
    let long : length (part s loop.i w) ≡ w = part_length s loop.i w on.2 in
    saying_more s c.args.at loop.bytes loop.n loop.inside loop.i loop.invariant (part s loop.i w) _ (loop.n + w) loop.inside (loop.i + w) (rw c.text_at.ensures at c.put_text.ensures) (omega arith) (said_piece s loop.inside loop.i (Itself w) piece)

pub slice_bounds-put_character-end : goal.slice_bounds-put_character-end
slice_bounds-put_character-end c =
    let loop = c.loop-n in
    saying_long c.args.s.now c.args.at loop.bytes loop.n loop.inside loop.i loop.invariant

pub overflow_add-n-in-Other : goal.overflow_add-n-in-Other
overflow_add-n-in-Other c = omega (arith, c.character_width-n.ensures, encoded_small c.in-Other.c)

pub loop-n-smaller-in-Other : goal.loop-n-smaller-in-Other
loop-n-smaller-in-Other c = let on = piece_told c.args.s.now c.loop-n.i c.loop-n.inside (Other c.in-Other.c c.in-Other.next) (sym c.piece_at.ensures ∙ c.in-Other.is) in omega arith

pub loop-n-preserved-in-Other : goal.loop-n-preserved-in-Other
loop-n-preserved-in-Other c =
    let s = c.args.s.now in
    let loop = c.loop-n in
    let k = c.in-Other.c in
    let next = c.in-Other.next in
    saying_more s c.args.at loop.bytes loop.n loop.inside loop.i loop.invariant (encoded k) _ _ loop.inside next c.put_character.ensures (omega (arith, c.character_width-n.ensures)) (said_piece s loop.inside loop.i (Other k next) (sym c.piece_at.ensures ∙ c.in-Other.is))

pub loop-n-smaller : goal.loop-n-smaller
loop-n-smaller c = let on = piece_told c.args.s.now c.loop-n.i c.loop-n.inside (Turns c.in-Turns.next) (sym c.piece_at.ensures ∙ c.in-Turns.is) in omega arith

pub loop-n-preserved : goal.loop-n-preserved
loop-n-preserved c =
    let s = c.args.s.now in
    let loop = c.loop-n in
    let next = c.in-Turns.next in
    saying_more s c.args.at loop.bytes loop.n loop.inside loop.i loop.invariant [] loop.bytes loop.n (not loop.inside) next refl (omega arith) (said_piece s loop.inside loop.i (Turns next) (sym c.piece_at.ensures ∙ c.in-Turns.is))

pub returns-in-Silent : goal.returns-in-Silent
returns-in-Silent c =
    let s = c.args.s.now in
    let loop = c.loop-n in
    saying_ends s c.args.at loop.bytes loop.n loop.inside loop.i loop.invariant c.loop-n-test.true (said_piece s loop.inside loop.i Silent (sym c.piece_at.ensures ∙ c.in-Silent.is))

pub returns : goal.returns
returns c =
    let loop = c.loop-n in
    saying_full c.args.s.now c.args.at loop.bytes loop.n loop.inside loop.i loop.invariant c.loop-n-test.false
