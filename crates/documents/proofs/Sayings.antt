-- Whatever a text says is made of characters, and no more is asked of a text that is carried. Assumes nothing.
use mathlib.Core.Path.{◌≡◌, refl, ap, ◌∙◌}
use mathlib.Core.Bool.{Bool, true, false, cond, not, ◌&&◌, ◌||◌}
use mathlib.Core.List.{List, [], ◌∷◌, ◌++◌}
use Prim.Native.Nat.{ℕ, zero, suc, ◌+◌, ◌≤◌}
use native.Mathlib.Omega.{arith}
use lib.Dec.{eqb}
use lib.ListN.{length, drop, length-append}
use borrow.Author.Tests.{eqb-true, eqb-false}
use Rattle.wire.specs.Field.{part}
use Rattle.letters.specs.Places.{byte_at}
use Rattle.letters.specs.Characters.{is_character, encoded, width_at}
use Rattle.letters.specs.References.{stands, reference_at}
use Rattle.std.specs.Prelude.{Option, Some, None}
use Rattle.letters.specs.declared.Reference.{Reference}
use Rattle.letters.proofs.References.{reference_character}
use Rattle.prose.specs.Prose.{piece_at, plain_piece, line_end, itself_of, other_of, saying, said_by, said_at, section_start, section_end}
use Rattle.prose.specs.declared.Piece.{Piece}
use Rattle.prose.specs.declared.Piece.TheVariants.{Itself, Other, Turns, Silent}
use Rattle.meanings.proofs.Forms.{number_small_lem, date_small}
use Rattle.documents.specs.Carried.{characters_by, characters}
use Rattle.documents.specs.NothingElse.{NothingElse}
use Rattle.documents.proofs.Firsts.{First, short, long, first_of}
use Rattle.documents.proofs.Wides.{Wide, one_more_lem, single_wide, stands_wide, encoded_wide}
use Rattle.documents.proofs.Limits.{amount_limit}

-- ---- the bound on their number does not matter

more : (n : ℕ) (t : List ℕ) → characters_by n t ≡ true → characters_by (suc n) t ≡ true
unfolding characters_by
more zero t e = rw e
more (suc n) t e = by_tests_lem (eqb (length t) 0) (eqb (width_at t 0) 0) (more n (drop (width_at t 0) t)) e
  where
    by_tests_lem : (p q : Bool) → (characters_by n (drop (width_at t 0) t) ≡ true → characters_by (suc n) (drop (width_at t 0) t) ≡ true)
        → (p || (not q && characters_by n (drop (width_at t 0) t))) ≡ true → (p || (not q && characters_by (suc n) (drop (width_at t 0) t))) ≡ true
    by_tests_lem true q rest e = refl
    by_tests_lem false true rest e = e
    by_tests_lem false false rest e = rest e

pub none_left : (n : ℕ) → characters_by n [] ≡ true
unfolding characters_by
none_left zero = refl
none_left (suc n) = refl

module _ (m : ℕ) where
  abbrev pub Enough : ℕ → Type 0
  Enough n = (t : List ℕ) → characters_by n t ≡ true → length t ≤ m → characters_by m t ≡ true

pub enough : (n m : ℕ) → Enough m n
unfolding characters_by
enough zero m t e h = by_list t e
  where
    by_list : (t : List ℕ) → eqb (length t) 0 ≡ true → characters_by m t ≡ true
    by_list [] e = none_left m
    by_list (a ∷ t) e = absurd (omega (arith, eqb-true (suc (length t)) 0 e))
enough (suc n) zero t e h = by_list t h
  where
    by_list : (t : List ℕ) → length t ≤ 0 → characters_by zero t ≡ true
    by_list [] h = refl
    by_list (a ∷ t) h = absurd (omega arith)
enough (suc n) (suc m) t e h = by_list (enough n m) t e h
  where
    by_first : Enough m n → (t : List ℕ) → First n t → length t ≤ suc m → characters_by (suc m) t ≡ true
    by_first rest t (short a more is one behind) h =
        rw is (one_more_lem (a ∷ []) more m (single_wide a 0 0 0 one) (rest more behind (omega (arith, ap length is))))
    by_first rest t (long a bs more is highs wide numbered behind) h =
        let size : length t ≡ suc (length bs + length more) = ap length is ∙ ap suc (length-append bs more) in
        rw is (one_more_lem (a ∷ bs) more m (record { some = omega arith; width = λ ys. wide (a ∷ (bs ++ ys)) 0 ys refl }) (rest more behind (omega arith)))

    by_list : Enough m n → (t : List ℕ) → characters_by (suc n) t ≡ true → length t ≤ suc m → characters_by (suc m) t ≡ true
    by_list rest [] e h = none_left (suc m)
    by_list rest (a ∷ t) e h = by_first rest (a ∷ t) (first_of n a t e) h

-- ---- what a piece says

abbrev Good : List ℕ → ℕ → Piece → Type 0
Good s at (Itself width) = Wide (part s at width)
Good s at (Other c next) = is_character c ≡ true
Good s at (Turns next) = Unit {0}
Good s at Silent = Unit {0}

module _ (s : List ℕ) (at : ℕ) where
  either : (t : Bool) (x y : Piece) → (t ≡ true → Good s at x) → (t ≡ false → Good s at y) → Good s at (cond t x y)
  either true x y f g = f refl
  either false x y f g = g refl

  other_good : (r : Option Reference) → reference_at s at ≡ r → Good s at (other_of r)
  other_good (Some r) e = reference_character s at r.character r.next e
  other_good None e = tt

  plain_good : Good s at (plain_piece s at)
  unfolding is_character
  plain_good =
      either (eqb (byte_at s at) 13) (line_end s at) (itself_of (width_at s at))
      (λ t. either (eqb (byte_at s (at + 1)) 10) (Other 10 (at + 2)) (Other 10 (at + 1)) (λ u. refl) (λ u. refl))
      (λ t. either (eqb (width_at s at) 0) Silent (Itself (width_at s at)) (λ u. tt) (λ u. stands_wide s at (omega (arith, eqb-false (width_at s at) 0 u))))

  piece_good : (inside : Bool) → Good s at (piece_at inside s at)
  unfolding piece_at
  piece_good true = either (stands s at section_end) (Turns (at + 3)) (plain_piece s at) (λ t. tt) (λ t. plain_good)
  piece_good false =
      either (eqb (byte_at s at) 60) (cond (stands s at section_start) (Turns (at + 9)) Silent) (cond (eqb (byte_at s at) 38) (other_of (reference_at s at)) (plain_piece s at))
      (λ t. either (stands s at section_start) (Turns (at + 9)) Silent (λ u. tt) (λ u. tt))
      (λ t. either (eqb (byte_at s at) 38) (other_of (reference_at s at)) (plain_piece s at) (λ u. other_good (reference_at s at) refl) (λ u. plain_good))

-- ---- what a text says

said_by_lem : (s : List ℕ) (n : ℕ) (inside : Bool) (at : ℕ) → characters_by n (said_by s n inside at) ≡ true
unfolding said_by
said_by_lem s zero inside at = none_left zero
said_by_lem s (suc n) inside at = by_piece (said_by_lem s n) (piece_at inside s at) (piece_good s at inside)
  where
    by_piece : ((inside : Bool) (at : ℕ) → characters_by n (said_by s n inside at) ≡ true) → (r : Piece) → Good s at r
        → characters_by (suc n) (saying r inside s at (λ inside next. said_by s n inside next)) ≡ true
    by_piece rest (Itself width) good = one_more_lem (part s at width) (said_by s n inside (at + width)) n good (rest inside (at + width))
    by_piece rest (Other c next) good = one_more_lem (encoded c) (said_by s n inside next) n (encoded_wide c good) (rest inside next)
    by_piece rest (Turns next) good = more n (said_by s n (not inside) next) (rest (not inside) next)
    by_piece rest Silent good = none_left (suc n)

pub said_characters : (s : List ℕ) (at : ℕ) → characters (said_at s at) ≡ true
unfolding said_at
said_characters s at = enough (suc (length s)) (length (said_at s at)) (said_at s at) (said_by_lem s (suc (length s)) false at) (omega arith)

pub nothing_else : NothingElse
nothing_else = record { texts = said_characters; numbers = number_small_lem; amounts = amount_limit; dates = date_small }
