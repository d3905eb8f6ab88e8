-- A spelled text ends where it was written to, and says what was spelled. Assumes nothing.
use mathlib.Core.Path.{◌≡◌, refl, sym, ap, ◌∙◌}
use mathlib.Core.Bool.{true, false, ◌||◌, and-false, and-eq-true_iff}
use mathlib.Core.List.{List, [], ◌∷◌, ◌++◌, append_assoc}
use Prim.Native.Nat.{ℕ, zero, suc, ◌+◌, ◌≤◌, ◌<◌}
use native.Mathlib.Omega.{arith}
use lib.Dec.{eqb}
use lib.ListN.{length, take, drop, get_or, length-append}
use borrow.Author.Tests.{ne_eqb, eqb-true}
use Rattle.wire.specs.Field.{same}
use Rattle.wire.proofs.Sides.{both_false}
use Rattle.letters.specs.Places.{byte_at, on_turn}
use Rattle.letters.specs.Characters.{encoded, single, width_at}
use Rattle.letters.specs.References.{stands, reference_at, refers}
use Rattle.std.specs.Prelude.{Ok}
use Rattle.letters.specs.declared.Turn.{Turn}
use Rattle.letters.specs.declared.Turn.TheVariants.{On, Ends}
use Rattle.letters.proofs.Characters.{within_true, encoded_one, width_first}
use Rattle.letters.proofs.References.{reference_forward, stands_differs}
use Rattle.letters.proofs.Walks.{walk_turn}
use Rattle.prose.specs.Prose.{section_start, section_end, text_turn, text_at, piece_at, said_at}
use Rattle.prose.specs.declared.Piece.TheVariants.{Itself, Other, Silent}
use Rattle.prose.proofs.Turns.{text_onward}
use Rattle.prose.proofs.Pieces.{said_piece}
use Rattle.documents.specs.Spelling.{Way, itself, decimally, hexadecimally, by_name, number_in, spelled_by, long_by, Spelling, spelled_in, spelled}
use Rattle.documents.specs.Carried.{characters_by, characters}
use Rattle.documents.proofs.Here.{byte_here, skip_here, part_here, all}
use Rattle.documents.proofs.Spelled.{Spelt, plain, refers_to, spelt_here}
use Rattle.documents.proofs.Numbers.{Numbered}
use Rattle.documents.proofs.Referred.{decimal_refers, hexadecimal_refers}
use Rattle.documents.proofs.Safe.{single_small, short_spelled, long_spelled, spelled_unended}
use Rattle.documents.proofs.Firsts.{high, First, short, long, first_of}

-- ---- one character

module _ (s : List ℕ) (at : ℕ) where
  text_turn_lem : (r : Turn) → text_turn s at ≡ r → text_at s at ≡ on_turn r (λ next. text_at s next)
  unfolding text_at
  text_turn_lem r e = walk_turn (text_turn s) s (text_onward s) at r e

  -- these bytes are said, and the text goes on at a place
  abbrev Says : List ℕ → ℕ → Type 0
  Says xs next = (text_at s at ≡ text_at s next) × (said_at s at ≡ xs ++ said_at s next)

  itself_says : (xs ys : List ℕ) → drop at s ≡ xs ++ ys → 0 < length xs → width_at s at ≡ length xs
      → eqb (byte_at s at) 60 ≡ false → eqb (byte_at s at) 38 ≡ false → eqb (byte_at s at) 13 ≡ false → stands s at section_end ≡ false
      → Says xs (at + length xs)
  unfolding text_turn piece_at said_at
  itself_says xs ys e some width a b c d =
      let wide : eqb (length xs) 0 ≡ false = ne_eqb (length xs) 0 (λ z. omega arith) in (
        text_turn_lem (On (at + length xs)) (rw (a, b, d, width, wide)),
        said_piece s false at (Itself (length xs)) (rw (a, b, c, width, wide)) ∙ ap (λ (l : List ℕ). l ++ said_at s (at + length xs)) (part_here s at xs ys e),
      )

  reference_says : (c next : ℕ) (xs : List ℕ) → reference_at s at ≡ refers c next → encoded c ≡ xs → Says xs next
  unfolding text_turn piece_at said_at
  reference_says c next xs e is =
      let sign = (reference_forward s at c next e).2 in (
        text_turn_lem (On next) (rw (sign, e)),
        said_piece s false at (Other c next) (rw (sign, e)) ∙ ap (λ (l : List ℕ). l ++ said_at s next) is,
      )

  -- the text is over, and says nothing more
  pub text_over : (ys : List ℕ) → (get_or ys 0 0 ≡ 33 → ⊥) → drop at s ≡ 60 ∷ ys → (text_at s at ≡ Ok at) × (said_at s at ≡ [])
  unfolding text_turn piece_at said_at same
  text_over ys other e =
      let sign = byte_here s at 60 ys e in
      let no_section : stands s at section_start ≡ false = ap (λ (l : List ℕ). same (take 9 l) section_start) e ∙ differs ys other in (
        text_turn_lem (Ends at) (rw (sign, no_section)),
        said_piece s false at Silent (rw (sign, no_section)),
      )
    where
      differs : (ys : List ℕ) → (get_or ys 0 0 ≡ 33 → ⊥) → same (60 ∷ take 8 ys) section_start ≡ false
      differs [] other = refl
      differs (b ∷ ys) other = rw (ne_eqb b 33 other)

-- ---- one character as it was spelled

module _ (s : List ℕ) (at c : ℕ) (word ys : List ℕ) (one : single c ≡ true) (e : drop at s ≡ word ++ ys) (unended : same (take 2 ys) (93 ∷ 62 ∷ []) ≡ false) where
  spelt_says : Spelt s at c word → Says s at (c ∷ []) (at + length word)
  unfolding same
  spelt_says (refers_to told) = reference_says s at c (at + length word) (c ∷ []) told (encoded_one c (single_small c one))
  spelt_says (plain is free) =
      let here : drop at s ≡ c ∷ ys = e ∙ ap (λ (l : List ℕ). l ++ ys) is in
      let byte = byte_here s at c ys here in
      let a = both_false (eqb c 60 || eqb c 38 || eqb c 62) (eqb c 13) free in
      let b = both_false (eqb c 60 || eqb c 38) (eqb c 62) a.0 in
      let d = both_false (eqb c 60) (eqb c 38) b.0 in
      let width : width_at s at ≡ 1 = sym (width_first s at (rw byte one)) in
      let no_end : stands s at section_end ≡ false = ap (λ (l : List ℕ). same (take 3 l) section_end) here ∙ differs in
      rw is (itself_says s at (c ∷ []) ys here (omega arith) width (rw byte d.0) (rw byte d.1) (rw byte a.1) no_end)
    where
      differs : same (c ∷ take 2 ys) section_end ≡ false
      differs = rw unended (and-false (eqb c 93))

module _ (s : List ℕ) (at a : ℕ) (more ys : List ℕ) (high : 128 ≤ a) (width : width_at s at ≡ suc (length more)) (e : drop at s ≡ a ∷ (more ++ ys)) where
  long_says : Says s at (a ∷ more) (at + suc (length more))
  long_says =
      let byte = byte_here s at a (more ++ ys) e in
      itself_says s at (a ∷ more) ys e (omega arith) width
      (rw byte (ne_eqb a 60 (λ z. omega arith))) (rw byte (ne_eqb a 38 (λ z. omega arith))) (rw byte (ne_eqb a 13 (λ z. omega arith)))
      (stands_differs s at 93 (93 ∷ 62 ∷ []) (λ z. omega arith))

-- a longer one, written in any way
module _ (s : List ℕ) (at a : ℕ) (bs left : List ℕ) (highs : all high (a ∷ bs) ≡ true) (numbered : Numbered (a ∷ bs))
    (wide : (s : List ℕ) (at : ℕ) (ys : List ℕ) → drop at s ≡ a ∷ (bs ++ ys) → width_at s at ≡ suc (length bs)) where
  as_it_stands_lem : drop at s ≡ a ∷ (bs ++ left) → Says s at (a ∷ bs) (at + suc (length bs))
  unfolding all
  as_it_stands_lem e = long_says s at a bs left (within_true 128 255 a ((and-eq-true_iff (high a) (all high bs)).0 highs).0).0 (wide s at left e) e

  long_spelt : (w : Way) → drop at s ≡ long_by w (a ∷ bs) ++ left → Says s at (a ∷ bs) (at + length (long_by w (a ∷ bs)))
  unfolding long_by
  long_spelt itself e = as_it_stands_lem e
  long_spelt decimally e = reference_says s at (number_in (a ∷ bs)) _ (a ∷ bs) (decimal_refers s at (number_in (a ∷ bs)) left numbered.character e) numbered.back
  long_spelt hexadecimally e = reference_says s at (number_in (a ∷ bs)) _ (a ∷ bs) (hexadecimal_refers (number_in (a ∷ bs)) numbered.character s at left e) numbered.back
  long_spelt by_name e = as_it_stands_lem e

-- ---- a text

pub some_left : (a : ℕ) (t : List ℕ) → characters_by zero (a ∷ t) ≡ true → ⊥
unfolding characters_by
some_left a t h = omega (arith, eqb-true (suc (length t)) 0 h)

-- it ends at the '<' behind it, and says what was spelled
pub record TextRead (s : List ℕ) (at : ℕ) (word said : List ℕ) : Type 0 where
  pub ends : text_at s at ≡ Ok (at + length word)
  pub says : said_at s at ≡ said

-- a character and what is behind it
module _ (s : List ℕ) (at : ℕ) (xs word rest said : List ℕ) where
  then_read : Says s at xs (at + length word) → TextRead s (at + length word) rest said → TextRead s at (word ++ rest) (xs ++ said)
  then_read first behind =
      let place : at + length word + length rest ≡ at + length (word ++ rest) = rw (length-append word rest) (omega arith) in
      record {
        ends = first.0 ∙ behind.ends ∙ ap Ok place;
        says = first.1 ∙ ap (λ (l : List ℕ). xs ++ l) behind.says;
      }

module _ (how : Spelling) (n : ℕ) (s ys : List ℕ) where
  abbrev Reads : Type 0
  Reads = (t : List ℕ) (at : ℕ) → characters_by n t ≡ true → drop at s ≡ spelled_in how n t ++ (60 ∷ 47 ∷ ys) → TextRead s at (spelled_in how n t) t

module _ (how : Spelling) (n : ℕ) (s ys : List ℕ) (rest : Reads how n s ys) (at : ℕ) where
  -- what is spelled of a character, and what is spelled behind it
  module _ (t xs word more : List ℕ) (spelt : spelled_in how (suc n) t ≡ word ++ spelled_in how n more) (e : drop at s ≡ spelled_in how (suc n) t ++ (60 ∷ 47 ∷ ys))
      (behind : characters_by n more ≡ true) where
    here : drop at s ≡ word ++ (spelled_in how n more ++ (60 ∷ 47 ∷ ys))
    here = e ∙ ap (λ (l : List ℕ). l ++ (60 ∷ 47 ∷ ys)) spelt ∙ append_assoc word (spelled_in how n more) (60 ∷ 47 ∷ ys)

    both_read : Says s at xs (at + length word) → TextRead s at (spelled_in how (suc n) t) (xs ++ more)
    both_read first =
        rw spelt (then_read s at xs word (spelled_in how n more) more first (rest more (at + length word) behind (skip_here s at word (spelled_in how n more ++ (60 ∷ 47 ∷ ys)) here)))

  short_read : (a : ℕ) (more : List ℕ) → single a ≡ true → characters_by n more ≡ true → drop at s ≡ spelled_in how (suc n) (a ∷ more) ++ (60 ∷ 47 ∷ ys)
      → TextRead s at (spelled_in how (suc n) (a ∷ more)) (a ∷ more)
  short_read a more one behind e =
      let word = spelled_by (how (a ∷ more)) a in
      let left = spelled_in how n more ++ (60 ∷ 47 ∷ ys) in
      let spelt = short_spelled how n a more one in
      let stands_here = here (a ∷ more) (a ∷ []) word more spelt e behind in
      both_read (a ∷ more) (a ∷ []) word more spelt e behind
      (spelt_says s at a word left one stands_here (spelled_unended how n more (47 ∷ ys) behind) (spelt_here (how (a ∷ more)) s at a left (single_small a one) one stands_here))

  first_read : (t : List ℕ) → First n t → drop at s ≡ spelled_in how (suc n) t ++ (60 ∷ 47 ∷ ys) → TextRead s at (spelled_in how (suc n) t) t
  first_read t (short a more is one behind) e = rw is (short_read a more one behind (rw is at e))
  first_read t (long a bs more is highs wide numbered behind) e =
      let whole = a ∷ (bs ++ more) in
      let whole_here : drop at s ≡ spelled_in how (suc n) whole ++ (60 ∷ 47 ∷ ys) = rw is at e in
      let word = long_by (how whole) (a ∷ bs) in
      let left = spelled_in how n more ++ (60 ∷ 47 ∷ ys) in
      let spelt = long_spelled how n a bs more highs (wide whole 0 more refl) in
      let stands_here = here whole (a ∷ bs) word more spelt whole_here behind in
      rw is (both_read whole (a ∷ bs) word more spelt whole_here behind (long_spelt s at a bs left highs numbered wide (how whole) stands_here))

module _ (how : Spelling) (s ys : List ℕ) where
  none_read : (at : ℕ) → drop at s ≡ 60 ∷ 47 ∷ ys → TextRead s at [] []
  none_read at e = let over = text_over s at (47 ∷ ys) (λ z. omega arith) e in record { ends = over.0 ∙ ap Ok (omega arith); says = over.1 }

  reads_by : (n : ℕ) → Reads how n s ys
  unfolding spelled_in
  reads_by zero t at h e = by_list t h
    where
      by_list : (t : List ℕ) → characters_by zero t ≡ true → TextRead s at [] t
      by_list [] h = none_read at e
      by_list (a ∷ t) h = absurd (some_left a t h)
  reads_by (suc n) t at h e = by_list (reads_by n) t h e
    where
      by_list : Reads how n s ys → (t : List ℕ) → characters_by (suc n) t ≡ true → drop at s ≡ spelled_in how (suc n) t ++ (60 ∷ 47 ∷ ys) → TextRead s at (spelled_in how (suc n) t) t
      by_list rest [] h e = none_read at e
      by_list rest (a ∷ t) h e = first_read how n s ys rest at (a ∷ t) (first_of n a t h) e

  pub text_reads : (t : List ℕ) (at : ℕ) → characters t ≡ true → drop at s ≡ spelled how t ++ (60 ∷ 47 ∷ ys) → TextRead s at (spelled how t) t
  unfolding spelled
  text_reads t at h e = reads_by (length t) t at h e
