-- Tags as they are written, without an attribute and with the currency. Assumes nothing.
use mathlib.Core.Path.{◌≡◌, refl, sym, ap, ◌∙◌}
use mathlib.Core.Bool.{Bool, true, false, ◌&&◌, and-eq-true_iff, false≢true}
use mathlib.Core.List.{List, [], ◌∷◌, ◌++◌}
use Prim.Native.Nat.{ℕ, ◌+◌, ◌<◌}
use native.Mathlib.Omega.{arith}
use lib.Dec.{eqb}
use lib.ListN.{length, drop, get_or}
use lib.Seq.{drop-drop}
use Rattle.wire.specs.Field.{text, same}
use Rattle.letters.specs.Places.{byte_at}
use Rattle.letters.specs.Characters.{single}
use Rattle.std.specs.Prelude.{Ok}
use Rattle.letters.specs.declared.Turn.TheVariants.{On, Ends}
use Rattle.letters.proofs.Characters.{width_first}
use Rattle.tags.specs.Names.{is_space, name_start, name_byte, space_end, name_end, name_at}
use Rattle.tags.specs.Attributes.{value_turn, value_at, equals_at, quote_at, attribute_at, named, attributes_at, spells, in_euros, euros}
use Rattle.tags.specs.Tags.{start_at, end_at}
use Rattle.tags.specs.declared.Tag.TheVariants.{Open}
use Rattle.tags.proofs.Values.{value_turn_lem}
use Rattle.tags.proofs.AttributeWalk.{attribute_value, turn_plain, turn_on, attributes_turn}
use Rattle.tags.proofs.Searches.{some_past, some_here}
use Rattle.tags.proofs.Tags.{closed_open, start_named, start_plain}
use Rattle.documents.specs.Markup.{open_to, close_to}
use Rattle.documents.proofs.Here.{byte_here, byte_further, next_here, skip_here, all, run_here, between_here, word_here}

-- ---- names

abbrev pub is_name : List ℕ → Bool
is_name name = name_start (get_or name 0 0) && all name_byte name

module _ (s name : List ℕ) (at b : ℕ) (ys : List ℕ) (is : is_name name ≡ true) (stop : name_byte b ≡ false) (e : drop at s ≡ name ++ (b ∷ ys)) where
  both : (name_start (get_or name 0 0) ≡ true) × (all name_byte name ≡ true)
  both = (and-eq-true_iff (name_start (get_or name 0 0)) (all name_byte name)).0 is

  pub name_ends : name_end s at ≡ at + length name
  name_ends = run_here name_byte s at name b ys both.1 stop e

  pub name_here : name_at s at ≡ name
  name_here = between_here name_byte s at name b ys both.1 stop e

some_name : (name : List ℕ) → is_name name ≡ true → 0 < length name
unfolding name_start
some_name [] e = absurd (false≢true e)
some_name (x ∷ xs) e = omega arith

first_byte : (name : List ℕ) (ys : List ℕ) → is_name name ≡ true → get_or (name ++ ys) 0 0 ≡ get_or name 0 0
first_byte [] ys e = absurd (omega (arith, some_name [] e))
first_byte (x ∷ xs) ys e = refl

pub starts_here : (s name : List ℕ) (at : ℕ) (ys : List ℕ) → is_name name ≡ true → drop at s ≡ name ++ ys → name_start (byte_at s at) ≡ true
starts_here s name at ys is e =
    let first : byte_at s at ≡ get_or name 0 0 = ap (byte_at s) zero_on ∙ byte_further s at 0 (name ++ ys) e ∙ first_byte name ys is in
    rw first ((and-eq-true_iff (name_start (get_or name 0 0)) (all name_byte name)).0 is).0
  where
    zero_on : at ≡ at + 0
    zero_on = omega arith

-- ---- spaces

pub no_space : (s : List ℕ) (at b : ℕ) (ys : List ℕ) → is_space b ≡ false → drop at s ≡ b ∷ ys → space_end s at ≡ at
unfolding all
no_space s at b ys plain e = run_here is_space s at [] b ys refl plain e ∙ omega arith

-- ---- the currency

module _ (s : List ℕ) (from : ℕ) (ys : List ℕ) (e : drop from s ≡ text " Ccy=\"EUR\"" ++ (62 ∷ ys)) where
  abbrev left : List ℕ
  left = text " Ccy=\"EUR\"" ++ (62 ∷ ys)

  byte : (k : ℕ) → byte_at s (from + k) ≡ get_or left k 0
  byte k = byte_further s from k left e

  later : (k : ℕ) → drop (from + k) s ≡ drop k left
  later k = sym (drop-drop k from s) ∙ ap (λ (l : List ℕ). drop k l) e

  spaces_end : space_end s from ≡ from + 1
  unfolding all is_space
  spaces_end = run_here is_space s from (32 ∷ []) 67 (text "cy=\"EUR\"" ++ (62 ∷ ys)) refl refl e

  currency_name : name_at s (from + 1) ≡ text "Ccy"
  unfolding all name_byte name_start
  currency_name = name_here s (text "Ccy") (from + 1) 61 (text "\"EUR\"" ++ (62 ∷ ys)) refl refl (later 1)

  equals_at_lem : equals_at s (from + 1) ≡ from + 4
  unfolding all name_byte name_start is_space
  equals_at_lem =
      let ends : name_end s (from + 1) ≡ from + 4 = name_ends s (text "Ccy") (from + 1) 61 (text "\"EUR\"" ++ (62 ∷ ys)) refl refl (later 1) ∙ omega arith in
      rw ends (no_space s (from + 4) 61 (text "\"EUR\"" ++ (62 ∷ ys)) refl (later 4))

  quote_at_lem : quote_at s (from + 1) ≡ from + 5
  unfolding is_space
  quote_at_lem =
      let next : equals_at s (from + 1) + 1 ≡ from + 5 = rw equals_at_lem (omega arith) in
      rw next (no_space s (from + 5) 34 (text "EUR\"" ++ (62 ∷ ys)) refl (later 5))

  -- a letter of the value
  letter : (at c : ℕ) → byte_at s at ≡ c → eqb c 34 ≡ false → eqb c 60 ≡ false → eqb c 38 ≡ false → single c ≡ true → value_at 34 s at ≡ value_at 34 s (at + 1)
  unfolding value_turn
  letter at c b p q r one =
      value_turn_lem 34 s at (On (at + 1)) (rw (b, p, q, r) (rw (← (width_first s at (rw b one)))))

  value_ends : value_at 34 s (from + 6) ≡ Ok (from + 10)
  unfolding value_turn
  value_ends =
      letter (from + 6) 69 (byte 6) refl refl refl refl
      ∙ ap (value_at 34 s) (omega arith) ∙ letter (from + 7) 85 (byte 7) refl refl refl refl
      ∙ ap (value_at 34 s) (omega arith) ∙ letter (from + 8) 82 (byte 8) refl refl refl refl
      ∙ ap (value_at 34 s) (omega arith) ∙ value_turn_lem 34 s (from + 9) (Ends (from + 9 + 1)) (rw (byte 9)) ∙ ap Ok (omega arith)

  attribute_ends : attribute_at s (from + 1) ≡ Ok (from + 10)
  attribute_ends =
      let five : from + 5 ≡ space_end s (from + 4 + 1) = sym quote_at_lem ∙ ap (λ (p : ℕ). space_end s (p + 1)) equals_at_lem in
      let six : from + 5 + 1 ≡ from + 6 = omega arith in
      sym (attribute_value s (from + 1) (from + 4) (sym equals_at_lem) (byte 4) (from + 5) five (rw (byte 5)))
      ∙ (rw (byte 5, six) value_ends)

  pub attributes_end : attributes_at s from ≡ Ok (from + 10)
  unfolding attributes_at is_space name_start
  attributes_end =
      let spaced : is_space (byte_at s from) ≡ true = ap is_space (byte_here s from 32 (text "Ccy=\"EUR\"" ++ (62 ∷ ys)) e) in
      let begins : name_start (byte_at s (from + 1)) ≡ true = ap name_start (byte 1) in
      let fresh : named s from (from + 1) ≡ false = sym (some_past (λ k. same (name_at s k) (name_at s (from + 1))) s (from + 1) from (from + 1) (sym spaces_end) (omega arith)) in
      let first = turn_on s from from spaced (from + 1) (sym spaces_end) begins fresh (Ok (from + 10)) attribute_ends in
      let last = turn_plain s from (from + 10) (ap is_space (byte 10)) in
      attributes_turn s from from (On (from + 10)) (sym first) ∙ attributes_turn s from (from + 10) (Ends (from + 10)) (sym last)

  pub says_euros : euros s from (from + 10) ≡ true
  unfolding in_euros spells same
  says_euros = sym (some_here (in_euros s) s (from + 10) from (from + 1) (sym spaces_end) (omega arith) in_euros_lem)
    where
      seven : from + 6 + 1 ≡ from + 7
      seven = omega arith

      eight : from + 7 + 1 ≡ from + 8
      eight = omega arith

      nine : from + 8 + 1 ≡ from + 9
      nine = omega arith

      six : from + 5 + 1 ≡ from + 6
      six = omega arith

      in_euros_lem : in_euros s (from + 1) ≡ true
      in_euros_lem = rw (currency_name, quote_at_lem, six, byte 5, byte 6, seven, byte 7, eight, byte 8, nine, byte 9)

-- ---- start tags

module _ (s name : List ℕ) (at : ℕ) (ys : List ℕ) (is : is_name name ≡ true) where
  pub plain_start : drop at s ≡ open_to name [] ys → start_at s at ≡ Ok (Open (at + 1 + length name) (at + 1 + length name + 1))
  unfolding name_byte name_start
  plain_start e =
      let on = next_here s at 60 (name ++ (62 ∷ ys)) e in
      let ends = name_ends s name (at + 1) 62 ys is refl on in
      let behind = skip_here s (at + 1) name (62 ∷ ys) on in
      sym (start_plain s at (starts_here s name (at + 1) (62 ∷ ys) is on) (at + 1 + length name) (sym ends) (byte_here s (at + 1 + length name) 62 ys behind))

  pub euro_start : drop at s ≡ open_to name (text " Ccy=\"EUR\"") ys → start_at s at ≡ Ok (Open (at + 1 + length name + 10) (at + 1 + length name + 10 + 1))
  unfolding name_byte name_start
  euro_start e =
      let rest = text "Ccy=\"EUR\"" ++ (62 ∷ ys) in
      let on = next_here s at 60 (name ++ (32 ∷ rest)) e in
      let ends = name_ends s name (at + 1) 32 rest is refl on in
      let behind = skip_here s (at + 1) name (32 ∷ rest) on in
      sym
      (start_named s at (starts_here s name (at + 1) (32 ∷ rest) is on) (at + 1 + length name) (sym ends) (Ok (at + 1 + length name + 10)) (attributes_end s (at + 1 + length name) ys behind))
      ∙ sym (closed_open s (at + 1 + length name + 10) (byte s (at + 1 + length name) ys behind 10))

-- ---- end tags

module _ (s name : List ℕ) (start at : ℕ) (ys : List ℕ) (is : name_at s (start + 1) ≡ name) (e : drop at s ≡ close_to name ys) where
  pub end_here : end_at s start at ≡ Ok (at + 2 + length name + 1)
  unfolding end_at is_space
  end_here =
      let two = skip_here s at (text "</") (name ++ (62 ∷ ys)) e in
      let three = skip_here s (at + 2) name (62 ∷ ys) two in
      rw (word_here s at (text "</") (name ++ (62 ∷ ys)) e, is, word_here s (at + 2) name (62 ∷ ys) two, no_space s (at + 2 + length name) 62 ys refl three)
      (word_here s (at + 2 + length name) (text ">") ys three)

  pub end_past : drop (at + 2 + length name + 1) s ≡ ys
  end_past =
      let two = skip_here s at (text "</") (name ++ (62 ∷ ys)) e in
      let three = skip_here s (at + 2) name (62 ∷ ys) two in
      next_here s (at + 2 + length name) 62 ys three
