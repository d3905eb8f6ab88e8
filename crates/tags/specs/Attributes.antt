-- The attributes of a tag: each a name, '=' and a value in quotes, no name twice. Assumes nothing.
use Rattle.std.specs.Prelude.{ℕ, zero, suc, ◌+◌, Bool, false, cond, ◌&&◌, ◌||◌, List, [], ◌∷◌, length, ltb, eqb, Ok, Err, Option, Some, None}
use Rattle.wire.specs.Field.{text, same}
use Rattle.letters.specs.Places.{byte_at, on_reach, going, walk, Reach}
use Rattle.letters.specs.Characters.{width_at}
use Rattle.letters.specs.References.{reference_at}
use Rattle.letters.specs.declared.Turn.{Turn}
use Rattle.letters.specs.declared.Turn.TheVariants.{On, Ends, Breaks}
use Rattle.letters.specs.declared.Reference.{Reference}
use Rattle.tags.specs.Names.{is_space, name_start, space_end, name_end, name_at}

-- ---- a value

-- on after a reference, or broken where it begins
abbrev pub after_reference : Option Reference → ℕ → Turn
after_reference (Some r) at = On r.next
after_reference None at = Breaks at

-- on after a character, or broken where there is none
abbrev pub after_character : ℕ → ℕ → Turn
after_character width at = cond (eqb width 0) (Breaks at) (On (at + width))

-- the quote ends it; '<' may not stand there, '&' begins a reference
unfoldable pub value_turn : ℕ → List ℕ → ℕ → Turn
value_turn quote s at =
    cond (eqb (byte_at s at) quote) (Ends (at + 1))
    (cond (eqb (byte_at s at) 60) (Breaks at)
    (cond (eqb (byte_at s at) 38) (after_reference (reference_at s at) at)
    (after_character (width_at s at) at)))

-- what follows an opening quote, and the closing one
unfoldable pub value_at : ℕ → List ℕ → ℕ → Reach
value_at quote s at = walk (value_turn quote s) s at

-- ---- an attribute

abbrev pub is_quote : ℕ → Bool
is_quote b = eqb b 34 || eqb b 39

-- the place of the '=' of the attribute whose name begins here, and of its opening quote
abbrev pub equals_at : List ℕ → ℕ → ℕ
equals_at s at = space_end s (name_end s at)

abbrev pub quote_at : List ℕ → ℕ → ℕ
quote_at s at = space_end s (equals_at s at + 1)

unfoldable pub attribute_at : List ℕ → ℕ → Reach
attribute_at s at =
    cond (eqb (byte_at s (equals_at s at)) 61)
    (cond (is_quote (byte_at s (quote_at s at))) (value_at (byte_at s (quote_at s at)) s (quote_at s at + 1)) (Err (quote_at s at)))
    (Err (equals_at s at))

-- ---- the attributes of a tag

abbrev pub further : Reach → (ℕ → Bool) → Bool
further (Ok next) f = f next
further (Err p) f = false

-- the test holds of the place of one of at most n attributes' names that stand from place at on and begin before the end
unfoldable pub some_by : (ℕ → Bool) → List ℕ → ℕ → ℕ → ℕ → Bool
some_by test s end zero at = false
some_by test s end (suc n) at =
    ltb (space_end s at) end && (test (space_end s at) || further (attribute_at s (space_end s at)) (λ next. some_by test s end n next))

-- of one of the attributes between two places
unfoldable pub some_attribute : (ℕ → Bool) → List ℕ → ℕ → ℕ → Bool
some_attribute test s from end = some_by test s end (suc (length s)) from

-- an attribute between the places has the name that stands at the second
abbrev pub named : List ℕ → ℕ → ℕ → Bool
named s from at = some_attribute (λ k. same (name_at s k) (name_at s at)) s from at

-- after the attributes that began at place from: spaces and one more, or their end
unfoldable pub attribute_turn : List ℕ → ℕ → ℕ → Turn
attribute_turn s from at =
    cond (is_space (byte_at s at))
    (cond (name_start (byte_at s (space_end s at)))
    (cond (named s from (space_end s at)) (Breaks (space_end s at)) (going (attribute_at s (space_end s at))))
    (Ends (space_end s at)))
    (Ends at)

unfoldable pub attributes_at : List ℕ → ℕ → Reach
attributes_at s from = walk (attribute_turn s from) s from

-- ---- a currency

abbrev pub referred : Option Reference → ℕ → ℕ → Reach
referred (Some r) c at = cond (eqb r.character c) (Ok r.next) (Err at)
referred None c at = Err at

abbrev pub referring : Option Reference → ℕ → (ℕ → Bool) → Bool
referring (Some r) c f = cond (eqb r.character c) (f r.next) false
referring None c f = false

-- the place after a letter that stands here, itself or by a reference
unfoldable pub letter_at : ℕ → List ℕ → ℕ → Reach
letter_at c s at = cond (eqb (byte_at s at) c) (Ok (at + 1)) (referred (reference_at s at) c at)

-- the place after the letters EUR
abbrev pub euro_end : List ℕ → ℕ → Reach
euro_end s at = on_reach (letter_at 69 s at) (λ a. on_reach (letter_at 85 s a) (λ b. letter_at 82 s b))

-- the letters stand here, each itself or by a reference, and the quote after them
unfoldable pub spells : List ℕ → ℕ → List ℕ → ℕ → Bool
spells [] quote s at = eqb (byte_at s at) quote
spells (c ∷ cs) quote s at =
    cond (eqb (byte_at s at) c) (spells cs quote s (at + 1)) (referring (reference_at s at) c (λ next. spells cs quote s next))

-- the attribute whose name begins here is Ccy="EUR"
unfoldable pub in_euros : List ℕ → ℕ → Bool
in_euros s at = same (name_at s at) (text "Ccy") && spells (text "EUR") (byte_at s (quote_at s at)) s (quote_at s at + 1)

-- one of the attributes between two places is
abbrev pub euros : List ℕ → ℕ → ℕ → Bool
euros s from end = some_attribute (in_euros s) s from end
