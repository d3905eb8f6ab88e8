-- Start tags and end tags. Assumes nothing.
use Rattle.std.specs.Prelude.{ℕ, ◌+◌, cond, List, ltb, eqb, length, Ok, Err, Result}
use Rattle.wire.specs.Field.{text}
use Rattle.letters.specs.Places.{byte_at, expected, on_reach, Reach}
use Rattle.tags.specs.Names.{name_start, name_end, space_end, name_at}
use Rattle.tags.specs.Attributes.{attributes_at}
use Rattle.tags.specs.declared.Tag.{Tag}
use Rattle.tags.specs.declared.Tag.TheVariants.{Open, Empty}

-- what ends a start tag: '>' or '/>'
abbrev pub closed_at : List ℕ → ℕ → Result Tag ℕ
closed_at s at =
    cond (eqb (byte_at s at) 62) (Ok (Open at (at + 1)))
    (cond (eqb (byte_at s at) 47) (cond (eqb (byte_at s (at + 1)) 62) (Ok (Empty at (at + 2))) (Err (at + 1)))
    (Err at))

abbrev pub closing : List ℕ → Reach → Result Tag ℕ
closing s (Ok end) = closed_at s end
closing s (Err p) = Err p

-- '<', a name, attributes, and the end of the tag. Of a tag are told the place where its attributes end, and the place after it.
-- Where the text has ended before the '<', the form is broken at that place already
unfoldable pub start_at : List ℕ → ℕ → Result Tag ℕ
start_at s at =
    cond (ltb at (length s))
    (cond (name_start (byte_at s (at + 1))) (closing s (attributes_at s (name_end s (at + 1)))) (Err (at + 1)))
    (Err at)

-- '</', the name of the tag that began at a place, spaces or none, '>'
unfoldable pub end_at : List ℕ → ℕ → ℕ → Reach
end_at s start at =
    on_reach (expected s (text "</") at) (λ n.
    on_reach (expected s (name_at s (start + 1)) n) (λ m.
    expected s (text ">") (space_end s m)))
