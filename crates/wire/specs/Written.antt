-- Fields and records written out, for cases and for the values at the edges. Nothing of the judge is defined by them. Assumes nothing.
use Rattle.std.specs.Prelude.{ℕ, List, [], ◌∷◌, ◌++◌, take, replicate}
use Prim.Native.String.{String}
use Rattle.wire.specs.Field.{text}

-- a quoted text in a field of n bytes, filled with spaces
abbrev pub padded : ℕ → String → List ℕ
padded n s = take n (text s ++ replicate n 32)

-- records one after the other
abbrev pub joined : List (List ℕ) → List ℕ
joined [] = []
joined (x ∷ xs) = x ++ joined xs
