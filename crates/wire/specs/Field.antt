-- Numbers and text in bytes. A byte is a number below 256, a field a run of bytes. Every definition is total: a part that runs past
-- the end is what is left of it. Assumes nothing.
use Prim.Native.Char.{code}
use Prim.Native.String.{String, [] as end, ◌∷◌ as ◌then◌}
use Rattle.std.specs.Prelude.{ℕ, zero, suc, ◌+◌, ◌*◌, ◌/◌, ◌%◌, ◌<◌, Bool, true, false, cond, ◌&&◌, ◌||◌, List, [], ◌∷◌, ◌++◌, take, drop, get_or, eqb, ltb}

-- each element is a byte
abbrev pub Bytes : List ℕ → Type 0
Bytes s = (i : ℕ) → get_or s i 0 < 256

-- a truth value as a number
abbrev pub bit : Bool → ℕ
bit b = cond b 1 0

-- the bytes of a quoted text
abbrev pub text : String → List ℕ
text end = []
text (c then s) = code c ∷ text s

-- the n bytes of s from place at on
abbrev pub part : List ℕ → ℕ → ℕ → List ℕ
part s at n = take n (drop at s)

-- the number v, with the bytes that follow it
unfoldable pub number_from : ℕ → List ℕ → ℕ
number_from v [] = v
number_from v (b ∷ bs) = number_from (v * 256 + b) bs

-- the number that the bytes write, highest first
abbrev pub number_of : List ℕ → ℕ
number_of s = number_from 0 s

-- the number in the n bytes of s from place at on
abbrev pub number_at : List ℕ → ℕ → ℕ → ℕ
number_at s at n = number_of (part s at n)

-- what the count of a section takes, wherever records follow their count
abbrev pub count_width : ℕ
count_width = 4

-- x in w bytes, highest first; what does not fit is dropped at the front
unfoldable pub bytes_of : ℕ → ℕ → List ℕ
bytes_of zero x = []
bytes_of (suc w) x = bytes_of w (x / 256) ++ (x % 256 ∷ [])

-- two texts are equal: as long, and byte for byte
unfoldable pub same : List ℕ → List ℕ → Bool
same [] [] = true
same [] (y ∷ ys) = false
same (x ∷ xs) [] = false
same (x ∷ xs) (y ∷ ys) = eqb x y && same xs ys

-- the order of two fields by their first differing byte
unfoldable pub less : List ℕ → List ℕ → Bool
less [] [] = false
less [] (y ∷ ys) = true
less (x ∷ xs) [] = false
less (x ∷ xs) (y ∷ ys) = ltb x y || eqb x y && less xs ys
