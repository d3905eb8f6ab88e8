-- What the bytes that were read tell of an input that may be longer. Assumes nothing.
use Rattle.std.specs.Prelude.{ℕ, ◌≡◌, true, List, length, take}
use Rattle.frame.specs.Frame.{in_shape}

-- of an input, the bytes that a buffer of so many takes
abbrev pub Begins : List ℕ → ℕ → List ℕ → Type 0
Begins all most read = take most all ≡ read

-- n bytes of the buffer; an input that they are all the buffer takes of is in shape if they are, and then it is they
pub record ReadOf (buffer : List ℕ) (n : ℕ) (read : List ℕ) : Type 0 where
  pub bytes : read ≡ take n buffer
  pub shape : (all : List ℕ) → Begins all (length buffer) read → in_shape read ≡ in_shape all
  pub whole : (all : List ℕ) → Begins all (length buffer) read → in_shape all ≡ true → all ≡ read
