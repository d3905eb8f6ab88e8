-- What a text says, as the code has it: where it stands, or as it is kept. Assumes nothing.
use Rattle.std.specs.Prelude.{ℕ, ◌<◌, ◌≡◌, Bool, true, false, List, length, take, ltb}
use Rattle.fields.specs.declared.Told.{Told}
use Rattle.fields.specs.declared.Told.TheVariants.{Straight, Kept}

abbrev pub is_cut : Told → Bool
is_cut (Straight t) = false
is_cut (Kept said) = ltb 35 said.length

abbrev pub bytes_told : Told → List ℕ
bytes_told (Straight t) = t.now
bytes_told (Kept said) = take said.length said.bytes

-- one that is not cut is the whole text; as much of one that is cut is the text's as is kept
pub record ToldOf (text : List ℕ) (told : Told) : Type 0 where
  pub whole : is_cut told ≡ false → bytes_told told ≡ text
  pub long : is_cut told ≡ true → 35 < length text
  pub kept : take 35 (bytes_told told) ≡ take 35 text
