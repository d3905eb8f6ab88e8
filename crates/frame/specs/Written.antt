-- An input written out from what it holds, for cases. Assumes nothing.
use Rattle.std.specs.Prelude.{ℕ, List, ◌++◌, length}
use Rattle.wire.specs.Field.{bytes_of}
use Rattle.frame.specs.Frame.{date_width, length_width}

abbrev pub part_bytes : List ℕ → List ℕ
part_bytes s = bytes_of length_width (length s) ++ s

abbrev pub input_bytes : ℕ → List ℕ → List ℕ → List ℕ → List ℕ
input_bytes date table register sheet = bytes_of date_width date ++ part_bytes table ++ part_bytes register ++ part_bytes sheet
