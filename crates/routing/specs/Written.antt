-- A row and a table written out from their fields, for cases and the values at the edges. Assumes nothing.
use Rattle.std.specs.Prelude.{ℕ, List, ◌++◌, length}
use Prim.Native.String.{String}
use Rattle.wire.specs.Field.{text, bytes_of}
use Rattle.wire.specs.Written.{joined}
use Rattle.routing.specs.Table.{date_width, count_width}

abbrev pub row_bytes : String → ℕ → ℕ → ℕ → List ℕ
row_bytes bic first last kind = text bic ++ bytes_of date_width first ++ bytes_of date_width last ++ bytes_of 1 kind

abbrev pub table_bytes : List (List ℕ) → List ℕ
table_bytes rows = bytes_of count_width (length rows) ++ joined rows
