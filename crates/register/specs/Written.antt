-- A register written out from the keys in use and the places left, for cases and the values at the edges. Assumes nothing.
use Rattle.std.specs.Prelude.{ℕ, ◌*◌, List, ◌++◌, map, length, replicate}
use Rattle.wire.specs.Field.{bytes_of}
use Rattle.wire.specs.Written.{joined}
use Rattle.register.specs.Register.{entry_width, entry, used_width}

abbrev pub register_bytes : List (List ℕ) → ℕ → List ℕ
register_bytes keys free = bytes_of used_width (length keys) ++ joined (map entry keys) ++ replicate (free * entry_width) 0
