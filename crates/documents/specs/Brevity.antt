-- How much of a field's text is written: all its bytes, or, as banks write it, without what the reader puts back. Assumes nothing.
use Rattle.std.specs.Prelude.{ℕ, Bool, true, false, cond, List, eqb, length, take, drop}
use Rattle.wire.specs.Field.{text, same}
use Rattle.wording.specs.Wording.{trimmed}
use Rattle.paths.specs.Roles as roles

-- ---- written short

-- a head office by its first eight bytes; but eight bytes with three spaces behind them are written whole, or they would become a head office
unfoldable pub short_receiver : List ℕ → List ℕ
short_receiver t = cond (same (drop 8 t) (text "XXX")) (take 8 t) (cond (eqb (length (trimmed t)) 8) t (trimmed t))

-- any other text without the spaces at its end
unfoldable pub shortened : ℕ → List ℕ → List ℕ
shortened role t = cond (eqb role roles.receiver) (short_receiver t) (trimmed t)

-- ---- written one way or the other

-- whether a text is written short, by its role and its bytes: one may be and another not
abbrev pub Brevity : Type 0
Brevity = ℕ → List ℕ → Bool

abbrev pub worded : Brevity → ℕ → List ℕ → List ℕ
worded brief role t = cond (brief role t) (shortened role t) t

-- ---- two of them

abbrev pub as_banks_write : Brevity
as_banks_write role t = true

abbrev pub in_full : Brevity
in_full role t = false
