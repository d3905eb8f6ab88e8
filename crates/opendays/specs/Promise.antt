-- What the next open day is, and that there is none, told of the days themselves. Assumes nothing.
use Rattle.std.specs.Prelude.{◌≡◌, true, false, ℕ, ◌<◌}
use Rattle.opendays.specs.OpenDay.{open_day}

-- e is the first open day after d: it is open, it is later, and no open day lies between
pub record FirstAfter (d e : ℕ) : Type 0 where
  pub is_open : open_day e ≡ true
  pub is_later : d < e
  pub none_between : (x : ℕ) → d < x → x < e → open_day x ≡ false

-- there is none
abbrev pub NoneAfter : ℕ → Type 0
NoneAfter d = (x : ℕ) → d < x → open_day x ≡ false
