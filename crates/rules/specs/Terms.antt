-- What a call asks to be judged by. Assumes nothing.
use Rattle.std.specs.Prelude.{ℕ}
use Rattle.rules.specs.declared.Terms.{Terms}

-- the terms of a call that gives a date and no more
abbrev pub dated : ℕ → Terms
dated date = record { date = date }
