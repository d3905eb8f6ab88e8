-- What the contracts say besides a function's value. Assumes nothing.
use Rattle.std.specs.Prelude.{ℕ, ◌≡◌}
use Rattle.report.specs.declared.Places.{Places}

-- where the next bulk's line and section begin
pub record PlacesTold (places : Places) (line section : ℕ) : Type 0 where
  pub line_is : places.line ≡ line
  pub section_is : places.section ≡ section
