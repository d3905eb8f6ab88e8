-- The laws of a declaration and of all that stands before the first document: a declaration from each of its settings on, and a text without
-- one. Assumes nothing.
use mathlib.Core.Path.{◌≡◌}
use mathlib.Core.Bool.{false}
use mathlib.Core.List.{List}
use Prim.Native.Nat.{ℕ}
use Rattle.std.specs.Prelude.{Ok}
use Rattle.wire.specs.Field.{text}
use Rattle.letters.specs.Places.{expected, on_reach, Reach}
use Rattle.letters.specs.References.{stands}
use Rattle.tags.specs.Names.{space_end}
use Rattle.prolog.specs.Prolog.{after_mark, maybe_setting, prolog}

module _ (s : List ℕ) where
  abbrev pub closed : ℕ → Reach
  closed c = expected s (text "?>") (space_end s c)

  abbrev pub from_standalone : ℕ → Reach
  from_standalone b = on_reach (maybe_setting 2 115 s b) closed

  abbrev pub from_encoding : ℕ → Reach
  from_encoding a = on_reach (maybe_setting 1 101 s a) from_standalone

module _ (s : List ℕ) (from : ℕ) (marked : from ≡ after_mark s) where
  pub prolog_plain : stands s from (text "<?xml") ≡ false → prolog s ≡ Ok (space_end s from)
  unfolding prolog
  prolog_plain e = rw (← marked, e)
