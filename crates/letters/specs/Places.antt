-- What stands at a place of a text, and how a text is walked. Total: past the end stands 0, which is of no form. Assumes nothing.
use Rattle.std.specs.Prelude.{ℕ, zero, suc, ◌+◌, ◌-◌, Bool, cond, ◌&&◌, List, [], ◌∷◌, length, drop, get_or, leb, eqb, Result, Ok, Err}
use Rattle.wire.specs.Field.{part}
use Rattle.letters.specs.declared.Turn.{Turn}
use Rattle.letters.specs.declared.Turn.TheVariants.{On, Ends, Breaks}

-- where something ends, or the place at which its form is broken
abbrev pub Reach : Type 0
Reach = Result ℕ ℕ

abbrev pub byte_at : List ℕ → ℕ → ℕ
byte_at s at = get_or s at 0

abbrev pub within : ℕ → ℕ → ℕ → Bool
within low high b = leb low b && leb b high

-- ---- runs

-- how many bytes in a row, from the first on, pass the test
unfoldable pub run : (ℕ → Bool) → List ℕ → ℕ
run f [] = 0
run f (b ∷ bs) = cond (f b) (suc (run f bs)) 0

-- the place after the bytes that pass the test and stand from place at on
abbrev pub run_end : (ℕ → Bool) → List ℕ → ℕ → ℕ
run_end f s at = at + run f (drop at s)

-- the bytes from one place up to another
abbrev pub between : List ℕ → ℕ → ℕ → List ℕ
between s from to = part s from (to - from)

-- ---- words

-- the word stands here, and what is after it; or the first place at which it does not
unfoldable pub matches : List ℕ → List ℕ → ℕ → Reach
matches [] t at = Ok at
matches (b ∷ bs) [] at = Err at
matches (b ∷ bs) (c ∷ cs) at = cond (eqb c b) (matches bs cs (at + 1)) (Err at)

abbrev pub expected : List ℕ → List ℕ → ℕ → Reach
expected s word at = matches word (drop at s) at

abbrev pub on_reach : Reach → (ℕ → Reach) → Reach
on_reach (Ok n) f = f n
on_reach (Err p) f = Err p

-- ---- a walk: turn by turn, each from the place that the one before led to

abbrev pub on_turn : Turn → (ℕ → Reach) → Reach
on_turn (On next) f = f next
on_turn (Ends e) f = Ok e
on_turn (Breaks p) f = Err p

-- where something that was read leads on to, or breaks
abbrev pub going : Reach → Turn
going (Ok n) = On n
going (Err p) = Breaks p

-- at most n turns
unfoldable pub walk_by : (ℕ → Turn) → ℕ → ℕ → Reach
walk_by turn zero at = Err at
walk_by turn (suc n) at = on_turn (turn at) (λ next. walk_by turn n next)

-- a turn that goes on begins in the text and ends after where it began, so that there are no more of them than bytes, and one that does not
unfoldable pub walk : (ℕ → Turn) → List ℕ → ℕ → Reach
walk turn s at = walk_by turn (suc (length s)) at
