-- What the doors' structs say, as the definitions of the judge, of the lookup, of the reader and of open days say it. Assumes nothing.
use Rattle.std.specs.Prelude.{List, ℕ, Result}
use Rattle.judging.specs.Outcome.{Outcome}
use Rattle.judging.specs.Indexed.{IndexedOutcome}
use Rattle.routing.specs.Lookup.{Routed}
use Rattle.tynderaxo.specs.declared.TynderaxoAnswer.{TynderaxoAnswer}
use Rattle.tynderaxo.specs.declared.TynderaxoIndexedAnswer.{TynderaxoIndexedAnswer}
use Rattle.reading.specs.Reading as reading
use Rattle.opendays.specs.Questions as opendays
use Rattle.opendays.specs.declared.Unanswered.{Unanswered}
use Rattle.tynderaxo.specs.declared.TynderaxoDay.{TynderaxoDay}
use Rattle.tynderaxo.specs.declared.TynderaxoRoute.{TynderaxoRoute}
use Rattle.tynderaxo.specs.declared.TynderaxoReadAnswer.{TynderaxoReadAnswer}

-- an answer and the bytes that were left, as an outcome
abbrev pub door_outcome : TynderaxoAnswer → List ℕ → List ℕ → List ℕ → Outcome
door_outcome answer register positions report =
    record { number = answer.number; length = answer.length; register = register; positions = positions; report = report }

abbrev pub indexed_door_outcome : TynderaxoIndexedAnswer → List ℕ → List ℕ → List ℕ → List ℕ → IndexedOutcome
indexed_door_outcome answer register positions report index =
    record {
      outcome = record { number = answer.number; length = answer.length; register = register; positions = positions; report = report };
      slots = answer.slots;
      index = index;
    }

abbrev pub routed_by : TynderaxoRoute → Routed
routed_by r = record { number = r.number; found = r.found; row = r.row; reachable = r.reachable }

-- a reading in numbers, and the space that it left
pub record ReadOutcome : Type 0 where
  pub number : ℕ
  pub length : ℕ
  pub at : ℕ
  pub sheet : List ℕ

abbrev pub read_outcome : TynderaxoReadAnswer → List ℕ → ReadOutcome
read_outcome answer sheet = record { number = answer.number; length = answer.length; at = answer.at; sheet = sheet }

abbrev pub in_numbers : reading.Outcome → ReadOutcome
in_numbers o =
    record { number = reading.number_of o.answer; length = reading.length_of o.answer; at = reading.where_of o.answer; sheet = o.sheet }

-- an answer about open days in numbers
pub record DayTold : Type 0 where
  pub number : ℕ
  pub value : ℕ

abbrev pub day_told : TynderaxoDay → DayTold
day_told d = record { number = d.number; value = d.value }

abbrev pub day_in_numbers : Result ℕ Unanswered → DayTold
day_in_numbers a = record { number = opendays.number_of a; value = opendays.value_of a }
