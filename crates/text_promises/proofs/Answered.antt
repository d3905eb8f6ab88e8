-- The reader's answer, proved of its definition to be the right one. Assumes nothing.
use mathlib.Core.Path.{◌≡◌, ap, ◌∙◌}
use mathlib.Core.Bool.{Bool, true, false, cond}
use mathlib.Core.List.{List}
use Prim.Native.Nat.{ℕ, ◌≤◌, ◌<◌}
use lib.ListN.{length}
use borrow.Author.Tests.{lt-ltb, le-ltb}
use Rattle.elements.specs.Forest.{Forest}
use Rattle.elements.specs.Grammar.{Parsed, read, broken, deep}
use Rattle.elements.specs.Questions.{first_lack}
use Rattle.reading.specs.Text.{parsed}
use Rattle.reading.specs.Meaning.{sheet_in, fits_in}
use Rattle.reading.specs.Reading.{answer_of, reads, number_of, length_of, where_of}
use Rattle.reading.specs.declared.Unread.{Unread}
use Rattle.reading.specs.declared.Unread.TheVariants.{Form, Deep, Lack, Short}
use Rattle.std.specs.Prelude.{Result, Ok, Err}
use Rattle.text_promises.specs.Texts.{the_reader, Says, AnswersAsWritten}

module _ (text space : List ℕ) where
  -- what is said goes by the answer
  says : (answer : Result ℕ Unread) → (reads text space).answer ≡ answer → Says (the_reader text space) answer
  says answer e = (ap number_of e, ap length_of e, ap where_of e)

  -- and the answer by what the text comes to
  answered : (p : Parsed) → parsed text ≡ p → (reads text space).answer ≡ answer_of text (length space) p
  unfolding reads
  answered p e = ap (λ (q : Parsed). answer_of text (length space) q) e

  module _ (n : ℕ) (f : Forest) (was : parsed text ≡ read n f) where
    abbrev lack : ℕ
    lack = first_lack f (length text)

    abbrev tests : Bool → Bool → Result ℕ Unread
    tests t u = cond t (Err (Lack lack)) (cond u (Ok (length (sheet_in text f))) (Err Short))

    lacks : lack < length text → Says (the_reader text space) (Err (Lack lack))
    lacks low = says (Err (Lack lack)) (answered (read n f) was ∙ ap (λ (t : Bool). tests t (fits_in text f (length space))) (lt-ltb lack (length text) low))

    complete : length text ≤ lack → (u : Bool) → fits_in text f (length space) ≡ u → (reads text space).answer ≡ tests false u
    complete high u fit =
        answered (read n f) was
        ∙ ap (λ (t : Bool). tests t (fits_in text f (length space))) (le-ltb lack (length text) high)
        ∙ ap (λ (v : Bool). tests false v) fit

-- Every text gets the answer that its form, its elements and the space ask for, in this order.
pub answers_as_written : AnswersAsWritten the_reader
answers_as_written text space =
    record {
      formless = λ p was. says text space (Err (Form p)) (answered text space (broken p) was);
      too_deep = λ p was. says text space (Err (Deep p)) (answered text space (deep p) was);
      lacking = λ n f was low. lacks text space n f was low;
      too_short = λ n f was high fit. says text space (Err Short) (complete text space n f was high false fit);
      made = λ n f was high fit. says text space (Ok (length (sheet_in text f))) (complete text space n f was high true fit);
    }
