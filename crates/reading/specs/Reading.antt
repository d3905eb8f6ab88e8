-- What `read` answers and leaves, of any text and any space. Assumes nothing.
use Rattle.std.specs.Prelude.{ℕ, cond, List, length, ltb, Result, Ok, Err}
use Rattle.std.proofs.lemmas.List.Edits.{sets}
use Rattle.elements.specs.Forest.{Forest}
use Rattle.elements.specs.Grammar.{Parsed, read, broken, deep}
use Rattle.reading.specs.Text.{parsed}
use Rattle.elements.specs.Questions.{first_lack}
use Rattle.reading.specs.Meaning.{sheet_in, fits_in}
use Rattle.reading.specs.declared.Unread.{Unread}
use Rattle.reading.specs.declared.Unread.TheVariants.{Form, Deep, Lack, Short}

-- ---- the answer

-- of documents that have the form
abbrev pub answered : List ℕ → ℕ → Forest → Result ℕ Unread
answered s space f =
    cond (ltb (first_lack f (length s)) (length s)) (Err (Lack (first_lack f (length s))))
    (cond (fits_in s f space) (Ok (length (sheet_in s f))) (Err Short))

abbrev pub answer_of : List ℕ → ℕ → Parsed → Result ℕ Unread
answer_of s space (read n f) = answered s space f
answer_of s space (broken p) = Err (Form p)
answer_of s space (deep p) = Err (Deep p)

-- ---- the space

-- only a sheet that is made is written
abbrev pub when_made : Result ℕ Unread → List ℕ → List ℕ → List ℕ
when_made (Ok n) made space = made
when_made (Err e) made space = space

abbrev pub written : List ℕ → List ℕ → Parsed → List ℕ
written s space (read n f) = when_made (answered s (length space) f) (sets space 0 (sheet_in s f)) space
written s space (broken p) = space
written s space (deep p) = space

-- ---- the whole call

pub record Outcome : Type 0 where
  pub answer : Result ℕ Unread
  pub sheet : List ℕ

abbrev pub outcome : Result ℕ Unread → List ℕ → Outcome
outcome answer sheet = record { answer = answer; sheet = sheet }

abbrev pub outcome_of : List ℕ → List ℕ → Parsed → Outcome
outcome_of s space p = outcome (answer_of s (length space) p) (written s space p)

unfoldable pub reads : List ℕ → List ℕ → Outcome
reads s space = outcome_of s space (parsed s)

-- ---- the numbers

abbrev pub number_of : Result ℕ Unread → ℕ
number_of (Ok n) = 0
number_of (Err (Form p)) = 21
number_of (Err (Deep p)) = 22
number_of (Err (Lack p)) = 23
number_of (Err Short) = 24

abbrev pub length_of : Result ℕ Unread → ℕ
length_of (Ok n) = n
length_of (Err e) = 0

abbrev pub where_of : Result ℕ Unread → ℕ
where_of (Ok n) = 0
where_of (Err (Form p)) = p
where_of (Err (Deep p)) = p
where_of (Err (Lack p)) = p
where_of (Err Short) = 0
