-- What a function that prints a response tells. Contract plumbing: what is printed is defined in Response. Assumes nothing.
use Rattle.std.specs.Prelude.{ℕ, ◌≤◌, ◌≡◌, List, length, take}
use Rattle.decimals.specs.Printed.{Printed}
use Rattle.frame.specs.Frame.{most_part}
use Rattle.frame.specs.Read.{Begins}
use Rattle.printing.specs.Response.{most_response, response}

-- a text that is no longer than most stands in the buffer
pub record PrintedWithin (most : ℕ) (before after : List ℕ) (at next : ℕ) (text : List ℕ) : Type 0 where
  pub printed : Printed before after at next text
  pub short : length text ≤ most

-- a whole answer: it stands at the buffer's start, as many bytes are told as were written there, and a buffer that any response fits
-- holds all of it
pub record Answered (before after : List ℕ) (written : ℕ) (text : List ℕ) : Type 0 where
  pub printed : Printed before after 0 written text
  pub within : written ≤ length after
  pub counted : written ≡ length (take written after)
  pub all : most_response ≤ length before → take written after ≡ text

-- n bytes of the buffer are answered; and an input of any length, of which they are all that the buffer takes, is answered whole
pub record AnsweredAll (buffer : List ℕ) (n : ℕ) (before after : List ℕ) (written : ℕ) : Type 0 where
  pub answered : Answered before after written (response (take n buffer))
  pub whole : (all : List ℕ) → Begins all (length buffer) (take n buffer) → take written after ≡ response all

-- the parts are no longer than a part may be
pub record PartsFit (sheet table register : List ℕ) : Type 0 where
  pub sheet_fits : length sheet ≤ most_part
  pub table_fits : length table ≤ most_part
  pub register_fits : length register ≤ most_part
