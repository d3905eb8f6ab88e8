-- The limits of what is carried are the reader's own: no text says or means anything outside them. Assumes nothing.
use Rattle.std.specs.Prelude.{ℕ, ◌^◌, ◌<◌, ◌≡◌, true, List}
use Rattle.prose.specs.Prose.{said_at}
use Rattle.meanings.specs.Meanings.{decimal, is_number, cents, is_amount, is_date, date_number}
use Rattle.documents.specs.Amounts.{carried_amount}
use Rattle.documents.specs.Carried.{characters}

pub record NothingElse : Type 0 where
  pub texts : (s : List ℕ) (at : ℕ) → characters (said_at s at) ≡ true
  pub numbers : (t : List ℕ) → is_number t ≡ true → decimal t < 10 ^ 15
  pub amounts : (t : List ℕ) → is_amount t ≡ true → carried_amount (cents t) ≡ true
  pub dates : (t : List ℕ) → is_date t ≡ true → date_number t < 10 ^ 8
