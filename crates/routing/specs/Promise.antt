-- What the contracts say besides a function's value: facts that the code of a crate above needs, so that it cites no proof of this one.
use Prim.Native.Char.{code}
use Rattle.std.specs.Prelude.{ℕ, ◌+◌, ◌*◌, ◌≤◌, ◌<◌, ◌≡◌, Bool, true, false, List, length, take, replicate, Option as RustOption, Some, None, Result, Ok, Err}
use Rattle.std.proofs.Math.Option.{Option, none, some}
use Rattle.std.proofs.lemmas.List.Edits.{sets}
use Rattle.wire.specs.Field.{part}
use Rattle.routing.specs.Table.{institution_width, branch_width, bic_width, row_width, count_width, most_rows, rows, well_formed}
use Rattle.routing.specs.Lookup.{head_office, is_head_office, Routed, values_of}
use Rattle.routing.specs.declared.HeadOffice.{HeadOffice}
use Rattle.routing.specs.declared.Refusal.{Refusal}
use Rattle.routing.specs.declared.Row.{Row}

-- the test of the form, and what a table that passes it is
pub record Formed (table : List ℕ) : Type 0 where
  pub whole : length table ≡ count_width + row_width * rows table
  pub few : rows table ≤ most_rows

pub record FormTold (table : List ℕ) (told : Bool) : Type 0 where
  pub is : told ≡ well_formed table
  pub formed : told ≡ true → Formed table

-- the place found, and that it is a row of the table
abbrev pub Below : ℕ → Option ℕ → Type 0
Below n none = Unit {0}
Below n (some i) = i < n

pub record RowTold (table : List ℕ) (told expected : Option ℕ) : Type 0 where
  pub is : told ≡ expected
  pub within : Below (rows table) told

-- the row of a BIC, its own, else that of its head office, where `found` tells what a search for a text may come to
abbrev pub ElseHead : (List ℕ → RustOption ℕ → Type 0) → List ℕ → RustOption ℕ → RustOption ℕ → Type 0
ElseHead found bic (Some i) told = told ≡ Some i
ElseHead found bic None told = (is_head_office bic ≡ true → told ≡ None) × (is_head_office bic ≡ false → found (head_office bic) told)

pub record RoutedBy (found : List ℕ → RustOption ℕ → Type 0) (bic : List ℕ) (told : RustOption ℕ) : Type 0 where
  pub own : RustOption ℕ
  pub own_found : found bic own
  pub is : ElseHead found bic own told

-- a head office is so many bytes of a text, the front of a BIC over X
abbrev pub head_in : List ℕ → HeadOffice
head_in bic =
    record {
      text = sets (replicate bic_width (code "X")) 0 (part bic 0 institution_width);
      length = length (part bic 0 institution_width) + branch_width;
    }

pub record HeadTold (bic : List ℕ) (told : HeadOffice) : Type 0 where
  pub whole : told ≡ head_in bic
  pub within : told.length ≤ length told.text
  pub is : take told.length told.text ≡ head_office bic

-- the answer to a question, and that a row it names is a row of the table, of which there are few
abbrev pub NamedBelow : ℕ → Result (RustOption Row) Refusal → Type 0
NamedBelow n (Err r) = Unit {0}
NamedBelow n (Ok None) = Unit {0}
NamedBelow n (Ok (Some row)) = row.place < n

pub record AnswerTold (table : List ℕ) (told : Result (RustOption Row) Refusal) (expected : Routed) : Type 0 where
  pub is : values_of told ≡ expected
  pub within : NamedBelow (rows table) told
  pub small : NamedBelow most_rows told
