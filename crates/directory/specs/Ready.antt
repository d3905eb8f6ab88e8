-- What the functions on a directory ask of their callers. Contract plumbing. Assumes nothing.
use Rattle.std.specs.Prelude.{ℕ, ◌<◌, ◌≡◌, List}
use Rattle.routing.specs.Table.{rows}
use Rattle.routing.specs.Promise.{Formed}
use Rattle.directory.specs.Directory.{blank, directory_to, directory_of}

-- empty slots beside a table
pub record Unmade (table directory : List ℕ) : Type 0 where
  pub formed : Formed table
  pub empty : directory ≡ blank

-- row i follows those whose directory it is
pub record Begun (date : ℕ) (table directory : List ℕ) (i : ℕ) : Type 0 where
  pub formed : Formed table
  pub row : i < rows table
  pub is : directory ≡ directory_to date table i

-- the directory of the table on the date
pub record Made (date : ℕ) (table directory : List ℕ) : Type 0 where
  pub formed : Formed table
  pub is : directory ≡ directory_of date table
