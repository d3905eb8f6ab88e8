-- Elements within elements, and how they are written. Assumes nothing.
use Rattle.std.specs.Prelude.{ℕ, cond, List, [], ◌∷◌, ◌++◌}
use Rattle.wire.specs.Field.{text}
use Rattle.paths.specs.Roles as roles
use Rattle.documents.specs.Spelling.{Spelling, spelled}

-- nothing; a field with its text, and what follows it; or a group with what it holds, and what follows it. Each has the role that it is to
-- play, and a name
pub data Markup : Type 0 where
  nothing : Markup
  field : ℕ → List ℕ → List ℕ → Markup → Markup
  group : ℕ → List ℕ → Markup → Markup → Markup

-- an amount says its currency
abbrev pub attributes_of : ℕ → List ℕ
attributes_of role = cond (roles.is_amount role) (text " Ccy=\"EUR\"") []

-- a start tag and an end tag, with something behind them
abbrev pub open_to : List ℕ → List ℕ → List ℕ → List ℕ
open_to name attributes behind = 60 ∷ (name ++ (attributes ++ (62 ∷ behind)))

abbrev pub close_to : List ℕ → List ℕ → List ℕ
close_to name behind = 60 ∷ 47 ∷ (name ++ (62 ∷ behind))

-- elements with something behind them
unfoldable pub written_to : Spelling → Markup → List ℕ → List ℕ
written_to how nothing behind = behind
written_to how (field role name said rest) behind =
    open_to name (attributes_of role) (spelled how said ++ close_to name (written_to how rest behind))
written_to how (group role name inner rest) behind =
    open_to name [] (written_to how inner (close_to name (written_to how rest behind)))
