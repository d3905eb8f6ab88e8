-- What is asked of the needed elements of a text. Assumes nothing.
use Rattle.std.specs.Prelude.{ℕ, min, cond, List, [], ◌∷◌, ◌++◌, eqb}
use Rattle.paths.specs.Roles as roles
use Rattle.paths.specs.Table.{lacks}
use Rattle.elements.specs.Forest.{Forest, none, tree, count_of}

-- the place of the first element that lacks something, if it stands before a place; else that place
unfoldable pub first_lack : Forest → ℕ → ℕ
first_lack none p = p
first_lack (tree role place inner rest) p =
    first_lack rest (cond (lacks role (count_of inner)) (min (first_lack inner p) place) (first_lack inner p))

-- the place of the last element that plays a role; else a given one
unfoldable pub place_in : ℕ → Forest → ℕ → ℕ
place_in k none p = p
place_in k (tree role place inner rest) p = place_in k rest (cond (eqb role k) place (place_in k inner p))

-- the messages, each by itself, in order; a message holds no other
unfoldable pub messages_in : Forest → List Forest
messages_in none = []
messages_in (tree role place inner rest) = messages_in inner ++ (cond (roles.is_message role) (tree role place inner none ∷ []) [] ++ messages_in rest)

-- no sheet counts as many
abbrev pub too_many : ℕ
too_many = 4294967296
