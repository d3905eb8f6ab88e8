-- The needed elements of a text as trees. Assumes nothing.
use Rattle.std.specs.Prelude.{ℕ, suc, cond, eqb}
use Rattle.paths.specs.Roles as roles

-- nothing; or an element, what it holds, and those after it. An element is its role and a place: where its text begins, of a field;
-- where the element begins, of a group
pub data Forest : Type 0 where
  none : Forest
  tree : ℕ → ℕ → Forest → Forest → Forest

-- one after the other
unfoldable pub beside : Forest → Forest → Forest
beside none g = g
beside (tree role place inner rest) g = tree role place inner (beside rest g)

-- how many of the first level count as a role
unfoldable pub count_of : Forest → ℕ → ℕ
count_of none k = 0
count_of (tree role place inner rest) k = cond (eqb (roles.counts_as role) k) (suc (count_of rest k)) (count_of rest k)
