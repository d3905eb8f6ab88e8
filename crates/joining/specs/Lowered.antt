-- The documents of a text in two parts, and places told from a later place on. Assumes nothing.
use Rattle.std.specs.Prelude.{ℕ, zero, suc, ◌-◌}
use Rattle.elements.specs.Forest.{Forest, none, tree}

-- ---- the first so many, and the others

unfoldable pub firsts : ℕ → Forest → Forest
firsts zero f = none
firsts (suc k) none = none
firsts (suc k) (tree role place inner rest) = tree role place inner (firsts k rest)

unfoldable pub others : ℕ → Forest → Forest
others zero f = f
others (suc k) none = none
others (suc k) (tree role place inner rest) = others k rest

-- how many there are
unfoldable pub count : Forest → ℕ
count none = zero
count (tree role place inner rest) = suc (count rest)

-- the place at which the first of them begins; where there is none, a given one
unfoldable pub begins : Forest → ℕ → ℕ
begins none end = end
begins (tree role place inner rest) end = place

-- ---- places

-- each of them less so many: what stands in a part of a text stands there by so much less
unfoldable pub lowered : ℕ → Forest → Forest
lowered d none = none
lowered d (tree role place inner rest) = tree role (place - d) (lowered d inner) (lowered d rest)
