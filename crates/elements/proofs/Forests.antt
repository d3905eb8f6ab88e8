-- The laws of forests: one beside another, what is counted in them, what is noted of them. Assumes nothing.
use mathlib.Core.Path.{◌≡◌, refl, sym, ap, ◌∙◌}
use mathlib.Core.Bool.{Bool, true, false, cond}
use mathlib.Core.List.{List, [], ◌∷◌}
use Prim.Native.Nat.{ℕ, zero, suc, ◌+◌, ◌≤◌}
use native.Mathlib.Omega.{arith}
use lib.Dec.{eqb, ltb}
use lib.ListN.{length, get_or, set, replicate, length-set}
use Rattle.paths.specs.Roles as roles
use Rattle.paths.specs.Table.{lacks}
use Rattle.elements.specs.Forest.{Forest, none, tree, beside, count_of}
use Rattle.elements.specs.Grammar.{Parsed, read, broken, deep, on_read}
use Rattle.elements.specs.Notes.{lack_note, messages_note, counted, warned, placed, noting, noted}

-- ---- notes and counts at their start, and past their end

pub zeros : (n k : ℕ) → get_or {A = ℕ} (replicate n 0) k 0 ≡ 0
zeros zero k = refl
zeros (suc n) zero = refl
zeros (suc n) (suc k) = zeros n k

pub set_past : (s : List ℕ) (k v : ℕ) → length s ≤ k → set s k v ≡ s
set_past [] k v h = refl
set_past (x ∷ xs) zero v h = absurd (omega arith)
set_past (x ∷ xs) (suc k) v h = ap (λ (r : List ℕ). x ∷ r) (set_past xs k v (omega arith))

-- ---- one beside another

pub beside_none : (f : Forest) → beside f none ≡ f
unfolding beside
beside_none none = refl
beside_none (tree role place inner rest) = ap (λ (r : Forest). tree role place inner r) (beside_none rest)

pub beside_beside : (f g h : Forest) → beside (beside f g) h ≡ beside f (beside g h)
unfolding beside
beside_beside none g h = refl
beside_beside (tree role place inner rest) g h = ap (λ (r : Forest). tree role place inner r) (beside_beside rest g h)

-- what was read so far, beside what is read of the rest
abbrev pub behind : Forest → Parsed → Parsed
behind sofar r = on_read r (λ e g. read e (beside sofar g))

pub nothing_yet : (r : Parsed) → r ≡ behind none r
unfolding beside
nothing_yet (read e g) = refl
nothing_yet (broken p) = refl
nothing_yet (deep p) = refl

pub further : (sofar f : Forest) (r : Parsed) → behind sofar (behind f r) ≡ behind (beside sofar f) r
further sofar f (read e g) = ap (λ (h : Forest). read e h) (sym (beside_beside sofar f g))
further sofar f (broken p) = refl
further sofar f (deep p) = refl

pub count_beside : (f g : Forest) (k : ℕ) → count_of (beside f g) k ≡ count_of f k + count_of g k
unfolding beside count_of
count_beside none g k = omega arith
count_beside (tree role place inner rest) g k = by_test (eqb (roles.counts_as role) k) (count_beside rest g k)
  where
    by_test : (t : Bool) → count_of (beside rest g) k ≡ count_of rest k + count_of g k
        → cond t (suc (count_of (beside rest g) k)) (count_of (beside rest g) k) ≡ cond t (suc (count_of rest k)) (count_of rest k) + count_of g k
    by_test true e = omega arith
    by_test false e = e

pub noted_beside : (f g : Forest) (notes : List ℕ) → noted (beside f g) notes ≡ noted g (noted f notes)
unfolding beside noted
noted_beside none g notes = refl
noted_beside (tree role place inner rest) g notes = noted_beside rest g (noting role place (lacks role (count_of inner)) (noted inner notes))

-- ---- notes keep their number

pub noting_length : (role place : ℕ) (lack : Bool) (notes : List ℕ) → length (noting role place lack notes) ≡ length notes
unfolding noting
noting_length role place lack notes = by_role (eqb role roles.other)
  where
    by_lack : (l : Bool) (n : List ℕ) → length n ≡ length notes → length (warned l place n) ≡ length notes
    by_lack true n e = length-set n lack_note _ ∙ e
    by_lack false n e = e

    by_message : (m : Bool) (n : List ℕ) → length n ≡ length notes → length (counted m n) ≡ length notes
    by_message true n e = length-set n messages_note _ ∙ e
    by_message false n e = e

    by_place : (t : Bool) → length (cond t (set notes role place) notes) ≡ length notes
    by_place true = length-set notes role place
    by_place false = refl

    by_role : (t : Bool) → length (cond t notes (warned lack place (counted (roles.is_message role) (placed role place notes)))) ≡ length notes
    by_role true = refl
    by_role false = by_lack lack (counted (roles.is_message role) (placed role place notes)) (by_message (roles.is_message role) (placed role place notes) (by_place (ltb role roles.roles)))

pub noted_length : (f : Forest) (notes : List ℕ) → length (noted f notes) ≡ length notes
unfolding noted
noted_length none notes = refl
noted_length (tree role place inner rest) notes =
    noted_length rest (noting role place (lacks role (count_of inner)) (noted inner notes)) ∙ noting_length role place (lacks role (count_of inner)) (noted inner notes) ∙ noted_length inner notes
