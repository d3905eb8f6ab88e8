-- The judgement of bulks one after the other. Assumes nothing.
use mathlib.Core.Path.{◌≡◌, refl, sym, ap, ◌∙◌}
use mathlib.Core.List.{List, [], ◌∷◌, ◌++◌, append_assoc}
use Prim.Native.Nat.{ℕ}
use Rattle.sheet.specs.Sheet.{Bulk}
use Rattle.rules.specs.declared.Terms.{Terms}
use Rattle.messages.specs.Messages.{State}
use Rattle.judging.specs.Judgement.{bulk_line_of, section_of, after_bulk, judge_bulks}

module _ (terms : Terms) (table : List ℕ) where
  -- ---- the first bulks, then the others

  pub record Joins (xs ys : List Bulk) (before : State) : Type 0 where
    pub lines : (judge_bulks terms table (xs ++ ys) before).lines ≡ (judge_bulks terms table xs before).lines ++ (judge_bulks terms table ys (judge_bulks terms table xs before).after).lines
    pub sections : (judge_bulks terms table (xs ++ ys) before).sections ≡ (judge_bulks terms table xs before).sections ++ (judge_bulks terms table ys (judge_bulks terms table xs before).after).sections
    pub after : (judge_bulks terms table (xs ++ ys) before).after ≡ (judge_bulks terms table ys (judge_bulks terms table xs before).after).after

  pub joins : (xs ys : List Bulk) (before : State) → Joins xs ys before
  unfolding judge_bulks
  joins [] ys before = record { lines = refl; sections = refl; after = refl }
  joins (x ∷ xs) ys before =
      let rest = joins xs ys (after_bulk terms table x before) in
      record {
        lines = ap (λ (l : List ℕ). bulk_line_of terms table x before ++ l) rest.lines ∙ sym (append_assoc (bulk_line_of terms table x before) _ _);
        sections = ap (λ (l : List ℕ). section_of terms table x before ++ l) rest.sections ∙ sym (append_assoc (section_of terms table x before) _ _);
        after = rest.after;
      }
