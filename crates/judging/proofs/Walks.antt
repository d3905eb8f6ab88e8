-- A step of the judgement: the first bulk, and what is left. Assumes nothing.
use mathlib.Core.Path.{◌≡◌, refl}
use mathlib.Core.List.{List, ◌∷◌, ◌++◌}
use Prim.Native.Nat.{ℕ}
use Rattle.sheet.specs.Sheet.{Bulk}
use Rattle.rules.specs.declared.Terms.{Terms}
use Rattle.messages.specs.Messages.{State}
use Rattle.judging.specs.Judgement.{bulk_line_of, section_of, after_bulk, judge_bulks}

module _ (terms : Terms) (table : List ℕ) (b : Bulk) (bs : List Bulk) (before : State) where
  pub after_bulk_lem : (judge_bulks terms table bs (after_bulk terms table b before)).after ≡ (judge_bulks terms table (b ∷ bs) before).after
  unfolding judge_bulks
  after_bulk_lem = refl

  pub bulk_lines_lem : (judge_bulks terms table (b ∷ bs) before).lines ≡ bulk_line_of terms table b before ++ (judge_bulks terms table bs (after_bulk terms table b before)).lines
  unfolding judge_bulks
  bulk_lines_lem = refl

  pub bulk_sections : (judge_bulks terms table (b ∷ bs) before).sections ≡ section_of terms table b before ++ (judge_bulks terms table bs (after_bulk terms table b before)).sections
  unfolding judge_bulks
  bulk_sections = refl
