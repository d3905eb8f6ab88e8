-- The loop over a content that is stepped over: what is left of it leads to where the whole leads. Assumes nothing.
use mathlib.Core.Path.{◌≡◌, refl, sym, ◌∙◌}
use mathlib.Core.List.{List}
use Prim.Native.Nat.{ℕ, ◌+◌, ◌<◌}
use native.Mathlib.Omega.{arith}
use lib.ListN.{length}
use Rattle.std.specs.Prelude.{Ok, Err}
use Rattle.letters.specs.Places.{byte_at}
use Rattle.tags.specs.Names.{name_at}
use Rattle.prose.specs.Prose.{text_at}
use Rattle.paths.specs.Roles as roles
use Rattle.paths.proofs.Rows.{no_others}
use Rattle.elements.specs.declared.Stop.{Stop}
use Rattle.elements.specs.declared.Stop.TheVariants.{Form, Deep}
use Rattle.elements.specs.Forest.{Forest, beside}
use Rattle.elements.specs.Grammar.{Parsed, read, broken, deep, on_read, content_by}
use Rattle.elements.specs.Notes.{step_of}
use Rattle.elements.proofs.Steps.{stopped}
use Rattle.elements.proofs.Forward.{Onward, content_broken, content_ends, content_child}

-- what is stepped over is a group
pub other_group : roles.other < roles.bulk_identifier
other_group = omega arith

same_step : (f : Forest) (r : Parsed) → step_of (on_read r (λ e g. read e (beside f g))) ≡ step_of r
same_step f (read e g) = refl
same_step f (broken p) = refl
same_step f (deep p) = refl

module _ (element : ℕ → ℕ → Parsed) (s : List ℕ) (onward : Onward element (length s)) (i : ℕ) where
  pub over_broken : (p : ℕ) → text_at s i ≡ Err p → Err (Form p) ≡ step_of (content_by element roles.other s i)
  over_broken p e = sym (rw (content_broken element roles.other s onward i p e))

  pub over_ends : (j : ℕ) → text_at s i ≡ Ok j → byte_at s (j + 1) ≡ 47 → Ok j ≡ step_of (content_by element roles.other s i)
  over_ends j e h = sym (rw (content_ends element roles.other s onward i j e h))

  module _ (j : ℕ) (text : text_at s i ≡ Ok j) (more : byte_at s (j + 1) ≡ 47 → ⊥) where
    over_child : (r : Parsed) → element roles.other j ≡ r
        → content_by element roles.other s i ≡ on_read r (λ next f. on_read (content_by element roles.other s next) (λ e g. read e (beside f g)))
    over_child r e = content_child element roles.other s onward i j r text more (rw (no_others (name_at s (j + 1))) e)

    pub over_read : (n : ℕ) (f : Forest) → element roles.other j ≡ read n f → step_of (content_by element roles.other s n) ≡ step_of (content_by element roles.other s i)
    over_read n f e = sym ((rw (over_child (read n f) e)) ∙ same_step f (content_by element roles.other s n))

    pub over_stopped : (e : Stop) → element roles.other j ≡ stopped e → Err e ≡ step_of (content_by element roles.other s i)
    over_stopped (Form p) e = sym (rw (over_child (broken p) e))
    over_stopped (Deep p) e = sym (rw (over_child (deep p) e))
