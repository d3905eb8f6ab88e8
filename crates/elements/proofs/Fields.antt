-- Each way that the reading of a field goes. Assumes nothing.
use mathlib.Core.Path.{◌≡◌, refl, ◌∙◌}
use mathlib.Core.Bool.{Bool, true, false}
use mathlib.Core.List.{List, []}
use Prim.Native.Nat.{ℕ, ◌+◌, ◌≤◌}
use Rattle.std.specs.Prelude.{Err, Ok}
use Rattle.letters.specs.Places.{Reach}
use Rattle.tags.specs.Names.{name_end}
use Rattle.tags.specs.Tags.{start_at, end_at}
use Rattle.tags.specs.declared.Tag.TheVariants.{Open, Empty}
use Rattle.prose.specs.Prose.{text_at, said_at}
use Rattle.paths.specs.Roles as roles
use Rattle.paths.proofs.Rows.{field_complete}
use Rattle.fields.specs.Fields.{fits}
use Rattle.elements.specs.declared.Stop.TheVariants.{Form}
use Rattle.elements.specs.Forest.{Forest, none, tree, count_of}
use Rattle.elements.specs.Grammar.{read, broken, on_reached, provided, in_euros, filled_field, field_at}
use Rattle.elements.specs.Notes.{noting, noted, step_of, Noted, closed_by}

step_closed : (r : Reach) (f : Forest) → step_of (on_reached r (λ n. read n f)) ≡ closed_by r
step_closed (Ok n) f = refl
step_closed (Err p) f = refl

module _ (role : ℕ) (s : List ℕ) (at inside : ℕ) where
  pub filled_to : (e : ℕ) → text_at s inside ≡ Ok e → fits role (said_at s inside) ≡ true → step_of (filled_field role s at inside) ≡ closed_by (end_at s at e)
  unfolding filled_field
  filled_to e t h = (rw (t, h)) ∙ step_closed (end_at s at e) (tree role inside none none)

  pub filled_unfit : (e : ℕ) → text_at s inside ≡ Ok e → fits role (said_at s inside) ≡ false → step_of (filled_field role s at inside) ≡ Err (Form e)
  unfolding filled_field
  filled_unfit e t h = rw (t, h)

  pub filled_broken : (p : ℕ) → text_at s inside ≡ Err p → step_of (filled_field role s at inside) ≡ Err (Form p)
  unfolding filled_field
  filled_broken p t = rw t

  -- ---- what is noted of it

  module _ (field : roles.bulk_identifier ≤ role) (notes : List ℕ) where
    -- a field is noted as lacking nothing
    pub field_noted : (place : ℕ) → noting role place false notes ≡ noted (tree role place none none) notes
    unfolding noted
    field_noted place = rw (field_complete (count_of none) role field)

    pub filled_noted : Noted (filled_field role s at inside) notes (noting role inside false notes)
    unfolding filled_field
    filled_noted = by_text (text_at s inside)
      where
        by_end : (r : Reach) → Noted (on_reached r (λ n. read n (tree role inside none none))) notes (noting role inside false notes)
        by_end (Ok n) = field_noted inside
        by_end (Err p) = tt

        by_fit : (e : ℕ) (t : Bool) → Noted (provided t e (λ u. on_reached (end_at s at e) (λ n. read n (tree role inside none none)))) notes (noting role inside false notes)
        by_fit e true = by_end (end_at s at e)
        by_fit e false = tt

        by_text : (r : Reach) → Noted (on_reached r (λ e. provided (fits role (said_at s inside)) e (λ u. on_reached (end_at s at e) (λ n. read n (tree role inside none none))))) notes (noting role inside false notes)
        by_text (Ok e) = by_fit e (fits role (said_at s inside))
        by_text (Err p) = tt

-- ---- each way through its tag

module _ (role : ℕ) (s : List ℕ) (at : ℕ) where
  pub field_open : (end inside : ℕ) → start_at s at ≡ Ok (Open end inside) → in_euros role s (name_end s (at + 1)) end ≡ true → field_at role s at (start_at s at) ≡ filled_field role s at inside
  unfolding field_at
  field_open end inside e h = rw (e, h)

  pub field_foreign : (end inside : ℕ) → start_at s at ≡ Ok (Open end inside) → in_euros role s (name_end s (at + 1)) end ≡ false → field_at role s at (start_at s at) ≡ broken end
  unfolding field_at
  field_foreign end inside e h = rw (e, h)

  pub field_empty : (end next : ℕ) → start_at s at ≡ Ok (Empty end next) → in_euros role s (name_end s (at + 1)) end ≡ true → fits role [] ≡ true → field_at role s at (start_at s at) ≡ read next (tree role at none none)
  unfolding field_at
  field_empty end next e h k = rw (e, h, k)

  pub field_unfit : (end next : ℕ) → start_at s at ≡ Ok (Empty end next) → in_euros role s (name_end s (at + 1)) end ≡ true → fits role [] ≡ false → field_at role s at (start_at s at) ≡ broken end
  unfolding field_at
  field_unfit end next e h k = rw (e, h, k)

  pub field_empty_foreign : (end next : ℕ) → start_at s at ≡ Ok (Empty end next) → in_euros role s (name_end s (at + 1)) end ≡ false → field_at role s at (start_at s at) ≡ broken end
  unfolding field_at
  field_empty_foreign end next e h = rw (e, h)

  pub field_faulty : (p : ℕ) → start_at s at ≡ Err p → field_at role s at (start_at s at) ≡ broken p
  unfolding field_at
  field_faulty p e = rw e
