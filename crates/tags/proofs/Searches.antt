-- The laws of a search among attributes: its bound never shows, and what is left of it comes to what the whole does; and those of a
-- currency's letters. Assumes nothing.
use mathlib.Core.Path.{◌≡◌, refl, sym, ap, ◌∙◌}
use mathlib.Core.Bool.{Bool, true, false, cond, ◌&&◌, ◌||◌, and-false}
use mathlib.Core.List.{List, ◌∷◌}
use Prim.Native.Nat.{ℕ, zero, suc, ◌+◌, ◌≤◌, ◌<◌}
use native.Mathlib.Omega.{arith}
use lib.Dec.{eqb, ltb}
use lib.ListN.{length}
use borrow.Author.Tests.{ne_eqb, lt-ltb, le-ltb}
use Rattle.wire.specs.Field.{text, same}
use Rattle.letters.specs.Places.{byte_at, on_reach, Reach}
use Rattle.letters.specs.References.{reference_at}
use Rattle.std.specs.Prelude.{Ok, Err, Option, Some, None}
use Rattle.letters.specs.declared.Reference.{Reference}
use Rattle.letters.proofs.Scans.{byte_past}
use Rattle.tags.specs.Names.{space_end, name_at}
use Rattle.tags.specs.Attributes.{attribute_at, further, some_by, some_attribute, referred, referring, letter_at, euro_end, spells, quote_at, in_euros}
use Rattle.tags.proofs.AttributeWalk.{attribute_forward}
use Rattle.letters.proofs.References.{reference_forward}

-- ---- some attribute

module _ (test : ℕ → Bool) (s : List ℕ) (end : ℕ) where
  -- any bound does that passes what is left
  some_any : (f g at : ℕ) → length s < at + f → length s < at + g → 0 < f → 0 < g → some_by test s end f at ≡ some_by test s end g at
  unfolding some_by
  some_any zero g at h k p q = absurd (omega arith)
  some_any (suc f) zero at h k p q = absurd (omega arith)
  some_any (suc f) (suc g) at h k p q = by_reach (some_any f g) (attribute_at s (space_end s at)) refl
    where
      by_reach : ((at : ℕ) → length s < at + f → length s < at + g → 0 < f → 0 < g → some_by test s end f at ≡ some_by test s end g at)
          → (r : Reach) → attribute_at s (space_end s at) ≡ r
          → (ltb (space_end s at) end && (test (space_end s at) || further r (λ next. some_by test s end f next)))
          ≡ (ltb (space_end s at) end && (test (space_end s at) || further r (λ next. some_by test s end g next)))
      by_reach rest (Ok next) e =
          let on = attribute_forward s (space_end s at) next e in
          rw (rest next (omega arith) (omega arith) (omega arith) (omega arith))
      by_reach rest (Err p) e = refl

  module _ (at k : ℕ) (after : k ≡ space_end s at) where
    some_step : (r : Reach) → attribute_at s k ≡ r
        → some_attribute test s at end ≡ (ltb k end && (test k || further r (λ next. some_attribute test s next end)))
    unfolding some_attribute some_by
    some_step r e = (rw (← after, e)) ∙ by_reach r e
      where
        by_reach : (r : Reach) → attribute_at s k ≡ r
            → (ltb k end && (test k || further r (λ next. some_by test s end (length s) next)))
            ≡ (ltb k end && (test k || further r (λ next. some_by test s end (suc (length s)) next)))
        by_reach (Ok next) e =
            let on = attribute_forward s k next e in
            rw (some_any (length s) (suc (length s)) next (omega arith) (omega arith) (omega arith) (omega arith))
        by_reach (Err p) e = refl

    pub some_past : end ≤ k → false ≡ some_attribute test s at end
    some_past h = sym (some_step (attribute_at s k) refl ∙ (rw (le-ltb k end h)))

    module _ (h : k < end) where
      pub some_here : test k ≡ true → true ≡ some_attribute test s at end
      some_here e = sym (some_step (attribute_at s k) refl ∙ (rw (lt-ltb k end h, e)))

      pub some_more : test k ≡ false → (r : Reach) → attribute_at s k ≡ r → further r (λ next. some_attribute test s next end) ≡ some_attribute test s at end
      some_more e r told = sym (some_step r told ∙ (rw (lt-ltb k end h, e)))

      pub some_on : (next : ℕ) → attribute_at s k ≡ Ok next → some_attribute test s at end ≡ (test k || some_attribute test s next end)
      some_on next told = some_step (Ok next) told ∙ (rw (lt-ltb k end h))

-- ---- letters

module _ (c : ℕ) (s : List ℕ) (at : ℕ) where
  pub letter_past : 0 < c → length s ≤ at → letter_at c s at ≡ Err at
  unfolding letter_at
  letter_past some past = (rw (ne_eqb (byte_at s at) c (λ e. (let none = byte_past s at past in omega arith)))) ∙ by_case (reference_at s at) refl
    where
      by_case : (r : Option Reference) → reference_at s at ≡ r → referred r c at ≡ Err at
      by_case (Some r) e = absurd (let ahead = reference_forward s at r.character r.next e in let none = byte_past s at past in omega arith)
      by_case None e = refl

-- one letter, and then the others
pub spells_letter : (c : ℕ) (cs : List ℕ) (quote : ℕ) (s : List ℕ) (at : ℕ) (r : Reach) → letter_at c s at ≡ r
    → spells (c ∷ cs) quote s at ≡ further r (λ next. spells cs quote s next)
unfolding spells letter_at
spells_letter c cs quote s at r told = by_test (eqb (byte_at s at) c) (reference_at s at) ∙ (rw told)
  where
    by_test : (t : Bool) (r : Option Reference)
        → cond t (spells cs quote s (at + 1)) (referring r c (λ next. spells cs quote s next))
        ≡ further (cond t (Ok (at + 1)) (referred r c at)) (λ next. spells cs quote s next)
    by_test true r = refl
    by_test false None = refl
    by_test false (Some r) = by_letter (eqb r.character c)
      where
        by_letter : (t : Bool) → cond t (spells cs quote s r.next) false ≡ further (cond t (Ok r.next) (Err at)) (λ next. spells cs quote s next)
        by_letter true = refl
        by_letter false = refl

-- the three letters of a currency, and its closing quote
module _ (quote : ℕ) (s : List ℕ) where
  abbrev closes : ℕ → Bool
  closes e = eqb (byte_at s e) quote

  last_letter : (b : ℕ) → further (letter_at 82 s b) closes ≡ spells (text "R") quote s b
  unfolding spells
  last_letter b = sym (spells_letter 82 (text "") quote s b _ refl)

  later_letters : (a : ℕ) → further (on_reach (letter_at 85 s a) (λ b. letter_at 82 s b)) closes ≡ spells (text "UR") quote s a
  later_letters a = by_case (letter_at 85 s a) ∙ sym (spells_letter 85 (text "R") quote s a _ refl)
    where
      by_case : (r : Reach) → further (on_reach r (λ b. letter_at 82 s b)) closes ≡ further r (λ next. spells (text "R") quote s next)
      by_case (Ok b) = last_letter b
      by_case (Err p) = refl

  pub euro_spells : (at : ℕ) (r : Reach) → euro_end s at ≡ r → further r closes ≡ spells (text "EUR") quote s at
  euro_spells at r told = ap (λ (x : Reach). further x closes) (sym told) ∙ by_case (letter_at 69 s at) ∙ sym (spells_letter 69 (text "UR") quote s at _ refl)
    where
      by_case : (r : Reach) → further (on_reach r (λ a. on_reach (letter_at 85 s a) (λ b. letter_at 82 s b))) closes ≡ further r (λ next. spells (text "UR") quote s next)
      by_case (Ok a) = later_letters a
      by_case (Err p) = refl

-- ---- each way through a currency

module _ (s : List ℕ) (at : ℕ) where
  pub euros_other : same (name_at s at) (text "Ccy") ≡ false → false ≡ in_euros s at
  unfolding in_euros
  euros_other e = rw e

  pub euros_past : length s ≤ quote_at s at → false ≡ in_euros s at
  unfolding in_euros
  euros_past past =
      let none : spells (text "EUR") (byte_at s (quote_at s at)) s (quote_at s at + 1) ≡ false =
      spells_letter 69 (text "UR") _ s (quote_at s at + 1) (Err (quote_at s at + 1)) (letter_past 69 s (quote_at s at + 1) (omega arith) (omega arith)) in
      sym (ap (λ (t : Bool). same (name_at s at) (text "Ccy") && t) none ∙ and-false (same (name_at s at) (text "Ccy")))

  pub euros_spelled : same (name_at s at) (text "Ccy") ≡ true → spells (text "EUR") (byte_at s (quote_at s at)) s (quote_at s at + 1) ≡ in_euros s at
  unfolding in_euros
  euros_spelled e = rw e
