-- Messages one after the other: what holds of each, and what is asked of all. Assumes nothing.
use mathlib.Core.Path.{◌≡◌, refl, ap, ◌∙◌}
use mathlib.Core.Bool.{Bool, true, false, cond}
use mathlib.Core.List.{List, [], ◌∷◌, map}
use Prim.Native.Nat.{ℕ, suc}
use lib.Dec.{eqb}
use Rattle.paths.specs.Roles as roles
use Rattle.paths.specs.Table.{lacks}
use Rattle.documents.specs.Markup.{Markup, nothing, group}
use Rattle.documents.specs.Carried.{CarriedMessage, CarriedMessages}
use Rattle.documents.specs.Documents.{each_of}
use Rattle.documents.proofs.Elements.{GroupFits, Fitting}
use Rattle.documents.proofs.Questions.{text_in, there_in, count_in, lack_in, messages_of, message_in}

module _ (role : ℕ) (name : List ℕ) (inner : List ℕ → Markup) where
  abbrev pub one : List ℕ → Markup
  one m = group role name (inner m) nothing

  pub each_silent : (k : ℕ) → ((m t : List ℕ) → text_in k (inner m) t ≡ t) → (ms : List (List ℕ)) (t : List ℕ) → text_in k (each_of role name inner ms) t ≡ t
  unfolding text_in each_of
  each_silent k silent [] t = refl
  each_silent k silent (m ∷ ms) t = ap (text_in k (each_of role name inner ms)) (silent m t) ∙ each_silent k silent ms t

  pub each_absent : (k : ℕ) → eqb role k ≡ false → ((m : List ℕ) (b : Bool) → there_in k (inner m) b ≡ b) → (ms : List (List ℕ)) (b : Bool)
      → there_in k (each_of role name inner ms) b ≡ b
  unfolding there_in each_of
  each_absent k other absent [] b = refl
  each_absent k other absent (m ∷ ms) b =
      let none : cond (eqb role k) true (there_in k (inner m) b) ≡ b = rw (other, absent m b) in
      ap (there_in k (each_of role name inner ms)) none ∙ each_absent k other absent ms b

  pub each_count : (k : ℕ) → eqb (roles.counts_as role) k ≡ false → (ms : List (List ℕ)) → count_in (each_of role name inner ms) k ≡ 0
  unfolding count_in each_of
  each_count k other [] = refl
  each_count k other (m ∷ ms) = rw other (each_count k other ms)

  pub each_complete : ((m : List ℕ) → lacks role (count_in (inner m)) ≡ false) → ((m : List ℕ) → lack_in (inner m) ≡ false) → (ms : List (List ℕ))
      → lack_in (each_of role name inner ms) ≡ false
  unfolding lack_in each_of
  each_complete own below [] = refl
  each_complete own below (m ∷ ms) = rw (own m, below m) (each_complete own below ms)

  pub each_messages : roles.is_message role ≡ true → ((m : List ℕ) → messages_of (inner m) ≡ []) → (ms : List (List ℕ)) → messages_of (each_of role name inner ms) ≡ map one ms
  unfolding messages_of each_of
  each_messages message none [] = refl
  each_messages message none (m ∷ ms) = rw (message, none m) (ap (λ (l : List Markup). one m ∷ l) (each_messages message none ms))

  module _ (kind : ℕ) where
    pub each_fits : (levels parent : ℕ) → GroupFits parent role name → ((m : List ℕ) → CarriedMessage kind m → Fitting levels role (inner m)) → (ms : List (List ℕ))
        → CarriedMessages kind ms → Fitting (suc levels) parent (each_of role name inner ms)
    unfolding Fitting each_of CarriedMessages
    each_fits levels parent own below [] c = tt
    each_fits levels parent own below (m ∷ ms) c = (own, below m c.0, each_fits levels parent own below ms c.1)

    pub each_back : ((m : List ℕ) → CarriedMessage kind m → message_in (one m) ≡ m) → (ms : List (List ℕ)) → CarriedMessages kind ms → map message_in (map one ms) ≡ ms
    unfolding CarriedMessages
    each_back back [] c = refl
    each_back back (m ∷ ms) c = rw (back m c.0, each_back back ms c.1)
