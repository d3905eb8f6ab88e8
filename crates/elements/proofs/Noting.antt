-- The notes answer what is asked of the needed elements: where each role is played, what lacks something first, how many messages there
-- are. Assumes nothing.
use mathlib.Core.Path.{◌≡◌, refl, sym, ap, ◌∙◌}
use mathlib.Core.Bool.{Bool, true, false, cond}
use mathlib.Core.List.{List, [], ◌∷◌, ◌++◌}
use Prim.Native.Nat.{ℕ, suc, ◌+◌, ◌≤◌, ◌<◌, min}
use native.Mathlib.Omega.{arith}
use lib.Dec.{eqb, ltb}
use lib.ListN.{length, get_or, set, length-set, length-append}
use lib.Seq.{get_or-set_same, get_or-set_other}
use borrow.Author.Tests.{eq-eqb, ne_eqb, eqb-true, eqb-false, ltb-true, ltb-false, lt-ltb}
use Rattle.paths.specs.Roles as roles
use Rattle.paths.specs.Table.{lacks}
use Rattle.paths.proofs.Rows.{lacks_other}
use Rattle.elements.specs.Forest.{Forest, none, tree, count_of}
use Rattle.elements.specs.Notes.{lack_note, messages_note, too_many, one_more, counted, warned, placed, noting, noted}
use Rattle.elements.specs.Questions.{first_lack, place_in, messages_in}
use Rattle.elements.proofs.Forests.{noting_length, noted_length}

abbrev pub note_count : ℕ
note_count = 36

-- ---- one element

module _ (notes : List ℕ) (size : length notes ≡ note_count) where
  at_warned : (lack : Bool) (place k : ℕ) → (k ≡ lack_note → ⊥) → get_or (warned lack place notes) k 0 ≡ get_or notes k 0
  at_warned true place k other = get_or-set_other notes lack_note k (min (get_or notes lack_note 0) place) 0 other
  at_warned false place k other = refl

  lack_warned : (lack : Bool) (place : ℕ) → get_or (warned lack place notes) lack_note 0 ≡ cond lack (min (get_or notes lack_note 0) place) (get_or notes lack_note 0)
  lack_warned true place = get_or-set_same notes lack_note (min (get_or notes lack_note 0) place) 0 (omega arith)
  lack_warned false place = refl

  at_counted : (message : Bool) (k : ℕ) → (k ≡ messages_note → ⊥) → get_or (counted message notes) k 0 ≡ get_or notes k 0
  at_counted true k other = get_or-set_other notes messages_note k (one_more (get_or notes messages_note 0)) 0 other
  at_counted false k other = refl

  messages_counted : (message : Bool) → get_or (counted message notes) messages_note 0 ≡ cond message (one_more (get_or notes messages_note 0)) (get_or notes messages_note 0)
  messages_counted true = get_or-set_same notes messages_note (one_more (get_or notes messages_note 0)) 0 (omega arith)
  messages_counted false = refl

  at_placed : (role place k : ℕ) → (role ≡ k → ⊥) → get_or (placed role place notes) k 0 ≡ get_or notes k 0
  at_placed role place k other = by_test (ltb role roles.roles)
    where
      by_test : (t : Bool) → get_or (cond t (set notes role place) notes) k 0 ≡ get_or notes k 0
      by_test true = get_or-set_other notes role k place 0 (λ e. other (sym e))
      by_test false = refl

  far_placed : (role place k : ℕ) → roles.roles ≤ k → get_or (placed role place notes) k 0 ≡ get_or notes k 0
  far_placed role place k far = by_test (ltb role roles.roles) refl
    where
      by_test : (t : Bool) → ltb role roles.roles ≡ t → get_or (cond t (set notes role place) notes) k 0 ≡ get_or notes k 0
      by_test true e = let low = ltb-true role roles.roles e in get_or-set_other notes role k place 0 (λ (z : k ≡ role). absurd (omega arith))
      by_test false e = refl

  own_placed : (role place : ℕ) → role < roles.roles → get_or (placed role place notes) role 0 ≡ place
  own_placed role place low = rw (lt-ltb role roles.roles low) (get_or-set_same notes role place 0 (omega arith))

module _ (role place : ℕ) (lack : Bool) (notes : List ℕ) (size : length notes ≡ note_count) where
  placed_size : length (placed role place notes) ≡ note_count
  placed_size = by_test (ltb role roles.roles)
    where
      by_test : (t : Bool) → length (cond t (set notes role place) notes) ≡ note_count
      by_test true = length-set notes role place ∙ size
      by_test false = size

  counted_size : length (counted (roles.is_message role) (placed role place notes)) ≡ note_count
  counted_size = by_test (roles.is_message role)
    where
      by_test : (t : Bool) → length (counted t (placed role place notes)) ≡ note_count
      by_test true = length-set (placed role place notes) messages_note (one_more (get_or (placed role place notes) messages_note 0)) ∙ placed_size
      by_test false = placed_size

  -- an element that is stepped over is not noted
  noting_other : role ≡ roles.other → noting role place lack notes ≡ notes
  unfolding noting
  noting_other e = rw (eq-eqb role roles.other e)

  noting_some : (role ≡ roles.other → ⊥) → noting role place lack notes ≡ warned lack place (counted (roles.is_message role) (placed role place notes))
  unfolding noting
  noting_some e = rw (ne_eqb role roles.other e)

  pub noting_lack : (role ≡ roles.other → lack ≡ false) → get_or (noting role place lack notes) lack_note 0 ≡ cond lack (min (get_or notes lack_note 0) place) (get_or notes lack_note 0)
  noting_lack bare = by_test (eqb role roles.other) refl
    where
      by_test : (t : Bool) → eqb role roles.other ≡ t → get_or (noting role place lack notes) lack_note 0 ≡ cond lack (min (get_or notes lack_note 0) place) (get_or notes lack_note 0)
      by_test true e = let is = eqb-true role roles.other e in rw (noting_other is, bare is)
      by_test false e =
          rw (
            noting_some (eqb-false role roles.other e),
            lack_warned (counted (roles.is_message role) (placed role place notes)) counted_size lack place,
            at_counted (placed role place notes) placed_size (roles.is_message role) lack_note (λ (z : lack_note ≡ messages_note). absurd (omega arith)),
            far_placed notes size role place lack_note (omega arith),
          )

  pub noting_place : (k : ℕ) → 0 < k → k < roles.roles → get_or (noting role place lack notes) k 0 ≡ cond (eqb role k) place (get_or notes k 0)
  noting_place k some low = by_test (eqb role roles.other) refl (eqb role k) refl
    where
      by_test : (t : Bool) → eqb role roles.other ≡ t → (u : Bool) → eqb role k ≡ u → get_or (noting role place lack notes) k 0 ≡ cond u place (get_or notes k 0)
      by_test true e true f = absurd (omega (arith, eqb-true role roles.other e, eqb-true role k f))
      by_test true e false f = rw (noting_other (eqb-true role roles.other e))
      by_test false e u f =
          rw (
            noting_some (eqb-false role roles.other e),
            at_warned (counted (roles.is_message role) (placed role place notes)) counted_size lack place k (λ (z : k ≡ lack_note). absurd (omega arith)),
            at_counted (placed role place notes) placed_size (roles.is_message role) k (λ (z : k ≡ messages_note). absurd (omega arith)),
          ) (own u f)
        where
          own : (u : Bool) → eqb role k ≡ u → get_or (placed role place notes) k 0 ≡ cond u place (get_or notes k 0)
          own true f = let is = eqb-true role k f in rw (← is) (own_placed notes size role place (omega arith))
          own false f = at_placed notes size role place k (eqb-false role k f)

  pub noting_messages : get_or (noting role place lack notes) messages_note 0 ≡ cond (roles.is_message role) (one_more (get_or notes messages_note 0)) (get_or notes messages_note 0)
  noting_messages = by_test (eqb role roles.other) refl
    where
      by_test : (t : Bool) → eqb role roles.other ≡ t → get_or (noting role place lack notes) messages_note 0 ≡ cond (roles.is_message role) (one_more (get_or notes messages_note 0)) (get_or notes messages_note 0)
      by_test true e = let is = eqb-true role roles.other e in rw (noting_other is, is)
      by_test false e =
          rw (
            noting_some (eqb-false role roles.other e),
            at_warned (counted (roles.is_message role) (placed role place notes)) counted_size lack place messages_note (λ (z : messages_note ≡ lack_note). absurd (omega arith)),
            messages_counted (placed role place notes) placed_size (roles.is_message role),
            far_placed notes size role place messages_note (omega arith),
          )

-- ---- all of them

pub noted_lack : (f : Forest) (notes : List ℕ) → length notes ≡ note_count → get_or (noted f notes) lack_note 0 ≡ first_lack f (get_or notes lack_note 0)
unfolding noted first_lack
noted_lack none notes size = refl
noted_lack (tree role place inner rest) notes size =
    noted_lack rest (noting role place (lacks role (count_of inner)) (noted inner notes)) (noting_length role place (lacks role (count_of inner)) (noted inner notes) ∙ noted_length inner notes ∙ size)
    ∙ ap (first_lack rest) (noting_lack role place (lacks role (count_of inner)) (noted inner notes) (noted_length inner notes ∙ size) (lacks_other role (count_of inner))
    ∙ ap (λ (p : ℕ). cond (lacks role (count_of inner)) (min p place) p) (noted_lack inner notes size))

pub noted_place : (k : ℕ) → 0 < k → k < roles.roles → (f : Forest) (notes : List ℕ) → length notes ≡ note_count → get_or (noted f notes) k 0 ≡ place_in k f (get_or notes k 0)
unfolding noted place_in
noted_place k some low none notes size = refl
noted_place k some low (tree role place inner rest) notes size =
    noted_place k some low rest (noting role place (lacks role (count_of inner)) (noted inner notes)) (noting_length role place (lacks role (count_of inner)) (noted inner notes) ∙ noted_length inner notes ∙ size)
    ∙ ap (place_in k rest) (noting_place role place (lacks role (count_of inner)) (noted inner notes) (noted_length inner notes ∙ size) k some low
    ∙ ap (λ (p : ℕ). cond (eqb role k) place p) (noted_place k some low inner notes size))

pub one_more_lem : (n : ℕ) → n ≤ too_many → one_more n ≡ min (n + 1) too_many
one_more_lem n low = by_test (ltb n too_many) refl
  where
    by_test : (t : Bool) → ltb n too_many ≡ t → cond t (suc n) n ≡ min (n + 1) too_many
    by_test true e = let h = ltb-true n too_many e in omega arith
    by_test false e = let h = ltb-false n too_many e in omega arith

pub noted_messages : (f : Forest) (notes : List ℕ) → length notes ≡ note_count → get_or notes messages_note 0 ≤ too_many
    → get_or (noted f notes) messages_note 0 ≡ min (get_or notes messages_note 0 + length (messages_in f)) too_many
unfolding noted messages_in
noted_messages none notes size low = omega arith
noted_messages (tree role place inner rest) notes size low =
    let within = noted_messages inner notes size low in
    let sized : length (noting role place (lacks role (count_of inner)) (noted inner notes)) ≡ note_count = noting_length role place (lacks role (count_of inner)) (noted inner notes) ∙ noted_length inner notes ∙ size in
    let own = noting_messages role place (lacks role (count_of inner)) (noted inner notes) (noted_length inner notes ∙ size) in
    by_test (noted_messages rest (noting role place (lacks role (count_of inner)) (noted inner notes)) sized) within (roles.is_message role) own
  where
    by_test : (get_or (noting role place (lacks role (count_of inner)) (noted inner notes)) messages_note 0 ≤ too_many
        → get_or (noted rest (noting role place (lacks role (count_of inner)) (noted inner notes))) messages_note 0
        ≡ min (get_or (noting role place (lacks role (count_of inner)) (noted inner notes)) messages_note 0 + length (messages_in rest)) too_many)
        → get_or (noted inner notes) messages_note 0 ≡ min (get_or notes messages_note 0 + length (messages_in inner)) too_many
        → (m : Bool) → get_or (noting role place (lacks role (count_of inner)) (noted inner notes)) messages_note 0 ≡ cond m (one_more (get_or (noted inner notes) messages_note 0)) (get_or (noted inner notes) messages_note 0)
        → get_or (noted rest (noting role place (lacks role (count_of inner)) (noted inner notes))) messages_note 0
        ≡ min (get_or notes messages_note 0 + length (messages_in inner ++ (cond {A = List Forest} m (tree role place inner none ∷ []) [] ++ messages_in rest))) too_many
    by_test further within true own =
        let one = one_more_lem (get_or (noted inner notes) messages_note 0) (omega arith) in
        let all : length (messages_in inner ++ (tree role place inner none ∷ messages_in rest)) ≡ length (messages_in inner) + suc (length (messages_in rest)) = length-append (messages_in inner) (tree role place inner none ∷ messages_in rest) in
        let more = further (omega arith) in
        omega arith
    by_test further within false own =
        let all : length (messages_in inner ++ messages_in rest) ≡ length (messages_in inner) + length (messages_in rest) = length-append (messages_in inner) (messages_in rest) in
        let more = further (omega arith) in
        omega arith
