-- What is asked of a forest, asked of the markup that it means: no place shows any more. Assumes nothing.
use mathlib.Core.Path.{◌≡◌, refl, sym, ap, ◌∙◌}
use mathlib.Core.Bool.{Bool, true, false, cond, not, ◌||◌, false≢true}
use mathlib.Core.List.{List, [], ◌∷◌, ◌++◌, map, map-append}
use Prim.Native.Nat.{ℕ, suc, ◌+◌, ◌*◌, ◌<◌}
use native.Mathlib.Omega.{arith}
use lib.Dec.{eqb}
use borrow.Author.Tests.{ne_eqb, leb-true}
use Rattle.wire.specs.Field.{bit, bytes_of}
use Rattle.wire.proofs.Sides.{both_false}
use Rattle.sheet.specs.Sheet.{kind_width, marks_width, payment_kind, return_kind}
use Rattle.prose.specs.Prose.{said_at}
use Rattle.paths.specs.Roles as roles
use Rattle.paths.specs.Table.{lacks}
use Rattle.paths.proofs.Rows.{field_complete, lacks_alike}
use Rattle.fields.specs.Fields.{field_bytes, is_clearing, is_system}
use Rattle.records.specs.Records.{header_of, message_of}
use Rattle.elements.specs.Forest.{Forest, none, tree, count_of}
use Rattle.elements.specs.Questions.{first_lack, place_in, messages_in}
use Rattle.reading.specs.Meaning.{places_in}
use Rattle.documents.specs.Markup.{Markup, nothing, field, group}
use Rattle.documents.proofs.Elements.{Means}

-- ---- the questions

-- the text of the last field that plays a role; else a given one
unfoldable pub text_in : ℕ → Markup → List ℕ → List ℕ
text_in k nothing t = t
text_in k (field role name said rest) t = text_in k rest (cond (eqb role k) said t)
text_in k (group role name inner rest) t = text_in k rest (text_in k inner t)

-- whether a role is played; else a given answer
unfoldable pub there_in : ℕ → Markup → Bool → Bool
there_in k nothing b = b
there_in k (field role name said rest) b = there_in k rest (cond (eqb role k) true b)
there_in k (group role name inner rest) b = there_in k rest (cond (eqb role k) true (there_in k inner b))

unfoldable pub count_in : Markup → ℕ → ℕ
count_in nothing k = 0
count_in (field role name said rest) k = cond (eqb (roles.counts_as role) k) (suc (count_in rest k)) (count_in rest k)
count_in (group role name inner rest) k = cond (eqb (roles.counts_as role) k) (suc (count_in rest k)) (count_in rest k)

-- some element lacks something; no field does
unfoldable pub lack_in : Markup → Bool
lack_in nothing = false
lack_in (field role name said rest) = lack_in rest
lack_in (group role name inner rest) = lacks role (count_in inner) || (lack_in inner || lack_in rest)

unfoldable pub messages_of : Markup → List Markup
messages_of nothing = []
messages_of (field role name said rest) = messages_of rest
messages_of (group role name inner rest) = messages_of inner ++ (cond (roles.is_message role) (group role name inner nothing ∷ []) [] ++ messages_of rest)

-- ---- the records

abbrev pub text_of : Markup → ℕ → List ℕ
text_of w k = text_in k w []

abbrev pub bytes_in : Markup → ℕ → List ℕ
bytes_in w k = field_bytes k (text_of w k)

abbrev pub header_in : Markup → List ℕ
header_in w =
    bytes_of kind_width (cond (there_in roles.payments w false) payment_kind return_kind)
    ++ bytes_in w roles.bulk_identifier
    ++ bytes_in w roles.sender
    ++ bytes_in w roles.stated_number
    ++ bytes_in w roles.stated_sum
    ++ bytes_in w roles.value_date
    ++ bytes_of marks_width (bit (is_clearing (text_of w roles.method)) + 2 * bit (is_system (text_of w roles.system)) + 4 * bit (there_in roles.recipient w false))

abbrev pub message_in : Markup → List ℕ
message_in w =
    bytes_in w roles.identifier
    ++ bytes_in w roles.receiver
    ++ bytes_in w roles.amount
    ++ bytes_in w roles.original_amount
    ++ bytes_in w roles.reason
    ++ bytes_in w roles.original_name

-- ---- lists that come to the same, one after the other

joined_alike : (g : Forest → List ℕ) (h : Markup → List ℕ) (es fs gs : List Forest) (xs ys zs : List Markup) → map g es ≡ map h xs → map g fs ≡ map h ys → map g gs ≡ map h zs
    → map g (es ++ (fs ++ gs)) ≡ map h (xs ++ (ys ++ zs))
joined_alike g h es fs gs xs ys zs p q r =
    rw (map-append g es (fs ++ gs), map-append g fs gs, map-append h xs (ys ++ zs), map-append h ys zs, p, q, r)

-- ---- what a place says

abbrev there : ℕ → Bool
there p = not (eqb p 0)

module _ (s : List ℕ) where
  abbrev said_if : ℕ → List ℕ
  said_if p = cond (there p) (said_at s p) []

  there_at : (p : ℕ) → 0 < p → there p ≡ true
  there_at p h = rw (ne_eqb p 0 (λ z. omega arith))

  other_role : (role k : ℕ) → roles.is_field role ≡ false → roles.is_field k ≡ true → eqb role k ≡ false
  other_role role k holds says = ne_eqb role k (λ z. false≢true (sym holds ∙ (rw z says)))

  said_in : (k : ℕ) → roles.is_field k ≡ true → (w : Markup) (f : Forest) → Means s w f → (p : ℕ) (t : List ℕ) → said_if p ≡ t → said_if (place_in k f p) ≡ text_in k w t
  unfolding Means place_in text_in
  said_in k is_field nothing none m p t e = e
  said_in k is_field nothing (tree played place inner others) m p t e = absurd m
  said_in k is_field (field role name said rest) none m p t e = absurd m
  said_in k is_field (field role name said rest) (tree played place inner others) m p t e = said_in k is_field rest others m.1 _ _ (rw (m.0.role_is, m.0.bare) (by_test (eqb role k)))
    where
      by_test : (b : Bool) → said_if (cond b place p) ≡ cond b said t
      by_test true = (rw (there_at place m.0.there)) ∙ m.0.says
      by_test false = e
  said_in k is_field (group role name within rest) none m p t e = absurd m
  said_in k is_field (group role name within rest) (tree played place inner others) m p t e =
      said_in k is_field rest others m.2 _ _ (rw (m.0.role_is, other_role role k m.0.kind is_field) (said_in k is_field within inner m.1 p t e))

  there_in_lem : (k : ℕ) (w : Markup) (f : Forest) → Means s w f → (p : ℕ) (b : Bool) → there p ≡ b → there (place_in k f p) ≡ there_in k w b
  unfolding Means place_in there_in
  there_in_lem k nothing none m p b e = e
  there_in_lem k nothing (tree played place inner others) m p b e = absurd m
  there_in_lem k (field role name said rest) none m p b e = absurd m
  there_in_lem k (field role name said rest) (tree played place inner others) m p b e = there_in_lem k rest others m.1 _ _ (rw (m.0.role_is, m.0.bare) (by_test (eqb role k)))
    where
      by_test : (t : Bool) → there (cond t place p) ≡ cond t true b
      by_test true = there_at place m.0.there
      by_test false = e
  there_in_lem k (group role name within rest) none m p b e = absurd m
  there_in_lem k (group role name within rest) (tree played place inner others) m p b e = there_in_lem k rest others m.2 _ _ (rw m.0.role_is (by_test (there_in_lem k within inner m.1 p b e) (eqb role k)))
    where
      by_test : there (place_in k inner p) ≡ there_in k within b → (t : Bool) → there (cond t place (place_in k inner p)) ≡ cond t true (there_in k within b)
      by_test held true = there_at place m.0.there
      by_test held false = held

  -- ---- what is counted, and what is lacked

  count_in_lem : (w : Markup) (f : Forest) → Means s w f → (k : ℕ) → count_of f k ≡ count_in w k
  unfolding Means count_of count_in
  count_in_lem nothing none m k = refl
  count_in_lem nothing (tree played place inner others) m k = absurd m
  count_in_lem (field role name said rest) none m k = absurd m
  count_in_lem (field role name said rest) (tree played place inner others) m k = rw (m.0.role_is, count_in_lem rest others m.1 k)
  count_in_lem (group role name within rest) none m k = absurd m
  count_in_lem (group role name within rest) (tree played place inner others) m k = rw (m.0.role_is, count_in_lem rest others m.2 k)

  pub lacks_in : (w : Markup) (f : Forest) → Means s w f → (role : ℕ) → lacks role (count_of f) ≡ lacks role (count_in w)
  lacks_in w f m role = lacks_alike (count_of f) (count_in w) role (λ k small. ap (λ (n : ℕ). eqb n 1) (count_in_lem w f m k))

  pub complete_in : (w : Markup) (f : Forest) → Means s w f → lack_in w ≡ false → (p : ℕ) → first_lack f p ≡ p
  unfolding Means first_lack lack_in
  complete_in nothing none m h p = refl
  complete_in nothing (tree played place inner others) m h p = absurd m
  complete_in (field role name said rest) none m h p = absurd m
  complete_in (field role name said rest) (tree played place inner others) m h p =
      rw (m.0.role_is, m.0.bare, field_complete (count_of none) role (leb-true roles.bulk_identifier role m.0.kind)) (complete_in rest others m.1 h p)
  complete_in (group role name within rest) none m h p = absurd m
  complete_in (group role name within rest) (tree played place inner others) m h p =
      let a = both_false (lacks role (count_in within)) (lack_in within || lack_in rest) h in
      let b = both_false (lack_in within) (lack_in rest) a.1 in
      rw (m.0.role_is, lacks_in within inner m.1 role, a.0, complete_in within inner m.1 b.0 p) (complete_in rest others m.2 b.1 p)

  -- ---- the records

  module _ (w : Markup) (f : Forest) (m : Means s w f) where
    said_of : (k : ℕ) → roles.is_field k ≡ true → said_if (place_in k f 0) ≡ text_of w k
    said_of k is_field = said_in k is_field w f m 0 [] refl

    there_of : (k : ℕ) → there (place_in k f 0) ≡ there_in k w false
    there_of k = there_in_lem k w f m 0 false refl

    pub header_in_lem : header_of s (places_in f) ≡ header_in w
    unfolding header_of
    header_in_lem = rw (there_of roles.payments, there_of roles.recipient, said_of roles.bulk_identifier refl, said_of roles.sender refl, said_of roles.stated_number refl, said_of roles.stated_sum refl, said_of roles.value_date refl, said_of roles.method refl, said_of roles.system refl)

    pub message_in_lem : message_of s (places_in f) ≡ message_in w
    unfolding message_of
    message_in_lem = rw (said_of roles.identifier refl, said_of roles.receiver refl, said_of roles.amount refl, said_of roles.original_amount refl, said_of roles.reason refl, said_of roles.original_name refl)

  -- ---- the messages

  abbrev message_bytes : Forest → List ℕ
  message_bytes m = message_of s (places_in m)

  field_silent : (role : ℕ) → roles.is_field role ≡ true → roles.is_message role ≡ false
  field_silent role h =
      let low = leb-true roles.bulk_identifier role h in
      rw (ne_eqb role roles.one_payment (λ z. omega arith), ne_eqb role roles.one_return (λ z. omega arith))

  pub messages_in_lem : (w : Markup) (f : Forest) → Means s w f → map message_bytes (messages_in f) ≡ map message_in (messages_of w)
  unfolding Means messages_in messages_of
  messages_in_lem nothing none m = refl
  messages_in_lem nothing (tree played place inner others) m = absurd m
  messages_in_lem (field role name said rest) none m = absurd m
  messages_in_lem (field role name said rest) (tree played place inner others) m = rw (m.0.role_is, m.0.bare, field_silent role m.0.kind) (messages_in_lem rest others m.1)
  messages_in_lem (group role name within rest) none m = absurd m
  messages_in_lem (group role name within rest) (tree played place inner others) m =
      rw m.0.role_is
      (joined_alike message_bytes message_in
      (messages_in inner) (cond (roles.is_message role) (tree role place inner none ∷ []) []) (messages_in others)
      (messages_of within) (cond (roles.is_message role) (group role name within nothing ∷ []) []) (messages_of rest)
      (messages_in_lem within inner m.1) (by_test (roles.is_message role)) (messages_in_lem rest others m.2))
    where
      by_test : (t : Bool) → map message_bytes (cond t (tree role place inner none ∷ []) []) ≡ map message_in (cond t (group role name within nothing ∷ []) [])
      by_test true =
          ap (λ (l : List ℕ). l ∷ [])
          (message_in_lem (group role name within nothing) (tree role place inner none) (record { role_is = refl; kind = m.0.kind; there = m.0.there }, m.1, tt))
      by_test false = refl
