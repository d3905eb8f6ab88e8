-- What documents mean in a part of a text is what they mean in the whole. Assumes nothing.
use mathlib.Core.Path.{◌≡◌, refl, sym, ap, ap₂, ◌∙◌}
use mathlib.Core.Bool.{Bool, true, false, cond, not, ◌&&◌}
use mathlib.Core.List.{List, [], ◌∷◌, ◌++◌, map, map-append}
use Prim.Native.Nat.{ℕ, ◌-◌, ◌≤◌, ◌<◌}
use native.Mathlib.Omega.{arith}
use lib.Dec.{eqb}
use lib.ListN.{length, length-append}
use borrow.Author.Tests.{ne_eqb}
use Rattle.sheet.specs.Sheet.{Bulk}
use Rattle.prose.specs.Prose.{said_at}
use Rattle.paths.specs.Roles as roles
use Rattle.records.specs.Records.{Places, header_of, message_of}
use Rattle.elements.specs.Forest.{Forest, none, tree}
use Rattle.elements.specs.Questions.{place_in, messages_in}
use Rattle.reading.specs.Meaning.{places_in, bulk_in, bulks_in, countable, all_countable}
use Rattle.joining.specs.Lowered.{lowered}
use Rattle.joining.proofs.Parts.{Part}
use Rattle.joining.proofs.Forests.{Every, Under}
use Rattle.joining.proofs.Fields.{Kept}

-- ---- places, lowered

pub place_lowered : (d k : ℕ) (f : Forest) (x : ℕ) → place_in k (lowered d f) (x - d) ≡ place_in k f x - d
unfolding place_in lowered
place_lowered d k none x = refl
place_lowered d k (tree role place inner rest) x = by_test (place_lowered d k inner x) (place_lowered d k rest) (eqb role k)
  where
    by_test : place_in k (lowered d inner) (x - d) ≡ place_in k inner x - d → ((x : ℕ) → place_in k (lowered d rest) (x - d) ≡ place_in k rest x - d) → (t : Bool)
        → place_in k (lowered d rest) (cond t (place - d) (place_in k (lowered d inner) (x - d))) ≡ place_in k rest (cond t place (place_in k inner x)) - d
    by_test one others true = others place
    by_test one others false = rw one (others (place_in k inner x))

-- ---- three lists, one after the other

three_long : (xs xs' ys ys' zs zs' : List Forest) → length xs ≡ length xs' → length ys ≡ length ys' → length zs ≡ length zs' → length (xs ++ (ys ++ zs)) ≡ length (xs' ++ (ys' ++ zs'))
three_long xs xs' ys ys' zs zs' a b c = rw (length-append xs (ys ++ zs), length-append ys zs, length-append xs' (ys' ++ zs'), length-append ys' zs', a, b, c)

three_maps : (g h : Forest → List ℕ) (xs xs' ys ys' zs zs' : List Forest) → map g xs ≡ map h xs' → map g ys ≡ map h ys' → map g zs ≡ map h zs'
    → map g (xs ++ (ys ++ zs)) ≡ map h (xs' ++ (ys' ++ zs'))
three_maps g h xs xs' ys ys' zs zs' a b c =
    rw (map-append g xs (ys ++ zs), map-append g ys zs, map-append h xs' (ys' ++ zs'), map-append h ys' zs', a, b, c)

-- ---- how many messages

module _ (d : ℕ) where
  messages_count : (f : Forest) → length (messages_in (lowered d f)) ≡ length (messages_in f)
  unfolding messages_in lowered
  messages_count none = refl
  messages_count (tree role place inner rest) =
      three_long (messages_in (lowered d inner)) (messages_in inner)
      (cond (roles.is_message role) (tree role (place - d) (lowered d inner) none ∷ []) []) (cond (roles.is_message role) (tree role place inner none ∷ []) [])
      (messages_in (lowered d rest)) (messages_in rest)
      (messages_count inner) (by_test (roles.is_message role)) (messages_count rest)
    where
      by_test : (t : Bool) → length (cond t (tree role (place - d) (lowered d inner) none ∷ []) []) ≡ length (cond t (tree role place inner none ∷ []) [])
      by_test true = refl
      by_test false = refl

  pub countable_lowered : (f : Forest) → all_countable (lowered d f) ≡ all_countable f
  unfolding all_countable lowered
  countable_lowered none = refl
  countable_lowered (tree role place inner rest) =
      ap₂ ◌&&◌ (ap countable (messages_count (tree role place inner none))) (countable_lowered rest)

-- ---- documents

-- a forest of documents: of their roots no header asks, and none is a message
unfoldable pub Roots : Forest → Type 0
Roots none = Unit {0}
Roots (tree role place inner rest) = (role ≤ roles.document) × Roots rest

module _ {s t : List ℕ} {d : ℕ} (p : Part s t d) where
  -- what is asked of a place: whether it is one, and what is said there
  pub record Spoken (x y : ℕ) : Type 0 where
    pub there : eqb x 0 ≡ eqb y 0
    pub said : cond (not (eqb x 0)) (said_at t x) [] ≡ cond (not (eqb y 0)) (said_at s y) []

  spoken_none : Spoken 0 (0 - d)
  spoken_none = let nothing : 0 - d ≡ 0 = omega arith in record { there = rw nothing; said = rw nothing }

  spoken_kept : (x from : ℕ) → d < from → Kept p from x → Spoken x (x - d)
  spoken_kept x from h kept =
      let low = kept.0 in
      let one : eqb x 0 ≡ false = ne_eqb x 0 (λ z. omega arith) in
      let two : eqb (x - d) 0 ≡ false = ne_eqb (x - d) 0 (λ z. omega arith) in
      record { there = one ∙ sym two; said = rw (one, two) kept.2 }

  module _ (from : ℕ) (h : d < from) where
    place_spoken : (k : ℕ) (f : Forest) (x : ℕ) → Every (Kept p from) f → Spoken x (x - d) → Spoken (place_in k f x) (place_in k f x - d)
    unfolding place_in Every
    place_spoken k none x every one = one
    place_spoken k (tree role place inner rest) x every one = by_test (place_spoken k inner x every.1 one) (place_spoken k rest) (eqb role k)
      where
        by_test : Spoken (place_in k inner x) (place_in k inner x - d) → ((x : ℕ) → Every (Kept p from) rest → Spoken x (x - d) → Spoken (place_in k rest x) (place_in k rest x - d)) → (b : Bool)
            → Spoken (place_in k rest (cond b place (place_in k inner x))) (place_in k rest (cond b place (place_in k inner x)) - d)
        by_test one others true = others place every.2 (spoken_kept place from h every.0)
        by_test one others false = others (place_in k inner x) every.2 one

    places_spoken : (k : ℕ) (f : Forest) → Every (Kept p from) f → Spoken (places_in f k) (places_in (lowered d f) k)
    places_spoken k f every =
        let nothing : 0 - d ≡ 0 = omega arith in
        let low : place_in k (lowered d f) 0 ≡ place_in k f 0 - d = ap (place_in k (lowered d f)) (sym nothing) ∙ place_lowered d k f 0 in
        rw low (place_spoken k f 0 every spoken_none)

  -- ---- records

  message_same : (P Q : Places) → ((k : ℕ) → Spoken (P k) (Q k)) → message_of t P ≡ message_of s Q
  unfolding message_of
  message_same P Q same = rw (
    (same roles.identifier).said,
    (same roles.receiver).said,
    (same roles.amount).said,
    (same roles.original_amount).said,
    (same roles.reason).said,
    (same roles.original_name).said,
  )

  -- a header asks for no root
  header_same : (P Q : Places) → ((k : ℕ) → roles.document < k → Spoken (P k) (Q k)) → header_of t P ≡ header_of s Q
  unfolding header_of
  header_same P Q same = rw (
    (same roles.bulk_identifier (omega arith)).said,
    (same roles.sender (omega arith)).said,
    (same roles.stated_number (omega arith)).said,
    (same roles.stated_sum (omega arith)).said,
    (same roles.value_date (omega arith)).said,
    (same roles.method (omega arith)).said,
    (same roles.system (omega arith)).said,
    (same roles.payments (omega arith)).there,
    (same roles.recipient (omega arith)).there,
  )

  module _ (from : ℕ) (h : d < from) where
    messages_same : (f : Forest) → Every (Kept p from) f
        → map (λ (m : Forest). message_of s (places_in m)) (messages_in (lowered d f)) ≡ map (λ (m : Forest). message_of t (places_in m)) (messages_in f)
    unfolding messages_in lowered Every
    messages_same none every = refl
    messages_same (tree role place inner rest) every =
        three_maps g h' (messages_in (lowered d inner)) (messages_in inner)
        (cond (roles.is_message role) (tree role (place - d) (lowered d inner) none ∷ []) []) (cond (roles.is_message role) (tree role place inner none ∷ []) [])
        (messages_in (lowered d rest)) (messages_in rest)
        (messages_same inner every.1) (by_test (roles.is_message role)) (messages_same rest every.2)
      where
        g : Forest → List ℕ
        g m = message_of s (places_in m)

        h' : Forest → List ℕ
        h' m = message_of t (places_in m)

        own : g (tree role (place - d) (lowered d inner) none) ≡ h' (tree role place inner none)
        own =
            sym (message_same (places_in (tree role place inner none)) (places_in (lowered d (tree role place inner none)))
            (λ k. places_spoken from h k (tree role place inner none) (every.0, every.1, tt)))

        by_test : (b : Bool) → map g (cond b (tree role (place - d) (lowered d inner) none ∷ []) []) ≡ map h' (cond b (tree role place inner none ∷ []) [])
        by_test true = ap (λ (l : List ℕ). l ∷ []) own
        by_test false = refl

    bulk_same : (role place : ℕ) (inner : Forest) → role ≤ roles.document → Every (Kept p from) inner
        → bulk_in s (tree role (place - d) (lowered d inner) none) ≡ bulk_in t (tree role place inner none)
    unfolding messages_in place_in
    bulk_same role place inner low every =
        let one = ne_eqb role roles.one_payment (λ z. omega arith) in
        let two = ne_eqb role roles.one_return (λ z. omega arith) in
        let header : header_of s (places_in (tree role (place - d) (lowered d inner) none)) ≡ header_of t (places_in (tree role place inner none)) =
        sym (header_same (places_in (tree role place inner none)) (places_in (tree role (place - d) (lowered d inner) none))
        (λ k high. rw (ne_eqb role k (λ z. omega arith)) (places_spoken from h k inner every))) in
        let messages : (bulk_in s (tree role (place - d) (lowered d inner) none)).messages ≡ (bulk_in t (tree role place inner none)).messages =
        rw (one, two) (three_maps _ _ (messages_in (lowered d inner)) (messages_in inner) [] [] [] [] (messages_same inner every) refl refl) in
        λ i. record { header = header i; messages = messages i }

    pub bulks_same : (f : Forest) → Roots f → Under (Kept p from) f → bulks_in s (lowered d f) ≡ bulks_in t f
    unfolding Roots Under bulks_in lowered
    bulks_same none roots under = refl
    bulks_same (tree role place inner rest) roots under =
        ap₂ (λ (b : Bulk) (bs : List Bulk). b ∷ bs) (bulk_same role place inner roots.0 under.0) (bulks_same rest roots.1 under.1)
