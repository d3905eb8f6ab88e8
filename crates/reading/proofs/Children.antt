-- The second reading of one element: a message, something in which there is none, or a group that may hold some. Assumes nothing.
use mathlib.Core.Path.{◌≡◌, refl, sym, ap, ◌∙◌}
use mathlib.Core.Bool.{Bool, true, false, cond, not, ◌||◌, false≢true}
use mathlib.Core.List.{List, [], ◌∷◌, append-nil}
use Prim.Native.Nat.{ℕ, ◌+◌, ◌-◌, ◌*◌, ◌≤◌, ◌<◌}
use native.Mathlib.Omega.{arith}
use lib.Dec.{eqb, ltb}
use lib.ListN.{length, get_or, set}
use lib.Seq.{sets}
use borrow.Author.Tests.{eqb-true}
use Rattle.letters.specs.Places.{byte_at}
use Rattle.std.specs.Prelude.{Ok, Err}
use Rattle.tags.specs.Names.{name_start}
use Rattle.tags.specs.Tags.{start_at, end_at}
use Rattle.tags.specs.declared.Tag.TheVariants.{Open, Empty}
use Rattle.paths.specs.Roles as roles
use Rattle.records.specs.Records.{message_of}
use Rattle.elements.specs.Forest.{Forest, none, tree}
use Rattle.elements.specs.Grammar.{Parsed, read, broken, deep, on_reached, whole, group_at, element_at, content_at}
use Rattle.elements.specs.Notes.{step_of, noted, notes_of}
use Rattle.elements.specs.Questions.{messages_in}
use Rattle.elements.proofs.Forward.{went, reached}
use Rattle.elements.proofs.Elements.{element_group}
use Rattle.elements.proofs.Calm.{element_held, element_quiet}
use Rattle.reading.specs.Filling.{message_bytes, forgotten, Ready, Filled, HeaderNoted, place_of, reached_place, busy}
use Rattle.reading.specs.declared.filling.Put.{Put}
use Rattle.reading.proofs.Carrying.{carried_none, carried_group, carried_noted, message_own, message_carried}

-- what is known of a message's role, by what it is
message_role : (role : ℕ) (P : ℕ → Type 0) → P roles.one_payment → P roles.one_return → roles.is_message role ≡ true → P role
message_role role P p q m = by_test (eqb role roles.one_payment) refl (eqb role roles.one_return) refl m
  where
    by_test : (a : Bool) → eqb role roles.one_payment ≡ a → (b : Bool) → eqb role roles.one_return ≡ b → (a || b) ≡ true → P role
    by_test true e b f m = rw (eqb-true role roles.one_payment e) p
    by_test false e true f m = rw (eqb-true role roles.one_return f) q
    by_test false e false f m = absurd (false≢true m)

busy_role : (role : ℕ) (P : ℕ → Type 0) → P roles.document → P roles.payments → P roles.returns → busy role ≡ true → P role
busy_role role P p q r m = by_test (eqb role roles.document) refl (eqb role roles.payments) refl (eqb role roles.returns) refl m
  where
    by_test : (a : Bool) → eqb role roles.document ≡ a → (b : Bool) → eqb role roles.payments ≡ b → (c : Bool) → eqb role roles.returns ≡ c → (a || b || c) ≡ true → P role
    by_test true e b f c g m = rw (eqb-true role roles.document e) p
    by_test false e true f c g m = rw (eqb-true role roles.payments f) q
    by_test false e false f true g m = rw (eqb-true role roles.returns g) r
    by_test false e false f false g m = absurd (false≢true m)

-- where no level is left nothing is read
unread : (s : List ℕ) (role at n : ℕ) (f : Forest) (depth : ℕ) → depth ≡ 0 → element_at depth s role at ≡ read n f → ⊥
unfolding element_at
unread s role at n f depth z e = by_test (ltb at (length s)) (name_start (byte_at s (at + 1))) (rw z at e)
  where
    by_test : (t u : Bool) → cond t (cond u (deep at) (broken (at + 1))) (broken at) ≡ read n f → ⊥
    by_test true true e = absurd (let z : ◌≡◌ {A = ℕ} 0 1 = cc in omega arith)
    by_test true false e = absurd (let z : ◌≡◌ {A = ℕ} 0 1 = cc in omega arith)
    by_test false u e = absurd (let z : ◌≡◌ {A = ℕ} 0 1 = cc in omega arith)

module _ (depth : ℕ) (s : List ℕ) (role j at : ℕ) (d before : List ℕ) (ready : Ready (element_at depth s role j) at d before) where
  abbrev n : ℕ
  n = ready.end

  abbrev f : Forest
  f = ready.forest

  -- its messages are written, and the notes go on
  abbrev PutSo : Parsed → List ℕ → List ℕ → Put → Type 0
  PutSo p after notes put = Filled s p at d after put × HeaderNoted p before notes

  put_so : (after notes : List ℕ) (put : Put) → PutSo (read n f) after notes put → PutSo (element_at depth s role j) after notes put
  put_so after notes put told = rw ready.was told

  pub levels_left : depth ≡ 0 → ⊥
  levels_left z = unread s role j n f depth z ready.was

  read_notes : (notes given : List ℕ) → given ≡ notes_of (element_at depth s role j) notes → given ≡ noted f notes
  read_notes notes given e = e ∙ ap (λ (p : Parsed). notes_of p notes) ready.was

  -- ---- a message

  message_is : roles.is_message role ≡ true → messages_in f ≡ f ∷ []
  unfolding messages_in
  message_is m =
      let calm = message_role role (λ r. not (eqb r roles.document || eqb r roles.payments || eqb r roles.returns) ≡ true) refl refl m in
      let low = message_role role (λ r. r < roles.bulk_identifier) (omega arith) (omega arith) m in
      let some = message_role role (λ r. eqb r roles.other ≡ false) refl refl m in
      let held = element_held depth s role j n f calm low ready.was in
      let is : f ≡ tree role j held.inner none = held.is ∙ (rw some) in
      rw (is, held.hush, m)

  pub message_room : roles.is_message role ≡ true → at + 81 ≤ length d
  message_room m = let one : length (messages_in f) ≡ 1 = ap length (message_is m) in omega (arith, ready.room)

  pub message_put : roles.is_message role ≡ true → (put : Put) (after notes : List ℕ) → put.next ≡ place_of (step_of (element_at depth s role j)) → put.at ≡ at + 81
      → notes ≡ notes_of (element_at depth s role j) (forgotten before) → after ≡ sets d at (message_of s (λ k. get_or notes k 0)) → PutSo (element_at depth s role j) after notes put
  message_put m put after notes next place its wrote =
      let own = read_notes (forgotten before) notes its in
      put_so after notes put (
        (
          next ∙ (rw ready.was),
          place ∙ (rw (message_is m)),
          wrote ∙ ap (sets d at) (message_own f before notes ready.sized own s ∙ sym (append-nil (message_bytes s f))) ∙ (rw (message_is m)),
        ),
        message_carried f before notes ready.sized own,
      )

  -- ---- something without messages

  none_more : messages_in f ≡ [] → at ≡ at + 81 * length (messages_in f)
  none_more hush = rw hush (omega arith)

  pub quiet_put : roles.is_message role ≡ false → busy role ≡ false → (put : Put) (notes : List ℕ) → put.next ≡ place_of (step_of (element_at depth s role j)) → put.at ≡ at
      → notes ≡ notes_of (element_at depth s role j) before → PutSo (element_at depth s role j) d notes put
  quiet_put m b put notes next place its =
      let hush = element_quiet depth s role j n f (rw (b, m)) ready.was in
      put_so d notes put ((next ∙ (rw ready.was), place ∙ none_more hush, rw hush), rw (read_notes before notes its) (carried_noted f before ready.sized))

  -- ---- a group that may hold messages

  module _ (b : busy role ≡ true) where
    group : element_at depth s role j ≡ group_at (element_at (depth - 1) s) role s j (start_at s j)
    group = element_group s role j depth levels_left (busy_role role (λ r. r < roles.bulk_identifier) (omega arith) (omega arith) (omega arith) b)

    no_message : roles.is_message role ≡ false
    no_message = busy_role role (λ r. roles.is_message r ≡ false) refl refl refl b

    noted_so : (g : Forest) → whole role j g ≡ tree role j g none
    noted_so g = rw (busy_role role (λ r. eqb r roles.other ≡ false) refl refl refl b)

    pub has_note : (notes : List ℕ) → length notes ≡ length before → role < length notes
    has_note notes same = let low = busy_role role (λ r. r < roles.bulk_identifier) (omega arith) (omega arith) (omega arith) b in omega (arith, ready.sized)

    same_messages : (g : Forest) → f ≡ tree role j g none → messages_in f ≡ messages_in g
    unfolding messages_in
    same_messages g e = rw (e, no_message) (append-nil (messages_in g))

    -- the content was read, and the end tag after it
    pub record Inside (inside : ℕ) : Type 0 where
      pub end : ℕ
      pub forest : Forest
      pub was : content_at (depth - 1) s role inside ≡ read end forest
      pub closes : end_at s j end ≡ Ok n
      pub is : f ≡ tree role j forest none

    pub inside_read : (e inside : ℕ) → start_at s j ≡ Ok (Open e inside) → Inside inside
    inside_read e inside tag =
        let told : group_at (element_at (depth - 1) s) role s j (Ok (Open e inside)) ≡ read n f = rw tag at (sym group ∙ ready.was) in
        let a = went (content_at (depth - 1) s role inside) (λ e f. on_reached (end_at s j e) (λ n. read n (whole role j f))) n f told in
        let c = reached (end_at s j a.mid) (λ n. read n (whole role j a.part)) n f a.then in
        let place : c.mid ≡ n = cc in
        let is : whole role j a.part ≡ f = cc in
        record { end = a.mid; forest = a.part; was = a.first; closes = c.first ∙ ap Ok place; is = sym is ∙ noted_so a.part }

    pub inside_ready : (e inside : ℕ) → start_at s j ≡ Ok (Open e inside) → Ready (content_at (depth - 1) s role inside) at d before
    inside_ready e inside tag =
        let i = inside_read e inside tag in
        record { end = i.end; forest = i.forest; was = i.was; room = rw (← (same_messages i.forest i.is)) ready.room; sized = ready.sized }

    pub group_put : (e inside : ℕ) → start_at s j ≡ Ok (Open e inside) → (put given : Put) (after notes : List ℕ) → length notes ≡ length before
        → PutSo (content_at (depth - 1) s role inside) after notes put → given.next ≡ reached_place (end_at s j put.next) → given.at ≡ put.at
        → PutSo (element_at depth s role j) after (set notes role j) given
    group_put e inside tag put given after notes sized filled next place =
        let i = inside_read e inside tag in
        let same = same_messages i.forest i.is in
        let inner : PutSo (read i.end i.forest) after notes put = rw i.was at filled in
        put_so after (set notes role j) given (
          (
            next ∙ ap (λ (k : ℕ). reached_place (end_at s j k)) inner.0.0 ∙ ap reached_place i.closes,
            place ∙ inner.0.1 ∙ (rw same),
            inner.0.2 ∙ (rw same),
          ),
          rw i.is (carried_group role j i.forest before notes (has_note notes sized) inner.1),
        )

    pub bare_put : (e next : ℕ) → start_at s j ≡ Ok (Empty e next) → (given : Put) → given.next ≡ next → given.at ≡ at → PutSo (element_at depth s role j) d (set before role j) given
    unfolding messages_in
    bare_put e next tag given place same =
        let told : read next (whole role j none) ≡ read n f = rw tag at (sym group ∙ ready.was) in
        let here : next ≡ n = cc in
        let is : whole role j none ≡ f = cc in
        let bare : f ≡ tree role j none none = sym is ∙ noted_so none in
        let hush : messages_in f ≡ [] = same_messages none bare in
        put_so d (set before role j) given (
          (place ∙ here, same ∙ none_more hush, rw hush),
          rw bare (carried_group role j none before before (has_note before refl) (carried_none before)),
        )

    pub faulty_put : (p : ℕ) → start_at s j ≡ Err p → (given : Put) → PutSo (element_at depth s role j) d before given
    faulty_put p tag given = rw (group, tag) (tt, tt)
