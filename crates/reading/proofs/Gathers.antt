-- The second reading: the messages of a content, one child after the other. Assumes nothing.
use mathlib.Core.Path.{◌≡◌, refl, sym, ap, ◌∙◌}
use mathlib.Core.List.{List, [], ◌∷◌, ◌++◌, map, append_assoc}
use Prim.Native.Nat.{ℕ, ◌+◌, ◌*◌}
use native.Mathlib.Omega.{arith}
use lib.ListN.{length, length-append}
use lib.Seq.{sets, length-sets}
use Rattle.wire.specs.Written.{joined}
use Rattle.wire.proofs.Stores.{sets_then}
use Rattle.letters.specs.Places.{byte_at}
use Rattle.std.specs.Prelude.{Ok, Err}
use Rattle.tags.specs.Names.{name_at}
use Rattle.prose.specs.Prose.{text_at}
use Rattle.paths.specs.Table.{child_role}
use Rattle.elements.specs.Forest.{Forest, none, beside}
use Rattle.elements.specs.Grammar.{Parsed, read, broken, deep, on_read, content_by}
use Rattle.elements.specs.Questions.{messages_in}
use Rattle.elements.proofs.Forests.{beside_none}
use Rattle.elements.proofs.Forward.{went, Onward, content_broken, content_ends, content_child}
use Rattle.elements.proofs.Calm.{messages_beside}
use Rattle.reading.specs.Filling.{message_bytes, messages_bytes, Carried, Ready, Filled, HeaderNoted}
use Rattle.reading.specs.declared.filling.Put.{Put}
use Rattle.elements.proofs.Forests.{behind, nothing_yet, further}
use Rattle.reading.proofs.Sheets.{messages_length}
use Rattle.reading.proofs.Carrying.{carried_none, carried_on}

-- ---- messages written one after the other

join_append : (s : List ℕ) (ms ns : List Forest) → joined (map (λ (m : Forest). message_bytes s m) (ms ++ ns)) ≡ joined (map (λ (m : Forest). message_bytes s m) ms) ++ joined (map (λ (m : Forest). message_bytes s m) ns)
join_append s [] ns = refl
join_append s (m ∷ ms) ns = ap (λ (r : List ℕ). message_bytes s m ++ r) (join_append s ms ns) ∙ sym (append_assoc (message_bytes s m) (joined (map (λ (m : Forest). message_bytes s m) ms)) (joined (map (λ (m : Forest). message_bytes s m) ns)))

module _ (s : List ℕ) (f g : Forest) where
  pub many_beside : length (messages_in (beside f g)) ≡ length (messages_in f) + length (messages_in g)
  many_beside = ap length (messages_beside f g) ∙ length-append (messages_in f) (messages_in g)

  bytes_beside : messages_bytes s (beside f g) ≡ messages_bytes s f ++ messages_bytes s g
  bytes_beside = ap (λ (ms : List Forest). joined (map (λ (m : Forest). message_bytes s m) ms)) (messages_beside f g) ∙ join_append s (messages_in f) (messages_in g)

  -- those of the second after those of the first
  pub written_beside : (d : List ℕ) (at : ℕ) → sets (sets d at (messages_bytes s f)) (at + 81 * length (messages_in f)) (messages_bytes s g) ≡ sets d at (messages_bytes s (beside f g))
  written_beside d at = sets_then d at (81 * length (messages_in f)) (messages_bytes s f) (messages_bytes s g) (messages_length s (messages_in f)) ∙ ap (sets d at) (sym bytes_beside)

-- ---- the loop

pub record Gathering (element : ℕ → ℕ → Parsed) (s : List ℕ) (role inside at i m : ℕ) (first d before notes : List ℕ) : Type 0 where
  pub sofar : Forest
  pub comes : content_by element role s inside ≡ behind sofar (content_by element role s i)
  pub place : m ≡ at + 81 * length (messages_in sofar)
  pub wrote : d ≡ sets first at (messages_bytes s sofar)
  pub carried : Carried sofar before notes

module _ (element : ℕ → ℕ → Parsed) (s : List ℕ) (role inside at : ℕ) (first before : List ℕ) where
  pub gathering_starts : Gathering element s role inside at inside at first first before before
  unfolding messages_in
  gathering_starts = record { sofar = none; comes = nothing_yet (content_by element role s inside); place = omega arith; wrote = refl; carried = carried_none before }

  module _ (onward : Onward element (length s)) (i m : ℕ) (d notes : List ℕ) (gathering : Gathering element s role inside at i m first d before notes) where
    pub gathering_broken : (p : ℕ) → text_at s i ≡ Err p → content_by element role s inside ≡ broken p
    gathering_broken p e = gathering.comes ∙ (rw (content_broken element role s onward i p e))

    pub gathering_ends : (j : ℕ) → text_at s i ≡ Ok j → byte_at s (j + 1) ≡ 47 → content_by element role s inside ≡ read j gathering.sofar
    gathering_ends j e h = gathering.comes ∙ (rw (content_ends element role s onward i j e h, beside_none gathering.sofar))

    module _ (j child : ℕ) (text : text_at s i ≡ Ok j) (more : byte_at s (j + 1) ≡ 47 → ⊥) (is : child ≡ child_role role (name_at s (j + 1))) where
      goes : (r : Parsed) → element child j ≡ r → content_by element role s inside ≡ behind gathering.sofar (on_read r (λ next f. behind f (content_by element role s next)))
      goes r e = gathering.comes ∙ (rw (content_child element role s onward i j r text more (rw (← is) e)))

      -- where the whole was read, so is the child, and its messages have room
      pub child_ready : Ready (content_by element role s inside) at first before → length notes ≡ length before → Ready (element child j) m d notes
      child_ready ready sized = by_child (element child j) refl
        where
          by_child : (r : Parsed) → element child j ≡ r → Ready (element child j) m d notes
          by_child (read n f) k =
              let a = went (behind f (content_by element role s n)) (λ e h. read e (beside gathering.sofar h)) ready.end ready.forest (sym (goes (read n f) k) ∙ ready.was) in
              let b = went (content_by element role s n) (λ e g. read e (beside f g)) a.mid a.part a.first in
              let part : beside f b.part ≡ a.part = cc in
              let all : beside gathering.sofar a.part ≡ ready.forest = cc in
              let many = ap (λ (h : Forest). length (messages_in h)) (sym all) ∙ many_beside s gathering.sofar a.part in
              let some = ap (λ (h : Forest). length (messages_in h)) (sym part) ∙ many_beside s f b.part in
              let long : length d ≡ length first = ap length gathering.wrote ∙ length-sets first at (messages_bytes s gathering.sofar) in
              record { end = n; forest = f; was = k; room = omega (arith, gathering.place, ready.room); sized = sized ∙ ready.sized }
          by_child (broken p) k = absurd (let z : broken p ≡ read ready.end ready.forest = sym (goes (broken p) k) ∙ ready.was in let y : ◌≡◌ {A = ℕ} 0 1 = cc in omega arith)
          by_child (deep p) k = absurd (let z : deep p ≡ read ready.end ready.forest = sym (goes (deep p) k) ∙ ready.was in let y : ◌≡◌ {A = ℕ} 0 1 = cc in omega arith)

      pub gathering_on : (put : Put) (after given : List ℕ) (n : ℕ) (f : Forest) → element child j ≡ read n f → Filled s (read n f) m d after put → HeaderNoted (read n f) notes given
          → Gathering element s role inside at put.next put.at first after before given
      gathering_on put after given n f k filled noted =
          record {
            sofar = beside gathering.sofar f;
            comes = goes (read n f) k ∙ further gathering.sofar f (content_by element role s n) ∙ ap (λ (i : ℕ). behind (beside gathering.sofar f) (content_by element role s i)) (sym filled.0);
            place = filled.1 ∙ (let many = many_beside s gathering.sofar f in omega (arith, gathering.place));
            wrote = filled.2 ∙ (rw (gathering.wrote, gathering.place)) ∙ written_beside s gathering.sofar f first at;
            carried = carried_on gathering.sofar f before notes given gathering.carried noted;
          }
