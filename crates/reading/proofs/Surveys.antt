-- The first reading: what was seen of the documents so far, with what is still to be read, comes to the whole. Assumes nothing.
use mathlib.Core.Path.{◌≡◌, refl, sym, ap, ◌∙◌}
use mathlib.Core.Bool.{Bool, true, false, cond, not, ◌&&◌}
use mathlib.Core.List.{List, ◌∷◌, ◌++◌}
use Prim.Native.Nat.{ℕ, ◌+◌, ◌-◌, ◌≤◌, ◌<◌, min}
use native.Mathlib.Omega.{arith}
use lib.Dec.{leb, ltb}
use lib.ListN.{length, length-append}
use borrow.Author.Tests.{le-leb, lt-leb, leb-true, leb-false, lt-ltb, le-ltb, ltb-true, ltb-false}
use Rattle.std.specs.Prelude.{Option, Some, None, SomeIff, is_some, Err}
use Rattle.letters.specs.Places.{byte_at}
use Rattle.wire.specs.Field.{text, same}
use Rattle.tags.specs.Names.{space_end, name_at}
use Rattle.paths.specs.Roles as roles
use Rattle.paths.specs.Table.{root_role, lacks}
use Rattle.elements.specs.Forest.{Forest, none, tree, beside, count_of}
use Rattle.elements.specs.Grammar.{Parsed, read, broken, deep, on_read}
use Rattle.elements.specs.Notes.{too_many}
use Rattle.elements.specs.Questions.{first_lack, messages_in}
use Rattle.elements.specs.declared.Stop.{Stop}
use Rattle.elements.specs.declared.Stop.TheVariants.{Form, Deep}
use Rattle.elements.proofs.Steps.{stopped}
use Rattle.elements.proofs.Forests.{beside_none}
use Rattle.elements.proofs.Forward.{Shape, stepped, one, element_told}
use Rattle.reading.specs.Text.{levels, document_at, roots_at}
use Rattle.reading.specs.Meaning.{bulk_in, bulks_in, countable, all_countable}
use Rattle.reading.specs.Survey.{message_count, Looked, cost, needed, enough, taken_of, unread_of, survey_of}
use Rattle.reading.specs.declared.survey.Seen.{Seen}
use Rattle.elements.proofs.Forests.{behind, nothing_yet, further}
use Rattle.reading.proofs.Roots.{document_onward, roots_end, roots_odd, roots_document}

-- ---- two forests one after the other

pub lack_beside : (f g : Forest) (p : ℕ) → first_lack (beside f g) p ≡ first_lack g (first_lack f p)
unfolding first_lack beside
lack_beside none g p = refl
lack_beside (tree role place inner rest) g p = lack_beside rest g (cond (lacks role (count_of inner)) (min (first_lack inner p) place) (first_lack inner p))

pub needed_beside : (f g : Forest) → needed (beside f g) ≡ needed f + needed g
unfolding needed beside
needed_beside none g = omega arith
needed_beside (tree role place inner rest) g = let more = needed_beside rest g in omega arith

pub countable_beside : (f g : Forest) → all_countable (beside f g) ≡ (all_countable f && all_countable g)
unfolding all_countable beside
countable_beside none g = refl
countable_beside (tree role place inner rest) g = by_test (countable (length (messages_in (tree role place inner none)))) (countable_beside rest g)
  where
    by_test : (t : Bool) → all_countable (beside rest g) ≡ (all_countable rest && all_countable g) → (t && all_countable (beside rest g)) ≡ ((t && all_countable rest) && all_countable g)
    by_test true e = e
    by_test false e = refl

pub bulks_beside : (s : List ℕ) (f g : Forest) → bulks_in s (beside f g) ≡ bulks_in s f ++ bulks_in s g
unfolding bulks_in beside
bulks_beside s none g = refl
bulks_beside s (tree role place inner rest) g = ap (λ bs. bulk_in s (tree role place inner none) ∷ bs) (bulks_beside s rest g)

-- ---- a document

root_some : (name : List ℕ) → root_role name ≡ roles.other → ⊥
unfolding root_role
root_some name = by_test (same name (text "Document"))
  where
    by_test : (t : Bool) → cond t roles.document roles.stranger ≡ roles.other → ⊥
    by_test true e = absurd (omega arith)
    by_test false e = absurd (omega arith)

-- a document that was read is one tree
pub record Root (s : List ℕ) (at : ℕ) (f : Forest) : Type 0 where
  pub place : ℕ
  pub inner : Forest
  pub is : f ≡ tree (root_role (name_at s (at + 1))) place inner none

pub root_told : (s : List ℕ) (at n : ℕ) (f : Forest) → document_at s at ≡ read n f → Root s at f
root_told s at n f e = by_shape (element_told levels s (root_role (name_at s (at + 1))) at n f e).shape
  where
    by_shape : Shape (root_role (name_at s (at + 1))) f → Root s at f
    by_shape (stepped z t) = absurd (root_some (name_at s (at + 1)) z)
    by_shape (one z place inner t) =
        record { place = place; inner = inner; is = t }

-- ---- the room

clipped : (n : ℕ) → countable (min n too_many) ≡ countable n
clipped n = by_test (ltb n too_many) refl
  where
    by_test : (t : Bool) → ltb n too_many ≡ t → ltb (min n too_many) too_many ≡ t
    by_test true e = let h = ltb-true n too_many e in lt-ltb (min n too_many) too_many (omega arith)
    by_test false e = let h = ltb-false n too_many e in le-ltb (min n too_many) too_many (omega arith)

module _ (space before cost : ℕ) where
  -- what is left of the room after one bulk more, if its messages can be counted
  abbrev after_one : Bool → Option ℕ → Option ℕ
  after_one c None = None
  after_one c (Some left) = cond (c && leb cost left) (Some (left - cost)) None

  room_when : (a b c : Bool) → leb before space ≡ b
      → after_one c (cond (a && b) (Some (space - before)) None) ≡ cond ((a && (c && true)) && leb (before + cost) space) (Some (space - (before + cost))) None
  room_when false b c e = refl
  room_when true false false e = refl
  room_when true false true e = let h = leb-false before space e in rw (lt-leb (before + cost) space (omega arith))
  room_when true true false e = refl
  room_when true true true e = by_fit (leb (before + cost) space) refl
    where
      by_fit : (t : Bool) → leb (before + cost) space ≡ t → cond (leb cost (space - before)) (Some (space - before - cost)) None ≡ cond t (Some (space - (before + cost))) None
      by_fit true f = let h = leb-true (before + cost) space f in let left : space - before - cost ≡ space - (before + cost) = omega arith in rw (le-leb cost (space - before) (omega arith), left)
      by_fit false f = let h = leb-false (before + cost) space f in let k = leb-true before space e in rw (lt-leb cost (space - before) (omega arith))

-- the room behind the count and the bulks of what was read so far
abbrev pub room_in : ℕ → Forest → Option ℕ
room_in space f = cond (enough space f) (Some (space - (4 + needed f))) None

module _ (sofar f inner : Forest) (role place : ℕ) (is : f ≡ tree role place inner none) where
  one_needed : needed (tree role place inner none) ≡ cost (message_count (tree role place inner none))
  unfolding needed
  one_needed = omega arith

  one_countable : all_countable (tree role place inner none) ≡ (countable (length (messages_in (tree role place inner none))) && true)
  unfolding all_countable
  one_countable = refl

  pub needed_more : needed (beside sofar f) ≡ needed sofar + cost (message_count f)
  needed_more = needed_beside sofar f ∙ ap (λ (n : ℕ). needed sofar + n) (rw is one_needed)

  countable_more : all_countable (beside sofar f) ≡ (all_countable sofar && (countable (length (messages_in f)) && true))
  countable_more = countable_beside sofar f ∙ ap (λ (b : Bool). all_countable sofar && b) (rw is one_countable)

  taken_so : (room : Option ℕ) → taken_of room (message_count f) ≡ after_one 0 0 (cost (message_count f)) (countable (length (messages_in f))) room
  taken_so None = refl
  taken_so (Some left) = rw (clipped (length (messages_in f)))

  pub room_more : (space : ℕ) → taken_of (room_in space sofar) (message_count f) ≡ room_in space (beside sofar f)
  room_more space =
      let more : 4 + needed sofar + cost (message_count f) ≡ 4 + needed (beside sofar f) = omega (arith, needed_more) in
      taken_so (room_in space sofar)
      ∙ room_when space (4 + needed sofar) (cost (message_count f)) (all_countable sofar) (leb (4 + needed sofar) space) (countable (length (messages_in f))) refl
      ∙ ap (λ (n : ℕ). cond ((all_countable sofar && (countable (length (messages_in f)) && true)) && leb n space) (Some (space - n)) None) more
      ∙ ap (λ (b : Bool). cond (b && leb (4 + needed (beside sofar f)) space) (Some (space - (4 + needed (beside sofar f)))) None) (sym countable_more)

pub no_room : (space : ℕ) (f : Forest) (short : Bool) → is_some (room_in space f) ≡ not short → short ≡ not (enough space f)
no_room space f short e = by_tests (enough space f) short e
  where
    by_tests : (t short : Bool) → is_some (cond t (Some (space - (4 + needed f))) None) ≡ not short → short ≡ not t
    by_tests true true e = e
    by_tests true false e = refl
    by_tests false true e = refl
    by_tests false false e = e

-- ---- the loop

pub record Surveying (s : List ℕ) (space first i lack bulks : ℕ) (room : Option ℕ) : Type 0 where
  pub sofar : Forest
  pub comes : roots_at s first ≡ behind sofar (roots_at s i)
  pub lack_is : lack ≡ first_lack sofar (length s)
  pub bulks_are : bulks ≡ length (bulks_in s sofar)
  pub bulks_low : bulks ≤ i
  pub room_is : room ≡ room_in space sofar

module _ (s : List ℕ) (space first : ℕ) where
  pub survey_starts : (room : Option ℕ) → SomeIff room (4 ≤ space) (space - 4) → Surveying s space first first (length s) 0 room
  unfolding first_lack needed all_countable bulks_in
  survey_starts room told =
      record { sofar = none; comes = nothing_yet (roots_at s first); lack_is = refl; bulks_are = refl; bulks_low = omega arith; room_is = by_room room told }
    where
      by_room : (room : Option ℕ) → SomeIff room (4 ≤ space) (space - 4) → room ≡ cond (leb 4 space) (Some (space - 4)) None
      by_room None h = rw (lt-leb 4 space (below h))
        where
          below : (4 ≤ space → ⊥) → space < 4
          below h = omega arith
      by_room (Some left) h = rw (le-leb 4 space h.0, h.1)

  module _ (i lack bulks : ℕ) (room : Option ℕ) (surveying : Surveying s space first i lack bulks room) where
    pub survey_odd : i < length s → (byte_at s i ≡ 60 → ⊥) → roots_at s first ≡ broken i
    survey_odd h odd = surveying.comes ∙ (rw (roots_odd s i h odd))

    pub survey_stops : (r : Parsed) → i < length s → byte_at s i ≡ 60 → document_at s i ≡ r
        → roots_at s first ≡ behind surveying.sofar (on_read r (λ next f. behind f (roots_at s (space_end s next))))
    survey_stops r h here e = surveying.comes ∙ (rw (roots_document s i r h here e))

    pub unread_stopped : (e : Stop) → i < length s → byte_at s i ≡ 60 → document_at s i ≡ stopped e → Err (unread_of e) ≡ survey_of s space (roots_at s first)
    unread_stopped (Form p) h here e = rw (survey_stops (broken p) h here e)
    unread_stopped (Deep p) h here e = rw (survey_stops (deep p) h here e)

    pub survey_ends : length s ≤ i → roots_at s first ≡ read i surveying.sofar
    survey_ends h = surveying.comes ∙ (rw (roots_end s i h, beside_none surveying.sofar))

    pub survey_on : (next : ℕ) (f : Forest) (seen : Seen) → i < length s → byte_at s i ≡ 60 → document_at s i ≡ read next f
        → Looked (read next f) lack seen → Surveying s space first (space_end s next) seen.lack (bulks + 1) (taken_of room seen.messages)
    unfolding bulks_in
    survey_on next f seen h here e told =
        let root = root_told s i next f e in
        let sofar = surveying.sofar in
        let messages : seen.messages ≡ message_count f = told.1 in
        let role = root_role (name_at s (i + 1)) in
        let all = needed_more sofar f root.inner role root.place root.is in
        record {
          sofar = beside sofar f;
          comes = survey_stops (read next f) h here e ∙ further sofar f (roots_at s (space_end s next));
          lack_is = told.0 ∙ ap (first_lack f) surveying.lack_is ∙ sym (lack_beside sofar f (length s));
          bulks_are = counted root.place root.inner root.is;
          bulks_low = let on = document_onward s i next f e in omega (arith, surveying.bulks_low);
          room_is = rw (messages, surveying.room_is) (room_more sofar f root.inner role root.place root.is space);
        }
      where
        counted : (place : ℕ) (inner : Forest) → f ≡ tree (root_role (name_at s (i + 1))) place inner none → bulks + 1 ≡ length (bulks_in s (beside surveying.sofar f))
        counted place inner is =
            let many : length (bulks_in s (beside surveying.sofar f)) ≡ length (bulks_in s surveying.sofar) + 1 =
            ap length (bulks_beside s surveying.sofar f) ∙ length-append (bulks_in s surveying.sofar) (bulks_in s f) ∙ (rw is) in
            omega (arith, surveying.bulks_are)
