-- What was read: the sheet that the documents mean is whole, holds one bulk for each of them, and stands in the space. Assumes nothing.
use mathlib.Core.Path.{◌≡◌, refl, ap, ◌∙◌}
use mathlib.Core.Bool.{Bool, true, false, cond, ◌&&◌}
use mathlib.Core.List.{List, [], ◌∷◌, map}
use Prim.Native.Nat.{ℕ, ◌+◌, ◌≤◌}
use native.Mathlib.Omega.{arith}
use lib.Dec.{leb, ltb}
use lib.ListN.{length, take}
use lib.Seq.{sets, sets-eq, take_at}
use borrow.Author.Tests.{leb-true, ltb-true, ltb-false}
use Rattle.std.specs.Prelude.{Result, Ok, Err}
use Rattle.sheet.specs.Sheet.{message_width, kinds_known}
use Rattle.sheet.proofs.Bulks.{MessagesWide, BulksWide}
use Rattle.sheet.proofs.Headers.{headers}
use Rattle.sheet.proofs.Written.{EachCounted, Writable}
use Rattle.records.specs.Records.{message_of}
use Rattle.records.proofs.Laws.{header_length, message_length, header_known}
use Rattle.elements.specs.Forest.{Forest, none, tree}
use Rattle.elements.specs.Grammar.{Parsed, read, broken, deep}
use Rattle.elements.specs.Notes.{too_many}
use Rattle.elements.specs.Questions.{first_lack, messages_in}
use Rattle.reading.specs.Text.{parsed}
use Rattle.reading.specs.Meaning.{places_in, bulks_in, sheet_in, countable, all_countable, fits_in}
use Rattle.reading.specs.Reading.{number_of, length_of, answer_of, when_made, written, reads}
use Rattle.reading.specs.declared.Unread.{Unread}
use Rattle.reading.specs.declared.Unread.TheVariants.{Lack, Short}
use Rattle.reading.proofs.Sheets.{both, map_length}

-- ---- the bulks that documents mean can be written

messages_wide : (s : List ℕ) (kind : ℕ) (ms : List Forest) → MessagesWide kind (map (λ (m : Forest). message_of s (places_in m)) ms)
unfolding MessagesWide message_width
messages_wide s kind [] = tt
messages_wide s kind (m ∷ ms) = (message_length s (places_in m), messages_wide s kind ms)

bulks_wide : (s : List ℕ) (f : Forest) → BulksWide (bulks_in s f)
unfolding BulksWide bulks_in
bulks_wide s none = tt
bulks_wide s (tree role place inner rest) =
    let own = tree role place inner none in
    (record { header = header_length s (places_in own); messages = messages_wide s _ (messages_in own) }, bulks_wide s rest)

each_counted : (s : List ℕ) (f : Forest) → all_countable f ≡ true → EachCounted (bulks_in s f)
unfolding EachCounted bulks_in all_countable
each_counted s none e = tt
each_counted s (tree role place inner rest) e =
    let own = tree role place inner none in
    let parts = both (countable (length (messages_in own))) (all_countable rest) e in
    let few = ltb-true (length (messages_in own)) too_many parts.0 in
    let same = map_length s (messages_in own) in
    (omega arith, each_counted s rest parts.1)

-- and their kinds are known
pub kinds_known_lem : (s : List ℕ) (f : Forest) → kinds_known (headers (bulks_in s f)) ≡ true
unfolding kinds_known bulks_in
kinds_known_lem s none = refl
kinds_known_lem s (tree role place inner rest) = rw (header_known s (places_in (tree role place inner none)), kinds_known_lem s rest)

-- ---- a text that was read

pub record WasMade (s space : List ℕ) : Type 0 where
  pub end : ℕ
  pub forest : Forest
  pub was : parsed s ≡ read end forest
  -- nothing that is needed is missing or twice
  pub complete : length s ≤ first_lack forest (length s)
  pub writable : Writable (bulks_in s forest)
  pub room : length (sheet_in s forest) ≤ length space
  pub answer : (reads s space).answer ≡ Ok (length (sheet_in s forest))
  pub left : (reads s space).sheet ≡ sets space 0 (sheet_in s forest)

module _ (s space : List ℕ) where
  fits_writable : (f : Forest) → fits_in s f (length space) ≡ true → Writable (bulks_in s f) × (length (sheet_in s f) ≤ length space)
  unfolding fits_in
  fits_writable f e =
      let a = both (countable (length (bulks_in s f)) && all_countable f) (leb (length (sheet_in s f)) (length space)) e in
      let b = both (countable (length (bulks_in s f))) (all_countable f) a.0 in
      let few = ltb-true (length (bulks_in s f)) too_many b.0 in (
        record { wide = bulks_wide s f; each = each_counted s f b.1; few = omega arith },
        leb-true (length (sheet_in s f)) (length space) a.1,
      )

  abbrev told : Forest → Bool → Bool → Result ℕ Unread
  told f t u = cond t (Err (Lack (first_lack f (length s)))) (cond u (Ok (length (sheet_in s f))) (Err Short))

  made_by : (p : Parsed) → parsed s ≡ p → number_of (answer_of s (length space) p) ≡ 0 → WasMade s space
  unfolding reads
  made_by (read n f) was e = by_test (ltb (first_lack f (length s)) (length s)) refl (fits_in s f (length space)) refl e
    where
      by_test : (t : Bool) → ltb (first_lack f (length s)) (length s) ≡ t → (u : Bool) → fits_in s f (length space) ≡ u → number_of (told f t u) ≡ 0 → WasMade s space
      by_test true lack u fit e = absurd (omega arith)
      by_test false lack true fit e =
          let can = fits_writable f fit in
          record {
            end = n;
            forest = f;
            was = was;
            complete = ltb-false (first_lack f (length s)) (length s) lack;
            writable = can.0;
            room = can.1;
            answer = rw (was, lack, fit);
            left = rw (was, lack, fit);
          }
      by_test false lack false fit e = absurd (omega arith)
  made_by (broken p) was e = absurd (omega arith)
  made_by (deep p) was e = absurd (omega arith)

  -- where the number is 0, the documents were read, and their sheet stands at the front of the space
  pub was_made : number_of (reads s space).answer ≡ 0 → WasMade s space
  unfolding reads
  was_made e = made_by (parsed s) refl e

  pub front_left : (made : WasMade s space) → take (length (sheet_in s made.forest)) (reads s space).sheet ≡ sheet_in s made.forest
  front_left made =
      let sheet = sheet_in s made.forest in
      let room : 0 + length sheet ≤ length space = (let r = made.room in omega arith) in
      ap (take (length sheet)) (made.left ∙ sets-eq sheet space 0 room) ∙ take_at sheet _ (length sheet) refl

  -- and where it is another, the space is as it was
  kept_by : (p : Parsed) → (number_of (answer_of s (length space) p) ≡ 0 → ⊥) → (length_of (answer_of s (length space) p) ≡ 0) × (written s space p ≡ space)
  kept_by (read n f) unread = by_test (ltb (first_lack f (length s)) (length s)) (fits_in s f (length space)) unread
    where
      by_test : (t u : Bool) → (number_of (told f t u) ≡ 0 → ⊥) → (length_of (told f t u) ≡ 0) × (when_made (told f t u) (sets space 0 (sheet_in s f)) space ≡ space)
      by_test true u unread = (refl, refl)
      by_test false true unread = absurd (unread refl)
      by_test false false unread = (refl, refl)
  kept_by (broken p) unread = (refl, refl)
  kept_by (deep p) unread = (refl, refl)

  pub untouched : (number_of (reads s space).answer ≡ 0 → ⊥) → (length_of (reads s space).answer ≡ 0) × ((reads s space).sheet ≡ space)
  unfolding reads
  untouched unread = kept_by (parsed s) unread
