-- The parts of a text that is read are read: what the whole has enough of, each part has. Assumes nothing.
use mathlib.Core.Path.{◌≡◌, refl, sym, ap, ap₂, subst, ◌∙◌}
use mathlib.Core.Bool.{Bool, true, false, cond, ◌&&◌}
use mathlib.Core.List.{List}
use Prim.Native.Nat.{ℕ, zero, suc, ◌≤◌, ◌<◌}
use native.Mathlib.Omega.{arith}
use lib.Dec.{leb, ltb}
use lib.ListN.{length, length-take, length-drop}
use borrow.Author.Tests.{le-leb, ltb-true, ltb-false, lt-ltb, le-ltb}
use Rattle.std.specs.Prelude.{Ok, Err}
use Rattle.sheet.specs.Sheet.{Bulk}
use Rattle.sheet.specs.Written.{sheet_bytes}
use Rattle.elements.specs.Forest.{Forest, none, tree}
use Rattle.elements.specs.Grammar.{Parsed, read}
use Rattle.elements.specs.Notes.{too_many}
use Rattle.elements.specs.Questions.{first_lack, messages_in}
use Rattle.reading.specs.Text.{parsed}
use Rattle.reading.specs.Meaning.{bulks_in, sheet_in, countable, all_countable, fits_in}
use Rattle.reading.specs.Reading.{number_of, answer_of, reads}
use Rattle.reading.specs.declared.Unread.TheVariants.{Lack, Short}
use Rattle.reading.proofs.Sheets.{both}
use Rattle.joining.specs.Lowered.{firsts, others, count, lowered}
use Rattle.joining.specs.Cut.{cut_place, first_text, later_text, ReadsAs, PartsRead}
use Rattle.joining.proofs.Lacks.{Lackless, lackless_first, first_lackless, lackless_lowered}
use Rattle.joining.proofs.Meanings.{countable_lowered}
use Rattle.joining.proofs.Cutting.{cut_in_two, whole_kept}

-- ---- what it takes

-- nothing lacks, and all can be counted
pub record Enough (s : List ℕ) (f : Forest) : Type 0 where
  pub complete : Lackless f
  pub bulks : countable (length (bulks_in s f)) ≡ true
  pub messages : all_countable f ≡ true

enough_reads : (s : List ℕ) (n : ℕ) (f : Forest) → parsed s ≡ read n f → Enough s f → ReadsAs s (sheet_in s f)
unfolding reads fits_in
enough_reads s n f told enough space room =
    let complete = lackless_first f (length s) enough.complete in
    rw (told, complete, le-ltb (length s) (length s) (omega arith), enough.bulks, enough.messages, le-leb (length (sheet_in s f)) (length space) room)

-- a text that was read had it
reads_enough : (s space : List ℕ) (n : ℕ) (f : Forest) → parsed s ≡ read n f → number_of (reads s space).answer ≡ 0 → Enough s f
unfolding reads fits_in
reads_enough s space n f told e =
    by_test (ltb (first_lack f (length s)) (length s)) refl (countable (length (bulks_in s f))) refl (all_countable f) refl (leb (length (sheet_in s f)) (length space))
    (ap (λ (p : Parsed). number_of (answer_of s (length space) p)) (sym told) ∙ e)
  where
    by_test : (a : Bool) → ltb (first_lack f (length s)) (length s) ≡ a → (b : Bool) → countable (length (bulks_in s f)) ≡ b → (c : Bool) → all_countable f ≡ c → (d : Bool)
        → number_of (cond a (Err (Lack (first_lack f (length s)))) (cond ((b && c) && d) (Ok (length (sheet_in s f))) (Err Short))) ≡ 0 → Enough s f
    by_test true lack b few c counted d e = absurd (omega arith)
    by_test false lack true few true counted d e =
        record { complete = first_lackless (length s) f (length s) (whole_kept s n f told) (ltb-false (first_lack f (length s)) (length s) lack); bulks = few; messages = counted }
    by_test false lack true few false counted d e = absurd (omega arith)
    by_test false lack false few c counted d e = absurd (omega arith)

-- ---- of the first so many, and of the others

lackless_firsts : (k : ℕ) (f : Forest) → Lackless f → Lackless (firsts k f)
unfolding Lackless firsts
lackless_firsts zero f all = tt
lackless_firsts (suc k) none all = tt
lackless_firsts (suc k) (tree role place inner rest) all = (all.0, all.1, lackless_firsts k rest all.2)

lackless_others : (k : ℕ) (f : Forest) → Lackless f → Lackless (others k f)
unfolding Lackless others
lackless_others zero f all = all
lackless_others (suc k) none all = tt
lackless_others (suc k) (tree role place inner rest) all = lackless_others k rest all.2

counted_firsts : (k : ℕ) (f : Forest) → all_countable f ≡ true → all_countable (firsts k f) ≡ true
unfolding all_countable firsts
counted_firsts zero f all = refl
counted_firsts (suc k) none all = refl
counted_firsts (suc k) (tree role place inner rest) all =
    let parts = both (countable (length (messages_in (tree role place inner none)))) (all_countable rest) all in
    ap₂ ◌&&◌ parts.0 (counted_firsts k rest parts.1)

counted_others : (k : ℕ) (f : Forest) → all_countable f ≡ true → all_countable (others k f) ≡ true
unfolding all_countable others
counted_others zero f all = all
counted_others (suc k) none all = refl
counted_others (suc k) (tree role place inner rest) all =
    let parts = both (countable (length (messages_in (tree role place inner none)))) (all_countable rest) all in
    counted_others k rest parts.1

fewer_countable : (m n : ℕ) → m ≤ n → countable n ≡ true → countable m ≡ true
fewer_countable m n h e = lt-ltb m too_many (omega (arith, ltb-true n too_many e))

-- A text that is read may be cut between any two of its documents, and each part is read as the sheet of its own.
pub parts_read : (text space : List ℕ) (n : ℕ) (f : Forest) → parsed text ≡ read n f → number_of (reads text space).answer ≡ 0 → (k : ℕ) → 0 < k → k < count f → PartsRead text f k
parts_read text space n f told made k some fewer =
    let cut = cut_in_two text n f told k some fewer in
    let enough = reads_enough text space n f told made in
    let early : length (bulks_in (first_text text f k) (firsts k f)) ≤ length (bulks_in text f) = rw cut.first_bulks (omega (arith, length-take k (bulks_in text f))) in
    let late : length (bulks_in (later_text text f k) (lowered (cut_place text f k) (others k f))) ≤ length (bulks_in text f) =
    rw cut.later_bulks (omega (arith, length-drop k (bulks_in text f))) in
    record {
      first =
          subst (λ (bs : List Bulk). ReadsAs (first_text text f k) (sheet_bytes bs)) cut.first_bulks
          (enough_reads (first_text text f k) _ (firsts k f) cut.first
          (record {
            complete = lackless_firsts k f enough.complete;
            bulks = fewer_countable _ _ early enough.bulks;
            messages = counted_firsts k f enough.messages;
          }));
      later =
          subst (λ (bs : List Bulk). ReadsAs (later_text text f k) (sheet_bytes bs)) cut.later_bulks
          (enough_reads (later_text text f k) _ (lowered (cut_place text f k) (others k f)) cut.later
          (record {
            complete = lackless_lowered (cut_place text f k) (others k f) (lackless_others k f enough.complete);
            bulks = fewer_countable _ _ late enough.bulks;
            messages = countable_lowered (cut_place text f k) (others k f) ∙ counted_others k f enough.messages;
          }));
    }
