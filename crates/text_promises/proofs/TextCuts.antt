-- A text cut between two documents, proved of the reader's definition: each part is read as the sheet of its documents, and a judge that
-- cuts anywhere cuts there. Assumes nothing.
use mathlib.Core.Path.{◌≡◌, refl, sym, ap, subst, ◌∙◌}
use mathlib.Core.List.{List}
use Prim.Native.Nat.{ℕ, suc, ◌+◌, ◌≤◌, ◌<◌}
use native.Mathlib.Omega.{arith}
use lib.ListN.{length, take, drop}
use lib.Seq.{sets-eq, take_at}
use Rattle.sheet.specs.Sheet.{Bulk}
use Rattle.sheet.specs.Written.{sheet_bytes}
use Rattle.elements.specs.Forest.{Forest, none, tree}
use Rattle.elements.specs.Grammar.{Parsed}
use Rattle.reading.specs.Reading as reading
use Rattle.reading.specs.Reading.{Outcome}
use Rattle.joining.specs.Lowered.{count}
use Rattle.joining.specs.Cut as joining
use Rattle.joining.specs.Cut.{cut_place, ReadsAs}
use Rattle.joining.proofs.Read.{parts_read}
use Rattle.promises.specs.Reading.{Judge}
use Rattle.promises.specs.Cut.{Enough, PartsMakeTheWhole, CutsAnywhere}
use Rattle.text_promises.specs.Texts.{the_reader, ReadAs, roots_of, documents_by, documents, on_sheet, first_documents, later_documents}
use Rattle.text_promises.specs.TextCuts.{cut_by, cut_at, first_text, later_text, BothRead, ReadsInParts, CutsTexts}
use Rattle.text_promises.proofs.Texts.{made, meant_is, sheet_is, cuts_between_documents}

-- what is read into every space that is long enough is read into one
read_as : (text sheet : List ℕ) → ReadsAs text sheet → ReadAs the_reader text sheet
read_as text sheet every =
    let is = every sheet (omega arith) in
    record {
      space = sheet;
      was = ap (λ (o : Outcome). reading.number_of o.answer) is;
      made =
          ap (λ (o : Outcome). take (reading.length_of o.answer) o.sheet) is
          ∙ ap (take (length sheet)) (sets-eq sheet sheet 0 (omega arith))
          ∙ take_at sheet _ (length sheet) refl;
    }

-- and as one sheet alone
read_once : (text a b : List ℕ) → ReadAs the_reader text a → ReadAs the_reader text b → a ≡ b
read_once text a b one two = sheet_is text a one ∙ sym (sheet_is text b two)

roots_count : (f : Forest) → length (roots_of f) ≡ count f
unfolding roots_of count
roots_count none = refl
roots_count (tree role place inner rest) = ap suc (roots_count rest)

-- Each part of a text that is read is read, as the sheet of its own documents.
pub reads_in_parts : ReadsInParts the_reader
unfolding documents cut_at
reads_in_parts text sheet how k some fewer =
    let whole = made text sheet how in
    let f = whole.forest in
    let many : length (documents text) ≡ count f = ap (λ (p : Parsed). length (documents_by p)) whole.was ∙ roots_count f in
    let parts = parts_read text how.space whole.end f whole.was how.was k some (omega arith) in
    let place : cut_at text k ≡ cut_place text f k = ap (cut_by text k) whole.was in
    let bulks = sym (meant_is text sheet how) in
    record {
      first =
          subst (λ (q : ℕ). ReadAs the_reader (take q text) (first_documents text k)) (sym place)
          (subst (λ (bs : List Bulk). ReadAs the_reader (joining.first_text text f k) (sheet_bytes (take k bs))) bulks (read_as _ _ parts.first));
      later =
          subst (λ (q : ℕ). ReadAs the_reader (drop q text) (later_documents text k)) (sym place)
          (subst (λ (bs : List Bulk). ReadAs the_reader (joining.later_text text f k) (sheet_bytes (drop k bs))) bulks (read_as _ _ parts.later));
    }

-- A judge that cuts anywhere cuts texts.
pub cuts_texts : (judge : Judge) → CutsAnywhere judge → CutsTexts the_reader judge
cuts_texts judge cuts text call how bytes clear k some fewer sheet sheet' one two space space' =
    let parts = reads_in_parts text call.sheet how k some fewer in
    let first = read_once (first_text text k) (first_documents text k) sheet parts.first one in
    let later = read_once (later_text text k) (later_documents text k) sheet' parts.later two in
    let Judged : List ℕ → List ℕ → Type 0 = λ (a b : List ℕ).
    Enough a space → Enough b space'
    → PartsMakeTheWhole (judge call) (judge (on_sheet call a call.register call.positions space))
    (judge (on_sheet call b (judge (on_sheet call a call.register call.positions space)).register (judge (on_sheet call a call.register call.positions space)).positions space'))
    in
    let there : Judged (first_documents text k) (later_documents text k) =
    λ e e'. (cuts_between_documents judge cuts text call how bytes clear k (omega arith) space space' e e').judged
    in
    subst (λ (b : List ℕ). Judged sheet b) later (subst (λ (a : List ℕ). Judged a (later_documents text k)) first there)
