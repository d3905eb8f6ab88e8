-- The demands over texts, proved of the reader's definition: what a judge promises over sheets it keeps over the texts that they were
-- read from. Assumes nothing.
use mathlib.Core.Path.{◌≡◌, refl, sym, ap, ap₂, subst, ◌∙◌}
use mathlib.Core.Bool.{Bool, true, false, not}
use mathlib.Core.List.{List, [], ◌∷◌, ◌++◌, map}
use Prim.Native.Nat.{ℕ, ◌+◌, ◌-◌, ◌*◌, ◌≤◌}
use native.Mathlib.Nat.{zero-add}
use native.Mathlib.Decide.{ℕ_discrete}
use native.Mathlib.Omega.{arith}
use lib.ListN.{length, take, drop, length-append, length-map, take-append-drop}
use lib.Seq.{sets-eq, length-sets, length-take-le, drop_at}
use Rattle.wire.specs.Field.{Bytes, part, bytes_of}
use Rattle.sheet.specs.Sheet.{count_width, header_width, kind_of, Bulk, bulk_count, bulks_of, first_section, kinds_known, whole}
use Rattle.sheet.specs.Written.{sheet_bytes}
use Rattle.sheet.proofs.Headers.{headers, headers_of_lem}
use Rattle.sheet.proofs.Written.{Writable, Holds, sections_written, written_holds}
use Rattle.sheet.proofs.Parts.{first_headers, later_headers, first_end, first_sections, later_sections_lem}
use Rattle.records.specs.Records as records
use Rattle.records.proofs.Laws.{header_told}
use Rattle.records.proofs.Told.{bulk_identifier_told, identifier_told}
use Rattle.elements.specs.Forest.{Forest, none, tree}
use Rattle.elements.specs.Grammar.{Parsed}
use Rattle.elements.specs.Questions.{messages_in}
use Rattle.reading.specs.Meaning.{places_in, bulk_in, bulks_in, sheet_in}
use Rattle.reading.specs.Reading as reading
use Rattle.reading.specs.Reading.{reads}
use Rattle.reading.specs.declared.Unread.{Unread}
use Rattle.std.specs.Prelude.{Result}
use Rattle.reading.proofs.Sheets.{map_length}
use Rattle.reading.proofs.InBytes.{sheet_bytes_lem}
use Rattle.reading.proofs.Made.{WasMade, was_made, front_left, kinds_known_lem, untouched}
use Rattle.rules.specs.declared.Terms.{Terms}
use Rattle.report.specs.Line.{bulk_line_width, message_line_width, first_line, sections_place, lines_at, after_lines}
use Rattle.refusing.specs.Refusals.{Call, holds_given, holds}
use Rattle.refusing.specs.declared.Refusal.TheVariants.{Sheet, Kind}
use Rattle.refusing.proofs.Clear.{never_first}
use Rattle.promises.specs.Reading.{Judge, InBytes}
use Rattle.promises.specs.Demands.{RefusesAsWritten, EveryLineTells, MessagesTell, BulksTell}
use Rattle.promises.specs.Cut.{cut_place, first_part, second_part, Enough, PartsMakeTheWhole, CutsAnywhere}
use Rattle.text_promises.specs.Texts.{the_reader, WasRead, ReadAs, TextInBytes, roots_of, documents_by, documents, meant, SheetHoldsDocuments, Keeps, KeepsTheSpace, ReadIsWhole, MessagesNamed, DocumentsNamed, EveryDocumentTold, on_sheet, first_documents, later_documents, CutsBetweenDocuments}

-- ---- what was read

roots_bulks : (text : List ℕ) (f : Forest) → map (λ (d : Forest). bulk_in text d) (roots_of f) ≡ bulks_in text f
unfolding roots_of bulks_in
roots_bulks text none = refl
roots_bulks text (tree role place inner rest) = ap (λ (bs : List Bulk). bulk_in text (tree role place inner none) ∷ bs) (roots_bulks text rest)

kinds_told : (text : List ℕ) (ds : List Forest)
    → map (λ (b : Bulk). kind_of b.header) (map (λ (d : Forest). bulk_in text d) ds) ≡ map (λ (d : Forest). records.kind_of (places_in d)) ds
kinds_told text [] = refl
kinds_told text (d ∷ ds) = ap₂ (λ (k : ℕ) (ks : List ℕ). k ∷ ks) (header_told text (places_in d)) (kinds_told text ds)

module _ (text sheet : List ℕ) (how : ReadAs the_reader text sheet) where
  pub made : WasMade text how.space
  made = was_made text how.space how.was

  pub meant_is : meant text ≡ bulks_in text made.forest
  unfolding documents
  meant_is =
      ap (λ (p : Parsed). map (λ (d : Forest). bulk_in text d) (documents_by p)) made.was ∙ roots_bulks text made.forest

  pub sheet_is : sheet ≡ sheet_bytes (meant text)
  sheet_is =
      sym how.made
      ∙ ap (λ (r : Result ℕ Unread). take (reading.length_of r) (reads text how.space).sheet) made.answer
      ∙ front_left text how.space made
      ∙ ap (λ (bs : List Bulk). sheet_bytes bs) (sym meant_is)

  pub can_be_written : Writable (meant text)
  can_be_written = subst Writable (sym meant_is) made.writable

  pub holds_meant : Holds sheet (meant text)
  holds_meant = subst (λ (s : List ℕ). Holds s (meant text)) (sym sheet_is) (written_holds (meant text) can_be_written)

  known : kinds_known (headers (bulks_of sheet)) ≡ true
  known = ap (λ (bs : List Bulk). kinds_known (headers bs)) (holds_meant.bulks ∙ meant_is) ∙ kinds_known_lem text made.forest

  pub as_many : bulk_count sheet ≡ length (documents text)
  as_many = holds_meant.count ∙ length-map (documents text) (λ (d : Forest). bulk_in text d)

-- of a text of bytes, the sheet is made of bytes
lent : (text : List ℕ) (call : Call) → ReadAs the_reader text call.sheet → TextInBytes text call → InBytes call
lent text call how bytes =
    let is = sheet_is text call.sheet how ∙ ap (λ (bs : List Bulk). sheet_bytes bs) (meant_is text call.sheet how) in
    record {
      sheet = subst Bytes (sym is) (sheet_bytes_lem text bytes.documents (made text call.sheet how).forest);
      table = bytes.table;
      register = bytes.register;
      positions = bytes.positions;
      report = bytes.report;
    }

-- The sheet that was read holds the documents of the text: one bulk for each, in their order.
pub sheet_holds_documents : SheetHoldsDocuments the_reader
sheet_holds_documents text sheet how =
    record {
      bytes = sheet_is text sheet how;
      whole = (holds_meant text sheet how).whole;
      bulks = (holds_meant text sheet how).bulks;
      kinds = ap (λ (bs : List Bulk). map (λ (b : Bulk). kind_of b.header) bs) (holds_meant text sheet how).bulks ∙ kinds_told text (documents text);
    }

-- ---- no refusal for its form or its kinds

sheet_whole : (text : List ℕ) (call : Call) → ReadAs the_reader text call.sheet → holds Sheet call ≡ false
unfolding holds_given
sheet_whole text call how = ap not (holds_meant text call.sheet how).whole

kinds_right : (text : List ℕ) (call : Call) → ReadAs the_reader text call.sheet → holds Kind call ≡ false
unfolding holds_given
kinds_right text call how = ap not (ap kinds_known (sym (headers_of_lem call.sheet)) ∙ known text call.sheet how)

-- A judge that refuses as written never answers 5 or 7 on a sheet that was read.
pub read_is_whole : (judge : Judge) → RefusesAsWritten judge → ReadIsWhole the_reader judge
read_is_whole judge refuses text call how =
    record {
      form = λ e. never_first Sheet call (sheet_whole text call how) (sym (refuses call).number ∙ e);
      kinds = λ e. never_first Kind call (kinds_right text call how) (sym (refuses call).number ∙ e);
    }

-- ---- the lines tell of the documents

module _ (terms : Terms) (table report text : List ℕ) where
  messages_named : (header : List ℕ) (fallen : Bool) (ms : List Forest) (register : List ℕ) (at : ℕ)
      → MessagesTell terms table report header fallen (map (λ (m : Forest). records.message_of text (places_in m)) ms) register at
      → MessagesNamed text report ms at
  unfolding MessagesTell MessagesNamed
  messages_named header fallen [] register at tells = tt
  messages_named header fallen (m ∷ ms) register at tells =
      (tells.0.identifier ∙ identifier_told text (places_in m), messages_named header fallen ms _ (at + message_line_width) tells.1)

  documents_named : (ds : List Forest) (register : List ℕ) (at section : ℕ)
      → BulksTell terms table report (map (λ (d : Forest). bulk_in text d) ds) register at section → DocumentsNamed text report ds at section
  unfolding BulksTell DocumentsNamed
  documents_named [] register at section tells = tt
  documents_named (d ∷ ds) register at section tells = (
    tells.0.identifier ∙ bulk_identifier_told text (places_in d),
    messages_named (bulk_in text d).header _ (messages_in d) register (lines_at section) tells.0.messages,
    subst (λ (n : ℕ). DocumentsNamed text report ds (at + bulk_line_width) (after_lines section n)) (map_length text (messages_in d))
        (documents_named ds _ (at + bulk_line_width) _ tells.1),
  )

-- What a judge tells of every line it tells of the documents.
pub every_document_told : (judge : Judge) → EveryLineTells judge → EveryDocumentTold the_reader judge
every_document_told judge tells text call how bytes clear =
    let told = tells call (lent text call how bytes) clear in
    let many = as_many text call.sheet how in
    let lines =
    subst (λ (n : ℕ). BulksTell call.terms call.table (judge call).report (meant text) call.register first_line (sections_place n)) many
    (subst (λ (bs : List Bulk). BulksTell call.terms call.table (judge call).report bs call.register first_line (sections_place (bulk_count call.sheet)))
    (holds_meant text call.sheet how).bulks told.bulks)
    in
    record {
      count = told.count ∙ many;
      named = documents_named call.terms call.table (judge call).report text (documents text) call.register first_line (sections_place (length (documents text))) lines;
      lines = lines;
    }

-- ---- the cut

module _ (xs ys : List Bulk) (can : Writable (xs ++ ys)) where
  abbrev all : List ℕ
  all = sheet_bytes (xs ++ ys)

  first_part_lem : first_part all (length xs) ≡ sheet_bytes xs
  first_part_lem =
      let end = first_end xs ys can in
      let wide : first_section all + length (sections_written xs) - first_section all ≡ length (sections_written xs) = omega arith in
      ap₂ (λ (h t : List ℕ). bytes_of count_width (length xs) ++ h ++ t)
      (first_headers xs ys can)
      (ap (λ (p : ℕ). part all (first_section all) (p - first_section all)) end ∙ ap (λ (n : ℕ). part all (first_section all) n) wide ∙ first_sections xs ys can)

  others : bulk_count all - length xs ≡ length ys
  others = let count = (written_holds (xs ++ ys) can).count in let longer = length-append xs ys in omega arith

  second_part_lem : second_part all (length xs) ≡ sheet_bytes ys
  second_part_lem =
      ap (λ (n : ℕ). bytes_of count_width n ++ part all (count_width + header_width * length xs) (header_width * n) ++ drop (cut_place all (length xs)) all) others
      ∙ ap₂ (λ (h t : List ℕ). bytes_of count_width (length ys) ++ h ++ t)
      (later_headers xs ys can)
      (ap (λ (p : ℕ). drop p all) (first_end xs ys can) ∙ later_sections_lem xs ys can)

-- the same of any bulks, at any place
module _ (bulks : List Bulk) (can : Writable bulks) (k : ℕ) (h : k ≤ length bulks) where
  split : take k bulks ++ drop k bulks ≡ bulks
  split = take-append-drop k bulks

  can_split : Writable (take k bulks ++ drop k bulks)
  can_split = subst Writable (sym split) can

  first_bulks_lem : first_part (sheet_bytes bulks) k ≡ sheet_bytes (take k bulks)
  first_bulks_lem =
      ap₂ (λ (bs : List Bulk) (n : ℕ). first_part (sheet_bytes bs) n) (sym split) (sym (length-take-le k bulks h))
      ∙ first_part_lem (take k bulks) (drop k bulks) can_split

  later_bulks_lem : second_part (sheet_bytes bulks) k ≡ sheet_bytes (drop k bulks)
  later_bulks_lem =
      ap₂ (λ (bs : List Bulk) (n : ℕ). second_part (sheet_bytes bs) n) (sym split) (sym (length-take-le k bulks h))
      ∙ second_part_lem (take k bulks) (drop k bulks) can_split

-- A judge that cuts anywhere cuts between any two documents.
pub cuts_between_documents : (judge : Judge) → CutsAnywhere judge → CutsBetweenDocuments the_reader judge
cuts_between_documents judge cuts text call how bytes clear k h space space' enough enough' =
    let sheet = call.sheet in
    let is = sheet_is text sheet how in
    let can = can_be_written text sheet how in
    let many = as_many text sheet how in
    let number = length-map (documents text) (λ (d : Forest). bulk_in text d) in
    let first = ap (λ (s : List ℕ). first_part s k) is ∙ first_bulks_lem (meant text) can k (omega arith) in
    let later = ap (λ (s : List ℕ). second_part s k) is ∙ later_bulks_lem (meant text) can k (omega arith) in
    let Judged : List ℕ → List ℕ → Type 0 = λ (a b : List ℕ).
    Enough a space → Enough b space'
    → PartsMakeTheWhole (judge call) (judge (on_sheet call a call.register call.positions space))
    (judge (on_sheet call b (judge (on_sheet call a call.register call.positions space)).register (judge (on_sheet call a call.register call.positions space)).positions space'))
    in
    let parts : Judged (first_part sheet k) (second_part sheet k) = λ e e'. cuts call (lent text call how bytes) clear k (omega arith) space space' e e' in
    let there : Judged (first_documents text k) (later_documents text k) =
    subst (λ (b : List ℕ). Judged (first_documents text k) b) later (subst (λ (a : List ℕ). Judged a (second_part sheet k)) first parts)
    in
    record { first = first; later = later; judged = there enough enough' }

-- ---- what is left of the space

pub keeps_the_space : KeepsTheSpace the_reader
keeps_the_space text space = by_number (ℕ_discrete (reading.number_of (reads text space).answer) 0)
  where
    by_number : Dec (WasRead (the_reader text space)) → Keeps space (the_reader text space)
    by_number (yes e) =
        let made = was_made text space e in
        let sheet = sheet_in text made.forest in
        let room : 0 + length sheet ≤ length space = (let r = made.room in omega arith) in
        record {
          refused = λ unread. absurd (unread e);
          behind =
              ap (λ (r : Result ℕ Unread). drop (reading.length_of r) (reads text space).sheet) made.answer
              ∙ ap (drop (length sheet)) (made.left ∙ sets-eq sheet space 0 room)
              ∙ drop_at sheet (drop (0 + length sheet) space) (length sheet) refl
              ∙ ap (λ (n : ℕ). drop n space) (zero-add (length sheet))
              ∙ ap (λ (r : Result ℕ Unread). drop (reading.length_of r) space) (sym made.answer);
          long = ap length made.left ∙ length-sets space 0 sheet;
        }
    by_number (no e) =
        let kept = untouched text space e in
        record {
          refused = λ unread. kept;
          behind = ap (drop (reading.length_of (reads text space).answer)) kept.1;
          long = ap length kept.1;
        }
