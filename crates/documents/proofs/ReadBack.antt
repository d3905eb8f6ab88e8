-- The round trip: what is written of bulks that documents can carry is read as exactly their sheet. Assumes nothing.
use mathlib.Core.Path.{◌≡◌, refl, ap, ◌∙◌}
use mathlib.Core.Bool.{Bool, true, false, cond}
use mathlib.Core.List.{List, [], ◌∷◌, ◌++◌}
use Prim.Native.Nat.{ℕ, ◌^◌, ◌≤◌, ◌<◌}
use native.Mathlib.Omega.{arith}
use lib.ListN.{length, drop}
use lib.Seq.{sets, drop-append_seam}
use borrow.Author.Tests.{lt-ltb, le-ltb, le-leb, lt-leb}
use Rattle.sheet.specs.Sheet.{Bulk}
use Rattle.sheet.specs.Written.{sheet_bytes}
use Rattle.std.specs.Prelude.{Ok, Result, Err}
use Rattle.prolog.specs.Prolog.{prolog}
use Rattle.prolog.proofs.Computing.{prolog_computes}
use Rattle.elements.specs.Forest.{Forest}
use Rattle.elements.specs.Grammar.{Parsed, read}
use Rattle.elements.specs.Questions.{first_lack}
use Rattle.reading.specs.Text.{roots_at, parsed}
use Rattle.reading.specs.Meaning.{bulks_in, sheet_in, all_countable, fits_in}
use Rattle.reading.specs.Reading.{answered, when_made, outcome, outcome_of, reads}
use Rattle.reading.specs.declared.Unread.{Unread}
use Rattle.reading.specs.declared.Unread.TheVariants.{Short}
use Rattle.documents.specs.Markup.{written_to}
use Rattle.documents.specs.Carried.{Carried}
use Rattle.documents.specs.Documents.{documents, declaration, Manner, documents_of}
use Rattle.documents.specs.ReadsBack.{ReadsBack, ToldShort}
use Rattle.documents.proofs.Here.{inside_here}
use Rattle.documents.proofs.Roots.{RootsRead, roots_read}

-- ---- what stands before the first document

abbrev opening : Bool → List ℕ
opening declared = cond declared declaration []

first_place : (declared : Bool) (ys : List ℕ) → prolog (opening declared ++ (60 ∷ 68 ∷ ys)) ≡ Ok (length (opening declared))
unfolding prolog_computes
first_place true ys = refl
first_place false ys = refl

-- ---- the whole text

parsed_from : (s : List ℕ) (at : ℕ) (r : Parsed) → prolog s ≡ Ok at → at < length s → roots_at s at ≡ r → parsed s ≡ r
unfolding parsed
parsed_from s at r e inside was = rw (e, lt-ltb at (length s) inside, was)

pub parsed_back : (manner : Manner) (bulks : List Bulk) → Carried bulks → RootsRead (parsed (documents_of manner bulks)) (documents_of manner bulks) bulks
unfolding documents_of documents written_to
parsed_back manner [] c = absurd (omega (arith, c.some))
parsed_back manner (b ∷ bs) c =
    let s = documents_of manner (b ∷ bs) in
    let front = opening manner.declared in
    let at = length front in
    let written = written_to manner.spelling (documents manner.brevity (b ∷ bs)) [] in
    let e : drop at s ≡ written = drop-append_seam front written in
    let roots = roots_read manner.spelling manner.brevity s (b ∷ bs) at c.each e in
    record {
      end = roots.end;
      forest = roots.forest;
      was = parsed_from s at _ (first_place manner.declared _) (inside_here s at 60 _ e) roots.was;
      complete = roots.complete;
      countable = roots.countable;
      bulks_are = roots.bulks_are;
    }

-- ---- the answer

module _ (s : List ℕ) (f : Forest) (bulks : List Bulk) (space : ℕ) (complete : (q : ℕ) → first_lack f q ≡ q) (countable : all_countable f ≡ true)
    (are : bulks_in s f ≡ bulks) (few : length bulks < 2 ^ 32) where
  pub answer_made : length (sheet_bytes bulks) ≤ space → answered s space f ≡ Ok (length (sheet_bytes bulks))
  unfolding fits_in
  answer_made room =
      rw (complete (length s), le-ltb (length s) (length s) (omega arith), countable, are, lt-ltb (length bulks) (2 ^ 32) few, le-leb (length (sheet_bytes bulks)) space room)

  pub answer_short : space < length (sheet_bytes bulks) → answered s space f ≡ Err Short
  unfolding fits_in
  answer_short room =
      rw (complete (length s), le-ltb (length s) (length s) (omega arith), countable, are, lt-ltb (length bulks) (2 ^ 32) few, lt-leb (length (sheet_bytes bulks)) space room)

-- ---- the call

outcome_from : (s space : List ℕ) (p : Parsed) (end : ℕ) (f : Forest) (r : Result ℕ Unread) → p ≡ read end f → answered s (length space) f ≡ r
    → outcome_of s space p ≡ outcome r (when_made r (sets space 0 (sheet_in s f)) space)
outcome_from s space p end f r was told = rw (was, told)

pub reads_back : ReadsBack
unfolding reads
reads_back manner bulks space c room =
    let s = documents_of manner bulks in
    let p = parsed_back manner bulks c in
    let n = length (sheet_bytes bulks) in
    let made = answer_made s p.forest bulks (length space) p.complete p.countable p.bulks_are c.few room in
    outcome_from s space (parsed s) p.end p.forest (Ok n) p.was made
    ∙ ap (λ (l : List Bulk). outcome (Ok n) (sets space 0 (sheet_bytes l))) p.bulks_are

pub told_short : ToldShort
unfolding reads
told_short manner bulks space c room =
    let s = documents_of manner bulks in
    let p = parsed_back manner bulks c in
    outcome_from s space (parsed s) p.end p.forest (Err Short) p.was
    (answer_short s p.forest bulks (length space) p.complete p.countable p.bulks_are c.few room)
