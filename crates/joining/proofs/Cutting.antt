-- A text that is read may be cut between any two of its documents: each part is a text of its documents. Assumes nothing.
use mathlib.Core.Path.{◌≡◌, refl, sym, ap, subst, ◌∙◌}
use mathlib.Core.Bool.{Bool, true, false, cond}
use mathlib.Core.List.{List, ◌∷◌}
use Prim.Native.Nat.{ℕ, zero, suc, ◌-◌, ◌≤◌, ◌<◌}
use native.Mathlib.Omega.{arith}
use lib.Dec.{ltb}
use lib.ListN.{length, take, drop, length-drop}
use lib.Seq.{length-take-le}
use borrow.Author.Tests.{ltb-true, lt-ltb}
use Rattle.sheet.specs.Sheet.{Bulk}
use Rattle.std.specs.Prelude.{Ok}
use Rattle.prolog.specs.Prolog.{prolog}
use Rattle.prolog.proofs.Laws.{prolog_none}
use Rattle.elements.specs.Forest.{Forest, none, tree}
use Rattle.elements.specs.Grammar.{Parsed, read, broken}
use Rattle.elements.proofs.Forward.{reached}
use Rattle.reading.specs.Text.{roots_at, some_roots, parsed}
use Rattle.reading.specs.Meaning.{bulk_in, bulks_in}
use Rattle.joining.specs.Lowered.{firsts, others, count, begins, lowered}
use Rattle.joining.specs.Cut.{cut_place, first_text, later_text, CutInTwo}
use Rattle.joining.proofs.Parts.{first_part_lem, second_part_lem, whole_part}
use Rattle.joining.proofs.Forests.{Every, every_more}
use Rattle.joining.proofs.Fields.{Kept}
use Rattle.joining.proofs.Meanings.{bulks_same}
use Rattle.joining.proofs.Documents.{Documents, Divided, There, documents_forward, roots_documents, documents_roots, divided, documents_in, some_before, some_begins}
use Rattle.joining.proofs.Prolog.{prolog_front}

-- ---- a text as a whole

pub record Parsing (s : List ℕ) (n : ℕ) (f : Forest) : Type 0 where
  pub at : ℕ
  pub before : prolog s ≡ Ok at
  pub inside : at < length s
  pub roots : roots_at s at ≡ read n f

parsing : (s : List ℕ) (n : ℕ) (f : Forest) → parsed s ≡ read n f → Parsing s n f
unfolding parsed
parsing s n f told =
    let a = reached (prolog s) (λ at. some_roots s at) n f told in
    by_test a.mid a.first (ltb a.mid (length s)) refl a.then
  where
    by_test : (at : ℕ) → prolog s ≡ Ok at → (b : Bool) → ltb at (length s) ≡ b → cond b (roots_at s at) (broken at) ≡ read n f → Parsing s n f
    by_test at before true b told = record { at = at; before = before; inside = ltb-true at (length s) b; roots = told }
    by_test at before false b told = absurd (let z : ◌≡◌ {A = ℕ} 0 1 = cc in omega arith)

parsed_as : (s : List ℕ) (at : ℕ) (r : Parsed) → prolog s ≡ Ok at → at < length s → roots_at s at ≡ r → parsed s ≡ r
unfolding parsed
parsed_as s at r before inside roots = rw (before, lt-ltb at (length s) inside, roots)

-- every place of its documents is one of the text
pub whole_kept : (s : List ℕ) (n : ℕ) (f : Forest) → parsed s ≡ read n f → Every (λ k. k < length s) f
whole_kept s n f told =
    let whole = parsing s n f told in
    let inside = whole.inside in
    let documents = roots_documents s whole.at n f whole.roots in
    let ends = documents.0 (omega arith) in
    let there = documents_in (whole_part s) whole.at whole.at f (omega arith) (subst (λ (e : ℕ). Documents s e whole.at f) (omega arith) documents.1) in
    every_more (Kept (whole_part s) 0) (λ k. k < length s) (λ k kept. (let low = kept.1 in omega arith)) f there.kept

-- ---- counts and bulks of the first so many, and of the others

firsts_some : (k : ℕ) (f : Forest) → 0 < k → 0 < count f → 0 < count (firsts k f)
unfolding firsts count
firsts_some zero f h some = absurd (omega arith)
firsts_some (suc k) none h some = absurd (omega arith)
firsts_some (suc k) (tree role place inner rest) h some = omega arith

others_some : (k : ℕ) (f : Forest) → k < count f → 0 < count (others k f)
unfolding others count
others_some zero f h = omega arith
others_some (suc k) none h = absurd (omega arith)
others_some (suc k) (tree role place inner rest) h = others_some k rest (omega arith)

lowered_some : (d : ℕ) (f : Forest) → count (lowered d f) ≡ count f
unfolding lowered count
lowered_some d none = refl
lowered_some d (tree role place inner rest) = ap suc (lowered_some d rest)

lowered_not : (f : Forest) → lowered 0 f ≡ f
unfolding lowered
lowered_not none = refl
lowered_not (tree role place inner rest) =
    let same : place - 0 ≡ place = omega arith in
    rw (same, lowered_not inner, lowered_not rest)

pub bulks_first_lem : (s : List ℕ) (k : ℕ) (f : Forest) → bulks_in s (firsts k f) ≡ take k (bulks_in s f)
unfolding firsts bulks_in
bulks_first_lem s zero f = refl
bulks_first_lem s (suc k) none = refl
bulks_first_lem s (suc k) (tree role place inner rest) = ap (λ (bs : List Bulk). bulk_in s (tree role place inner none) ∷ bs) (bulks_first_lem s k rest)

pub bulks_later : (s : List ℕ) (k : ℕ) (f : Forest) → bulks_in s (others k f) ≡ drop k (bulks_in s f)
unfolding others bulks_in
bulks_later s zero f = refl
bulks_later s (suc k) none = refl
bulks_later s (suc k) (tree role place inner rest) = bulks_later s k rest

-- ---- the cut

module _ (text : List ℕ) (n : ℕ) (f : Forest) (told : parsed text ≡ read n f) (k : ℕ) (some : 0 < k) (fewer : k < count f) where
  abbrev place : ℕ
  place = cut_place text f k

  whole : Parsing text n f
  whole = parsing text n f told

  ends : n ≡ length text
  ends = (roots_documents text whole.at n f whole.roots).0 (omega (arith, whole.inside))

  parts : Divided text n whole.at f k
  parts = divided text n whole.at f k (roots_documents text whole.at n f whole.roots).1

  place_is : begins (others k f) n ≡ place
  unfolding cut_place
  place_is = ap (begins (others k f)) ends

  before : Documents text place whole.at (firsts k f)
  before = subst (λ (e : ℕ). Documents text e whole.at (firsts k f)) place_is parts.first

  behind : Documents text (length text) place (others k f)
  behind = subst (λ (e : ℕ). Documents text e place (others k f)) ends (subst (λ (q : ℕ). Documents text n q (others k f)) place_is parts.later)

  within : place ≤ length text
  within = documents_forward text (length text) place (others k f) behind

  first_length : length (first_text text f k) ≡ place
  first_length = length-take-le place text within

  later_length : length (later_text text f k) ≡ length text - place
  later_length = length-drop place text

  first_there : There (first_part_lem text place) whole.at (firsts k f)
  first_there =
      documents_in (first_part_lem text place) whole.at whole.at (firsts k f) (omega arith)
      (subst (λ (e : ℕ). Documents text e whole.at (firsts k f)) (let size = first_length in omega arith) before)

  later_there : There (second_part_lem text place within) 0 (others k f)
  later_there =
      documents_in (second_part_lem text place within) place 0 (others k f) (omega arith)
      (subst (λ (e : ℕ). Documents text e place (others k f)) (let size = later_length in let low = within in omega arith) behind)

  first_parsed : parsed (first_text text f k) ≡ read (length (first_text text f k)) (firsts k f)
  first_parsed =
      let inside = some_before text place whole.at (firsts k f) before (firsts_some k f some (omega arith)) in
      let size = first_length in
      parsed_as (first_text text f k) whole.at _ (prolog_front (first_part_lem text place) whole.at whole.before (omega arith)) (omega arith)
      (documents_roots (first_text text f k) whole.at (firsts k f)
      (subst (λ (g : Forest). Documents (first_text text f k) (length (first_text text f k)) whole.at g) (lowered_not (firsts k f)) first_there.documents))

  later_parsed : parsed (later_text text f k) ≡ read (length (later_text text f k)) (lowered place (others k f))
  later_parsed =
      let there = later_there.documents in
      let many : 0 < count (lowered place (others k f)) = rw (lowered_some place (others k f)) (others_some k f fewer) in
      let begin = some_begins (later_text text f k) (length (later_text text f k)) 0 (lowered place (others k f)) there many in
      parsed_as (later_text text f k) 0 _ (prolog_none (later_text text f k) begin.0 begin.1)
      (some_before (later_text text f k) (length (later_text text f k)) 0 (lowered place (others k f)) there many)
      (documents_roots (later_text text f k) 0 (lowered place (others k f)) there)

  -- A text that is read may be cut between two documents.
  pub cut_in_two : CutInTwo text f k
  cut_in_two =
      record {
        first = first_parsed;
        later = later_parsed;
        first_bulks =
            ap (bulks_in (first_text text f k)) (sym (lowered_not (firsts k f)))
            ∙ bulks_same (first_part_lem text place) 1 (omega arith) (firsts k f) first_there.roots first_there.under
            ∙ bulks_first_lem text k f;
        later_bulks =
            bulks_same (second_part_lem text place within) (suc place) (omega arith) (others k f) later_there.roots later_there.under
            ∙ bulks_later text k f;
      }
