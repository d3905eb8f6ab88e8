-- All documents of any text that is read: their bulks are carried. Assumes nothing.
use mathlib.Core.Path.{◌≡◌, refl, sym, ◌∙◌}
use mathlib.Core.Logic.{◌⊎◌, inl, inr}
use mathlib.Core.Bool.{Bool, true, false, cond, false≢true}
use mathlib.Core.List.{List, [], ◌∷◌}
use Prim.Native.Nat.{ℕ, zero, suc, ◌+◌, ◌^◌, ◌≤◌, ◌<◌, min}
use native.Mathlib.Omega.{arith}
use lib.Dec.{eqb, ltb}
use lib.ListN.{length}
use borrow.Author.Tests.{eqb-true, ltb-true, lt-ltb}
use Rattle.wire.specs.Field.{Bytes, text, same}
use Rattle.wire.proofs.Texts.{part_bytes_lem}
use Rattle.sheet.specs.Sheet.{Bulk, records_at, header_width, count_width, width_at, count_at, after_messages, bulk_count, first_section, bulks_from}
use Rattle.sheet.proofs.Written.{EachCounted, Writable, written_holds}
use Rattle.letters.specs.Places.{byte_at}
use Rattle.tags.specs.Names.{name_at, space_end}
use Rattle.prolog.specs.Prolog.{prolog}
use Rattle.paths.specs.Roles as roles
use Rattle.paths.specs.Table.{lacks, root_role}
use Rattle.elements.specs.Forest.{Forest, none, tree, beside, count_of}
use Rattle.elements.specs.Grammar.{read, broken, on_read}
use Rattle.elements.specs.Questions.{first_lack}
use Rattle.elements.proofs.Forward.{went, reached}
use Rattle.reading.specs.Text.{levels, document_at, roots_by, roots_at, some_roots, parsed}
use Rattle.reading.specs.Meaning.{bulk_in, bulks_in, sheet_in}
use Rattle.reading.proofs.Surveys.{Root, root_told}
use Rattle.reading.proofs.InBytes.{sheet_bytes_lem}
use Rattle.documents.specs.Carried.{CarriedBulk, CarriedEach, Carried}
use Rattle.documents.proofs.Grown.{Sound, ChildOf, Grown, grown_beside, grown_as, element_grown}
use Rattle.documents.proofs.Single.{AllBytes, InBytes, document_counts, document_carried}

-- ---- the documents of a text

abbrev pub Rooted : ℕ → Type 0
Rooted role = (role ≡ roles.document) ⊎ (role ≡ roles.stranger)

root_either : (name : List ℕ) → Rooted (root_role name)
unfolding root_role
root_either name = by_test (same name (text "Document"))
  where
    by_test : (t : Bool) → Rooted (cond t roles.document roles.stranger)
    by_test true = inl refl
    by_test false = inr refl

module _ (s : List ℕ) where
  document_grown : (at n : ℕ) (f : Forest) → byte_at s at ≡ 60 → document_at s at ≡ read n f → Grown s Rooted f
  document_grown at n f sign e =
      let role = root_role (name_at s (at + 1)) in
      grown_as s (λ r. r ≡ role) Rooted (λ r is. rw is (root_either (name_at s (at + 1)))) f (element_grown s levels role at n f sign e)

  begun : (f g : Forest) (at : ℕ) → Root s at f → 0 < length (bulks_in s (beside f g))
  unfolding bulks_in beside
  begun f g at one = rw one.is (omega arith)

  roots_grown : (b at n : ℕ) (f : Forest) → roots_by s b at ≡ read n f → Grown s Rooted f × (at < length s → 0 < length (bulks_in s f))
  unfolding roots_by Grown bulks_in beside
  roots_grown zero at n f e = absurd (let z : ◌≡◌ {A = ℕ} 0 1 = cc in omega arith)
  roots_grown (suc b) at n f e = by_test (roots_grown b) (ltb at (length s)) refl (eqb (byte_at s at) 60) refl e
    where
      by_test : ((at n : ℕ) (f : Forest) → roots_by s b at ≡ read n f → Grown s Rooted f × (at < length s → 0 < length (bulks_in s f)))
          → (t : Bool) → ltb at (length s) ≡ t → (u : Bool) → eqb (byte_at s at) 60 ≡ u
          → cond t (cond u (on_read (document_at s at) (λ next f. on_read (roots_by s b (space_end s next)) (λ e g. read e (beside f g)))) (broken at)) (read at none) ≡ read n f
          → Grown s Rooted f × (at < length s → 0 < length (bulks_in s f))
      by_test rest true low true sign told =
          let w = went (document_at s at) (λ next f. on_read (roots_by s b (space_end s next)) (λ e g. read e (beside f g))) n f told in
          let v = went (roots_by s b (space_end s w.mid)) (λ e g. read e (beside w.part g)) n f w.then in
          let all : beside w.part v.part ≡ f = cc in
          let first = document_grown at w.mid w.part (eqb-true (byte_at s at) 60 sign) w.first in
          let some = begun w.part v.part at (root_told s at w.mid w.part w.first) in
          rw (← all) (grown_beside s Rooted w.part v.part first (rest (space_end s w.mid) v.mid v.part v.first).0, λ h. some)
      by_test rest true low false sign told = absurd (let z : ◌≡◌ {A = ℕ} 0 1 = cc in omega arith)
      by_test rest false low u sign told = let nothing : none ≡ f = cc in rw (← nothing) (tt, λ h. absurd (false≢true (sym low ∙ lt-ltb at (length s) h)))

  -- there is one or more
  pub parsed_grown : (n : ℕ) (f : Forest) → parsed s ≡ read n f → Grown s Rooted f × (0 < length (bulks_in s f))
  unfolding parsed roots_at
  parsed_grown n f e =
      let r = reached (prolog s) (λ at. some_roots s at) n f e in
      by_test r.mid (ltb r.mid (length s)) refl r.then
    where
      by_test : (at : ℕ) (t : Bool) → ltb at (length s) ≡ t → cond t (roots_at s at) (broken at) ≡ read n f → Grown s Rooted f × (0 < length (bulks_in s f))
      by_test at true low told = let g = roots_grown (suc (length s)) at n f told in (g.0, g.1 (ltb-true at (length s) low))
      by_test at false low told = absurd (let z : ◌≡◌ {A = ℕ} 0 1 = cc in omega arith)

-- ---- nothing is missing from any of them

lack_down : (f : Forest) (p : ℕ) → first_lack f p ≤ p
unfolding first_lack
lack_down none p = omega arith
lack_down (tree role place inner rest) p = by_test (lack_down inner p) (lacks role (count_of inner)) (lack_down rest)
  where
    by_test : first_lack inner p ≤ p → (t : Bool) → ((q : ℕ) → first_lack rest q ≤ q) → first_lack rest (cond t (min (first_lack inner p) place) (first_lack inner p)) ≤ p
    by_test h true down = omega (arith, down (min (first_lack inner p) place))
    by_test h false down = omega (arith, down (first_lack inner p))

module _ (role place : ℕ) (inner rest : Forest) (p end : ℕ) (inside : place < end) where
  abbrev next : Bool → ℕ
  next t = cond t (min (first_lack inner p) place) (first_lack inner p)

  complete : end ≤ first_lack (tree role place inner rest) p → (lacks role (count_of inner) ≡ false) × (end ≤ first_lack rest (next (lacks role (count_of inner))))
  unfolding first_lack
  complete h = (by_test (lacks role (count_of inner)) h, h)
    where
      by_test : (t : Bool) → end ≤ first_lack rest (next t) → t ≡ false
      by_test true h = absurd (omega (arith, lack_down rest (min (first_lack inner p) place)))
      by_test false h = refl

-- ---- their bytes

records_bytes : (sheet : List ℕ) → Bytes sheet → (width n at : ℕ) → AllBytes (records_at sheet width n at)
unfolding records_at AllBytes
records_bytes sheet bytes width zero at = tt
records_bytes sheet bytes width (suc n) at = (part_bytes_lem sheet at width bytes, records_bytes sheet bytes width n (at + width))

unfoldable EachInBytes : List Bulk → Type 0
EachInBytes [] = Unit {0}
EachInBytes (b ∷ bs) = InBytes b × EachInBytes bs

bulks_bytes : (sheet : List ℕ) → Bytes sheet → (n head at : ℕ) → EachInBytes (bulks_from sheet n head at)
unfolding bulks_from EachInBytes
bulks_bytes sheet bytes zero head at = tt
bulks_bytes sheet bytes (suc n) head at = (
  record { header = part_bytes_lem sheet head header_width bytes; messages = records_bytes sheet bytes (width_at sheet head) (count_at sheet at) (at + count_width) },
  bulks_bytes sheet bytes n (head + header_width) (after_messages sheet head at),
)

-- ---- their bulks

one_carried : (s : List ℕ) (role place : ℕ) (inner : Forest) → Rooted role → Sound s role place → Grown s (ChildOf role) inner → lacks role (count_of inner) ≡ false
    → InBytes (bulk_in s (tree role place inner none)) → length (bulk_in s (tree role place inner none)).messages < 2 ^ 32
    → CarriedBulk (bulk_in s (tree role place inner none))
unfolding lacks
one_carried s role place inner (inl is) = rw is (λ sound g full bytes few. document_carried s place inner sound g (document_counts (count_of inner) full) bytes few)
one_carried s role place inner (inr is) = rw is (λ sound g full bytes few. absurd (false≢true (sym full)))

each_carried : (s : List ℕ) (f : Forest) → Grown s Rooted f → (p : ℕ) → length s ≤ first_lack f p → EachCounted (bulks_in s f) → EachInBytes (bulks_in s f) → CarriedEach (bulks_in s f)
unfolding Grown bulks_in EachCounted EachInBytes CarriedEach
each_carried s none g p h few bytes = tt
each_carried s (tree role place inner rest) g p h few bytes =
    let c = complete role place inner rest p (length s) g.1.inside h in
    (one_carried s role place inner g.0 g.1 g.2 c.0 bytes.0 few.0, each_carried s rest g.3 _ c.1 few.1 bytes.1)

pub bulks_carried : (s : List ℕ) (n : ℕ) (f : Forest) → Bytes s → parsed s ≡ read n f → length s ≤ first_lack f (length s) → Writable (bulks_in s f) → Carried (bulks_in s f)
bulks_carried s n f bytes was full can =
    let g = parsed_grown s n f was in
    let sheet = sheet_in s f in
    let read_back = (written_holds (bulks_in s f) can).bulks in
    let each : EachInBytes (bulks_in s f) = rw read_back at (bulks_bytes sheet (sheet_bytes_lem s bytes f) (bulk_count sheet) count_width (first_section sheet)) in
    record { each = each_carried s f g.0 (length s) full can.each each; some = g.1; few = can.few }
