-- The sheet, written one document after the other: headers in front, sections behind. Assumes nothing.
use mathlib.Core.Path.{◌≡◌, refl, sym, ap, ◌∙◌}
use mathlib.Core.Bool.{Bool, true, false}
use mathlib.Core.List.{List, [], ◌∷◌, ◌++◌, append_assoc, append-nil}
use Prim.Native.Nat.{ℕ, ◌+◌, ◌*◌, ◌≤◌, ◌<◌}
use native.Mathlib.Omega.{arith}
use lib.Dec.{eqb}
use lib.ListN.{length, length-append}
use lib.Seq.{sets, length-sets}
use borrow.Author.Tests.{eqb-true, eqb-false}
use Rattle.wire.specs.Field.{bytes_of}
use Rattle.wire.proofs.Numbers.{bytes_length}
use Rattle.wire.proofs.Stores.{sets_then, sets_swap}
use Rattle.letters.specs.Places.{byte_at}
use Rattle.tags.specs.Names.{space_end}
use Rattle.sheet.specs.Sheet.{Bulk}
use Rattle.records.proofs.Laws.{header_length}
use Rattle.elements.specs.Forest.{Forest, none, beside}
use Rattle.elements.specs.Grammar.{Parsed, read, broken, deep}
use Rattle.elements.specs.Questions.{messages_in}
use Rattle.elements.proofs.Forests.{beside_none}
use Rattle.elements.proofs.Forward.{went}
use Rattle.reading.specs.Text.{document_at, roots_at}
use Rattle.reading.specs.Meaning.{places_in, bulk_in, bulks_in, all_countable}
use Rattle.reading.specs.Filling.{section, Placed, PutWhole, Fitting, PutSheet}
use Rattle.reading.specs.declared.filling.Put.{Put}
use Rattle.reading.proofs.Roots.{roots_end, roots_odd, roots_document}
use Rattle.reading.proofs.Surveys.{Root, root_told, bulks_beside}
use Rattle.elements.proofs.Forests.{behind, nothing_yet, further}
use Rattle.reading.proofs.Sheets.{headers, sections, section_length, headers_length, parts_length, sheet_length}

-- ---- bulks one after the other

headers_append : (bs cs : List Bulk) → headers (bs ++ cs) ≡ headers bs ++ headers cs
headers_append [] cs = refl
headers_append (b ∷ bs) cs = ap (λ (r : List ℕ). b.header ++ r) (headers_append bs cs) ∙ sym (append_assoc b.header (headers bs) (headers cs))

sections_append : (bs cs : List Bulk) → sections (bs ++ cs) ≡ sections bs ++ sections cs
sections_append [] cs = refl
sections_append (b ∷ bs) cs = ap (λ (r : List ℕ). section b ++ r) (sections_append bs cs) ∙ sym (append_assoc (section b) (sections bs) (sections cs))

-- a document's forest is one bulk
one_bulk : (s : List ℕ) (at : ℕ) (f : Forest) → Root s at f → bulks_in s f ≡ bulk_in s f ∷ []
unfolding bulks_in
one_bulk s at f root = rw root.is

-- ---- the loop

pub record Writing (s : List ℕ) (first bulks i h m : ℕ) (base d : List ℕ) : Type 0 where
  pub sofar : Forest
  pub comes : roots_at s first ≡ behind sofar (roots_at s i)
  pub heads : h ≡ 4 + 65 * length (bulks_in s sofar)
  pub bodies : m ≡ 4 + 65 * bulks + length (sections (bulks_in s sofar))
  pub wrote : d ≡ sets (sets base 4 (headers (bulks_in s sofar))) (4 + 65 * bulks) (sections (bulks_in s sofar))

module _ (s : List ℕ) (first bulks : ℕ) (base : List ℕ) where
  pub writing_starts : Writing s first bulks first 4 (4 + 65 * bulks) base base
  unfolding bulks_in
  writing_starts = record { sofar = none; comes = nothing_yet (roots_at s first); heads = omega arith; bodies = omega arith; wrote = refl }

  module _ (fitting : Fitting s (roots_at s first) bulks base) (i h m : ℕ) (d : List ℕ) (now : Writing s first bulks i h m base d) where
    abbrev sofar : Forest
    sofar = now.sofar

    long : length d ≡ length base
    long = ap length now.wrote ∙ length-sets (sets base 4 (headers (bulks_in s sofar))) (4 + 65 * bulks) (sections (bulks_in s sofar)) ∙ length-sets base 4 (headers (bulks_in s sofar))

    -- the next document was read by the first reading, and what is left after it
    pub record Next : Type 0 where
      pub here : byte_at s i ≡ 60
      pub end : ℕ
      pub forest : Forest
      pub was : document_at s i ≡ read end forest
      pub last : ℕ
      pub rest : Forest
      pub others : roots_at s (space_end s end) ≡ read last rest
      pub all : fitting.forest ≡ beside sofar (beside forest rest)

    pub next_document : i < length s → Next
    next_document low = by_byte (eqb (byte_at s i) 60) refl
      where
        by_read : byte_at s i ≡ 60 → (r : Parsed) → document_at s i ≡ r → Next
        by_read here (read n f) k =
            let goes = roots_document s i (read n f) low here k in
            let a = went (roots_at s i) (λ e g. read e (beside sofar g)) fitting.end fitting.forest (sym now.comes ∙ fitting.was) in
            let b = went (roots_at s (space_end s n)) (λ e g. read e (beside f g)) a.mid a.part (sym goes ∙ a.first) in
            let part : beside f b.part ≡ a.part = cc in
            let all : beside sofar a.part ≡ fitting.forest = cc in
            record { here = here; end = n; forest = f; was = k; last = b.mid; rest = b.part; others = b.first; all = sym all ∙ ap (λ (g : Forest). beside sofar g) (sym part) }
        by_read here (broken p) k =
            absurd (let z : broken p ≡ read fitting.end fitting.forest = sym (now.comes ∙ (rw (roots_document s i (broken p) low here k))) ∙ fitting.was in let y : ◌≡◌ {A = ℕ} 0 1 = cc in omega arith)
        by_read here (deep p) k =
            absurd (let z : deep p ≡ read fitting.end fitting.forest = sym (now.comes ∙ (rw (roots_document s i (deep p) low here k))) ∙ fitting.was in let y : ◌≡◌ {A = ℕ} 0 1 = cc in omega arith)

        by_byte : (t : Bool) → eqb (byte_at s i) 60 ≡ t → Next
        by_byte true e = by_read (eqb-true (byte_at s i) 60 e) (document_at s i) refl
        by_byte false e =
            absurd (let z : broken i ≡ read fitting.end fitting.forest = sym (now.comes ∙ (rw (roots_odd s i low (eqb-false (byte_at s i) 60 e)))) ∙ fitting.was in let y : ◌≡◌ {A = ℕ} 0 1 = cc in omega arith)

    module _ (next : Next) where
      root : Root s i next.forest
      root = root_told s i next.end next.forest next.was

      abbrev own : Bulk
      own = bulk_in s next.forest

      bulks_all : bulks_in s fitting.forest ≡ bulks_in s sofar ++ (own ∷ bulks_in s next.rest)
      bulks_all =
          ap (bulks_in s) next.all ∙ bulks_beside s sofar (beside next.forest next.rest)
          ∙ ap (λ (bs : List Bulk). bulks_in s sofar ++ bs) (bulks_beside s next.forest next.rest ∙ ap (λ (bs : List Bulk). bs ++ bulks_in s next.rest) (one_bulk s i next.forest root))

      -- one header more has its place, and the section its room
      pub head_room : length (bulks_in s sofar) + 1 ≤ bulks
      head_room =
          let many = ap length bulks_all ∙ length-append (bulks_in s sofar) (own ∷ bulks_in s next.rest) in
          omega (arith, fitting.number)

      body_room : m + 4 + 81 * length (messages_in next.forest) ≤ length d
      body_room =
          let parts = parts_length s fitting.forest fitting.few in
          let heads = headers_length s fitting.forest in
          let cut = ap (λ (bs : List Bulk). length (sections bs)) bulks_all ∙ ap length (sections_append (bulks_in s sofar) (own ∷ bulks_in s next.rest)) ∙ length-append (sections (bulks_in s sofar)) (section own ++ sections (bulks_in s next.rest)) in
          let first = length-append (section own) (sections (bulks_in s next.rest)) in
          let its = section_length s next.forest in
          omega (arith, fitting.room, fitting.number, now.bodies, long)

      pub document_placed : i < length s → Placed s (document_at s i) i h m d
      document_placed low = record { inside = low; end = next.end; forest = next.forest; was = next.was; apart = omega (arith, now.heads, now.bodies, head_room); room = body_room }

      bulks_on : bulks_in s (beside sofar next.forest) ≡ bulks_in s sofar ++ (own ∷ [])
      bulks_on = bulks_beside s sofar next.forest ∙ ap (λ (bs : List Bulk). bulks_in s sofar ++ bs) (one_bulk s i next.forest root)

      headers_on : headers (bulks_in s (beside sofar next.forest)) ≡ headers (bulks_in s sofar) ++ own.header
      headers_on = ap headers bulks_on ∙ headers_append (bulks_in s sofar) (own ∷ []) ∙ ap (λ (xs : List ℕ). headers (bulks_in s sofar) ++ xs) (append-nil own.header)

      sections_on : sections (bulks_in s (beside sofar next.forest)) ≡ sections (bulks_in s sofar) ++ section own
      sections_on = ap sections bulks_on ∙ sections_append (bulks_in s sofar) (own ∷ []) ∙ ap (λ (xs : List ℕ). sections (bulks_in s sofar) ++ xs) (append-nil (section own))

      back_on : (z : List ℕ) → sets (sets z (4 + 65 * bulks) (sections (bulks_in s sofar))) m (section own) ≡ sets z (4 + 65 * bulks) (sections (bulks_in s sofar) ++ section own)
      back_on z =
          ap (λ (k : ℕ). sets (sets z (4 + 65 * bulks) (sections (bulks_in s sofar))) k (section own)) now.bodies
          ∙ sets_then z (4 + 65 * bulks) (length (sections (bulks_in s sofar))) (sections (bulks_in s sofar)) (section own) refl

      wrote_on : (after : List ℕ) → after ≡ sets (sets d h own.header) m (section own)
          → after ≡ sets (sets base 4 (headers (bulks_in s (beside sofar next.forest)))) (4 + 65 * bulks) (sections (bulks_in s (beside sofar next.forest)))
      wrote_on after e =
          let heads = headers_length s sofar in
          let its = header_length s (places_in next.forest) in
          let swap = sym (sets_swap (sets base 4 (headers (bulks_in s sofar))) h own.header (4 + 65 * bulks) (sections (bulks_in s sofar)) (omega (arith, now.heads, head_room))) in
          let front : sets (sets base 4 (headers (bulks_in s sofar))) h own.header ≡ sets base 4 (headers (bulks_in s sofar) ++ own.header) =
          ap (λ (k : ℕ). sets (sets base 4 (headers (bulks_in s sofar))) k own.header) now.heads ∙ sets_then base 4 (65 * length (bulks_in s sofar)) (headers (bulks_in s sofar)) own.header heads in
          e ∙ ap (λ (x : List ℕ). sets (sets x h own.header) m (section own)) now.wrote
          ∙ ap (λ (x : List ℕ). sets x m (section own)) swap
          ∙ ap (λ (x : List ℕ). sets (sets x (4 + 65 * bulks) (sections (bulks_in s sofar))) m (section own)) front
          ∙ back_on (sets base 4 (headers (bulks_in s sofar) ++ own.header))
          ∙ (rw (headers_on, sections_on))

      pub writing_on : (put : Put) (after : List ℕ) (h' : ℕ) → i < length s → PutWhole s (read next.end next.forest) h m d after put → h' ≡ h + 65
          → Writing s first bulks (space_end s put.next) h' put.at base after
      writing_on put after h' low wrote e =
          record {
            sofar = beside sofar next.forest;
            comes =
                now.comes ∙ (rw (roots_document s i (read next.end next.forest) low next.here next.was))
                ∙ further sofar next.forest (roots_at s (space_end s next.end))
                ∙ ap (λ (k : ℕ). behind (beside sofar next.forest) (roots_at s (space_end s k))) (sym wrote.0);
            heads = let many = ap length bulks_on ∙ length-append (bulks_in s sofar) (own ∷ []) in omega (arith, now.heads);
            bodies =
                wrote.1 ∙ (let cut = ap length sections_on ∙ length-append (sections (bulks_in s sofar)) (section own) in
                let its = section_length s next.forest in
                omega (arith, now.bodies));
            wrote = wrote_on after wrote.2;
          }

    -- ---- the end

    pub writing_ends : (start : List ℕ) → base ≡ sets start 0 (bytes_of 4 bulks) → length s ≤ i → PutSheet s (roots_at s first) start d m
    writing_ends start counted h =
        let ends : roots_at s first ≡ read i sofar = now.comes ∙ (rw (roots_end s i h, beside_none sofar)) in
        let same : read i sofar ≡ read fitting.end fitting.forest = sym ends ∙ fitting.was in
        let all : sofar ≡ fitting.forest = cc in
        let number : bulks ≡ length (bulks_in s sofar) = fitting.number ∙ ap (λ (g : Forest). length (bulks_in s g)) (sym all) in
        let countable_so : all_countable sofar ≡ true = ap all_countable all ∙ fitting.few in
        let heads = headers_length s sofar in
        let told : PutSheet s (read i sofar) start d m = (
          now.bodies ∙ (let parts = parts_length s sofar countable_so in let whole = sheet_length s sofar countable_so in omega arith),
          now.wrote ∙ sets_then base 4 (65 * bulks) (headers (bulks_in s sofar)) (sections (bulks_in s sofar)) (omega arith)
              ∙ ap (λ (x : List ℕ). sets x 4 (headers (bulks_in s sofar) ++ sections (bulks_in s sofar))) counted
              ∙ sets_then start 0 4 (bytes_of 4 bulks) (headers (bulks_in s sofar) ++ sections (bulks_in s sofar)) (bytes_length 4 bulks)
              ∙ ap (sets start 0) (sym (append_assoc (bytes_of 4 bulks) (headers (bulks_in s sofar)) (sections (bulks_in s sofar))) ∙ ap (λ (n : ℕ). bytes_of 4 n ++ headers (bulks_in s sofar) ++ sections (bulks_in s sofar)) number),
        ) in
        rw ends told

-- ---- the space

pub fitting_on : (s : List ℕ) (p : Parsed) (bulks : ℕ) (d e : List ℕ) → Fitting s p bulks d → length e ≡ length d → Fitting s p bulks e
fitting_on s p bulks d e fitting same =
    record { end = fitting.end; forest = fitting.forest; was = fitting.was; few = fitting.few; number = fitting.number; room = rw same fitting.room }

pub headers_fit : (s : List ℕ) (p : Parsed) (bulks : ℕ) (d : List ℕ) → Fitting s p bulks d → 4 + 65 * bulks ≤ length d
headers_fit s p bulks d fitting =
    let parts = parts_length s fitting.forest fitting.few in
    let heads = headers_length s fitting.forest in
    omega (arith, fitting.room, fitting.number)
