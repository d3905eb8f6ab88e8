-- The sheets that can be read from texts are exactly those of bulks that documents can carry. Assumes nothing.
use mathlib.Core.Path.{◌≡◌, refl, sym, ap, ◌∙◌}
use mathlib.Core.Bool.{false}
use mathlib.Core.List.{List}
use Prim.Native.Nat.{ℕ}
use native.Mathlib.Omega.{arith}
use lib.ListN.{length, take, replicate, length-replicate}
use lib.Seq.{sets, sets-eq, take_at}
use Rattle.std.specs.Prelude.{Ok}
use Rattle.wire.specs.Field.{Bytes}
use Rattle.sheet.specs.Written.{sheet_bytes}
use Rattle.elements.specs.Grammar.{read}
use Rattle.reading.specs.Meaning.{bulks_in, sheet_in}
use Rattle.reading.specs.Reading.{reads, number_of, length_of}
use Rattle.reading.proofs.Made.{WasMade, was_made, front_left}
use Rattle.documents.specs.Spelling.{as_it_stands}
use Rattle.documents.specs.Brevity.{in_full}
use Rattle.documents.specs.Carried.{Carried}
use Rattle.documents.specs.Documents.{Manner, documents_of}
use Rattle.documents.specs.ExactlyThese.{OnlyCarried, ReadFrom, OfCarried, ExactlyThese}
use Rattle.documents.proofs.ReadBack.{reads_back}
use Rattle.documents.proofs.Every.{bulks_carried}
use Rattle.documents.proofs.Octets.{all_bytes_lem, documents_bytes}

-- ---- what is read is carried

module _ (s space : List ℕ) (n : ℕ) (bytes : Bytes s) (made : (reads s space).answer ≡ Ok n) where
  abbrev was : WasMade s space
  was = was_made s space (ap number_of made)

  made_carried : Carried (bulks_in s was.forest)
  made_carried = bulks_carried s was.end was.forest bytes was.was was.complete was.writable

  made_long : length (sheet_in s was.forest) ≡ n
  made_long = ap length_of (sym was.answer ∙ made)

pub only_carried : OnlyCarried
only_carried s space end f n bytes is made =
    let w = was s space n bytes made in
    let same : read w.end w.forest ≡ read end f = sym w.was ∙ is in
    let forests : w.forest ≡ f = cc in
    rw (← forests) (made_carried s space n bytes made)

-- ---- both ways

abbrev plainest : Manner
plainest = record { declared = false; spelling = as_it_stands; brevity = in_full }

from_text : (sheet : List ℕ) → ReadFrom sheet → OfCarried sheet
from_text sheet r =
    let w = was r.text r.space (length sheet) r.bytes r.answer in
    let long = made_long r.text r.space (length sheet) r.bytes r.answer in
    record {
      bulks = bulks_in r.text w.forest;
      carried = made_carried r.text r.space (length sheet) r.bytes r.answer;
      is = sym (front_left r.text r.space w) ∙ ap (λ (k : ℕ). take k (reads r.text r.space).sheet) long ∙ r.left;
    }

to_text : (sheet : List ℕ) → OfCarried sheet → ReadFrom sheet
unfolding documents_of
to_text sheet o =
    let bulks = o.bulks in
    let made = sheet_bytes bulks in
    let space : List ℕ = replicate (length made) 0 in
    let room : length space ≡ length made = length-replicate (length made) 0 in
    let back = reads_back plainest bulks space o.carried (omega arith) in
    let front : take (length made) (sets space 0 made) ≡ made = ap (take (length made)) (sets-eq made space 0 (omega arith)) ∙ take_at made _ (length made) refl in
    rw (← o.is) (record {
      text = documents_of plainest bulks;
      bytes = all_bytes_lem (documents_of plainest bulks) (documents_bytes as_it_stands in_full bulks o.carried.each);
      space = space;
      answer = ap (λ o. o.answer) back;
      left = ap (λ o. take (length made) o.sheet) back ∙ front;
    })

pub exactly_these : ExactlyThese
exactly_these sheet = (from_text sheet, to_text sheet)
