-- How long the sheet is that documents mean. Assumes nothing.
use mathlib.Core.Path.{◌≡◌, refl, ap, ◌∙◌}
use mathlib.Core.Bool.{Bool, true, false, cond, not, ◌&&◌, ◌||◌, false≢true}
use mathlib.Core.List.{List, [], ◌∷◌, ◌++◌, map}
use Prim.Native.Nat.{ℕ, suc, ◌+◌, ◌*◌, min}
use native.Mathlib.Omega.{arith}
use lib.Dec.{leb, ltb}
use lib.ListN.{length, length-append}
use borrow.Author.Tests.{ltb-true}
use Rattle.std.specs.Prelude.{Result, Ok, Err}
use Rattle.wire.specs.Field.{bytes_of}
use Rattle.wire.specs.Written.{joined}
use Rattle.wire.proofs.Numbers.{bytes_length}
use Rattle.sheet.specs.Sheet.{count_width, Bulk}
use Rattle.records.specs.Records.{header_of, message_of}
use Rattle.records.proofs.Laws.{header_length, message_length}
use Rattle.elements.specs.Forest.{Forest, none, tree}
use Rattle.elements.specs.Notes.{too_many}
use Rattle.elements.specs.Questions.{messages_in}
use Rattle.reading.specs.Meaning.{places_in, bulk_in, bulks_in, sheet_in, countable, all_countable, fits_in}
use Rattle.reading.specs.Filling.{section}
use Rattle.reading.specs.Survey.{needed, enough}
use Rattle.reading.specs.declared.Unread.{Unread}
use Rattle.reading.specs.declared.Unread.TheVariants.{Lack, Short}

-- ---- parts of a sheet

abbrev pub headers : List Bulk → List ℕ
headers bulks = joined (map (λ (b : Bulk). b.header) bulks)

abbrev pub sections : List Bulk → List ℕ
sections bulks = joined (map section bulks)

-- ---- their lengths

pub messages_length : (s : List ℕ) (ms : List Forest) → length (joined (map (λ (m : Forest). message_of s (places_in m)) ms)) ≡ 81 * length ms
messages_length s [] = refl
messages_length s (m ∷ ms) =
    length-append (message_of s (places_in m)) (joined (map (λ (m : Forest). message_of s (places_in m)) ms))
    ∙ (let first = message_length s (places_in m) in let others = messages_length s ms in omega arith)

pub map_length : (s : List ℕ) (ms : List Forest) → length (map (λ (m : Forest). message_of s (places_in m)) ms) ≡ length ms
map_length s [] = refl
map_length s (m ∷ ms) = ap suc (map_length s ms)

pub section_length : (s : List ℕ) (f : Forest) → length (section (bulk_in s f)) ≡ 4 + 81 * length (messages_in f)
section_length s f =
    length-append (bytes_of count_width (length (bulk_in s f).messages)) (joined (bulk_in s f).messages)
    ∙ (let count = bytes_length count_width (length (bulk_in s f).messages) in let ms = messages_length s (messages_in f) in omega arith)

pub headers_length : (s : List ℕ) (f : Forest) → length (headers (bulks_in s f)) ≡ 65 * length (bulks_in s f)
unfolding bulks_in
headers_length s none = refl
headers_length s (tree role place inner rest) =
    length-append (header_of s (places_in (tree role place inner none))) (headers (bulks_in s rest))
    ∙ (let first = header_length s (places_in (tree role place inner none)) in let others = headers_length s rest in omega arith)

counted_exactly : (n : ℕ) → countable n ≡ true → min n too_many ≡ n
counted_exactly n e = let h = ltb-true n too_many e in omega arith

pub both : (a b : Bool) → (a && b) ≡ true → (a ≡ true) × (b ≡ true)
both true true e = (refl, refl)
both true false e = absurd (false≢true e)
both false b e = absurd (false≢true e)

pub parts_length : (s : List ℕ) (f : Forest) → all_countable f ≡ true → length (headers (bulks_in s f)) + length (sections (bulks_in s f)) ≡ needed f
unfolding all_countable needed bulks_in
parts_length s none e = refl
parts_length s (tree role place inner rest) e =
    let own = tree role place inner none in
    let b = both (countable (length (messages_in own))) (all_countable rest) e in
    let h = length-append (header_of s (places_in own)) (headers (bulks_in s rest)) in
    let k = length-append (section (bulk_in s own)) (sections (bulks_in s rest)) in
    let first = header_length s (places_in own) in
    let its = section_length s own in
    let exact = counted_exactly (length (messages_in own)) b.0 in
    let others = parts_length s rest b.1 in
    omega arith

pub sheet_length : (s : List ℕ) (f : Forest) → all_countable f ≡ true → length (sheet_in s f) ≡ 4 + needed f
sheet_length s f e =
    length-append (bytes_of count_width (length (bulks_in s f)) ++ headers (bulks_in s f)) (sections (bulks_in s f))
    ∙ (let a = length-append (bytes_of count_width (length (bulks_in s f))) (headers (bulks_in s f)) in
    let b = bytes_length count_width (length (bulks_in s f)) in
    let c = parts_length s f e in
    omega arith)

-- ---- what the first reading concludes

fits_enough : (s : List ℕ) (f : Forest) (space : ℕ) → fits_in s f space ≡ (countable (length (bulks_in s f)) && enough space f)
unfolding fits_in
fits_enough s f space = by_test (countable (length (bulks_in s f))) (all_countable f) refl
  where
    by_test : (c : Bool) (t : Bool) → all_countable f ≡ t → (c && t && leb (length (sheet_in s f)) space) ≡ (c && (t && leb (4 + needed f) space))
    by_test true true e = rw (sheet_length s f e)
    by_test true false e = refl
    by_test false t e = refl

pub concludes : (s : List ℕ) (space lack bulks : ℕ) (short : Bool) (f : Forest) (lacking : ℕ) → lack ≡ lacking → short ≡ not (enough space f) → bulks ≡ length (bulks_in s f)
    → cond (ltb lack (length s)) (Err (Lack lack)) (cond (short || not (countable bulks)) (Err Short) (Ok bulks))
    ≡ cond (ltb lacking (length s)) (Err (Lack lacking)) (cond (fits_in s f space) (Ok (length (bulks_in s f))) (Err Short))
concludes s space lack bulks short f lacking l e b =
    rw (l, fits_enough s f space, e) (ap (λ (r : Result ℕ Unread). cond (ltb lacking (length s)) (Err (Lack lacking)) r) (by_test (enough space f) (countable (length (bulks_in s f))) refl))
  where
    by_test : (n c : Bool) → countable (length (bulks_in s f)) ≡ c → cond (not n || not (countable bulks)) (Err Short) (Ok bulks) ≡ cond (c && n) (Ok (length (bulks_in s f))) (Err Short)
    by_test true true k = rw (b, k)
    by_test true false k = rw (b, k)
    by_test false true k = refl
    by_test false false k = refl
