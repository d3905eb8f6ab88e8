-- Documents that are written are made of bytes. Assumes nothing.
use mathlib.Core.Path.{◌≡◌, refl, sym, ◌∙◌}
use mathlib.Core.Logic.{◌⊎◌, inl, inr}
use mathlib.Core.Bool.{Bool, true, false, cond, not, and-eq-true_iff, false≢true}
use mathlib.Core.List.{List, [], ◌∷◌, ◌++◌}
use Prim.Native.Nat.{ℕ, zero, suc, ◌≤◌, ◌<◌}
use native.Mathlib.Omega.{arith}
use lib.Dec.{leb, eqb, lit<}
use lib.ListN.{length, get_or}
use borrow.Author.Tests.{le-leb, lt-leb, ne_eqb, leb-true}
use Rattle.wire.specs.Field.{Bytes, text}
use Rattle.wire.proofs.Sides.{le_or_lt}
use Rattle.sheet.specs.Sheet.{Bulk}
use Rattle.tags.specs.Names.{name_start, name_byte}
use Rattle.paths.specs.Roles as roles
use Rattle.documents.specs.Spelling.{Spelling, spelled_in, spelled}
use Rattle.documents.specs.Brevity.{Brevity}
use Rattle.documents.specs.Markup.{Markup, nothing, field, group, attributes_of, close_to, written_to}
use Rattle.documents.specs.Carried.{characters, CarriedEach}
use Rattle.documents.specs.Documents.{content_of, documents}
use Rattle.documents.proofs.Here.{all, all_append, all_weaker}
use Rattle.documents.proofs.Safe.{safe, spelled_safe}
use Rattle.documents.proofs.Tags.{is_name}
use Rattle.documents.proofs.Elements.{Fitting}
use Rattle.documents.proofs.Bulks.{bulk_told}

abbrev pub byte : ℕ → Bool
byte b = leb b 255

pub all_bytes_lem : (t : List ℕ) → all byte t ≡ true → Bytes t
unfolding all
all_bytes_lem [] h i = lit< tt
all_bytes_lem (b ∷ bs) h zero = let small = leb-true b 255 ((and-eq-true_iff (byte b) (all byte bs)).0 h).0 in omega arith
all_bytes_lem (b ∷ bs) h (suc i) = all_bytes_lem bs ((and-eq-true_iff (byte b) (all byte bs)).0 h).1 i

-- ---- names

name_byte_lem : (b : ℕ) → name_byte b ≡ true → byte b ≡ true
unfolding name_byte name_start
name_byte_lem b e = by_size (le_or_lt b 255)
  where
    by_size : (b ≤ 255) ⊎ (255 < b) → byte b ≡ true
    by_size (inl small) = le-leb b 255 small
    by_size (inr big) =
        absurd (false≢true (sym (rw (
          le-leb 65 b (omega arith),
          lt-leb b 90 (omega arith),
          le-leb 97 b (omega arith),
          lt-leb b 122 (omega arith),
          ne_eqb b 95 (λ z. omega arith),
          ne_eqb b 58 (λ z. omega arith),
          le-leb 48 b (omega arith),
          lt-leb b 57 (omega arith),
          ne_eqb b 46 (λ z. omega arith),
          ne_eqb b 45 (λ z. omega arith),
        )) ∙ e))

name_bytes : (name : List ℕ) → is_name name ≡ true → all byte name ≡ true
name_bytes name e = all_weaker name_byte byte name_byte_lem name ((and-eq-true_iff (name_start (get_or name 0 0)) (all name_byte name)).0 e).1

-- ---- texts

safe_byte : (b : ℕ) → safe b ≡ true → byte b ≡ true
safe_byte b e = ((and-eq-true_iff (byte b) (not (eqb b 62))).0 e).0

spelled_bytes : (how : Spelling) (t : List ℕ) → characters t ≡ true → all byte (spelled how t) ≡ true
unfolding spelled
spelled_bytes how t e = all_weaker safe byte safe_byte (spelled_in how (length t) t) (spelled_safe how (length t) t e)

-- ---- elements

attribute_bytes : (role : ℕ) (rest : List ℕ) → all byte rest ≡ true → all byte (attributes_of role ++ rest) ≡ true
unfolding all
attribute_bytes role rest h = by_test (roles.is_amount role)
  where
    by_test : (t : Bool) → all byte (cond t (text " Ccy=\"EUR\"") [] ++ rest) ≡ true
    by_test true = h
    by_test false = h

close_bytes : (name behind : List ℕ) → all byte name ≡ true → all byte behind ≡ true → all byte (close_to name behind) ≡ true
unfolding all
close_bytes name behind h k = all_append byte name (62 ∷ behind) h k

markup_bytes : (how : Spelling) (w : Markup) (levels parent : ℕ) (behind : List ℕ) → Fitting levels parent w → all byte behind ≡ true → all byte (written_to how w behind) ≡ true
unfolding Fitting written_to all
markup_bytes how nothing levels parent behind fit h = h
markup_bytes how (field role name said rest) zero parent behind fit h = absurd fit
markup_bytes how (field role name said rest) (suc levels) parent behind fit h =
    let named = name_bytes name fit.0.named in
    let spelt = spelled_bytes how said fit.0.carried in
    let closed = close_bytes name (written_to how rest behind) named (markup_bytes how rest (suc levels) parent behind fit.1 h) in
    all_append byte name (attributes_of role ++ (62 ∷ (spelled how said ++ close_to name (written_to how rest behind)))) named
    (attribute_bytes role (62 ∷ (spelled how said ++ close_to name (written_to how rest behind))) (all_append byte (spelled how said) (close_to name (written_to how rest behind)) spelt closed))
markup_bytes how (group role name inner rest) zero parent behind fit h = absurd fit
markup_bytes how (group role name inner rest) (suc levels) parent behind fit h =
    let named = name_bytes name fit.0.named in
    let closed = close_bytes name (written_to how rest behind) named (markup_bytes how rest (suc levels) parent behind fit.2 h) in
    all_append byte name (62 ∷ written_to how inner (close_to name (written_to how rest behind))) named (markup_bytes how inner levels role (close_to name (written_to how rest behind)) fit.1 closed)

-- ---- documents

pub documents_bytes : (how : Spelling) (brief : Brevity) (bulks : List Bulk) → CarriedEach bulks → all byte (written_to how (documents brief bulks) []) ≡ true
unfolding CarriedEach documents written_to all
documents_bytes how brief [] c = refl
documents_bytes how brief (b ∷ bs) c =
    markup_bytes how (content_of brief b) 31 roles.document (close_to (text "Document") (written_to how (documents brief bs) [])) (bulk_told brief b c.0).fits
    (close_bytes (text "Document") (written_to how (documents brief bs) []) refl (documents_bytes how brief bs c.1))
