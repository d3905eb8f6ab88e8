-- The documents one after the other: each is read as its bulk. Assumes nothing.
use mathlib.Core.Path.{◌≡◌, refl, sym, ap, ◌∙◌}
use mathlib.Core.Bool.{true, cond}
use mathlib.Core.List.{List, [], ◌∷◌, ◌++◌, map, append-nil}
use Prim.Native.Nat.{ℕ, ◌+◌, ◌^◌, min}
use native.Mathlib.Omega.{arith}
use lib.Dec.{ltb}
use lib.ListN.{length, drop, length-map}
use borrow.Author.Tests.{lt-ltb}
use Rattle.wire.specs.Field.{text, same}
use Rattle.sheet.specs.Sheet.{Bulk}
use Rattle.letters.specs.Places.{run}
use Rattle.tags.specs.Names.{is_space, name_start, name_byte, space_end}
use Rattle.paths.specs.Roles as roles
use Rattle.paths.specs.Table.{lacks, root_role}
use Rattle.records.specs.Records.{header_of, message_of}
use Rattle.elements.specs.Forest.{Forest, none, tree, beside, count_of}
use Rattle.elements.specs.Grammar.{Parsed, read}
use Rattle.elements.specs.Questions.{first_lack, place_in, messages_in}
use Rattle.reading.specs.Text.{document_at, roots_at}
use Rattle.reading.specs.Meaning.{places_in, bulk_in, bulks_in, all_countable}
use Rattle.reading.proofs.Roots.{roots_end, roots_document}
use Rattle.documents.specs.Spelling.{Spelling}
use Rattle.documents.specs.Brevity.{Brevity}
use Rattle.documents.specs.Markup.{nothing, group, close_to, written_to}
use Rattle.documents.specs.Carried.{CarriedBulk, CarriedEach}
use Rattle.documents.specs.Documents.{content_of, documents}
use Rattle.documents.proofs.Here.{all, byte_here, inside_here, past_here}
use Rattle.documents.proofs.Tags.{no_space, end_past}
use Rattle.documents.proofs.Elements.{Means, group_inside, group_name, group_reads, content_reads}
use Rattle.documents.proofs.Questions.{lacks_in, complete_in, header_in_lem, messages_in_lem}
use Rattle.documents.proofs.Bulks.{Told, bulk_told}

-- ---- one document

pub record DocumentRead (brief : Brevity) (s : List ℕ) (at : ℕ) (b : Bulk) (behind : List ℕ) : Type 0 where
  pub end : ℕ
  pub forest : Forest
  pub was : document_at s at ≡ read end (tree roles.document at forest none)
  pub left : drop end s ≡ behind
  pub means : Means s (content_of brief b) forest

document_reads : (how : Spelling) (brief : Brevity) (s : List ℕ) (at : ℕ) (b : Bulk) (behind : List ℕ) → Told b (content_of brief b)
    → drop at s ≡ written_to how (group roles.document (text "Document") (content_of brief b) nothing) behind → DocumentRead brief s at b behind
unfolding written_to name_start name_byte all root_role same
document_reads how brief s at b behind told e =
    let name = text "Document" in
    let inside = written_to how (content_of brief b) (close_to name behind) in
    let held = content_reads how s (content_of brief b) 31 roles.document (at + 1 + 8 + 1) (name ++ (62 ∷ behind)) told.fits (omega arith) (group_inside 31 s roles.document at name inside behind refl refl refl e) in
    let named = group_name 31 s roles.document at name inside behind refl refl refl e in
    record {
      end = held.end + 2 + 8 + 1;
      forest = held.forest;
      was = (rw named) ∙ group_reads 31 s roles.document at name inside behind refl refl refl e held.end held.forest held.was held.left;
      left = end_past s name at held.end behind named held.left;
      means = held.means;
    }

-- ---- its bulk

of_parts : (b : Bulk) (x : List ℕ) (xs : List (List ℕ)) → x ≡ b.header → xs ≡ b.messages → ◌≡◌ {A = Bulk} (record { header = x; messages = xs }) b
of_parts b x xs p q = rw (p, q)

module _ (brief : Brevity) (s : List ℕ) (at : ℕ) (b : Bulk) (f : Forest) (m : Means s (content_of brief b) f) (told : Told b (content_of brief b)) where
  abbrev root : Forest
  root = tree roles.document at f none

  root_messages : messages_in root ≡ messages_in f
  unfolding messages_in
  root_messages = append-nil (messages_in f)

  messages_back : map (λ (t : Forest). message_of s (places_in t)) (messages_in root) ≡ b.messages
  messages_back = ap (map (λ (t : Forest). message_of s (places_in t))) root_messages ∙ messages_in_lem s (content_of brief b) f m ∙ told.messages

  header_back : header_of s (places_in root) ≡ b.header
  unfolding header_of place_in
  header_back = header_in_lem s (content_of brief b) f m ∙ told.header

  bulk_back : bulk_in s root ≡ b
  bulk_back = of_parts b _ _ header_back messages_back

  messages_few : CarriedBulk b → ltb (length (messages_in root)) (2 ^ 32) ≡ true
  messages_few c =
      let few : length (messages_in root) ≡ length b.messages = sym (length-map (messages_in root) (λ (t : Forest). message_of s (places_in t))) ∙ ap length messages_back in
      rw few (lt-ltb (length b.messages) (2 ^ 32) c.few)

  root_complete : (p : ℕ) → cond (lacks roles.document (count_of f)) (min (first_lack f p) at) (first_lack f p) ≡ p
  root_complete p = rw (lacks_in s (content_of brief b) f m roles.document, told.own) (complete_in s (content_of brief b) f m told.below p)

-- ---- all of them

pub record RootsRead (p : Parsed) (s : List ℕ) (bulks : List Bulk) : Type 0 where
  pub end : ℕ
  pub forest : Forest
  pub was : p ≡ read end forest
  pub complete : (q : ℕ) → first_lack forest q ≡ q
  pub countable : all_countable forest ≡ true
  pub bulks_are : bulks_in s forest ≡ bulks

-- a document and those behind it
then_reads : (s : List ℕ) (at next : ℕ) (f : Forest) (end : ℕ) (g : Forest) (ys : List ℕ) → drop at s ≡ 60 ∷ ys → document_at s at ≡ read next (tree roles.document at f none)
    → space_end s next ≡ next → roots_at s next ≡ read end g → roots_at s at ≡ read end (tree roles.document at f g)
unfolding beside
then_reads s at next f end g ys e was none_between more =
    roots_document s at (read next (tree roles.document at f none)) (inside_here s at 60 ys e) (byte_here s at 60 ys e) was ∙ (rw (none_between, more))

-- no spaces stand behind a document
unspaced : (how : Spelling) (brief : Brevity) (s : List ℕ) (at : ℕ) (bulks : List Bulk) → drop at s ≡ written_to how (documents brief bulks) [] → space_end s at ≡ at
unfolding written_to documents run is_space
unspaced how brief s at [] e = rw e (omega arith)
unspaced how brief s at (b ∷ bs) e = no_space s at 60 _ refl e

pub roots_read : (how : Spelling) (brief : Brevity) (s : List ℕ) (bulks : List Bulk) (at : ℕ) → CarriedEach bulks → drop at s ≡ written_to how (documents brief bulks) [] → RootsRead (roots_at s at) s bulks
unfolding written_to documents CarriedEach first_lack all_countable bulks_in
roots_read how brief s [] at c e =
    record { end = at; forest = none; was = roots_end s at (past_here s at e); complete = λ q. refl; countable = refl; bulks_are = refl }
roots_read how brief s (b ∷ bs) at c e =
    let told = bulk_told brief b c.0 in
    let behind = written_to how (documents brief bs) [] in
    let one = document_reads how brief s at b behind told e in
    let more = roots_read how brief s bs one.end c.1 one.left in
    record {
      end = more.end;
      forest = tree roles.document at one.forest more.forest;
      was = then_reads s at one.end one.forest more.end more.forest _ e one.was (unspaced how brief s one.end bs one.left) more.was;
      complete = λ q. ap (first_lack more.forest) (root_complete brief s at b one.forest one.means told q) ∙ more.complete q;
      countable = rw (messages_few brief s at b one.forest one.means told c.0, more.countable);
      bulks_are = rw (bulk_back brief s at b one.forest one.means told, more.bulks_are);
    }
