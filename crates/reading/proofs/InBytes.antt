-- The sheet that a text of bytes means is made of bytes. Assumes nothing.
use mathlib.Core.Path.{◌≡◌, refl}
use mathlib.Core.Bool.{Bool, true, false, cond, not}
use mathlib.Core.List.{List, [], ◌∷◌, ◌++◌, map}
use Prim.Native.Nat.{ℕ, zero, suc, ◌+◌, ◌/◌, ◌%◌, ◌<◌}
use native.Mathlib.Omega.{arith}
use lib.Dec.{ltb, eqb, lit<}
use lib.ListN.{length, replicate}
use borrow.Author.Tests.{ltb-true}
use Rattle.wire.specs.Field.{Bytes, part, bytes_of, text}
use Rattle.wire.specs.Written.{joined}
use Rattle.wire.proofs.Texts.{take_bytes, part_bytes_lem}
use Rattle.wire.proofs.Stores.{written_bytes}
use Rattle.sheet.specs.Sheet.{count_width, kind_width, marks_width}
use Rattle.letters.specs.Characters.{encoded}
use Rattle.prose.specs.Prose.{piece_at, saying, said_by, said_at}
use Rattle.prose.specs.declared.Piece.{Piece}
use Rattle.prose.specs.declared.Piece.TheVariants.{Itself, Other, Turns, Silent}
use Rattle.meanings.specs.Meanings as meanings
use Rattle.std.specs.Prelude.{Option, Some, None}
use Rattle.paths.specs.Roles as roles
use Rattle.fields.specs.Fields.{width_of, meant_bytes, field_bytes}
use Rattle.records.specs.Records.{Places, there, said_of, field_of, kind_of, marks_of, header_of, message_of}
use Rattle.records.proofs.Laws.{kinded, identified, sent, numbered, summed, dated, named, received, paid, returned, reasoned}
use Rattle.elements.specs.Forest.{Forest, none, tree}
use Rattle.elements.specs.Questions.{messages_in}
use Rattle.reading.specs.Meaning.{places_in, bulk_in, bulks_in, sheet_in}
use Rattle.reading.specs.Filling.{section}
use Rattle.reading.proofs.Sheets.{headers, sections}

-- ---- lists of bytes

append_bytes : (xs ys : List ℕ) → Bytes xs → Bytes ys → Bytes (xs ++ ys)
append_bytes [] ys hx hy i = hy i
append_bytes (x ∷ xs) ys hx hy zero = hx 0
append_bytes (x ∷ xs) ys hx hy (suc i) = append_bytes xs ys (λ k. hx (suc k)) hy i

first_byte : (b : ℕ) (bs : List ℕ) → b < 256 → Bytes bs → Bytes (b ∷ bs)
first_byte b bs h rest zero = h
first_byte b bs h rest (suc i) = rest i

no_bytes : Bytes []
no_bytes i = lit< tt

spaces_bytes : (n : ℕ) → Bytes (replicate n 32)
spaces_bytes zero = no_bytes
spaces_bytes (suc n) = first_byte 32 (replicate n 32) (lit< tt) (spaces_bytes n)

either_bytes : (t : Bool) (xs ys : List ℕ) → Bytes xs → Bytes ys → Bytes (cond t xs ys)
either_bytes true xs ys hx hy = hx
either_bytes false xs ys hx hy = hy

-- ---- what a text says

two_bytes : (a b : ℕ) → a < 256 → b < 256 → Bytes (a ∷ b ∷ [])
two_bytes a b ha hb = first_byte a (b ∷ []) ha (first_byte b [] hb no_bytes)

three_bytes : (a b c : ℕ) → a < 256 → b < 256 → c < 256 → Bytes (a ∷ b ∷ c ∷ [])
three_bytes a b c ha hb hc = first_byte a (b ∷ c ∷ []) ha (two_bytes b c hb hc)

four_bytes : (a b c d : ℕ) → a < 256 → b < 256 → c < 256 → d < 256 → Bytes (a ∷ b ∷ c ∷ d ∷ [])
four_bytes a b c d ha hb hc hd = first_byte a (b ∷ c ∷ d ∷ []) ha (three_bytes b c d hb hc hd)

encoded_bytes : (c : ℕ) → Bytes (encoded c)
unfolding encoded
encoded_bytes c = by_test (ltb c 128) refl (ltb c 2048) refl (ltb c 65536) refl
  where
    by_test : (a : Bool) → ltb c 128 ≡ a → (b : Bool) → ltb c 2048 ≡ b → (d : Bool) → ltb c 65536 ≡ d
        → Bytes (cond a (c ∷ []) (cond b ((192 + c / 64) ∷ (128 + c / 1 % 64) ∷ []) (cond d ((224 + c / 4096) ∷ (128 + c / 64 % 64) ∷ (128 + c / 1 % 64) ∷ [])
        ((240 + c / 262144 % 8) ∷ (128 + c / 4096 % 64) ∷ (128 + c / 64 % 64) ∷ (128 + c / 1 % 64) ∷ []))))
    by_test true e b f d g = let h = ltb-true c 128 e in first_byte c [] (omega arith) no_bytes
    by_test false e true f d g = let h = ltb-true c 2048 f in two_bytes (192 + c / 64) (128 + c / 1 % 64) (omega arith) (omega arith)
    by_test false e false f true g =
        let h = ltb-true c 65536 g in three_bytes (224 + c / 4096) (128 + c / 64 % 64) (128 + c / 1 % 64) (omega arith) (omega arith) (omega arith)
    by_test false e false f false g =
        four_bytes (240 + c / 262144 % 8) (128 + c / 4096 % 64) (128 + c / 64 % 64) (128 + c / 1 % 64) (omega arith) (omega arith) (omega arith) (omega arith)

module _ (s : List ℕ) (bytes : Bytes s) where
  said_by_bytes : (n : ℕ) (inside : Bool) (at : ℕ) → Bytes (said_by s n inside at)
  unfolding said_by
  said_by_bytes zero inside at = no_bytes
  said_by_bytes (suc n) inside at = by_piece (said_by_bytes n) (piece_at inside s at)
    where
      by_piece : ((b : Bool) (k : ℕ) → Bytes (said_by s n b k)) → (p : Piece) → Bytes (saying p inside s at (λ inside next. said_by s n inside next))
      by_piece later (Itself width) = append_bytes (part s at width) (said_by s n inside (at + width)) (part_bytes_lem s at width bytes) (later inside (at + width))
      by_piece later (Other c next) = append_bytes (encoded c) (said_by s n inside next) (encoded_bytes c) (later inside next)
      by_piece later (Turns next) = later (not inside) next
      by_piece later Silent = no_bytes

  said_bytes : (places : Places) (role : ℕ) → Bytes (said_of s places role)
  unfolding said_at
  said_bytes places role = either_bytes (there places role) (said_at s (places role)) [] (said_by_bytes (suc (length s)) false (places role)) no_bytes

  -- ---- fields

  filled_bytes : (n : ℕ) (t : List ℕ) → Bytes t → Bytes (meanings.filled n t)
  filled_bytes n t h = take_bytes n (t ++ replicate n 32) (append_bytes t (replicate n 32) h (spaces_bytes n))

  meant_bytes_lem : (w : ℕ) (m : Option ℕ) → Bytes (meant_bytes w m)
  meant_bytes_lem w (Some n) = written_bytes w n
  meant_bytes_lem w None = written_bytes w 0

  office_bytes : Bytes (text "XXX")
  office_bytes = three_bytes 88 88 88 (lit< tt) (lit< tt) (lit< tt)

  receiver_bytes : (t : List ℕ) → Bytes t → Bytes (meanings.receiver t)
  unfolding meanings.receiver
  receiver_bytes t h =
      filled_bytes 11 (cond (eqb (length t) 8) (t ++ text "XXX") t)
      (either_bytes (eqb (length t) 8) (t ++ text "XXX") t (append_bytes t (text "XXX") h office_bytes) h)

  bytes_of_field : (role : ℕ) (t : List ℕ) → Bytes t → Bytes (field_bytes role t)
  unfolding field_bytes
  bytes_of_field role t h =
      let as_text = meanings.filled (width_of role) t in
      let as_receiver = cond (eqb role roles.receiver) (meanings.receiver t) as_text in
      let as_amount = cond (roles.is_amount role) (meant_bytes 8 (meanings.amount_meant t)) as_receiver in
      let as_date = cond (eqb role roles.value_date) (meant_bytes 4 (meanings.date_meant t)) as_amount in
      either_bytes (eqb role roles.stated_number) (meant_bytes 8 (meanings.number_meant t)) as_date (meant_bytes_lem 8 (meanings.number_meant t))
      (either_bytes (eqb role roles.value_date) (meant_bytes 4 (meanings.date_meant t)) as_amount (meant_bytes_lem 4 (meanings.date_meant t))
      (either_bytes (roles.is_amount role) (meant_bytes 8 (meanings.amount_meant t)) as_receiver (meant_bytes_lem 8 (meanings.amount_meant t))
      (either_bytes (eqb role roles.receiver) (meanings.receiver t) as_text (receiver_bytes t h) (filled_bytes (width_of role) t h))))

  -- ---- records

  module _ (places : Places) where
    -- with a field more
    with_field : (xs : List ℕ) (role : ℕ) → Bytes xs → Bytes (xs ++ field_of s places role)
    with_field xs role h = append_bytes xs (field_of s places role) h (bytes_of_field role (said_of s places role) (said_bytes places role))

    header_bytes_lem : Bytes (header_of s places)
    unfolding header_of
    header_bytes_lem =
        append_bytes (dated s places) (bytes_of marks_width (marks_of s places))
        (with_field (summed s places) roles.value_date
        (with_field (numbered s places) roles.stated_sum
        (with_field (sent s places) roles.stated_number
        (with_field (identified s places) roles.sender
        (with_field (kinded s places) roles.bulk_identifier (written_bytes kind_width (kind_of places)))))))
        (written_bytes marks_width (marks_of s places))

    message_bytes_lem : Bytes (message_of s places)
    unfolding message_of
    message_bytes_lem =
        with_field (reasoned s places) roles.original_name
        (with_field (returned s places) roles.reason
        (with_field (paid s places) roles.original_amount
        (with_field (received s places) roles.amount
        (with_field (named s places) roles.receiver (with_field [] roles.identifier no_bytes)))))

  -- ---- the sheet

  messages_bytes_lem : (ms : List Forest) → Bytes (joined (map (λ (m : Forest). message_of s (places_in m)) ms))
  messages_bytes_lem [] = no_bytes
  messages_bytes_lem (m ∷ ms) =
      append_bytes (message_of s (places_in m)) (joined (map (λ (m : Forest). message_of s (places_in m)) ms)) (message_bytes_lem (places_in m)) (messages_bytes_lem ms)

  section_bytes : (f : Forest) → Bytes (section (bulk_in s f))
  section_bytes f =
      let count = bytes_of count_width (length (bulk_in s f).messages) in
      append_bytes count (joined (bulk_in s f).messages) (written_bytes count_width (length (bulk_in s f).messages)) (messages_bytes_lem (messages_in f))

  headers_bytes : (f : Forest) → Bytes (headers (bulks_in s f))
  unfolding bulks_in
  headers_bytes none = no_bytes
  headers_bytes (tree role place inner rest) =
      let own = places_in (tree role place inner none) in
      append_bytes (header_of s own) (headers (bulks_in s rest)) (header_bytes_lem own) (headers_bytes rest)

  sections_bytes : (f : Forest) → Bytes (sections (bulks_in s f))
  unfolding bulks_in
  sections_bytes none = no_bytes
  sections_bytes (tree role place inner rest) =
      let own = tree role place inner none in
      append_bytes (section (bulk_in s own)) (sections (bulks_in s rest)) (section_bytes own) (sections_bytes rest)

  pub sheet_bytes_lem : (f : Forest) → Bytes (sheet_in s f)
  sheet_bytes_lem f =
      let count = bytes_of count_width (length (bulks_in s f)) in
      append_bytes (count ++ headers (bulks_in s f)) (sections (bulks_in s f))
      (append_bytes count (headers (bulks_in s f)) (written_bytes count_width (length (bulks_in s f))) (headers_bytes f))
      (sections_bytes f)
