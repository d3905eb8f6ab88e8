-- A sheet that is written out from its bulks is whole, and holds them. Assumes nothing.
use mathlib.Core.Path.{◌≡◌, refl, sym, ap, ap₂, ◌∙◌}
use mathlib.Core.Bool.{true}
use mathlib.Core.List.{List, [], ◌∷◌, ◌++◌, map, append_assoc, append-nil}
use Prim.Native.Nat.{ℕ, ◌+◌, ◌*◌, ◌^◌, ◌<◌}
use native.Mathlib.Nat.{mod-eq_of_lt}
use native.Mathlib.Omega.{arith}
use lib.ListN.{length, drop, take, length-append}
use lib.Seq.{drop-drop, take_at, drop_at}
use Rattle.wire.specs.Field.{part, number_of, bytes_of}
use Rattle.wire.specs.Written.{joined}
use Rattle.wire.proofs.Numbers.{bytes_length, written_read}
use Rattle.sheet.specs.Sheet.{count_width, header_width, message_width, kind_of, count_at, records_at, header_at, Bulk, width_at, after_messages, bulk_at, bulk_count, first_section, bulks_from, bulks_of, end_from, whole}
use Rattle.sheet.specs.Written.{sheet_bytes}
use Rattle.sheet.proofs.Laws.{whole_ended}
use Rattle.sheet.proofs.Bulks.{MessagesWide, BulkWide, BulksWide}

-- ---- which bulks can be written

-- the messages of each can be counted
unfoldable pub EachCounted : List Bulk → Type 0
EachCounted [] = Unit {0}
EachCounted (b ∷ bs) = (length b.messages < 256 ^ count_width) × EachCounted bs

-- records have their widths, and all counts fit into their bytes
pub record Writable (bulks : List Bulk) : Type 0 where
  pub wide : BulksWide bulks
  pub each : EachCounted bulks
  pub few : length bulks < 256 ^ count_width

-- ---- the parts of a sheet that is written out

abbrev pub headers_written : List Bulk → List ℕ
headers_written bulks = joined (map (λ b. b.header) bulks)

abbrev pub section_written : Bulk → List ℕ
section_written b = bytes_of count_width (length b.messages) ++ joined b.messages

abbrev pub sections_written : List Bulk → List ℕ
sections_written bulks = joined (map (λ b. section_written b) bulks)

messages_length : (kind : ℕ) (ms : List (List ℕ)) → MessagesWide kind ms → length (joined ms) ≡ message_width kind * length ms
unfolding MessagesWide
messages_length kind [] wide = omega arith
messages_length kind (m ∷ ms) wide =
    length-append m (joined ms) ∙ (let first = wide.0 in let others = messages_length kind ms wide.1 in omega arith)

pub headers_length : (bulks : List Bulk) → BulksWide bulks → length (headers_written bulks) ≡ header_width * length bulks
unfolding BulksWide
headers_length [] wide = refl
headers_length (b ∷ bs) wide =
    length-append b.header (headers_written bs) ∙ (let first = wide.0.header in let others = headers_length bs wide.1 in omega arith)

module _ (s : List ℕ) where
  -- from a place on these bytes stand, and then others
  pub here : (xs rest : List ℕ) (at n : ℕ) → drop at s ≡ xs ++ rest → length xs ≡ n → part s at n ≡ xs
  here xs rest at n stands wide = ap (take n) stands ∙ take_at xs rest n wide

  pub behind : (xs rest : List ℕ) (at n : ℕ) → drop at s ≡ xs ++ rest → length xs ≡ n → drop (at + n) s ≡ rest
  behind xs rest at n stands wide = sym (drop-drop n at s) ∙ ap (drop n) stands ∙ drop_at xs rest n wide

  records_written : (kind : ℕ) (ms : List (List ℕ)) (rest : List ℕ) (at : ℕ) → MessagesWide kind ms → drop at s ≡ joined ms ++ rest
      → records_at s (message_width kind) (length ms) at ≡ ms
  unfolding MessagesWide records_at
  records_written kind [] rest at wide stands = refl
  records_written kind (m ∷ ms) rest at wide stands =
      let first = stands ∙ append_assoc m (joined ms) rest in
      ap₂ (λ (x : List ℕ) (l : List (List ℕ)). x ∷ l)
      (here m (joined ms ++ rest) at (message_width kind) first wide.0)
      (records_written kind ms rest (at + message_width kind) wide.1 (behind m (joined ms ++ rest) at (message_width kind) first wide.0))

  -- a bulk whose header stands at one place, and whose section at another
  module _ (b : Bulk) (head_rest rest : List ℕ) (head at : ℕ) (wide : BulkWide b) (few : length b.messages < 256 ^ count_width)
      (header : drop head s ≡ b.header ++ head_rest) (section : drop at s ≡ section_written b ++ rest) where
    abbrev count : List ℕ
    count = bytes_of count_width (length b.messages)

    counted : drop at s ≡ count ++ (joined b.messages ++ rest)
    counted = section ∙ append_assoc count (joined b.messages) rest

    same_header : header_at s head ≡ b.header
    same_header = here b.header head_rest head header_width header wide.header

    same_width : width_at s head ≡ message_width (kind_of b.header)
    same_width = ap (λ (h : List ℕ). message_width (kind_of h)) same_header

    same_count : count_at s at ≡ length b.messages
    same_count =
        ap number_of (here count (joined b.messages ++ rest) at count_width counted (bytes_length count_width (length b.messages)))
        ∙ written_read count_width (length b.messages)
        ∙ mod-eq_of_lt few

    bulk_written : bulk_at s head at ≡ b
    bulk_written =
        let messages =
        ap₂ (λ (w n : ℕ). records_at s w n (at + count_width)) same_width same_count
        ∙ records_written (kind_of b.header) b.messages rest (at + count_width) wide.messages
        (behind count (joined b.messages ++ rest) at count_width counted (bytes_length count_width (length b.messages)))
        in
        λ i. record { header = same_header i; messages = messages i }

    after_written : after_messages s head at ≡ at + length (section_written b)
    after_written =
        let wider = length-append count (joined b.messages) in
        let four = bytes_length count_width (length b.messages) in
        let others = messages_length (kind_of b.header) b.messages wide.messages in
        rw (same_width, same_count) (omega arith)

    section_behind : drop (after_messages s head at) s ≡ rest
    section_behind = ap (λ (p : ℕ). drop p s) after_written ∙ behind (section_written b) rest at (length (section_written b)) section refl

  pub bulks_written : (bs : List Bulk) (head_rest rest : List ℕ) (head at : ℕ) → BulksWide bs → EachCounted bs
      → drop head s ≡ headers_written bs ++ head_rest → drop at s ≡ sections_written bs ++ rest
      → (bulks_from s (length bs) head at ≡ bs) × (end_from s (length bs) head at ≡ at + length (sections_written bs))
  unfolding BulksWide EachCounted bulks_from end_from
  bulks_written [] head_rest rest head at wide each header section = (refl, omega arith)
  bulks_written (b ∷ bs) head_rest rest head at wide each header section =
      let headed = header ∙ append_assoc b.header (headers_written bs) head_rest in
      let sectioned = section ∙ append_assoc (section_written b) (sections_written bs) rest in
      let others =
      bulks_written bs head_rest rest (head + header_width) (after_messages s head at) wide.1 each.1
      (behind b.header (headers_written bs ++ head_rest) head header_width headed wide.0.header)
      (section_behind b (headers_written bs ++ head_rest) (sections_written bs ++ rest) head at wide.0 each.0 headed sectioned)
      in
      let after = after_written b (headers_written bs ++ head_rest) (sections_written bs ++ rest) head at wide.0 each.0 headed sectioned in
      let longer = length-append (section_written b) (sections_written bs) in
      let ended = others.1 in (
        ap₂ (λ (x : Bulk) (l : List Bulk). x ∷ l)
            (bulk_written b (headers_written bs ++ head_rest) (sections_written bs ++ rest) head at wide.0 each.0 headed sectioned) others.0,
        omega arith,
      )

-- ---- the whole sheet

pub record Holds (sheet : List ℕ) (written : List Bulk) : Type 0 where
  pub count : bulk_count sheet ≡ length written
  pub bulks : bulks_of sheet ≡ written
  pub whole : whole sheet ≡ true

module _ (bulks : List Bulk) (can : Writable bulks) where
  abbrev sheet : List ℕ
  sheet = sheet_bytes bulks

  abbrev number : List ℕ
  number = bytes_of count_width (length bulks)

  pub front : sheet ≡ number ++ (headers_written bulks ++ sections_written bulks)
  front = append_assoc number (headers_written bulks) (sections_written bulks)

  numbered : bulk_count sheet ≡ length bulks
  numbered =
      ap number_of (here sheet number (headers_written bulks ++ sections_written bulks) 0 count_width front (bytes_length count_width (length bulks)))
      ∙ written_read count_width (length bulks)
      ∙ mod-eq_of_lt can.few

  -- what stands from the first header on, and from the first section on
  pub headers_from : drop count_width sheet ≡ headers_written bulks ++ sections_written bulks
  headers_from =
      ap (drop count_width) front
      ∙ drop_at number (headers_written bulks ++ sections_written bulks) count_width (bytes_length count_width (length bulks))

  pub sections_from : drop (first_section sheet) sheet ≡ sections_written bulks
  sections_from =
      let longer = length-append number (headers_written bulks) in
      let four = bytes_length count_width (length bulks) in
      let headers = headers_length bulks can.wide in
      let wide : length (number ++ headers_written bulks) ≡ first_section sheet = rw numbered (omega arith) in
      drop_at (number ++ headers_written bulks) (sections_written bulks) (first_section sheet) wide

  pub written_holds : Holds sheet bulks
  written_holds =
      let all =
      bulks_written sheet bulks (sections_written bulks) [] count_width (first_section sheet) can.wide can.each headers_from (sections_from ∙ sym (append-nil (sections_written bulks)))
      in
      let longer = length-append number (headers_written bulks) in
      let total = length-append (number ++ headers_written bulks) (sections_written bulks) in
      let four = bytes_length count_width (length bulks) in
      let headers = headers_length bulks can.wide in
      let bulks_number = numbered in
      let ended = all.1 in
      record {
        count = numbered;
        bulks = ap (λ (n : ℕ). bulks_from sheet n count_width (first_section sheet)) numbered ∙ all.0;
        whole = whole_ended sheet (ap (λ (n : ℕ). end_from sheet n count_width (first_section sheet)) numbered ∙ (omega arith));
      }
