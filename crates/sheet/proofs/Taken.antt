-- A sheet made of some headers of another and their sections: it is whole, and holds those bulks. Assumes nothing.
use mathlib.Core.Path.{◌≡◌, sym, ap, ◌∙◌}
use mathlib.Core.Bool.{true}
use mathlib.Core.List.{List, ◌++◌}
use Prim.Native.Nat.{ℕ, ◌+◌, ◌*◌, ◌^◌, ◌≤◌, ◌<◌}
use native.Mathlib.Nat.{mod-eq_of_lt}
use native.Mathlib.Omega.{arith}
use lib.ListN.{length, length-append}
use lib.Seq.{take_all}
use Rattle.wire.specs.Field.{part, number_of, bytes_of}
use Rattle.wire.proofs.Numbers.{bytes_length, written_read}
use Rattle.wire.proofs.Texts.{part_length, part_part, part_front, part_back}
use Rattle.sheet.specs.Sheet.{count_width, header_width, header_at, bulk_count, message_count, bulks_from, bulks_of, messages_from, end_from, whole}
use Rattle.sheet.proofs.Laws.{whole_ended}
use Rattle.sheet.proofs.Bulks.{bulks_agree}

-- n headers from place head on, and the k bytes of their sections from place at on
abbrev pub taken : List ℕ → ℕ → ℕ → ℕ → ℕ → List ℕ
taken s n head at k = bytes_of count_width n ++ part s head (header_width * n) ++ part s at k

pub record HoldsBulks (t s : List ℕ) (n head at : ℕ) : Type 0 where
  pub count : bulk_count t ≡ n
  pub bulks : bulks_of t ≡ bulks_from s n head at
  pub messages : message_count t ≡ messages_from s n head at
  pub whole : whole t ≡ true

module _ (s : List ℕ) (n head at k : ℕ) (few : n < 256 ^ count_width) (headed : head + header_width * n ≤ length s) (inside : at + k ≤ length s)
    (ends : end_from s n head at ≡ at + k) where
  abbrev front : List ℕ
  front = bytes_of count_width n ++ part s head (header_width * n)

  abbrev t : List ℕ
  t = taken s n head at k

  front_length : length front ≡ count_width + header_width * n
  front_length =
      length-append (bytes_of count_width n) (part s head (header_width * n)) ∙ (rw (bytes_length count_width n, part_length s head (header_width * n) headed))

  counted : bulk_count t ≡ n
  counted =
      let wide = bytes_length count_width n in
      ap number_of (
      part_front front (part s at k) 0 count_width (rw front_length (omega arith))
      ∙ part_front (bytes_of count_width n) (part s head (header_width * n)) 0 count_width (omega arith)
      ∙ take_all count_width (bytes_of count_width n) (omega arith))
      ∙ written_read count_width n
      ∙ mod-eq_of_lt few

  same_headers : (o : ℕ) → o + header_width ≤ header_width * n → header_at s (head + o) ≡ header_at t (count_width + o)
  same_headers o h = sym (
      part_front front (part s at k) (count_width + o) header_width (rw front_length (omega arith))
      ∙ part_back (bytes_of count_width n) (part s head (header_width * n)) count_width o header_width (bytes_length count_width n)
      ∙ part_part s head (header_width * n) o header_width h)

  same_bytes : (o m : ℕ) → o + m ≤ k → part s (at + o) m ≡ part t (count_width + header_width * n + o) m
  same_bytes o m h = sym (part_back front (part s at k) (count_width + header_width * n) o m front_length ∙ part_part s at k o m h)

  pub taken_holds : HoldsBulks t s n head at
  taken_holds =
      let agree = bulks_agree s t n head count_width at (count_width + header_width * n) k same_headers same_bytes (omega arith) in
      let total : length t ≡ count_width + header_width * n + k = length-append front (part s at k) ∙ (rw (front_length, part_length s at k inside)) in
      let end : end_from t n count_width (count_width + header_width * n) ≡ length t = (let e = agree.end in omega arith) in
      record {
        count = counted;
        bulks = rw counted (sym agree.bulks);
        messages = rw counted (sym agree.messages);
        whole = whole_ended t (rw counted end);
      }
