-- The second reading of a document: its messages, its header, and how many messages there are. Assumes nothing.
use mathlib.Core.Path.{◌≡◌, refl, sym, ap, ◌∙◌}
use mathlib.Core.List.{List}
use Prim.Native.Nat.{ℕ, ◌+◌, ◌-◌, ◌*◌, ◌/◌}
use native.Mathlib.Omega.{arith}
use lib.ListN.{length, get_or, replicate}
use lib.Seq.{sets}
use Rattle.wire.specs.Field.{bytes_of}
use Rattle.wire.proofs.Numbers.{bytes_length}
use Rattle.wire.proofs.Stores.{sets_then, sets_swap}
use Rattle.records.specs.Records.{header_of}
use Rattle.records.proofs.Laws.{header_length}
use Rattle.elements.specs.Forest.{Forest}
use Rattle.elements.specs.Grammar.{Parsed, read}
use Rattle.elements.specs.Questions.{place_in, messages_in}
use Rattle.reading.specs.Meaning.{places_in, bulk_in}
use Rattle.reading.specs.Filling.{messages_bytes, Ready, Filled, HeaderNoted, Placed, PutWhole}
use Rattle.reading.specs.declared.filling.Put.{Put}
use Rattle.records.proofs.Laws.{header_alike}
use Rattle.elements.proofs.Forests.{zeros}
use Rattle.reading.proofs.Sheets.{map_length}

module _ (s : List ℕ) (p : Parsed) (i h m : ℕ) (d : List ℕ) (placed : Placed s p i h m d) where
  abbrev f : Forest
  f = placed.forest

  abbrev blank : List ℕ
  blank = replicate 36 0

  pub document_ready : Ready p (m + 4) d blank
  document_ready = record { end = placed.end; forest = f; was = placed.was; room = placed.room; sized = refl }

  module _ (d1 notes : List ℕ) (put : Put) (filled : Filled s p (m + 4) d d1 put) (carried : HeaderNoted p blank notes) where
    inner : Filled s (read placed.end f) (m + 4) d d1 put
    inner = rw placed.was at filled

    headed : header_of s (λ k. get_or notes k 0) ≡ header_of s (places_in f)
    headed =
        let told : HeaderNoted (read placed.end f) blank notes = rw placed.was at carried in
        header_alike s (λ k. get_or notes k 0) (places_in f) (λ k some low. told k some low ∙ ap (place_in k f) (zeros 36 k))

    pub messages_end : put.at ≡ m + 4 + 81 * length (messages_in f)
    messages_end = inner.1

    -- a message takes 81 bytes
    abbrev count : ℕ
    count = (put.at - (m + 4)) / 81

    counted : count ≡ length (bulk_in s f).messages
    counted = let end = messages_end in let same = map_length s (messages_in f) in omega arith

    pub document_put : (d2 d3 : List ℕ) → d2 ≡ sets d1 h (header_of s (λ k. get_or notes k 0)) → d3 ≡ sets d2 m (bytes_of 4 count) → PutWhole s p h m d d3 put
    document_put d2 d3 second third =
        let head = header_of s (places_in f) in
        let long = header_length s (places_in f) in
        let wide = bytes_length 4 count in
        let told : PutWhole s (read placed.end f) h m d d3 put = (
          inner.0,
          inner.1,
          third ∙ (rw (second, headed, inner.2))
              ∙ ap (λ (x : List ℕ). sets x m (bytes_of 4 count)) (sym (sets_swap d h head (m + 4) (messages_bytes s f) (omega (arith, placed.apart))))
              ∙ sym (sets_swap (sets d h head) m (bytes_of 4 count) (m + 4) (messages_bytes s f) (omega arith))
              ∙ sets_then (sets d h head) m 4 (bytes_of 4 count) (messages_bytes s f) wide
              ∙ (rw counted),
        ) in
        rw placed.was told
