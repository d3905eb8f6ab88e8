-- The contract of each public function determines what a call of it comes to: the result, and every byte left in what was lent.
-- Here: the reading of documents. There is a statement for each function, and `.ci/determined` asks that none is missing. Of a slice
-- that is handed back the bytes are read: no contract says where they lie. Assumes nothing.
use mathlib.Core.Path.{◌≡◌, refl, sym, ap, ◌∙◌}
use mathlib.Core.List.{List, is_set}
use Prim.Native.Nat.{ℕ, ◌<◌, ◌^◌}
use native.Mathlib.Nat.{ℕ_set}
use seplogic.Ra.Ura.{Ura}
use base.Logic.{SProp}
use prog.Memory.{Memory}
use prog.Routine.{Routine}
use types.Logic.{Logic}
use contract.Monad.{Fun}
use denote.RattleType.{RattleType}
use mir.Syntax.{Dict}
use Rattle.std.specs.declared.clone.Clone.{Ghosts as Copies}
use Rattle.letters.specs.Places.{Reach, on_turn}
use Rattle.letters.specs.declared.Turn.{Turn}
use Rattle.letters.specs.declared.Bytes.{Ghosts as Kinds}
use Rattle.prose.specs.Prose.{Kept}
use Rattle.prose.specs.declared.Said.{Said}
use Rattle.reading.specs.Reading.{Outcome}
use Rattle.tynderaxo.specs.Doors.{ReadOutcome, read_outcome}
use Rattle.tynderaxo.specs.declared.TynderaxoReadAnswer.{TynderaxoReadAnswer}
use Rattle.promises.specs.Determined.{Determines, Determined}
use Rattle.promises.proofs.Told.{results, both, same, first, second, number, truth, bytes}
use Rattle.letters.specs.contracts as letters
use Rattle.letters.specs.contracts.walk.F-Fn.{Ghosts as Turns}
use Rattle.tags.specs.contracts as tags
use Rattle.prose.specs.contracts as prose
use Rattle.prolog.specs.contracts as prolog
use Rattle.meanings.specs.contracts as meanings
use Rattle.paths.specs.contracts as paths
use Rattle.fields.specs.contracts as fields
use Rattle.records.specs.contracts as records
use Rattle.elements.specs.contracts as elements
use Rattle.reading.specs.contracts as reading
use Rattle.tynderaxo.specs.contracts as tynderaxo

-- ---- what a text says is its bytes and its length
said_one : {t : List ℕ} {x y : Said} → Kept t x.bytes x.length → Kept t y.bytes y.length → x ≡ y
said_one p q = λ i. record { bytes = (p.bytes ∙ sym q.bytes) i; length = (p.size ∙ sym q.size) i }

-- an answer of the door is its three numbers
answer_one : {x y : TynderaxoReadAnswer} {s s' : List ℕ} {e : ReadOutcome} → read_outcome x s ≡ e → read_outcome y s' ≡ e → x ≡ y
answer_one p q =
    λ i. record {
      number = ap (λ (o : ReadOutcome). o.number) (p ∙ sym q) i;
      length = ap (λ (o : ReadOutcome). o.length) (p ∙ sym q) i;
      at = ap (λ (o : ReadOutcome). o.at) (p ∙ sym q) i;
    }

module _ {M : Type 1} {𝓤 : Ura M} (𝓛 : Logic 𝓤) (mem : Memory → SProp 𝓤) (run : Routine → Fun 𝓤) where
  -- ---- letters

  pub letters_byte_at : Determined 𝓛 mem run letters.byte_at.ended letters.byte_at.clauses
  letters_byte_at κs a g r r' ws ws' h h' = (number 𝓤 _ h.told h'.told, refl)

  pub letters_expect : Determined 𝓛 mem run letters.expect.ended letters.expect.clauses
  letters_expect κs a g r r' ws ws' h h' = (same 𝓤 (results letters.expect.ended κs) _ h.told h'.told, refl)

  pub letters_stands_at : Determined 𝓛 mem run letters.stands_at.ended letters.stands_at.clauses
  letters_stands_at κs a g r r' ws ws' h h' = (truth 𝓤 _ h.told h'.told, refl)

  pub letters_is_single : Determined 𝓛 mem run letters.is_single.ended letters.is_single.clauses
  letters_is_single κs a g r r' ws ws' h h' = (truth 𝓤 _ h.told h'.told, refl)

  pub letters_width_at : Determined 𝓛 mem run letters.width_at.ended letters.width_at.clauses
  letters_width_at κs a g r r' ws ws' h h' = (number 𝓤 _ h.told h'.told, refl)

  pub letters_character_width : Determined 𝓛 mem run letters.character_width.ended letters.character_width.clauses
  letters_character_width κs a g r r' ws ws' h h' = (number 𝓤 _ h.told h'.told, refl)

  pub letters_put_character : Determined 𝓛 mem run letters.put_character.ended letters.put_character.clauses
  letters_put_character κs a g r r' ws ws' h h' = (refl, λ i. (bytes 𝓤 _ h.told h'.told i, ws.1))

  pub letters_reference_at : Determined 𝓛 mem run letters.reference_at.ended letters.reference_at.clauses
  letters_reference_at κs a g r r' ws ws' h h' = (same 𝓤 (results letters.reference_at.ended κs) _ h.told h'.told, refl)

  -- by what the kind of bytes holds
  module _ (B' : RattleType) (kinds : Kinds B'.Denot) (d0 : Dict) (copies : Copies B'.Denot) (d1 : Dict) where
    pub letters_run_end : Determined 𝓛 mem run (letters.run_end.ended B' kinds d0 copies d1) (letters.run_end.clauses B' kinds d0 copies d1)
    letters_run_end κs a g r r' ws ws' h h' = (number 𝓤 _ h.told h'.told, refl)

  -- as far as the turns that it is given lead somewhere
  module _ (F' : RattleType) (turns : Turns F') (d0 d1 d2 d3 : Dict) (reach : F'.Denot → ℕ → Reach)
      (leads : (f : F'.Denot) (i : ℕ) (t : Turn) → i < 2 ^ 64 → turns.post f (i, tt) t → on_turn t (reach f) ≡ reach f i) where
    pub letters_walk : Determined 𝓛 mem run (letters.walk.ended F' turns d0 d1 d2 d3) (letters.walk.clauses F' turns d0 d1 d2 d3)
    letters_walk κs a g r r' ws ws' h h' =
        (both 𝓤 (results (letters.walk.ended F' turns d0 d1 d2 d3) κs) (λ t t'. t (reach _) (leads _) ∙ sym (t' (reach _) (leads _))) h.told h'.told, refl)

  -- ---- tags

  pub tags_is_space : Determined 𝓛 mem run tags.is_space.ended tags.is_space.clauses
  tags_is_space κs a g r r' ws ws' h h' = (truth 𝓤 _ h.told h'.told, refl)

  pub tags_name_starts : Determined 𝓛 mem run tags.name_starts.ended tags.name_starts.clauses
  tags_name_starts κs a g r r' ws ws' h h' = (truth 𝓤 _ h.told h'.told, refl)

  pub tags_space_end : Determined 𝓛 mem run tags.space_end.ended tags.space_end.clauses
  tags_space_end κs a g r r' ws ws' h h' = (number 𝓤 _ h.told h'.told, refl)

  pub tags_name_end : Determined 𝓛 mem run tags.name_end.ended tags.name_end.clauses
  tags_name_end κs a g r r' ws ws' h h' = (number 𝓤 _ h.told h'.told, refl)

  pub tags_name_at : Determines 𝓤 tags.name_at.ended (tags.name_at.clauses 𝓛 mem run) {Seen = λ κs. List ℕ} (λ κs r. r.now)
  tags_name_at κs a g r r' ws ws' h h' = (bytes 𝓤 _ h.told h'.told, refl)

  pub tags_after_reference : Determined 𝓛 mem run tags.after_reference.ended tags.after_reference.clauses
  tags_after_reference κs a g r r' ws ws' h h' = (same 𝓤 (results tags.after_reference.ended κs) _ h.told h'.told, refl)

  pub tags_after_character : Determined 𝓛 mem run tags.after_character.ended tags.after_character.clauses
  tags_after_character κs a g r r' ws ws' h h' = (same 𝓤 (results tags.after_character.ended κs) _ h.told h'.told, refl)

  pub tags_is_quote : Determined 𝓛 mem run tags.is_quote.ended tags.is_quote.clauses
  tags_is_quote κs a g r r' ws ws' h h' = (truth 𝓤 _ h.told h'.told, refl)

  pub tags_attribute : Determined 𝓛 mem run tags.attribute.ended tags.attribute.clauses
  tags_attribute κs a g r r' ws ws' h h' = (same 𝓤 (results tags.attribute.ended κs) _ h.told h'.told, refl)

  pub tags_attributes : Determined 𝓛 mem run tags.attributes.ended tags.attributes.clauses
  tags_attributes κs a g r r' ws ws' h h' = (same 𝓤 (results tags.attributes.ended κs) _ h.told h'.told, refl)

  pub tags_in_euros : Determined 𝓛 mem run tags.in_euros.ended tags.in_euros.clauses
  tags_in_euros κs a g r r' ws ws' h h' = (truth 𝓤 _ h.told h'.told, refl)

  pub tags_start : Determined 𝓛 mem run tags.start.ended tags.start.clauses
  tags_start κs a g r r' ws ws' h h' = (same 𝓤 (results tags.start.ended κs) _ h.told h'.told, refl)

  pub tags_start_from : Determined 𝓛 mem run tags.start_from.ended tags.start_from.clauses
  tags_start_from κs a g r r' ws ws' h h' = (same 𝓤 (results tags.start_from.ended κs) _ h.told h'.told, refl)

  pub tags_end : Determined 𝓛 mem run tags.end.ended tags.end.clauses
  tags_end κs a g r r' ws ws' h h' = (same 𝓤 (results tags.end.ended κs) _ h.told h'.told, refl)

  pub tags_end_from : Determined 𝓛 mem run tags.end_from.ended tags.end_from.clauses
  tags_end_from κs a g r r' ws ws' h h' = (same 𝓤 (results tags.end_from.ended κs) _ h.told h'.told, refl)

  -- ---- prose

  pub prose_straight_end : Determined 𝓛 mem run prose.straight_end.ended prose.straight_end.clauses
  prose_straight_end κs a g r r' ws ws' h h' = (number 𝓤 _ h.told h'.told, refl)

  pub prose_text_end : Determined 𝓛 mem run prose.text_end.ended prose.text_end.clauses
  prose_text_end κs a g r r' ws ws' h h' = (same 𝓤 (results prose.text_end.ended κs) _ h.told h'.told, refl)

  pub prose_said_at : Determined 𝓛 mem run prose.said_at.ended prose.said_at.clauses
  prose_said_at κs a g r r' ws ws' h h' = (both 𝓤 (results prose.said_at.ended κs) said_one h.told h'.told, refl)

  -- ---- prolog

  pub prolog_first_place : Determined 𝓛 mem run prolog.first_place.ended prolog.first_place.clauses
  prolog_first_place κs a g r r' ws ws' h h' = (same 𝓤 (results prolog.first_place.ended κs) _ h.told h'.told, refl)

  -- ---- meanings

  pub meanings_number : Determined 𝓛 mem run meanings.number.ended meanings.number.clauses
  meanings_number κs a g r r' ws ws' h h' = (same 𝓤 (results meanings.number.ended κs) _ h.told h'.told, refl)

  pub meanings_amount : Determined 𝓛 mem run meanings.amount.ended meanings.amount.clauses
  meanings_amount κs a g r r' ws ws' h h' = (same 𝓤 (results meanings.amount.ended κs) _ h.told h'.told, refl)

  pub meanings_date : Determined 𝓛 mem run meanings.date.ended meanings.date.clauses
  meanings_date κs a g r r' ws ws' h h' = (same 𝓤 (results meanings.date.ended κs) _ h.told h'.told, refl)

  pub meanings_put_filled : Determined 𝓛 mem run meanings.put_filled.ended meanings.put_filled.clauses
  meanings_put_filled κs a g r r' ws ws' h h' = (refl, λ i. (bytes 𝓤 _ h.told h'.told i, ws.1))

  pub meanings_put_receiver : Determined 𝓛 mem run meanings.put_receiver.ended meanings.put_receiver.clauses
  meanings_put_receiver κs a g r r' ws ws' h h' = (refl, λ i. (bytes 𝓤 _ h.told h'.told i, ws.1))

  -- ---- paths

  pub paths_root_role : Determined 𝓛 mem run paths.root_role.ended paths.root_role.clauses
  paths_root_role κs a g r r' ws ws' h h' = (number 𝓤 _ h.told h'.told, refl)

  pub paths_child_role : Determined 𝓛 mem run paths.child_role.ended paths.child_role.clauses
  paths_child_role κs a g r r' ws ws' h h' = (number 𝓤 _ h.told h'.told, refl)

  pub paths_is_message : Determined 𝓛 mem run paths.is_message.ended paths.is_message.clauses
  paths_is_message κs a g r r' ws ws' h h' = (truth 𝓤 _ h.told h'.told, refl)

  pub paths_is_amount : Determined 𝓛 mem run paths.is_amount.ended paths.is_amount.clauses
  paths_is_amount κs a g r r' ws ws' h h' = (truth 𝓤 _ h.told h'.told, refl)

  pub paths_counts_as : Determined 𝓛 mem run paths.counts_as.ended paths.counts_as.clauses
  paths_counts_as κs a g r r' ws ws' h h' = (number 𝓤 _ h.told h'.told, refl)

  pub paths_lacking : Determined 𝓛 mem run paths.lacking.ended paths.lacking.clauses
  paths_lacking κs a g r r' ws ws' h h' = (truth 𝓤 _ h.told h'.told, refl)

  -- ---- fields

  pub fields_fits_at : Determined 𝓛 mem run fields.fits_at.ended fields.fits_at.clauses
  fields_fits_at κs a g r r' ws ws' h h' = (truth 𝓤 _ h.told h'.told, refl)

  pub fields_fits_empty : Determined 𝓛 mem run fields.fits_empty.ended fields.fits_empty.clauses
  fields_fits_empty κs a g r r' ws ws' h h' = (truth 𝓤 _ h.told h'.told, refl)

  pub fields_put_field : Determined 𝓛 mem run fields.put_field.ended fields.put_field.clauses
  fields_put_field κs a g r r' ws ws' h h' = (refl, λ i. (bytes 𝓤 _ h.told h'.told i, ws.1))

  pub fields_clearing_at : Determined 𝓛 mem run fields.clearing_at.ended fields.clearing_at.clauses
  fields_clearing_at κs a g r r' ws ws' h h' = (truth 𝓤 _ h.told h'.told, refl)

  pub fields_system_at : Determined 𝓛 mem run fields.system_at.ended fields.system_at.clauses
  fields_system_at κs a g r r' ws ws' h h' = (truth 𝓤 _ h.told h'.told, refl)

  -- ---- records

  pub records_put_header : Determined 𝓛 mem run records.put_header.ended records.put_header.clauses
  records_put_header κs a g r r' ws ws' h h' = (refl, λ i. (bytes 𝓤 _ h.told h'.told i, ws.1))

  pub records_put_message : Determined 𝓛 mem run records.put_message.ended records.put_message.clauses
  records_put_message κs a g r r' ws ws' h h' = (refl, λ i. (bytes 𝓤 _ h.told h'.told i, ws.1))

  -- ---- elements

  pub elements_read_element : Determined 𝓛 mem run elements.read_element.ended elements.read_element.clauses
  elements_read_element κs a g r r' ws ws' h h' = (
    same 𝓤 (results elements.read_element.ended κs) _ (first 𝓤 _ _ h.told) (first 𝓤 _ _ h'.told),
    λ i. (tt, (tt, (tt, (tt, (bytes 𝓤 _ (second 𝓤 _ _ h.told) (second 𝓤 _ _ h'.told) i, tt))))),
  )

  -- ---- reading

  pub reading_read : Determined 𝓛 mem run reading.read.ended reading.read.clauses
  reading_read κs a g r r' ws ws' h h' = (
    both 𝓤 (results reading.read.ended κs) (λ p q. ap (λ (o : Outcome). o.answer) (p ∙ sym q)) h.told h'.told,
    λ i. (tt, (both 𝓤 (is_set ℕ_set) (λ p q. ap (λ (o : Outcome). o.sheet) (p ∙ sym q)) h.told h'.told i, tt)),
  )

  pub reading_unread_from : Determined 𝓛 mem run reading.UnreadFromStop.from.ended reading.UnreadFromStop.from.clauses
  reading_unread_from κs a g r r' ws ws' h h' = (same 𝓤 (results reading.UnreadFromStop.from.ended κs) _ h.told h'.told, refl)

  pub reading_number_of : Determined 𝓛 mem run reading.number_of.ended reading.number_of.clauses
  reading_number_of κs a g r r' ws ws' h h' = (number 𝓤 _ h.told h'.told, refl)

  pub reading_length_of : Determined 𝓛 mem run reading.length_of.ended reading.length_of.clauses
  reading_length_of κs a g r r' ws ws' h h' = (number 𝓤 _ h.told h'.told, refl)

  pub reading_place_in : Determined 𝓛 mem run reading.place_in.ended reading.place_in.clauses
  reading_place_in κs a g r r' ws ws' h h' = (number 𝓤 _ h.told h'.told, refl)

  -- ---- the reader's door

  pub tynderaxo_tynderaxo_read : Determined 𝓛 mem run tynderaxo.tynderaxo_read.ended tynderaxo.tynderaxo_read.clauses
  tynderaxo_tynderaxo_read κs a g r r' ws ws' h h' = (
    both 𝓤 (results tynderaxo.tynderaxo_read.ended κs) answer_one h.told h'.told,
    λ i. (tt, (both 𝓤 (is_set ℕ_set) (λ p q. ap (λ (o : ReadOutcome). o.sheet) (p ∙ sym q)) h.told h'.told i, tt)),
  )
