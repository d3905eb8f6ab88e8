-- The contract of each public function determines what a call of it comes to: the result, and every byte left in what was lent.
-- Here: those over bytes and texts, which know of no file. There is a statement for each function, and `.ci/determined` asks that
-- none is missing. Of a slice that is handed back the bytes are read: no contract says where they lie. Assumes nothing.
use mathlib.Core.Path.{refl, sym, ◌∙◌}
use mathlib.Core.List.{List}
use Prim.Native.Nat.{ℕ}
use native.Mathlib.Nat.{ℕ_set}
use seplogic.Ra.Ura.{Ura}
use base.Logic.{SProp}
use prog.Memory.{Memory}
use prog.Routine.{Routine}
use types.Logic.{Logic}
use contract.Monad.{Fun}
use Rattle.promises.specs.Determined.{Determines, Determined}
use Rattle.promises.proofs.Told.{both, number, truth, bytes}
use Rattle.wire.specs.contracts as wire
use Rattle.texts.specs.contracts as texts
use Rattle.writing.specs.contracts as writing
use Rattle.masks.specs.contracts as masks
use Rattle.wording.specs.contracts as wording
use Rattle.codes.specs.contracts as codes

module _ {M : Type 1} {𝓤 : Ura M} (𝓛 : Logic 𝓤) (mem : Memory → SProp 𝓤) (run : Routine → Fun 𝓤) where
  -- ---- wire

  pub wire_least : Determined 𝓛 mem run wire.least.ended wire.least.clauses
  wire_least κs a g r r' ws ws' h h' = (number 𝓤 _ h.told h'.told, refl)

  pub wire_four_at : Determined 𝓛 mem run wire.four_at.ended wire.four_at.clauses
  wire_four_at κs a g r r' ws ws' h h' = (both 𝓤 ℕ_set (λ t t'. t.0 ∙ sym t'.0) h.told h'.told, refl)

  pub wire_number : Determined 𝓛 mem run wire.number.ended wire.number.clauses
  wire_number κs a g r r' ws ws' h h' = (number 𝓤 _ h.told h'.told, refl)

  pub wire_text_at : Determines 𝓤 wire.text_at.ended (wire.text_at.clauses 𝓛 mem run) {Seen = λ κs. List ℕ} (λ κs r. r.now)
  wire_text_at κs a g r r' ws ws' h h' = (bytes 𝓤 _ h.told h'.told, refl)

  pub wire_u8_at : Determined 𝓛 mem run wire.u8_at.ended wire.u8_at.clauses
  wire_u8_at κs a g r r' ws ws' h h' = (number 𝓤 _ h.told h'.told, refl)

  pub wire_u16_at : Determined 𝓛 mem run wire.u16_at.ended wire.u16_at.clauses
  wire_u16_at κs a g r r' ws ws' h h' = (number 𝓤 _ h.told h'.told, refl)

  pub wire_u32_at : Determined 𝓛 mem run wire.u32_at.ended wire.u32_at.clauses
  wire_u32_at κs a g r r' ws ws' h h' = (number 𝓤 _ h.told h'.told, refl)

  pub wire_u64_at : Determined 𝓛 mem run wire.u64_at.ended wire.u64_at.clauses
  wire_u64_at κs a g r r' ws ws' h h' = (number 𝓤 _ h.told h'.told, refl)

  -- ---- texts

  pub texts_same : Determined 𝓛 mem run texts.same.ended texts.same.clauses
  texts_same κs a g r r' ws ws' h h' = (truth 𝓤 _ h.told h'.told, refl)

  -- ---- writing

  pub writing_put_number : Determined 𝓛 mem run writing.put_number.ended writing.put_number.clauses
  writing_put_number κs a g r r' ws ws' h h' = (refl, λ i. (bytes 𝓤 _ h.told h'.told i, ws.1))

  pub writing_put_halves : Determined 𝓛 mem run writing.put_halves.ended writing.put_halves.clauses
  writing_put_halves κs a g r r' ws ws' h h' = (refl, λ i. (bytes 𝓤 _ h.told h'.told i, ws.1))

  pub writing_put_text : Determined 𝓛 mem run writing.put_text.ended writing.put_text.clauses
  writing_put_text κs a g r r' ws ws' h h' = (refl, λ i. (bytes 𝓤 _ h.told h'.told i, ws.1))

  -- ---- masks

  pub masks_flag : Determined 𝓛 mem run masks.flag.ended masks.flag.clauses
  masks_flag κs a g r r' ws ws' h h' = (both 𝓤 ℕ_set (λ t t'. t.0 ∙ sym t'.0) h.told h'.told, refl)

  pub masks_shows : Determined 𝓛 mem run masks.shows.ended masks.shows.clauses
  masks_shows κs a g r r' ws ws' h h' = (truth 𝓤 _ h.told h'.told, refl)

  -- ---- wording

  pub wording_allowed : Determined 𝓛 mem run wording.allowed.ended wording.allowed.clauses
  wording_allowed κs a g r r' ws ws' h h' = (truth 𝓤 _ h.told h'.told, refl)

  pub wording_kept : Determined 𝓛 mem run wording.kept.ended wording.kept.clauses
  wording_kept κs a g r r' ws ws' h h' = (number 𝓤 _ h.told h'.told, refl)

  pub wording_badly_formed : Determined 𝓛 mem run wording.badly_formed.ended wording.badly_formed.clauses
  wording_badly_formed κs a g r r' ws ws' h h' = (truth 𝓤 _ h.told h'.told, refl)

  -- ---- codes

  pub codes_bic_formed : Determined 𝓛 mem run codes.bic_formed.ended codes.bic_formed.clauses
  codes_bic_formed κs a g r r' ws ws' h h' = (truth 𝓤 _ h.told h'.told, refl)

  pub codes_blank : Determined 𝓛 mem run codes.blank.ended codes.blank.clauses
  codes_blank κs a g r r' ws ws' h h' = (truth 𝓤 _ h.told h'.told, refl)

  pub codes_known_reason : Determined 𝓛 mem run codes.known_reason.ended codes.known_reason.clauses
  codes_known_reason κs a g r r' ws ws' h h' = (truth 𝓤 _ h.told h'.told, refl)

  pub codes_answers_cancellation : Determined 𝓛 mem run codes.answers_cancellation.ended codes.answers_cancellation.clauses
  codes_answers_cancellation κs a g r r' ws ws' h h' = (truth 𝓤 _ h.told h'.told, refl)

  pub codes_known_name : Determined 𝓛 mem run codes.known_name.ended codes.known_name.clauses
  codes_known_name κs a g r r' ws ws' h h' = (truth 𝓤 _ h.told h'.told, refl)
