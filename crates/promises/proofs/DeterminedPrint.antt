-- The contract of each public function determines what a call of it comes to: the result, and every byte left in what was lent. Here:
-- the layers of the printing. There is a statement for each function, and `.ci/determined` asks that none is missing. Of a slice that is
-- handed back, the bytes are read: no contract says where they lie. Assumes nothing.
use mathlib.Core.Path.{◌≡◌, refl, sym, ◌∙◌}
use mathlib.Core.List.{List, is_set}
use Prim.Native.Nat.{ℕ}
use native.Mathlib.Nat.{ℕ_set}
use seplogic.Ra.Ura.{Ura}
use base.Logic.{SProp}
use prog.Memory.{Memory}
use prog.Routine.{Routine}
use types.Logic.{Logic}
use contract.Monad.{Fun}
use Rattle.decimals.specs.Printed.{Printed}
use Rattle.frame.specs.Read.{ReadOf}
use Rattle.printing.specs.Writing.{Answered, AnsweredAll}
use Rattle.promises.specs.Determined.{Determines, Determined}
use Rattle.promises.proofs.Told.{both, number, truth, bytes}
use Rattle.decimals.specs.contracts as decimals
use Rattle.lines.specs.contracts as lines
use Rattle.figures.specs.contracts as figures
use Rattle.sections.specs.contracts as sections
use Rattle.frame.specs.contracts as frame
use Rattle.printing.specs.contracts as printing

-- ---- what is printed: the place after it, and the buffer

module _ {before after after' text : List ℕ} {at n n' : ℕ} where
  place_one : Printed before after at n text → Printed before after' at n' text → n ≡ n'
  place_one p q = p.place ∙ sym q.place

  bytes_one : Printed before after at n text → Printed before after' at n' text → after ≡ after'
  bytes_one p q = p.bytes ∙ sym q.bytes

module _ {before after after' text : List ℕ} {n n' : ℕ} where
  written_one : Answered before after n text → Answered before after' n' text → n ≡ n'
  written_one p q = place_one p.printed q.printed

  printed_one : Answered before after n text → Answered before after' n' text → after ≡ after'
  printed_one p q = bytes_one p.printed q.printed

module _ {buffer before after after' : List ℕ} {k n n' : ℕ} where
  all_written_one : AnsweredAll buffer k before after n → AnsweredAll buffer k before after' n' → n ≡ n'
  all_written_one p q = written_one p.answered q.answered

  all_printed_one : AnsweredAll buffer k before after n → AnsweredAll buffer k before after' n' → after ≡ after'
  all_printed_one p q = printed_one p.answered q.answered

read_one : {buffer read read' : List ℕ} {n : ℕ} → ReadOf buffer n read → ReadOf buffer n read' → read ≡ read'
read_one p q = p.bytes ∙ sym q.bytes

module _ {M : Type 1} {𝓤 : Ura M} (𝓛 : Logic 𝓤) (mem : Memory → SProp 𝓤) (run : Routine → Fun 𝓤) where
  -- ---- decimals

  pub decimals_place_after : Determined 𝓛 mem run decimals.place_after.ended decimals.place_after.clauses
  decimals_place_after κs a g r r' ws ws' h h' = (number 𝓤 _ h.told h'.told, refl)

  pub decimals_put : Determined 𝓛 mem run decimals.put.ended decimals.put.clauses
  decimals_put κs a g r r' ws ws' h h' = (both 𝓤 ℕ_set place_one h.told h'.told, λ i. (both 𝓤 (is_set ℕ_set) bytes_one h.told h'.told i, ws.1))

  pub decimals_put_byte : Determined 𝓛 mem run decimals.put_byte.ended decimals.put_byte.clauses
  decimals_put_byte κs a g r r' ws ws' h h' = (both 𝓤 ℕ_set place_one h.told h'.told, λ i. (both 𝓤 (is_set ℕ_set) bytes_one h.told h'.told i, ws.1))

  pub decimals_put_decimal : Determined 𝓛 mem run decimals.put_decimal.ended decimals.put_decimal.clauses
  decimals_put_decimal κs a g r r' ws ws' h h' = (both 𝓤 ℕ_set place_one h.told h'.told, λ i. (both 𝓤 (is_set ℕ_set) bytes_one h.told h'.told i, ws.1))

  pub decimals_put_field : Determined 𝓛 mem run decimals.put_field.ended decimals.put_field.clauses
  decimals_put_field κs a g r r' ws ws' h h' = (both 𝓤 ℕ_set place_one h.told h'.told, λ i. (both 𝓤 (is_set ℕ_set) bytes_one h.told h'.told i, ws.1))

  pub decimals_put_wide_field : Determined 𝓛 mem run decimals.put_wide_field.ended decimals.put_wide_field.clauses
  decimals_put_wide_field κs a g r r' ws ws' h h' = (both 𝓤 ℕ_set place_one h.told h'.told, λ i. (both 𝓤 (is_set ℕ_set) bytes_one h.told h'.told i, ws.1))

  -- ---- lines

  pub lines_put_bulk : Determined 𝓛 mem run lines.put_bulk.ended lines.put_bulk.clauses
  lines_put_bulk κs a g r r' ws ws' h h' = (both 𝓤 ℕ_set place_one h.told h'.told, λ i. (both 𝓤 (is_set ℕ_set) bytes_one h.told h'.told i, ws.1))

  pub lines_put_message : Determined 𝓛 mem run lines.put_message.ended lines.put_message.clauses
  lines_put_message κs a g r r' ws ws' h h' = (both 𝓤 ℕ_set place_one h.told h'.told, λ i. (both 𝓤 (is_set ℕ_set) bytes_one h.told h'.told i, ws.1))

  -- ---- figures

  pub figures_put_position : Determined 𝓛 mem run figures.put_position.ended figures.put_position.clauses
  figures_put_position κs a g r r' ws ws' h h' = (both 𝓤 ℕ_set place_one h.told h'.told, λ i. (both 𝓤 (is_set ℕ_set) bytes_one h.told h'.told i, ws.1))

  pub figures_put_used : Determined 𝓛 mem run figures.put_used.ended figures.put_used.clauses
  figures_put_used κs a g r r' ws ws' h h' = (both 𝓤 ℕ_set place_one h.told h'.told, λ i. (both 𝓤 (is_set ℕ_set) bytes_one h.told h'.told i, ws.1))

  pub figures_put_refusal : Determined 𝓛 mem run figures.put_refusal.ended figures.put_refusal.clauses
  figures_put_refusal κs a g r r' ws ws' h h' = (both 𝓤 ℕ_set place_one h.told h'.told, λ i. (both 𝓤 (is_set ℕ_set) bytes_one h.told h'.told i, ws.1))

  -- ---- sections

  pub sections_put_judged : Determined 𝓛 mem run sections.put_judged.ended sections.put_judged.clauses
  sections_put_judged κs a g r r' ws ws' h h' = (both 𝓤 ℕ_set place_one h.told h'.told, λ i. (both 𝓤 (is_set ℕ_set) bytes_one h.told h'.told i, ws.1))

  -- ---- frame

  pub frame_read_of : Determines 𝓤 frame.read_of.ended (frame.read_of.clauses 𝓛 mem run) {Seen = λ κs. List ℕ} (λ κs r. r.now)
  frame_read_of κs a g r r' ws ws' h h' = (both 𝓤 (is_set ℕ_set) read_one h.told h'.told, refl)

  pub frame_in_shape : Determined 𝓛 mem run frame.in_shape.ended frame.in_shape.clauses
  frame_in_shape κs a g r r' ws ws' h h' = (truth 𝓤 _ h.told h'.told, refl)

  pub frame_date_in : Determined 𝓛 mem run frame.date_in.ended frame.date_in.clauses
  frame_date_in κs a g r r' ws ws' h h' = (number 𝓤 _ h.told h'.told, refl)

  pub frame_table_in : Determines 𝓤 frame.table_in.ended (frame.table_in.clauses 𝓛 mem run) {Seen = λ κs. List ℕ} (λ κs r. r.now)
  frame_table_in κs a g r r' ws ws' h h' = (bytes 𝓤 _ h.told h'.told, refl)

  pub frame_register_in : Determines 𝓤 frame.register_in.ended (frame.register_in.clauses 𝓛 mem run) {Seen = λ κs. List ℕ} (λ κs r. r.now)
  frame_register_in κs a g r r' ws ws' h h' = (bytes 𝓤 _ h.told h'.told, refl)

  pub frame_sheet_in : Determines 𝓤 frame.sheet_in.ended (frame.sheet_in.clauses 𝓛 mem run) {Seen = λ κs. List ℕ} (λ κs r. r.now)
  frame_sheet_in κs a g r r' ws ws' h h' = (bytes 𝓤 _ h.told h'.told, refl)

  -- ---- printing

  pub printing_respond : Determined 𝓛 mem run printing.respond.ended printing.respond.clauses
  printing_respond κs a g r r' ws ws' h h' = (both 𝓤 ℕ_set written_one h.told h'.told, λ i. (both 𝓤 (is_set ℕ_set) printed_one h.told h'.told i, ws.1))

  pub printing_respond_all : Determined 𝓛 mem run printing.respond_all.ended printing.respond_all.clauses
  printing_respond_all κs a g r r' ws ws' h h' = (both 𝓤 ℕ_set all_written_one h.told h'.told, λ i. (both 𝓤 (is_set ℕ_set) all_printed_one h.told h'.told i, ws.1))
