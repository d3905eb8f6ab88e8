-- The contract of each public function determines what a call of it comes to: the result, and every byte left in what was lent.
-- Here: those over table, sheet, register, positions and report, which know of no rule. There is a statement for each function, and
-- `.ci/determined` asks that none is missing. Of a slice that is handed back the bytes are read: no contract says where they lie.
-- Assumes nothing.
use mathlib.Core.Path.{◌≡◌, refl, sym, ◌∙◌}
use mathlib.Core.Bool.{Bool-set}
use mathlib.Core.List.{List}
use Prim.Native.Nat.{ℕ}
use seplogic.Ra.Ura.{Ura}
use base.Logic.{SProp}
use prog.Memory.{Memory}
use prog.Routine.{Routine}
use types.Logic.{Logic}
use contract.Monad.{Fun}
use Rattle.promises.specs.Determined.{Determines, Determined}
use Rattle.promises.proofs.Told.{results, both, number, truth, bytes}
use Rattle.promises.proofs.Readings.{found_one, routed_one, shape_one, count_one, header_one, message_one, walk_one, bulk_one, places_one, cents_one, side_one, tally_one}
use denote.RattleType.{RattleType}
use mir.Syntax.{Dict}
use Rattle.std.specs.Prelude.{Option as RustOption}
use Rattle.std.specs.Fn.{FnReturnsAt}
use Rattle.routing.proofs.Laws.{routed_one as route_one}
use Rattle.routing.specs.contracts as routing
use Rattle.routing.specs.contracts.route_by.F-Fn.{Ghosts}
use Rattle.directory.specs.contracts as directory
use Rattle.sheet.specs.contracts as sheet
use Rattle.register.specs.contracts as register
use Rattle.positions.specs.contracts as positions
use Rattle.tally.specs.contracts as tally
use Rattle.report.specs.contracts as report

module _ {M : Type 1} {𝓤 : Ura M} (𝓛 : Logic 𝓤) (mem : Memory → SProp 𝓤) (run : Routine → Fun 𝓤) where
  -- ---- routing

  pub routing_rows : Determined 𝓛 mem run routing.rows.ended routing.rows.clauses
  routing_rows κs a g r r' ws ws' h h' = (number 𝓤 _ h.told h'.told, refl)

  pub routing_well_formed : Determined 𝓛 mem run routing.well_formed.ended routing.well_formed.clauses
  routing_well_formed κs a g r r' ws ws' h h' = (both 𝓤 Bool-set (λ t t'. t.is ∙ sym t'.is) h.told h'.told, refl)

  pub routing_counts : Determined 𝓛 mem run routing.counts.ended routing.counts.clauses
  routing_counts κs a g r r' ws ws' h h' = (truth 𝓤 _ h.told h'.told, refl)

  pub routing_bic_at : Determines 𝓤 routing.bic_at.ended (routing.bic_at.clauses 𝓛 mem run) {Seen = λ κs. List ℕ} (λ κs r. r.now)
  routing_bic_at κs a g r r' ws ws' h h' = (bytes 𝓤 _ h.told h'.told, refl)

  pub routing_head_office : Determined 𝓛 mem run routing.head_office.ended routing.head_office.clauses
  routing_head_office κs a g r r' ws ws' h h' = (both 𝓤 (results routing.head_office.ended κs) (λ t t'. t.whole ∙ sym t'.whole) h.told h'.told, refl)

  pub routing_is_head_office : Determined 𝓛 mem run routing.is_head_office.ended routing.is_head_office.clauses
  routing_is_head_office κs a g r r' ws ws' h h' = (truth 𝓤 _ h.told h'.told, refl)

  pub routing_row_of : Determined 𝓛 mem run routing.row_of.ended routing.row_of.clauses
  routing_row_of κs a g r r' ws ws' h h' = (both 𝓤 (results routing.row_of.ended κs) found_one h.told h'.told, refl)

  pub routing_head_office_row : Determined 𝓛 mem run routing.head_office_row.ended routing.head_office_row.clauses
  routing_head_office_row κs a g r r' ws ws' h h' = (both 𝓤 (results routing.head_office_row.ended κs) found_one h.told h'.told, refl)

  pub routing_route : Determined 𝓛 mem run routing.route.ended routing.route.clauses
  routing_route κs a g r r' ws ws' h h' = (both 𝓤 (results routing.route.ended κs) found_one h.told h'.told, refl)

  pub routing_reachable : Determined 𝓛 mem run routing.reachable.ended routing.reachable.clauses
  routing_reachable κs a g r r' ws ws' h h' = (truth 𝓤 _ h.told h'.told, refl)

  pub routing_participates : Determined 𝓛 mem run routing.participates.ended routing.participates.clauses
  routing_participates κs a g r r' ws ws' h h' = (truth 𝓤 _ h.told h'.told, refl)

  pub routing_lookup : Determined 𝓛 mem run routing.lookup.ended routing.lookup.clauses
  routing_lookup κs a g r r' ws ws' h h' = (both 𝓤 (results routing.lookup.ended κs) routed_one h.told h'.told, refl)

  pub routing_HeadOffice_as_slice : Determines 𝓤 routing.HeadOffice.as_slice.ended (routing.HeadOffice.as_slice.clauses 𝓛 mem run) {Seen = λ κs. List ℕ} (λ κs r. r.now)
  routing_HeadOffice_as_slice κs a g r r' ws ws' h h' = (bytes 𝓤 _ h.told h'.told, refl)

  -- as far as the search that it is given tells one row of a text
  module _ (F' : RattleType) (calls : Ghosts F') (d0 d1 d2 d3 : Dict) (one : (f : F'.Denot) (x : List ℕ) (r r' : RustOption ℕ) → FnReturnsAt calls f x r → FnReturnsAt calls f x r' → r ≡ r') where
    pub routing_route_by : Determined 𝓛 mem run (routing.route_by.ended F' calls d0 d1 d2 d3) (routing.route_by.clauses F' calls d0 d1 d2 d3)
    routing_route_by κs a g r r' ws ws' h h' = (both 𝓤 (results (routing.route_by.ended F' calls d0 d1 d2 d3) κs) (route_one _ (one _) _ r r') h.told h'.told, refl)

  pub routing_number_of : Determined 𝓛 mem run routing.number_of.ended routing.number_of.clauses
  routing_number_of κs a g r r' ws ws' h h' = (number 𝓤 _ h.told h'.told, refl)

  -- ---- directory

  pub directory_make : Determined 𝓛 mem run directory.make.ended directory.make.clauses
  directory_make κs a g r r' ws ws' h h' = (refl, λ i. (tt, (tt, (bytes 𝓤 _ h.told h'.told i, tt))))

  pub directory_row_of : Determined 𝓛 mem run directory.row_of.ended directory.row_of.clauses
  directory_row_of κs a g r r' ws ws' h h' = (both 𝓤 (results directory.row_of.ended κs) found_one h.told h'.told, refl)

  pub directory_head_office_row : Determined 𝓛 mem run directory.head_office_row.ended directory.head_office_row.clauses
  directory_head_office_row κs a g r r' ws ws' h h' = (both 𝓤 (results directory.head_office_row.ended κs) found_one h.told h'.told, refl)

  pub directory_route : Determined 𝓛 mem run directory.route.ended directory.route.clauses
  directory_route κs a g r r' ws ws' h h' = (both 𝓤 (results directory.route.ended κs) found_one h.told h'.told, refl)

  -- ---- sheet

  pub sheet_Cursor_count : Determined 𝓛 mem run sheet.Cursor.count.ended sheet.Cursor.count.clauses
  sheet_Cursor_count κs a g r r' ws ws' h h' = (both 𝓤 (results sheet.Cursor.count.ended κs) count_one h.told h'.told, refl)

  pub sheet_Cursor_header : Determined 𝓛 mem run sheet.Cursor.header.ended sheet.Cursor.header.clauses
  sheet_Cursor_header κs a g r r' ws ws' h h' = (both 𝓤 (results sheet.Cursor.header.ended κs) header_one h.told h'.told, refl)

  pub sheet_Cursor_message : Determined 𝓛 mem run sheet.Cursor.message.ended sheet.Cursor.message.clauses
  sheet_Cursor_message κs a g r r' ws ws' h h' = (both 𝓤 (results sheet.Cursor.message.ended κs) message_one h.told h'.told, refl)

  pub sheet_Header_identifier : Determines 𝓤 sheet.Header.identifier.ended (sheet.Header.identifier.clauses 𝓛 mem run) {Seen = λ κs. List ℕ} (λ κs r. r.now)
  sheet_Header_identifier κs a g r r' ws ws' h h' = (bytes 𝓤 _ h.told h'.told, refl)

  pub sheet_Header_sender : Determines 𝓤 sheet.Header.sender.ended (sheet.Header.sender.clauses 𝓛 mem run) {Seen = λ κs. List ℕ} (λ κs r. r.now)
  sheet_Header_sender κs a g r r' ws ws' h h' = (bytes 𝓤 _ h.told h'.told, refl)

  pub sheet_Message_identifier : Determines 𝓤 sheet.Message.identifier.ended (sheet.Message.identifier.clauses 𝓛 mem run) {Seen = λ κs. List ℕ} (λ κs r. r.now)
  sheet_Message_identifier κs a g r r' ws ws' h h' = (bytes 𝓤 _ h.told h'.told, refl)

  pub sheet_Message_receiver : Determines 𝓤 sheet.Message.receiver.ended (sheet.Message.receiver.clauses 𝓛 mem run) {Seen = λ κs. List ℕ} (λ κs r. r.now)
  sheet_Message_receiver κs a g r r' ws ws' h h' = (bytes 𝓤 _ h.told h'.told, refl)

  pub sheet_Message_reason : Determines 𝓤 sheet.Message.reason.ended (sheet.Message.reason.clauses 𝓛 mem run) {Seen = λ κs. List ℕ} (λ κs r. r.now)
  sheet_Message_reason κs a g r r' ws ws' h h' = (bytes 𝓤 _ h.told h'.told, refl)

  pub sheet_Message_name : Determines 𝓤 sheet.Message.name.ended (sheet.Message.name.clauses 𝓛 mem run) {Seen = λ κs. List ℕ} (λ κs r. r.now)
  sheet_Message_name κs a g r r' ws ws' h h' = (bytes 𝓤 _ h.told h'.told, refl)

  pub sheet_Walk_start : Determined 𝓛 mem run sheet.Walk.start.ended sheet.Walk.start.clauses
  sheet_Walk_start κs a g r r' ws ws' h h' = (both 𝓤 (results sheet.Walk.start.ended κs) walk_one h.told h'.told, refl)

  pub sheet_Walk_bulk : Determined 𝓛 mem run sheet.Walk.bulk.ended sheet.Walk.bulk.clauses
  sheet_Walk_bulk κs a g r r' ws ws' h h' = (both 𝓤 (results sheet.Walk.bulk.ended κs) bulk_one h.told h'.told, refl)

  pub sheet_measure : Determined 𝓛 mem run sheet.measure.ended sheet.measure.clauses
  sheet_measure κs a g r r' ws ws' h h' = (both 𝓤 (results sheet.measure.ended κs) shape_one h.told h'.told, refl)

  pub sheet_kinds_known : Determined 𝓛 mem run sheet.kinds_known.ended sheet.kinds_known.clauses
  sheet_kinds_known κs a g r r' ws ws' h h' = (truth 𝓤 _ h.told h'.told, refl)

  pub sheet_kinds_mixed : Determined 𝓛 mem run sheet.kinds_mixed.ended sheet.kinds_mixed.clauses
  sheet_kinds_mixed κs a g r r' ws ws' h h' = (truth 𝓤 _ h.told h'.told, refl)

  -- ---- register

  pub register_used : Determined 𝓛 mem run register.used.ended register.used.clauses
  register_used κs a g r r' ws ws' h h' = (number 𝓤 _ h.told h'.told, refl)

  pub register_room : Determined 𝓛 mem run register.room.ended register.room.clauses
  register_room κs a g r r' ws ws' h h' = (number 𝓤 _ h.told h'.told, refl)

  pub register_in_use : Determined 𝓛 mem run register.in_use.ended register.in_use.clauses
  register_in_use κs a g r r' ws ws' h h' = (number 𝓤 _ h.told h'.told, refl)

  pub register_free : Determined 𝓛 mem run register.free.ended register.free.clauses
  register_free κs a g r r' ws ws' h h' = (number 𝓤 _ h.told h'.told, refl)

  pub register_well_formed : Determined 𝓛 mem run register.well_formed.ended register.well_formed.clauses
  register_well_formed κs a g r r' ws ws' h h' = (both 𝓤 Bool-set (λ t t'. t.is ∙ sym t'.is) h.told h'.told, refl)

  pub register_key_of : Determined 𝓛 mem run register.key_of.ended register.key_of.clauses
  register_key_of κs a g r r' ws ws' h h' = (bytes 𝓤 _ h.told h'.told, refl)

  pub register_stands : Determined 𝓛 mem run register.stands.ended register.stands.clauses
  register_stands κs a g r r' ws ws' h h' = (truth 𝓤 _ h.told h'.told, refl)

  pub register_add : Determined 𝓛 mem run register.add.ended register.add.clauses
  register_add κs a g r r' ws ws' h h' = (refl, λ i. (bytes 𝓤 _ h.told h'.told i, ws.1))

  -- ---- positions

  pub positions_rows : Determined 𝓛 mem run positions.rows.ended positions.rows.clauses
  positions_rows κs a g r r' ws ws' h h' = (number 𝓤 _ h.told h'.told, refl)

  pub positions_fit : Determined 𝓛 mem run positions.fit.ended positions.fit.clauses
  positions_fit κs a g r r' ws ws' h h' = (truth 𝓤 _ h.told h'.told, refl)

  pub positions_position_at : Determined 𝓛 mem run positions.position_at.ended positions.position_at.clauses
  positions_position_at κs a g r r' ws ws' h h' = (number 𝓤 _ h.told h'.told, refl)

  pub positions_is_negative : Determined 𝓛 mem run positions.is_negative.ended positions.is_negative.clauses
  positions_is_negative κs a g r r' ws ws' h h' = (truth 𝓤 _ h.told h'.told, refl)

  pub positions_magnitude : Determined 𝓛 mem run positions.magnitude.ended positions.magnitude.clauses
  positions_magnitude κs a g r r' ws ws' h h' = (number 𝓤 _ h.told h'.told, refl)

  pub positions_room_for_all : Determined 𝓛 mem run positions.room_for_all.ended positions.room_for_all.clauses
  positions_room_for_all κs a g r r' ws ws' h h' = (truth 𝓤 _ h.told h'.told, refl)

  pub positions_pay : Determined 𝓛 mem run positions.pay.ended positions.pay.clauses
  positions_pay κs a g r r' ws ws' h h' = (refl, λ i. (bytes 𝓤 _ h.told h'.told i, ws.1))

  -- ---- tally

  pub tally_Cents_plus : Determined 𝓛 mem run tally.Cents.plus.ended tally.Cents.plus.clauses
  tally_Cents_plus κs a g r r' ws ws' h h' = (both 𝓤 (results tally.Cents.plus.ended κs) (cents_one h.held h'.held) h.told h'.told, refl)

  pub tally_Count_next : Determined 𝓛 mem run tally.Count.next.ended tally.Count.next.clauses
  tally_Count_next κs a g r r' ws ws' h h' = (both 𝓤 (results tally.Count.next.ended κs) (λ t t' i. record { 0 = (t ∙ sym t') i }) h.told h'.told, refl)

  pub tally_Side_plus : Determined 𝓛 mem run tally.Side.plus.ended tally.Side.plus.clauses
  tally_Side_plus κs a g r r' ws ws' h h' = (both 𝓤 (results tally.Side.plus.ended κs) (side_one h.held h'.held) h.told h'.told, refl)

  pub tally_Tally_new : Determined 𝓛 mem run tally.Tally.new.ended tally.Tally.new.clauses
  tally_Tally_new κs a g r r' ws ws' h h' = (both 𝓤 (results tally.Tally.new.ended κs) (tally_one h.held h'.held) h.told h'.told, refl)

  pub tally_Tally_accept : Determined 𝓛 mem run tally.Tally.accept.ended tally.Tally.accept.clauses
  tally_Tally_accept κs a g r r' ws ws' h h' = (both 𝓤 (results tally.Tally.accept.ended κs) (tally_one h.held h'.held) h.told h'.told, refl)

  pub tally_Tally_reject : Determined 𝓛 mem run tally.Tally.reject.ended tally.Tally.reject.clauses
  tally_Tally_reject κs a g r r' ws ws' h h' = (both 𝓤 (results tally.Tally.reject.ended κs) (tally_one h.held h'.held) h.told h'.told, refl)

  -- ---- report

  pub report_space_for : Determined 𝓛 mem run report.space_for.ended report.space_for.clauses
  report_space_for κs a g r r' ws ws' h h' = (number 𝓤 _ h.told h'.told, refl)

  pub report_Places_first : Determined 𝓛 mem run report.Places.first.ended report.Places.first.clauses
  report_Places_first κs a g r r' ws ws' h h' = (both 𝓤 (results report.Places.first.ended κs) places_one h.told h'.told, refl)

  pub report_Places_next : Determined 𝓛 mem run report.Places.next.ended report.Places.next.clauses
  report_Places_next κs a g r r' ws ws' h h' = (both 𝓤 (results report.Places.next.ended κs) places_one h.told h'.told, refl)

  pub report_sections_at : Determined 𝓛 mem run report.sections_at.ended report.sections_at.clauses
  report_sections_at κs a g r r' ws ws' h h' = (number 𝓤 _ h.told h'.told, refl)

  pub report_section_width : Determined 𝓛 mem run report.section_width.ended report.section_width.clauses
  report_section_width κs a g r r' ws ws' h h' = (number 𝓤 _ h.told h'.told, refl)

  pub report_lines_at : Determined 𝓛 mem run report.lines_at.ended report.lines_at.clauses
  report_lines_at κs a g r r' ws ws' h h' = (number 𝓤 _ h.told h'.told, refl)

  pub report_line_place : Determined 𝓛 mem run report.line_place.ended report.line_place.clauses
  report_line_place κs a g r r' ws ws' h h' = (number 𝓤 _ h.told h'.told, refl)

  pub report_put_count : Determined 𝓛 mem run report.put_count.ended report.put_count.clauses
  report_put_count κs a g r r' ws ws' h h' = (refl, λ i. (bytes 𝓤 _ h.told h'.told i, ws.1))

  pub report_put_message_line : Determined 𝓛 mem run report.put_message_line.ended report.put_message_line.clauses
  report_put_message_line κs a g r r' ws ws' h h' = (refl, λ i. (bytes 𝓤 _ h.told h'.told i, ws.1))

  pub report_put_bulk_line : Determined 𝓛 mem run report.put_bulk_line.ended report.put_bulk_line.clauses
  report_put_bulk_line κs a g r r' ws ws' h h' = (refl, λ i. (bytes 𝓤 _ h.told h'.told i, ws.1))

  pub report_bulk_line_at : Determines 𝓤 report.bulk_line_at.ended (report.bulk_line_at.clauses 𝓛 mem run) {Seen = λ κs. List ℕ} (λ κs r. r.now)
  report_bulk_line_at κs a g r r' ws ws' h h' = (bytes 𝓤 _ h.told h'.told, refl)

  pub report_message_line_at : Determines 𝓤 report.message_line_at.ended (report.message_line_at.clauses 𝓛 mem run) {Seen = λ κs. List ℕ} (λ κs r. r.now)
  report_message_line_at κs a g r r' ws ws' h h' = (bytes 𝓤 _ h.told h'.told, refl)

  pub report_identifier_in : Determines 𝓤 report.identifier_in.ended (report.identifier_in.clauses 𝓛 mem run) {Seen = λ κs. List ℕ} (λ κs r. r.now)
  report_identifier_in κs a g r r' ws ws' h h' = (bytes 𝓤 _ h.told h'.told, refl)

  pub report_outcome_in : Determined 𝓛 mem run report.outcome_in.ended report.outcome_in.clauses
  report_outcome_in κs a g r r' ws ws' h h' = (number 𝓤 _ h.told h'.told, refl)

  pub report_faults_in : Determined 𝓛 mem run report.faults_in.ended report.faults_in.clauses
  report_faults_in κs a g r r' ws ws' h h' = (number 𝓤 _ h.told h'.told, refl)

  pub report_accepted_number_in : Determined 𝓛 mem run report.accepted_number_in.ended report.accepted_number_in.clauses
  report_accepted_number_in κs a g r r' ws ws' h h' = (number 𝓤 _ h.told h'.told, refl)

  pub report_accepted_cents_in : Determined 𝓛 mem run report.accepted_cents_in.ended report.accepted_cents_in.clauses
  report_accepted_cents_in κs a g r r' ws ws' h h' = (number 𝓤 _ h.told h'.told, refl)

  pub report_rejected_number_in : Determined 𝓛 mem run report.rejected_number_in.ended report.rejected_number_in.clauses
  report_rejected_number_in κs a g r r' ws ws' h h' = (number 𝓤 _ h.told h'.told, refl)

  pub report_rejected_cents_in : Determined 𝓛 mem run report.rejected_cents_in.ended report.rejected_cents_in.clauses
  report_rejected_cents_in κs a g r r' ws ws' h h' = (both 𝓤 (results report.rejected_cents_in.ended κs) (cents_one h.held h'.held) h.told h'.told, refl)
