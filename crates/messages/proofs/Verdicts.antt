-- A message's verdict, line and state, from what the calls that made them told. Assumes nothing.
use mathlib.Core.Path.{◌≡◌, sym, ap, subst, ◌∙◌}
use mathlib.Core.Bool.{Bool, true, false, cond, not, ◌&&◌}
use mathlib.Core.List.{List}
use mathlib.Core.Option.{Option}
use Prim.Native.Nat.{ℕ, ◌+◌, ◌≤◌}
use lib.Dec.{eqb}
use lib.ListN.{length}
use lib.Seq.{sets}
use Rattle.sheet.specs.Sheet.{identifier_width, message_width, sender_of, identifier_of, amount_of}
use Rattle.sheet.specs.Reading.{MessageRead, header_in, message_in}
use Rattle.sheet.specs.declared.Message.{Message}
use Rattle.sheet.proofs.Fields.{sender_width_lem, identifier_width_lem}
use Rattle.masks.specs.Mask.{mask}
use Rattle.slots.specs.Slots.{End}
use Rattle.register.specs.Register.{key_width, message_tag, key as key_of}
use Rattle.register.specs.Room.{Parts}
use Rattle.register.proofs.Laws.{key_length}
use Rattle.index.specs.Index.{end_in}
use Rattle.index.specs.Searches.{slots_read}
use Rattle.index.specs.Ready.{index_by, nowhere, SoughtTold, Entered}
use Rattle.index.specs.declared.Sought.{Sought}
use Rattle.index.proofs.Ways.{read_of}
use Rattle.rules.specs.declared.Terms.{Terms}
use Rattle.faults.specs.Faults.{sender_row, receiver_row, message_facts_given, message_faults}
use Rattle.report.specs.Line.{message_line, message_line_width}
use Rattle.positions.specs.Positions.{pays}
use Rattle.messages.specs.Messages.{State, is_accepted, message_outcome, faults_of, after_message, line_of}
use Rattle.messages.specs.Searches.{message_search}
use Rattle.messages.specs.Ready.{RulingReady, MessageReady, MessageTold}
use Rattle.messages.specs.declared.Ruling.{Ruling}
use Rattle.messages.specs.declared.Verdict.{Verdict}

-- ---- what the callees ask

pub identifier_wide_lem : (sheet : List ℕ) (message : Message) (out : List ℕ) (to : ℕ) (identifier : List ℕ) → MessageReady sheet message out to
    → identifier ≡ identifier_of (message_in sheet message) → length identifier ≡ identifier_width
identifier_wide_lem sheet message out to identifier there e = ap length e ∙ identifier_width_lem message.kind sheet message.at there.within

module _ (terms : Terms) (sheet table positions : List ℕ) (ruling : Ruling) (ready : RulingReady terms sheet table positions ruling) where
  pub parts_wide : (message : Message) (out : List ℕ) (to : ℕ) (sender identifier : List ℕ) → MessageReady sheet message out to
      → sender ≡ sender_of (header_in sheet ruling.header) → identifier ≡ identifier_of (message_in sheet message) → Parts sender identifier
  parts_wide message out to sender identifier there es ei =
      record {
        sender_wide = ap length es ∙ sender_width_lem sheet ruling.header.at ready.header_within;
        identifier_wide = identifier_wide_lem sheet message out to identifier there ei;
      }

pub key_wide : (sender identifier key : List ℕ) → Parts sender identifier → key ≡ key_of sender identifier message_tag → length key ≡ key_width
key_wide sender identifier key parts made = ap length made ∙ key_length sender identifier message_tag parts

-- ---- what the calls come to

module _ (terms : Terms) (table header : List ℕ) (fallen indexed : Bool) (message : List ℕ) (before : State) (index : List ℕ) (at : ℕ) (out : List ℕ)
    (sender identifier key : List ℕ) (sent : sender ≡ sender_of header) (named : identifier ≡ identifier_of message) (made : key ≡ key_of sender identifier message_tag)
    (sought : Sought) (told : SoughtTold indexed before.register key sought)
    (faults : ℕ) (found : faults ≡ mask (message_facts_given sought.there terms table header message))
    (outcome : ℕ) (judged : outcome ≡ message_outcome fallen faults)
    (out' : List ℕ) (written : out' ≡ sets out at (message_line identifier outcome faults))
    (verdict : Verdict) (slots : verdict.slots ≡ sought.ended.read) where
  key_is : key ≡ key_of (sender_of header) (identifier_of message) message_tag
  key_is = made ∙ (rw (sent, named))

  faults_is_lem : faults ≡ faults_of terms table header message before
  unfolding message_faults
  faults_is_lem = found ∙ (rw (told.there, key_is))

  line_is_lem : out' ≡ sets out at (line_of terms table header fallen message before)
  unfolding line_of
  line_is_lem = written ∙ (rw (judged, named, faults_is_lem))

  slots_is : verdict.slots ≡ slots_read indexed (message_search header message before)
  slots_is =
      slots
      ∙ ap (λ (e : End). e.read) told.ended
      ∙ ap (λ (k : List ℕ). (cond indexed (end_in before.register k) nowhere).read) key_is
      ∙ read_of indexed (message_search header message before)

  pub accepted_told : (not fallen && eqb faults 0) ≡ true → verdict.accepted ≡ true
      → (register' index' : List ℕ) → Entered indexed before.register index key register' index'
      → (from to : Option ℕ) (amount : ℕ) (positions' : List ℕ) → from ≡ sender_row terms table header → to ≡ receiver_row terms table message
      → amount ≡ amount_of message → positions' ≡ pays before.positions from to amount
      → MessageTold terms table header fallen indexed message before index at out register' index' positions' out' verdict
  unfolding after_message
  accepted_told clean passed register' index' entered from to amount positions' ef et ea ep =
      let yes : true ≡ is_accepted fallen (faults_of terms table header message before) = sym clean ∙ ap (is_accepted fallen) faults_is_lem in
      record {
        accepted = passed ∙ yes;
        slots = slots_is;
        register = entered.recorded ∙ (rw (← yes, key_is));
        kept = entered.kept ∙ (rw (← yes, key_is));
        positions = ep ∙ (rw (← yes, ef, et, ea));
        line = line_is_lem;
      }

  pub rejected_told : (not fallen && eqb faults 0) ≡ false → verdict.accepted ≡ false → index ≡ index_by indexed index before.register
      → MessageTold terms table header fallen indexed message before index at out before.register index before.positions out' verdict
  unfolding after_message
  rejected_told unclean failed kept =
      let no : false ≡ is_accepted fallen (faults_of terms table header message before) = sym unclean ∙ ap (is_accepted fallen) faults_is_lem in
      record {
        accepted = failed ∙ no;
        slots = slots_is;
        register = rw (← no);
        kept = rw (← no) kept;
        positions = rw (← no);
        line = line_is_lem;
      }

-- ---- a message that was read

-- ---- a message that was read

pub message_ready : (kind : ℕ) (sheet : List ℕ) (at : ℕ) (message : Message) (out : List ℕ) (to : ℕ) → MessageRead sheet kind at message
    → at + message_width kind ≤ length sheet → to + message_line_width ≤ length out → MessageReady sheet message out to
message_ready kind sheet at message out to read within space =
    record {
      within = rw (read.place, read.kind) within;
      read = subst (λ (k : ℕ). MessageRead sheet message.kind k message) (sym read.place) (subst (λ (k : ℕ). MessageRead sheet k at message) (sym read.kind) read);
      space = space;
    }
