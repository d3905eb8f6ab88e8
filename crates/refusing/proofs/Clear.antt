-- A call that is not refused: what each of the conditions then says, and that they are all there is. Assumes nothing.
use mathlib.Core.Path.{◌≡◌, refl, sym, ap, ◌∙◌}
use mathlib.Core.Bool.{Bool, true, false, cond, not, false≢true}
use mathlib.Core.Logic.{◌⊎◌, inl, inr, ⊎_elim}
use mathlib.Core.List.{List, [], ◌∷◌}
use Prim.Native.Nat.{ℕ, ◌+◌, ◌*◌, ◌≤◌}
use lib.Dec.{eqb, ltb}
use lib.ListN.{length}
use borrow.Author.Tests.{eqb-true, eqb-false, ltb-false, not-false, le-ltb, eq-eqb}
use Rattle.calendar.specs.Date.{is_date}
use Rattle.routing.specs.Table.{rows, well_formed}
use Rattle.register.specs.Register.{free, well_formed as register_formed}
use Rattle.register.specs.Room.{Formed}
use Rattle.register.proofs.Laws.{formed_told, well_formed_lem}
use Rattle.positions.specs.Positions.{position_width, room_for_all}
use Rattle.sheet.specs.Sheet.{bulk_count, message_count, bulks_of, whole, headers_of, kinds_known, mixed}
use Rattle.sheet.proofs.Headers.{headers, headers_of_lem}
use Rattle.wire.specs.Field.{same}
use Rattle.wire.proofs.Sides.{both_false}
use Rattle.wire.proofs.Texts.{same_itself, same_equal}
use Rattle.index.specs.Index.{index_length, index_of}
use Rattle.index.specs.Ready.{index_by}
use Rattle.index.proofs.Laws.{index_length_lem}
use Rattle.rules.specs.OfMessage.{most_cents}
use Rattle.report.specs.Line.{report_length}
use Rattle.refusing.specs.Refusals.{Call, refusal_number, most_bulks, most_messages, length_wrong, contents_wrong, holds_given, holds, holds_with, refusals, first_holding, refusal, indexed_refusal}
use Rattle.refusing.specs.Checking.{from_in, asked}
use Rattle.refusing.specs.declared.Refusal.{Refusal}
use Rattle.refusing.specs.declared.Refusal.TheVariants.{Date, Table, Positions, Register, IndexLength, IndexContents, Sheet, Size, Kind, Order, Room, Limit, Space}
use Rattle.refusing.proofs.Numbers.{some_number, number_tells, in_order}

-- ---- where the first that holds is none, none holds

module _ (test : Refusal → Bool) where
  first_none : (r : Refusal) (rs : List Refusal) → first_holding test (r ∷ rs) ≡ 0 → (test r ≡ false) × (first_holding test rs ≡ 0)
  unfolding first_holding
  first_none r rs e = by_test (test r) refl e
    where
      by_test : (t : Bool) → test r ≡ t → cond t (refusal_number r) (first_holding test rs) ≡ 0 → (test r ≡ false) × (first_holding test rs ≡ 0)
      by_test true h e = absurd (eqb-false (refusal_number r) 0 (some_number r) e)
      by_test false h e = (h, e)

  none_later : (rs : List Refusal) (r : Refusal) → first_holding test rs ≡ 0 → first_holding test (from_in rs r) ≡ 0
  none_later [] r e = e
  none_later (x ∷ xs) r e = by_test (eqb (refusal_number x) (refusal_number r)) (none_later xs r (first_none x xs e).1)
    where
      by_test : (t : Bool) → first_holding test (from_in xs r) ≡ 0 → first_holding test (cond t (x ∷ xs) (from_in xs r)) ≡ 0
      by_test true later = e
      by_test false later = later

  none_holds : first_holding test refusals ≡ 0 → (r : Refusal) → test r ≡ false
  none_holds e r =
      let there = in_order r in
      (first_none r there.0 (sym (ap (first_holding test) there.1) ∙ none_later refusals r e)).0

  holds_none : (rs : List Refusal) → ((r : Refusal) → test r ≡ false) → first_holding test rs ≡ 0
  unfolding first_holding
  holds_none [] none = refl
  holds_none (r ∷ rs) none = rw (none r) (holds_none rs none)

-- ---- the conditions, none of which holds

pub record Clear (call : Call) : Type 0 where
  pub date : is_date call.terms.date ≡ true
  pub table : well_formed call.table ≡ true
  pub places : length call.positions ≡ position_width * rows call.table
  pub formed : Formed call.register
  pub whole : whole call.sheet ≡ true
  pub few_bulks : bulk_count call.sheet ≤ most_bulks
  pub few_messages : message_count call.sheet ≤ most_messages
  pub kinds : kinds_known (headers (bulks_of call.sheet)) ≡ true
  pub order : mixed false (headers (bulks_of call.sheet)) ≡ false
  pub room : bulk_count call.sheet + message_count call.sheet ≤ free call.register
  pub limit : room_for_all call.positions (message_count call.sheet * most_cents) ≡ true
  pub space : report_length (bulk_count call.sheet) (message_count call.sheet) ≤ length call.report

pub clear_of : (call : Call) → refusal call ≡ 0 → Clear call
unfolding holds_given refusal
clear_of call e =
    let none = none_holds (λ r. holds r call) e in
    let size = both_false (ltb most_bulks (bulk_count call.sheet)) (ltb most_messages (message_count call.sheet)) (none Size) in
    record {
      date = not-false (is_date call.terms.date) (none Date);
      table = not-false (well_formed call.table) (none Table);
      places = eqb-true (length call.positions) (position_width * rows call.table) (not-false _ (none Positions));
      formed = (formed_told call.register (register_formed call.register) refl).formed (not-false (register_formed call.register) (none Register));
      whole = not-false (whole call.sheet) (none Sheet);
      few_bulks = ltb-false most_bulks (bulk_count call.sheet) size.0;
      few_messages = ltb-false most_messages (message_count call.sheet) size.1;
      kinds = rw (headers_of_lem call.sheet) (not-false (kinds_known (headers_of call.sheet (bulk_count call.sheet))) (none Kind));
      order = rw (headers_of_lem call.sheet) (none Order);
      room = ltb-false (free call.register) (bulk_count call.sheet + message_count call.sheet) (none Room);
      limit = not-false (room_for_all call.positions (message_count call.sheet * most_cents)) (none Limit);
      space = ltb-false (length call.report) (report_length (bulk_count call.sheet) (message_count call.sheet)) (none Space);
    }

pub of_clear : (call : Call) → Clear call → refusal call ≡ 0
unfolding refusal holds_given
of_clear call c = holds_none (λ r. holds r call) refusals none
  where
    none : (r : Refusal) → holds r call ≡ false
    none Date = ap not c.date
    none Table = ap not c.table
    none Positions = ap not (eq-eqb (length call.positions) (position_width * rows call.table) c.places)
    none Register = ap not (well_formed_lem call.register c.formed)
    none IndexLength = refl
    none IndexContents = refl
    none Sheet = ap not c.whole
    none Size = rw (le-ltb most_bulks (bulk_count call.sheet) c.few_bulks, le-ltb most_messages (message_count call.sheet) c.few_messages)
    none Kind = ap not (rw (headers_of_lem call.sheet) at c.kinds)
    none Order = rw (headers_of_lem call.sheet) at c.order
    none Room = le-ltb (free call.register) (bulk_count call.sheet + message_count call.sheet) c.room
    none Limit = ap not c.limit
    none Space = le-ltb (length call.report) (report_length (bulk_count call.sheet) (message_count call.sheet)) c.space

-- ---- the number of a condition that does not hold is not answered

never : (test : Refusal → Bool) (r : Refusal) (rs : List Refusal) → test r ≡ false → first_holding test rs ≡ refusal_number r → ⊥
unfolding first_holding
never test r [] fails e = eqb-false (refusal_number r) 0 (some_number r) (sym e)
never test r (x ∷ xs) fails e = by_test (never test r xs fails) (test x) refl e
  where
    by_test : (first_holding test xs ≡ refusal_number r → ⊥) → (t : Bool) → test x ≡ t → cond t (refusal_number x) (first_holding test xs) ≡ refusal_number r → ⊥
    by_test later true h e = false≢true (sym fails ∙ ap test (sym (number_tells x r e)) ∙ h)
    by_test later false h e = later e

pub never_first : (r : Refusal) (call : Call) → holds r call ≡ false → refusal call ≡ refusal_number r → ⊥
unfolding refusal
never_first r call fails e = never (λ x. holds x call) r refusals fails e

-- ---- with an index or without

-- the index is the register's own; that it is so long follows
module _ (call : Call) (index : List ℕ) where
  plain : (wrong_length wrong_contents : Bool) → ((r : Refusal) → holds_given wrong_length wrong_contents r call ≡ false) → refusal call ≡ 0
  unfolding holds_given refusal
  plain wrong_length wrong_contents none = holds_none (λ r. holds r call) refusals each
    where
      each : (r : Refusal) → holds r call ≡ false
      each Date = none Date
      each Table = none Table
      each Positions = none Positions
      each Register = none Register
      each IndexLength = refl
      each IndexContents = refl
      each Sheet = none Sheet
      each Size = none Size
      each Kind = none Kind
      each Order = none Order
      each Room = none Room
      each Limit = none Limit
      each Space = none Space

  own : ((r : Refusal) → holds_with index r call ≡ false) → index ≡ index_of call.register
  unfolding holds_given
  own none = same_equal index (index_of call.register) (not-false _ (none IndexContents))

  pub indexed_clear : indexed_refusal call index ≡ 0 → (refusal call ≡ 0) × (index ≡ index_of call.register)
  unfolding indexed_refusal
  indexed_clear e = let none = none_holds (λ r. holds_with index r call) e in (plain _ _ none, own none)

  -- and where it is, it is no reason to refuse the call
  pub index_passes : index ≡ index_of call.register → indexed_refusal call index ≡ refusal call
  unfolding first_holding holds_given indexed_refusal refusal
  index_passes e =
      let long : eqb (length index) (index_length call.register) ≡ true = eq-eqb _ _ (ap length e ∙ index_length_lem call.register) in
      let its : same index (index_of call.register) ≡ true = ap (λ (x : List ℕ). same x (index_of call.register)) e ∙ same_itself (index_of call.register) in
      rw (long, its)

pub asked_clear : (indexed : Bool) (call : Call) (index : List ℕ) → first_holding (asked indexed index call) refusals ≡ 0
    → Clear call × (index ≡ index_by indexed index call.register)
unfolding indexed_refusal refusal
asked_clear true call index e = let both = indexed_clear call index e in (clear_of call both.0, both.1)
asked_clear false call index e = (clear_of call e, refl)

-- ---- unless one of its two numbers is answered, an index changes no answer

module _ (call : Call) (wrong_length wrong_contents : Bool) where
  -- any condition but those two asks the same
  record OfIndex (r : Refusal) : Type 0 where
    plain : holds r call ≡ false
    number : (refusal_number r ≡ refusal_number IndexLength) ⊎ (refusal_number r ≡ refusal_number IndexContents)

  same_test : (r : Refusal) → (holds_given wrong_length wrong_contents r call ≡ holds r call) ⊎ OfIndex r
  unfolding holds_given
  same_test Date = inl refl
  same_test Table = inl refl
  same_test Positions = inl refl
  same_test Register = inl refl
  same_test IndexLength = inr (record { plain = refl; number = inl refl })
  same_test IndexContents = inr (record { plain = refl; number = inr refl })
  same_test Sheet = inl refl
  same_test Size = inl refl
  same_test Kind = inl refl
  same_test Order = inl refl
  same_test Room = inl refl
  same_test Limit = inl refl
  same_test Space = inl refl

  abbrev given : List Refusal → ℕ
  given rs = first_holding (λ r. holds_given wrong_length wrong_contents r call) rs

  abbrev AsPlain : ℕ → ℕ → Type 0
  AsPlain n m = (n ≡ refusal_number IndexLength → ⊥) → (n ≡ refusal_number IndexContents → ⊥) → n ≡ m

  as_plain_lem : (rs : List Refusal) → AsPlain (given rs) (first_holding (λ r. holds r call) rs)
  unfolding first_holding
  as_plain_lem [] a b = refl
  as_plain_lem (r ∷ rs) a b = ⊎_elim
      (λ (e : holds_given wrong_length wrong_contents r call ≡ holds r call). rw e (by_test (holds r call) (as_plain_lem rs) (rw e at a) (rw e at b)))
      (λ (o : OfIndex r). rw o.plain (by_index o (holds_given wrong_length wrong_contents r call) (as_plain_lem rs) a b))
      (same_test r)
    where
      by_test : (t : Bool) → AsPlain (given rs) (first_holding (λ x. holds x call) rs)
          → AsPlain (cond t (refusal_number r) (given rs)) (cond t (refusal_number r) (first_holding (λ x. holds x call) rs))
      by_test true rest a b = refl
      by_test false rest a b = rest a b

      by_index : OfIndex r → (t : Bool) → AsPlain (given rs) (first_holding (λ x. holds x call) rs)
          → AsPlain (cond t (refusal_number r) (given rs)) (first_holding (λ x. holds x call) rs)
      by_index o true rest a b = ⊎_elim (λ (n : refusal_number r ≡ refusal_number IndexLength). absurd (a n)) (λ (n : refusal_number r ≡ refusal_number IndexContents). absurd (b n)) o.number
      by_index o false rest a b = rest a b

pub indexed_as_plain : (call : Call) (index : List ℕ) → (indexed_refusal call index ≡ refusal_number IndexLength → ⊥) → (indexed_refusal call index ≡ refusal_number IndexContents → ⊥)
    → indexed_refusal call index ≡ refusal call
unfolding indexed_refusal refusal
indexed_as_plain call index a b = as_plain_lem call (length_wrong index call.register) (contents_wrong index call.register) refusals a b
