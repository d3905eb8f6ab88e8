-- Nothing is stated of no outcome at all: for every call the contracts of the judges, plain and with an index, of what builds an index, and of
-- their doors in C do allow the outcome that is defined. Assumes nothing.
use mathlib.Core.Path.{◌≡◌, refl, ap}
use mathlib.Core.Bool.{Bool, true, false, cond}
use mathlib.Core.List.{List, [], ◌∷◌, ◌++◌}
use Prim.Native.Nat.{ℕ, ◌^◌, ◌<◌}
use native.Mathlib.Decide.{ℕ_discrete}
use native.Mathlib.Omega.{arith}
use lib.Dec.{lit<}
use seplogic.Ra.Ura.{Ura}
use base.Logic.{SProp}
use prog.Memory.{Memory}
use prog.Routine.{Routine}
use types.Logic.{Logic}
use contract.Lifetimes.{Lfts}
use contract.Monad.{Fun}
use denote.Ref.{Bor, MutBor}
use mir.Syntax.{w32, w64}
use mir.Val.{Val, vint, vunit, vstruct, of_list}
use types.Match.{live}
use Rattle.sheet.specs.Sheet.{bulks_of, bulk_count, message_count}
use Rattle.register.specs.Register.{well_formed}
use Rattle.index.specs.Index.{index_of}
use Rattle.index.specs.Searches.{slots_read_by}
use Rattle.report.specs.Line.{report_length}
use Rattle.report.proofs.Laws.{lines_small}
use Rattle.refusing.specs.Refusals.{Call, refusal_number, length_wrong, refusal, indexed_refusal}
use Rattle.refusing.proofs.Numbers.{refusal_named, indexed_named}
use Rattle.refusing.proofs.Clear.{clear_of, indexed_clear}
use Rattle.refusing.specs.declared.Refusal.{Refusal}
use Rattle.refusing.specs.declared.Refusal.TheVariants.{Date, Table, Positions, Register, IndexLength, IndexContents, Sheet, Size, Kind, Order, Room, Limit, Space}
use Rattle.judging.specs.Outcome.{Outcome, turned_away, judgement, judged_of, outcome, answer_number, answer_length, left}
use Rattle.judging.specs.Indexed.{IndexedOutcome, searches_of, indexed_away, indexed_outcome, indexed_left, IndexBuilt, index_built, building_number, built_left}
use Rattle.judging.proofs.Answers.{outcome_judged, outcome_refused}
use Rattle.std.specs.contracts.result.Result.{the_row as result_row}
use Rattle.refusing.specs.contracts.Refusal.{the_row as refusal_row}
use Rattle.judging.specs.contracts.Judged.{the_row as judged_row}
use Rattle.judging.specs.declared.Judged.{Judged}
use Rattle.std.specs.Prelude.{Result, Ok, Err}
use Rattle.std.specs.Borrow.{RattleType}
use denote.Builtin.{usize, unit}
use Rattle.judging.proofs.Entries.{slots_few}
use Rattle.judging.proofs.Widths.{bulk_number, message_number}
use Rattle.tynderaxo.specs.Doors.{indexed_door_outcome}
use Rattle.tynderaxo.specs.declared.TynderaxoIndexedAnswer.{TynderaxoIndexedAnswer}
use Rattle.promises.specs.Determined.{Held}
use Rattle.promises.specs.Entries.{Comes}
use Rattle.promises.specs.Code.{Lent, the_judge, the_door}
use Rattle.promises.specs.IndexedCode.{the_indexed_judge, the_indexed_door, the_builder, the_builder_door}
use Rattle.promises.proofs.Indexing.{indexed_judged_lem, indexed_refused}
use Rattle.promises.proofs.Told.{tell}

-- ---- answers that are values of their type

abbrev answer_row : RattleType
answer_row = result_row usize refusal_row

judged_held : (n : ℕ) → n < 2 ^ 64 → Held answer_row (Ok n)
judged_held n small = (live 0 (of_list (vint w64 n ∷ [])) ∷ [], (vint w64 n ∷ [], (refl, ((vint w64 n ∷ [], tt), (refl, ((refl, small), tt))))))

abbrev bare : ℕ → List Val
bare k = live k (of_list []) ∷ []

-- the refusal that is the k-th of its type
abbrev HeldAs : ℕ → Type 0
HeldAs k = (x : List Val) × ((y : List Val) × ((x ≡ live 1 (of_list y) ∷ []) × ((z : List Val × Unit {0}) × ((y ≡ z.0 ++ []) × (((u : List Val) × ((z.0 ≡ live k (of_list u) ∷ []) × (Unit {0} × ((u ≡ []) × Unit {0})))) × Unit {0})))))

held_as : {k : ℕ} → HeldAs k
held_as {k} = (live 1 (of_list (bare k)) ∷ [], (bare k, (refl, ((bare k, tt), (refl, (([], (refl, (tt, (refl, tt)))), tt))))))

refused_held : (r : Refusal) → Held answer_row (Err r) × (refusal_number r < 2 ^ 32)
refused_held Date = (held_as, lit< tt)
refused_held Table = (held_as, lit< tt)
refused_held Positions = (held_as, lit< tt)
refused_held Register = (held_as, lit< tt)
refused_held IndexLength = (held_as, lit< tt)
refused_held IndexContents = (held_as, lit< tt)
refused_held Sheet = (held_as, lit< tt)
refused_held Size = (held_as, lit< tt)
refused_held Kind = (held_as, lit< tt)
refused_held Order = (held_as, lit< tt)
refused_held Room = (held_as, lit< tt)
refused_held Limit = (held_as, lit< tt)
refused_held Space = (held_as, lit< tt)

-- ---- the answer to a call

record Answered (out : Outcome) : Type 0 where
  answer : Result ℕ Refusal
  held : Held answer_row answer
  number_small : answer_number answer < 2 ^ 32
  length_small : answer_length answer < 2 ^ 64
  is : left answer out.register out.positions out.report ≡ out

report_small : (call : Call) → refusal call ≡ 0 → report_length (bulk_count call.sheet) (message_count call.sheet) < 2 ^ 64
report_small call e = let clear = clear_of call e in omega (arith, lines_small (message_count call.sheet))

judged_answered : (call : Call) → refusal call ≡ 0 → Answered (judged_of call (judgement call))
judged_answered call e =
    let small = report_small call e in
    record { answer = Ok (report_length (bulk_count call.sheet) (message_count call.sheet)); held = judged_held _ small; number_small = lit< tt; length_small = small; is = refl }

refused_answered : (call : Call) (n : ℕ) → (r : Refusal) × (refusal_number r ≡ n) → Answered (turned_away call n)
refused_answered call n why =
    let fine = refused_held why.0 in
    record { answer = Err why.0; held = fine.0; number_small = fine.1; length_small = lit< tt; is = ap (turned_away call) why.1 }

answered : (call : Call) → Answered (outcome call)
answered call = by_answer (ℕ_discrete (refusal call) 0)
  where
    by_answer : Dec (refusal call ≡ 0) → Answered (outcome call)
    by_answer (yes e) = rw (outcome_judged call e) (judged_answered call e)
    by_answer (no e) = rw (outcome_refused call e) (refused_answered call (refusal call) (refusal_named call e))

-- with an index, the slots that are read are counted besides
abbrev indexed_row : RattleType
indexed_row = result_row judged_row refusal_row

record IndexedAnswered (out : IndexedOutcome) : Type 0 where
  told : Answered out.outcome
  slots_small : out.slots < 2 ^ 64
  answer : Result Judged Refusal
  held : Held indexed_row answer
  is : indexed_left answer out.outcome.register out.outcome.positions out.outcome.report out.index ≡ out

counted_held : (n slots : ℕ) → n < 2 ^ 64 → slots < 2 ^ 64 → Held indexed_row (Ok (record { length = n; slots = slots }))
counted_held n slots small few =
    let length = vint w64 n ∷ [] in
    let read = vint w64 slots ∷ [] in
    let both = vstruct (of_list (length ++ read)) ∷ [] in
    (live 0 (of_list both) ∷ [], (both, (refl, ((both, tt), (refl, (((length, (read, tt)), (refl, ((refl, small), ((refl, few), tt)))), tt))))))

indexed_refused_held : (r : Refusal) → Held indexed_row (Err r)
indexed_refused_held Date = held_as
indexed_refused_held Table = held_as
indexed_refused_held Positions = held_as
indexed_refused_held Register = held_as
indexed_refused_held IndexLength = held_as
indexed_refused_held IndexContents = held_as
indexed_refused_held Sheet = held_as
indexed_refused_held Size = held_as
indexed_refused_held Kind = held_as
indexed_refused_held Order = held_as
indexed_refused_held Room = held_as
indexed_refused_held Limit = held_as
indexed_refused_held Space = held_as

slots_small_lem : (call : Call) → refusal call ≡ 0 → slots_read_by true (searches_of call) < 2 ^ 64
slots_small_lem call e =
    let clear = clear_of call e in
    let bulks = bulk_number call clear.whole in
    let messages = message_number call clear.whole in
    let few = slots_few call.terms call.table true (bulks_of call.sheet) (record { register = call.register; positions = call.positions }) in
    omega (arith, clear.few_bulks, clear.few_messages)

indexed_answered : (call : Call) (index : List ℕ) → IndexedAnswered (indexed_outcome call index)
indexed_answered call index = by_answer (ℕ_discrete (indexed_refusal call index) 0)
  where
    by_answer : Dec (indexed_refusal call index ≡ 0) → IndexedAnswered (indexed_outcome call index)
    by_answer (yes e) =
        let plain = (indexed_clear call index e).0 in
        let n = report_length (bulk_count call.sheet) (message_count call.sheet) in
        let slots = slots_read_by true (searches_of call) in
        let few = slots_small_lem call plain in
        rw (indexed_judged_lem call index e)
        (record {
          told = judged_answered call plain;
          slots_small = few;
          answer = Ok (record { length = n; slots = slots });
          held = counted_held n slots (report_small call plain) few;
          is = refl;
        })
    by_answer (no e) =
        let named = indexed_named call index e in
        rw (indexed_refused call index e)
        (record {
          told = refused_answered call (indexed_refusal call index) named;
          slots_small = lit< tt;
          answer = Err named.0;
          held = indexed_refused_held named.0;
          is = ap (indexed_away call index) named.1;
        })

-- of a building
abbrev building_row : RattleType
building_row = result_row unit refusal_row

record BuildingAnswered (out : IndexBuilt) : Type 0 where
  answer : Result Unit Refusal
  held : Held building_row answer
  number_small : building_number answer < 2 ^ 32
  is : built_left answer out.index ≡ out

built_answered : (register index : List ℕ) → BuildingAnswered (index_built register index)
unfolding index_built
built_answered register index = by_tests_lem (well_formed register) (length_wrong index register)
  where
    by_tests_lem : (t u : Bool)
        → BuildingAnswered (cond t (cond u (record { number = refusal_number IndexLength; index = index }) (record { number = 0; index = index_of register })) (record { number = refusal_number Register; index = index }))
    by_tests_lem true true = record { answer = Err IndexLength; held = held_as; number_small = lit< tt; is = refl }
    by_tests_lem true false = record { answer = Ok tt; held = (live 0 (of_list (vunit ∷ [])) ∷ [], (vunit ∷ [], (refl, ((vunit ∷ [], tt), (refl, (refl, tt)))))); number_small = lit< tt; is = refl }
    by_tests_lem false u = record { answer = Err Register; held = held_as; number_small = lit< tt; is = refl }

-- ---- a call of each function: the bytes lie anywhere

abbrev lent : List ℕ → Bor (List ℕ)
lent bytes = record { ref_ptr = (0, 0); now = bytes }

abbrev lent_mut : List ℕ → MutBor (List ℕ)
lent_mut bytes = record { ref_ptr = (0, 0); ghost_name = 0; now = bytes }

abbrev lifetimes : Lfts 5
lifetimes = ([], ([], ([], ([], ([], tt)))))

-- what is lent for a call, and what else is
abbrev lending : {Rest : Type 0} → Call → Rest → Lent Rest
lending call rest = (lent call.sheet, (lent call.table, (lent_mut call.register, (lent_mut call.positions, (lent_mut call.report, rest)))))

-- what is left of it: nothing of the terms, the sheet and the table
abbrev leaving : {Rest : Type 0} → Outcome → Rest → Unit {0} × (Unit {0} × (Unit {0} × (List ℕ × (List ℕ × (List ℕ × Rest)))))
leaving out rest = (tt, (tt, (tt, (out.register, (out.positions, (out.report, rest))))))

module _ {M : Type 1} {𝓤 : Ura M} (𝓛 : Logic 𝓤) (mem : Memory → SProp 𝓤) (run : Routine → Fun 𝓤) where
  pub judge_comes : (call : Call) → Comes 𝓤 (the_judge 𝓤 𝓛 mem run) call (outcome call)
  judge_comes call =
      let found = answered call in
      record {
        lifetimes = lifetimes;
        arguments = (call.terms, lending call tt);
        ghost = tt;
        result = found.answer;
        last = leaving (outcome call) tt;
        allowed = record { held = found.held; told = tell 𝓤 found.is };
        given = refl;
        left = found.is;
      }

  pub door_comes : (call : Call) → Comes 𝓤 (the_door 𝓤 𝓛 mem run) call (outcome call)
  door_comes call =
      let found = answered call in
      let number = vint w32 (answer_number found.answer) ∷ [] in
      let length = vint w64 (answer_length found.answer) ∷ [] in
      record {
        lifetimes = lifetimes;
        arguments = (call.terms.date, lending call tt);
        ghost = tt;
        result = record { number = answer_number found.answer; length = answer_length found.answer };
        last = leaving (outcome call) tt;
        allowed =
            record {
              held = (vstruct (of_list (number ++ length)) ∷ [], ((number, (length, tt)), (refl, ((refl, found.number_small), ((refl, found.length_small), tt)))));
              told = tell 𝓤 found.is;
            };
        given = refl;
        left = found.is;
      }

  pub indexed_judge_comes : (call : Call) (index : List ℕ) → Comes 𝓤 (the_indexed_judge 𝓤 𝓛 mem run) (call, index) (indexed_outcome call index)
  indexed_judge_comes call index =
      let out = indexed_outcome call index in
      let found = indexed_answered call index in
      record {
        lifetimes = ([], lifetimes);
        arguments = (call.terms, lending call (lent_mut index, tt));
        ghost = tt;
        result = found.answer;
        last = leaving out.outcome (out.index, tt);
        allowed = record { held = found.held; told = tell 𝓤 found.is };
        given = refl;
        left = found.is;
      }

  pub indexed_door_comes : (call : Call) (index : List ℕ) → Comes 𝓤 (the_indexed_door 𝓤 𝓛 mem run) (call, index) (indexed_outcome call index)
  indexed_door_comes call index =
      let out = indexed_outcome call index in
      let all = indexed_answered call index in
      let found = all.told in
      let number = vint w32 (answer_number found.answer) ∷ [] in
      let length = vint w64 (answer_length found.answer) ∷ [] in
      let slots = vint w64 out.slots ∷ [] in
      let result : TynderaxoIndexedAnswer = record { number = answer_number found.answer; length = answer_length found.answer; slots = out.slots } in
      let is : indexed_door_outcome result out.outcome.register out.outcome.positions out.outcome.report out.index ≡ out =
      ap (λ (o : Outcome). record { outcome = o; slots = out.slots; index = out.index }) found.is in
      record {
        lifetimes = ([], lifetimes);
        arguments = (call.terms.date, lending call (lent_mut index, tt));
        ghost = tt;
        result = result;
        last = leaving out.outcome (out.index, tt);
        allowed =
            record {
              held = (
                vstruct (of_list (number ++ length ++ slots)) ∷ [],
                ((number, (length, (slots, tt))), (refl, ((refl, found.number_small), ((refl, found.length_small), ((refl, all.slots_small), tt))))),
              );
              told = tell 𝓤 is;
            };
        given = refl;
        left = is;
      }

  pub builder_comes : (register index : List ℕ) → Comes 𝓤 (the_builder 𝓤 𝓛 mem run) (register, index) (index_built register index)
  builder_comes register index =
      let found = built_answered register index in
      record {
        lifetimes = ([], ([], tt));
        arguments = (lent register, (lent_mut index, tt));
        ghost = tt;
        result = found.answer;
        last = (tt, ((index_built register index).index, tt));
        allowed = record { held = found.held; told = tell 𝓤 found.is };
        given = refl;
        left = found.is;
      }

  pub builder_door_comes : (register index : List ℕ) → Comes 𝓤 (the_builder_door 𝓤 𝓛 mem run) (register, index) (index_built register index)
  builder_door_comes register index =
      let found = built_answered register index in
      record {
        lifetimes = ([], ([], tt));
        arguments = (lent register, (lent_mut index, tt));
        ghost = tt;
        result = building_number found.answer;
        last = (tt, ((index_built register index).index, tt));
        allowed = record { held = (vint w32 (building_number found.answer) ∷ [], (refl, found.number_small)); told = tell 𝓤 found.is };
        given = refl;
        left = found.is;
      }
