-- Each wrong judge with an index, and each wrong builder of one, is shut out by a statement: were the statement true of it, there would be a
-- contradiction on a small file. Assumes nothing.
use mathlib.Core.Path.{refl, sym, ap}
use mathlib.Core.List.{List, [], ◌∷◌}
use Prim.Native.Nat.{ℕ, ◌-◌, ◌/◌}
use native.Mathlib.Omega.{arith}
use lib.Dec.{lit≤}
use lib.ListN.{get_or, replicate}
use Rattle.slots.specs.Stored.{slots_of}
use Rattle.slots.specs.Asked.{taken}
use Rattle.register.specs.Register.{key_width}
use Rattle.register.specs.Written.{register_bytes}
use Rattle.index.specs.Index.{index_length, index_of}
use Rattle.messages.specs.Searches.{message_searches}
use Rattle.refusing.specs.Refusals.{Call}
use Rattle.judging.specs.Searches.{bulk_searches, searches}
use Rattle.judging.specs.Indexed.{indexed_outcome, index_built}
use Rattle.judging.proofs.Computing.{outcomes_compute}
use Rattle.promises.specs.Reading.{accepted_of, accepted_from, accepted, recorded_from, recorded, with_keys}
use Rattle.promises.specs.Indexed.{indexed_run}
use Rattle.promises.specs.WrongIndexed.{names_to, IndexedShutOut}
use Rattle.promises.proofs.ShutOut.{all_bytes, one, both, today, table, empty, space, start, call_on, file, no_cents, in_bytes, zero_is_one}

-- a call that differs in its register alone
abbrev on : List ℕ → Call
on register =
    record {
      terms = today;
      sheet = one;
      table = table;
      register = register;
      positions = start.positions;
      report = space;
    }

-- the index of the empty register
abbrev own : List ℕ
own = index_of empty

-- a key of zeros, whose search starts at the first slot
abbrev zero_key : List ℕ
zero_key = replicate key_width 0

-- it stands once in a register of one place, and twice in one of two
abbrev once : List ℕ
once = register_bytes (zero_key ∷ []) 0

abbrev twice : List ℕ
twice = register_bytes (zero_key ∷ zero_key ∷ []) 0

-- space for the index of a register
abbrev blank : List ℕ → List ℕ
blank register = replicate (index_length register) 0

-- how many slots of an index are taken
abbrev named : List ℕ → ℕ
named index = taken (slots_of index)

pub indexed_shut_out : IndexedShutOut
unfolding outcomes_compute message_searches bulk_searches searches indexed_outcome index_built accepted_of accepted_from accepted recorded_from recorded with_keys indexed_run names_to taken all_bytes
indexed_shut_out =
    record {
      contents_before_length = λ s. zero_is_one (ap (λ (n : ℕ). 13 - n) (s (call_on one) []).number);
      contents_before_register = λ s. zero_is_one (sym (ap (λ (n : ℕ). n / 13) (s (on (0 ∷ [])) (0 ∷ [])).number));
      length_before_register = λ s. zero_is_one (ap (λ (n : ℕ). (12 - n) / 8) (s (on (0 ∷ [])) (0 ∷ [])).number);
      trusts_the_index = λ s. zero_is_one (ap (λ (n : ℕ). n / 13) (s (on once) (blank once)).number);
      refuses_every_index = λ s. zero_is_one (sym (ap (λ (n : ℕ). n / 13) (s (call_on one) own).number));
      refuses_what_is_built = λ s. (s (call_on one) own refl).contents refl;
      refuses_every_date = λ s. zero_is_one (sym (ap (λ o. o.number) (s (call_on one) own (λ e. omega arith) (λ e. omega arith))));
      writes_the_index_on_refusal = λ s. zero_is_one (sym (ap (λ (x : List ℕ). get_or x 0 0) ((s (call_on []) own).untouched (λ e. omega arith)).kept));
      indexes_no_bulk = λ s. zero_is_one (ap (λ (x : List ℕ). named x - 1) ((s (call_on one) own).tells (in_bytes one refl) refl).index);
      indexes_no_bulk_in_a_run = λ s. zero_is_one (ap (λ (x : List ℕ). named x - 1) ((s today table start own (file one ∷ []) no_cents).kept refl));
      leaves_the_index = λ s. zero_is_one (ap (λ (x : List ℕ). named x / 2) ((s (call_on one) own).tells (in_bytes one refl) refl).index);
      leaves_the_index_in_a_cut = λ s.
          zero_is_one (sym (ap (λ (n : ℕ). n / 13) (s (call_on both) own (in_bytes both refl) refl 1 (lit≤ tt) space space (lit≤ tt) (lit≤ tt)).parts.second_judged));
      leaves_the_index_in_a_run = λ s. zero_is_one (ap (λ (x : List ℕ). named x / 2) ((s today table start own (file one ∷ []) no_cents).kept refl));
      counts_one_less = λ s. zero_is_one (ap (λ (n : ℕ). n - 2) ((s (call_on one) own).tells (in_bytes one refl) refl).slots);
      counts_nothing = λ s. zero_is_one (ap (λ (n : ℕ). n / 3) ((s (call_on one) own).tells (in_bytes one refl) refl).slots);
      counts_the_most = λ s. zero_is_one (sym (ap (λ (n : ℕ). n - 3) ((s (call_on one) own).tells (in_bytes one refl) refl).slots));
      writes_though_length_is_wrong = λ s. zero_is_one (ap (λ (x : List ℕ). get_or x 0 0) ((s empty (1 ∷ [])).other_length refl (λ e. omega arith)).1);
      names_none = λ s. zero_is_one (ap named ((s once (blank once)).fits refl refl).1);
      names_none_for_the_judge = λ s. (s (on once) (blank once) refl).contents refl;
      names_repeats = λ s. zero_is_one (sym (ap (λ (x : List ℕ). named x - 1) ((s twice (blank twice)).fits refl refl).1));
      names_repeats_for_the_judge = λ s. (s (on twice) (blank twice) refl).contents refl;
    }
