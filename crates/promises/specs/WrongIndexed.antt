-- Judges with an index, and builders of one, that must be shut out: each is the right one but for what its name says. Assumes nothing.
use Rattle.std.specs.Prelude.{ℕ, zero, suc, ◌+◌, ◌-◌, cond, List, [], ◌∷◌, map, replicate, eqb}
use Rattle.std.proofs.lemmas.List.Edits.{sets}
use Rattle.slots.specs.Slots.{searched}
use Rattle.slots.specs.Stored.{digits, slots_of, put}
use Rattle.register.specs.Register.{key_at, in_use}
use Rattle.index.specs.Index.{index_length, index_of}
use Rattle.index.specs.Searches.{most_read}
use Rattle.refusing.specs.Refusals.{refusal_number, holds_with, first_holding}
use Rattle.refusing.specs.declared.Refusal.{Refusal}
use Rattle.refusing.specs.declared.Refusal.TheVariants.{Date, Table, Positions, Register, IndexLength, IndexContents, Sheet, Size, Kind, Order, Room, Limit, Space}
use Rattle.judging.specs.Outcome.{outcome}
use Rattle.judging.specs.Indexed.{IndexedOutcome, searches_of, indexed_judged, indexed_away, indexed_outcome, IndexBuilt, index_built}
use Rattle.promises.specs.Reading.{accepted, payment_key, with_keys}
use Rattle.promises.specs.Indexed.{IndexedJudge, Builder, IndexedMeets, TellsAsPlain, IndexedCutsAnywhere, IndexedRunsAsPromised, BuildsAsWritten, BuildsForTheJudge}

-- ---- judges: the refusals

-- one that looks for the refusals in another order
abbrev pub refuses_in_order : List Refusal → IndexedJudge
refuses_in_order order call index =
    let n = first_holding (λ r. holds_with index r call) order in cond (eqb n 0) (indexed_judged call) (indexed_away call index n)

-- 13 before 12
abbrev pub contents_before_length : List Refusal
contents_before_length = Date ∷ Table ∷ Positions ∷ Register ∷ IndexContents ∷ IndexLength ∷ Sheet ∷ Size ∷ Kind ∷ Order ∷ Room ∷ Limit ∷ Space ∷ []

-- 13 before 4
abbrev pub contents_before_register : List Refusal
contents_before_register = Date ∷ Table ∷ Positions ∷ IndexContents ∷ Register ∷ IndexLength ∷ Sheet ∷ Size ∷ Kind ∷ Order ∷ Room ∷ Limit ∷ Space ∷ []

-- 12 before 4
abbrev pub length_before_register : List Refusal
length_before_register = Date ∷ Table ∷ Positions ∷ IndexLength ∷ Register ∷ IndexContents ∷ Sheet ∷ Size ∷ Kind ∷ Order ∷ Room ∷ Limit ∷ Space ∷ []

-- 13 never: any index of the right length passes for the register's own
abbrev pub trusts_the_index : List Refusal
trusts_the_index = Date ∷ Table ∷ Positions ∷ Register ∷ IndexLength ∷ Sheet ∷ Size ∷ Kind ∷ Order ∷ Room ∷ Limit ∷ Space ∷ []

-- 13 always
abbrev pub refuses_every_index : IndexedJudge
refuses_every_index call index = indexed_away call index (refusal_number IndexContents)

-- 1 always
abbrev pub refuses_every_date : IndexedJudge
refuses_every_date call index = indexed_away call index (refusal_number Date)

-- ---- judges: what is left

abbrev pub with_index : IndexedOutcome → List ℕ → IndexedOutcome
with_index left text = record { outcome = left.outcome; slots = left.slots; index = text }

abbrev pub with_slots : IndexedOutcome → ℕ → IndexedOutcome
with_slots left n = record { outcome = left.outcome; slots = n; index = left.index }

-- the outcome of a call that is judged, and that of one that is refused, changed
abbrev pub changed : (IndexedOutcome → IndexedOutcome) → (IndexedOutcome → IndexedOutcome) → IndexedJudge
changed judged refused call index =
    let left = indexed_outcome call index in cond (eqb left.outcome.number 0) (judged left) (refused left)

-- a refusal sets the index's first byte
abbrev pub writes_the_index_on_refusal : IndexedJudge
writes_the_index_on_refusal call index = changed (λ left. left) (λ left. with_index left (sets index 0 (1 ∷ []))) call index

-- the index left is that of the register without the entries of bulks
abbrev pub indexes_no_bulk : IndexedJudge
indexes_no_bulk call index =
    changed (λ left. with_index left (index_of (with_keys call.register (map payment_key (accepted call.sheet left.outcome))))) (λ left. left) call index

-- entries are added to the register alone
abbrev pub leaves_the_index : IndexedJudge
leaves_the_index call index = changed (λ left. with_index left index) (λ left. left) call index

-- one slot too few is counted
abbrev pub counts_one_less : IndexedJudge
counts_one_less call index = changed (λ left. with_slots left (left.slots - 1)) (λ left. left) call index

abbrev pub counts_nothing : IndexedJudge
counts_nothing call index = changed (λ left. with_slots left 0) (λ left. left) call index

-- as many are counted as could be read at most
abbrev pub counts_the_most : IndexedJudge
counts_the_most call index = changed (λ left. with_slots left (most_read (searches_of call))) (λ left. left) call index

-- ---- builders

abbrev pub with_built : IndexBuilt → List ℕ → IndexBuilt
with_built built text = record { number = built.number; index = text }

-- what fits is written, though 12 is answered
abbrev pub writes_though_length_is_wrong : Builder
writes_though_length_is_wrong register index =
    let built = index_built register index in
    cond (eqb built.number (refusal_number IndexLength)) (with_built built (sets index 0 (index_of register))) built

-- where it answers 0, what it leaves is made by another rule
abbrev pub builds_by : (List ℕ → List ℕ) → Builder
builds_by rule register index = let built = index_built register index in cond (eqb built.number 0) (with_built built (rule register)) built

-- no slot names an entry
abbrev pub names_none : List ℕ → List ℕ
names_none register = replicate (index_length register) 0

-- the first k entries, each named at an empty slot, whether or not one before it has its key: the search finds no key
unfoldable pub names_to : List ℕ → ℕ → List ℕ
names_to register zero = names_none register
names_to register (suc k) =
    let before = names_to register k in put before (searched digits (λ j. []) k (key_at register k) (slots_of before)).place (k + 1)

-- a repeated entry is named again
abbrev pub names_repeats : List ℕ → List ℕ
names_repeats register = names_to register (in_use register)

-- ---- which statement refuses which

pub record IndexedShutOut : Type 0 where
  pub contents_before_length : IndexedMeets (refuses_in_order contents_before_length) → ⊥
  pub contents_before_register : IndexedMeets (refuses_in_order contents_before_register) → ⊥
  pub length_before_register : IndexedMeets (refuses_in_order length_before_register) → ⊥
  pub trusts_the_index : IndexedMeets (refuses_in_order trusts_the_index) → ⊥
  pub refuses_what_is_built : BuildsForTheJudge index_built refuses_every_index → ⊥
  pub refuses_every_index : IndexedMeets refuses_every_index → ⊥
  pub refuses_every_date : TellsAsPlain outcome refuses_every_date → ⊥
  pub writes_the_index_on_refusal : IndexedMeets writes_the_index_on_refusal → ⊥
  pub indexes_no_bulk_in_a_run : IndexedRunsAsPromised indexes_no_bulk → ⊥
  pub indexes_no_bulk : IndexedMeets indexes_no_bulk → ⊥
  pub leaves_the_index_in_a_cut : IndexedCutsAnywhere leaves_the_index → ⊥
  pub leaves_the_index_in_a_run : IndexedRunsAsPromised leaves_the_index → ⊥
  pub leaves_the_index : IndexedMeets leaves_the_index → ⊥
  pub counts_one_less : IndexedMeets counts_one_less → ⊥
  pub counts_nothing : IndexedMeets counts_nothing → ⊥
  pub counts_the_most : IndexedMeets counts_the_most → ⊥
  pub writes_though_length_is_wrong : BuildsAsWritten writes_though_length_is_wrong → ⊥
  pub names_none_for_the_judge : BuildsForTheJudge (builds_by names_none) indexed_outcome → ⊥
  pub names_none : BuildsAsWritten (builds_by names_none) → ⊥
  pub names_repeats_for_the_judge : BuildsForTheJudge (builds_by names_repeats) indexed_outcome → ⊥
  pub names_repeats : BuildsAsWritten (builds_by names_repeats) → ⊥
