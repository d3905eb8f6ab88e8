-- The attributes of a tag in a part of a text are those of the whole, where they end inside the part. Assumes nothing.
use mathlib.Core.Path.{◌≡◌, refl, sym, ap, ◌∙◌}
use mathlib.Core.Bool.{Bool, true, false, cond}
use mathlib.Core.List.{List}
use Prim.Native.Nat.{ℕ, zero, suc, ◌+◌, ◌-◌, ◌≤◌, ◌<◌}
use native.Mathlib.Omega.{arith}
use lib.Dec.{ltb}
use lib.ListN.{length}
use borrow.Author.Tests.{lt-ltb, le-ltb, ltb-true, ltb-false}
use Rattle.wire.specs.Field.{same}
use Rattle.letters.specs.Places.{byte_at, going, walk, walk_by, on_turn, Reach}
use Rattle.std.specs.Prelude.{Ok, Err}
use Rattle.letters.specs.declared.Turn.{Turn}
use Rattle.letters.specs.declared.Turn.TheVariants.{On, Ends, Breaks}
use Rattle.letters.proofs.Scans.{run_stops, run_ends}
use Rattle.tags.specs.Names.{is_space, name_start, space_end, name_at}
use Rattle.tags.specs.Attributes.{attribute_at, some_by, some_attribute, named, attribute_turn, attributes_at}
use Rattle.tags.proofs.AttributeWalk.{attribute_forward, turn_forward, turn_plain, turn_ends, turn_on}
use Rattle.joining.proofs.Parts.{Part, byte_in, run_in}
use Rattle.joining.proofs.Letters.{Inside, lower_turn, walk_in}
use Rattle.joining.proofs.Values.{attribute_name, attribute_in}

-- ---- attributes one after the other, from one place to another

pub data Chain (s : List ℕ) (at : ℕ) : ℕ → Type 0 where
  here : {from : ℕ} → from ≡ at → Chain s at from
  link : {from : ℕ} → (next : ℕ) → attribute_at s (space_end s from) ≡ Ok next → Chain s at next → Chain s at from

module _ (s : List ℕ) where
  chain_forward : (at from : ℕ) → Chain s at from → from ≤ at
  chain_forward at from (here e) = omega arith
  chain_forward at from (link next e more) = omega (arith, attribute_forward s (space_end s from) next e, chain_forward at next more)

  chain_more : (at from next : ℕ) → Chain s at from → attribute_at s (space_end s at) ≡ Ok next → Chain s next from
  chain_more at from next (here is) e = link {from = from} next (rw is e) (here refl)
  chain_more at from next (link k is more) e = link k is (chain_more at k next more e)

-- ---- each way through a turn

data Turned (s : List ℕ) (from at : ℕ) (r : Turn) : Type 0 where
  plain : is_space (byte_at s at) ≡ false → r ≡ Ends at → Turned s from at r
  spaced : is_space (byte_at s at) ≡ true → name_start (byte_at s (space_end s at)) ≡ false → r ≡ Ends (space_end s at) → Turned s from at r
  another : is_space (byte_at s at) ≡ true → name_start (byte_at s (space_end s at)) ≡ true → named s from (space_end s at) ≡ false
      → (n : ℕ) → attribute_at s (space_end s at) ≡ Ok n → r ≡ On n → Turned s from at r
  breaks : (p : ℕ) → r ≡ Breaks p → Turned s from at r

turned : (s : List ℕ) (from at : ℕ) → Turned s from at (attribute_turn s from at)
unfolding attribute_turn
turned s from at = by_test (is_space (byte_at s at)) refl (name_start (byte_at s (space_end s at))) refl (named s from (space_end s at)) refl (attribute_at s (space_end s at)) refl
  where
    by_test : (a : Bool) → is_space (byte_at s at) ≡ a → (b : Bool) → name_start (byte_at s (space_end s at)) ≡ b → (c : Bool) → named s from (space_end s at) ≡ c
        → (r : Reach) → attribute_at s (space_end s at) ≡ r
        → Turned s from at (cond a (cond b (cond c (Breaks (space_end s at)) (going r)) (Ends (space_end s at))) (Ends at))
    by_test false p b o c u r w = plain p refl
    by_test true p false o c u r w = spaced p o refl
    by_test true p true o true u r w = breaks (space_end s at) refl
    by_test true p true o false u (Ok n) w = another p o u n w refl
    by_test true p true o false u (Err k) w = breaks k refl

-- a walk ends where the spaces behind the last attribute do
pub record Ended (s : List ℕ) (from end : ℕ) : Type 0 where
  pub at : ℕ
  pub chain : Chain s at from
  pub is : end ≡ space_end s at

module _ (s : List ℕ) (from : ℕ) where
  turn_keeps : (at n : ℕ) → Chain s at from → attribute_turn s from at ≡ On n → Chain s n from
  turn_keeps at n chain e = by_turn (attribute_turn s from at) (turned s from at) e
    where
      by_turn : (r : Turn) → Turned s from at r → r ≡ On n → Chain s n from
      by_turn r (plain a is) e = absurd (let z : ◌≡◌ {A = ℕ} 0 1 = cc in omega arith)
      by_turn r (spaced a b is) e = absurd (let z : ◌≡◌ {A = ℕ} 0 1 = cc in omega arith)
      by_turn r (another a b c m told is) e = let same : m ≡ n = cc in chain_more s at from n chain (rw same at told)
      by_turn r (breaks p is) e = absurd (let z : ◌≡◌ {A = ℕ} 0 1 = cc in omega arith)

  space_none : (at : ℕ) → is_space (byte_at s at) ≡ false → at ≡ space_end s at
  space_none at e = by_end (ltb at (length s)) refl
    where
      by_end : (b : Bool) → ltb at (length s) ≡ b → at ≡ space_end s at
      by_end true b = run_stops is_space s at (ltb-true at (length s) b) e
      by_end false b = run_ends is_space s at (ltb-false at (length s) b)

  turn_end : (at n : ℕ) → attribute_turn s from at ≡ Ends n → n ≡ space_end s at
  turn_end at n e = by_turn (attribute_turn s from at) (turned s from at) e
    where
      by_turn : (r : Turn) → Turned s from at r → r ≡ Ends n → n ≡ space_end s at
      by_turn r (plain a is) e = let same : at ≡ n = cc in sym same ∙ space_none at a
      by_turn r (spaced a b is) e = let same : space_end s at ≡ n = cc in sym same
      by_turn r (another a b c m told is) e = absurd (let z : ◌≡◌ {A = ℕ} 0 1 = cc in omega arith)
      by_turn r (breaks p is) e = absurd (let z : ◌≡◌ {A = ℕ} 0 1 = cc in omega arith)

  walk_ended : (f at n : ℕ) → Chain s at from → walk_by (attribute_turn s from) f at ≡ Ok n → Ended s from n
  unfolding walk_by
  walk_ended zero at n chain e = absurd (let z : ◌≡◌ {A = ℕ} 0 1 = cc in omega arith)
  walk_ended (suc f) at n chain e = by_turn (walk_ended f) (attribute_turn s from at) refl e
    where
      by_turn : ((at n : ℕ) → Chain s at from → walk_by (attribute_turn s from) f at ≡ Ok n → Ended s from n) → (r : Turn) → attribute_turn s from at ≡ r
          → on_turn r (λ next. walk_by (attribute_turn s from) f next) ≡ Ok n → Ended s from n
      by_turn rest (On next) e told = rest next n (turn_keeps at next chain e) told
      by_turn rest (Ends m) e told = let same : m ≡ n = cc in record { at = at; chain = chain; is = sym same ∙ turn_end at m e }
      by_turn rest (Breaks p) e told = absurd (let z : ◌≡◌ {A = ℕ} 0 1 = cc in omega arith)

  pub attributes_ended : (n : ℕ) → attributes_at s from ≡ Ok n → Ended s from n
  unfolding attributes_at walk
  attributes_ended n e = walk_ended (suc (length s)) from n (here refl) e

module _ {s t : List ℕ} {d : ℕ} (p : Part s t d) where
  -- ---- a search among them

  module _ (test test' : ℕ → Bool) (agree : (q i n : ℕ) → q ≡ d + i → i ≤ length s → attribute_at t q ≡ Ok n → n < d + length s → test q ≡ test' i) where
    pub some_in : (at end j : ℕ) → end ≡ space_end t at → end ≡ d + j → end < d + length s
        → (f g q i : ℕ) → q ≡ d + i → Chain t at q → end < q + f → j < i + g → some_by test t end f q ≡ some_by test' s j g i
    unfolding some_by
    some_in at end j is e room zero g q i w chain h k = absurd (omega (arith, chain_forward t at q chain))
    some_in at end j is e room (suc f) zero q i w chain h k = absurd (omega (arith, chain_forward t at q chain))
    some_in at end j is e room (suc f) (suc g) q i w (here last) h k =
        let low : end ≡ space_end t q = is ∙ ap (space_end t) (sym last) in
        let run = run_in p is_space q i w (omega arith) (omega arith) in
        (rw (le-ltb (space_end t q) end (omega arith), le-ltb (space_end s i) j (omega arith)))
    some_in at end j is e room (suc f) (suc g) q i w (link next told more) h k =
        let ahead = attribute_forward t (space_end t q) next told in
        let later = chain_forward t at next more in
        let run = run_in p is_space q i w (omega arith) (omega arith) in
        let one = attribute_in p (space_end t q) (space_end s i) next run (omega arith) told (omega arith) in
        let tested = agree (space_end t q) (space_end s i) next run (omega arith) told (omega arith) in
        let others = some_in at end j is e room f g next (next - d) (omega arith) more (omega arith) (omega arith) in
        (rw (told, one, tested, others, lt-ltb (space_end t q) end (omega arith), lt-ltb (space_end s i) j (omega arith)))

  -- ---- a turn, and the walk

  module _ (from from' : ℕ) (w : from ≡ d + from') where
    named_in : (at q i : ℕ) → Chain t at from → q ≡ space_end t at → q ≡ d + i → (n : ℕ) → attribute_at t q ≡ Ok n → n < d + length s → named t from q ≡ named s from' i
    unfolding some_attribute
    named_in at q i chain is e n told room =
        let ahead = attribute_forward t q n told in
        let behind = chain_forward t at from chain in
        some_in (λ k. same (name_at t k) (name_at t q)) (λ k. same (name_at s k) (name_at s i))
        (λ k j m f h told' room'. rw (attribute_name p k j m f h told' room', attribute_name p q i n e (omega arith) told room))
        at q i is e (omega arith) (suc (length t)) (suc (length s)) from from' w chain (omega arith) (omega arith)

    turn_same : (q i : ℕ) → q ≡ d + i → i < length s → Chain t q from → Inside (d + length s) (attribute_turn t from q)
        → attribute_turn s from' i ≡ lower_turn d (attribute_turn t from q)
    turn_same q i e h chain inside = by_turn (attribute_turn t from q) (turned t from q) inside
      where
        spaces : space_end t q ≤ d + length s → space_end t q ≡ d + space_end s i
        spaces room = run_in p is_space q i e (omega arith) room

        by_turn : (r : Turn) → Turned t from q r → Inside (d + length s) r → attribute_turn s from' i ≡ lower_turn d r
        by_turn r (plain a is) inside =
            let place : i ≡ q - d = omega arith in
            sym (turn_plain s from' i (ap is_space (sym (byte_in p q i e h)) ∙ a)) ∙ (rw (is, ← place))
        by_turn r (spaced a b is) inside =
            let room : space_end t q < d + length s = rw is at inside in
            let run = spaces (omega arith) in
            let place : space_end s i ≡ space_end t q - d = omega arith in
            let start = byte_in p (space_end t q) (space_end s i) run (omega arith) in
            sym (turn_ends s from' i (ap is_space (sym (byte_in p q i e h)) ∙ a) (space_end s i) refl (ap name_start (sym start) ∙ b)) ∙ (rw (is, ← place))
        by_turn r (another a b c n told is) inside =
            let room : n < d + length s = rw is at inside in
            let ahead = attribute_forward t (space_end t q) n told in
            let run = spaces (omega arith) in
            let start = byte_in p (space_end t q) (space_end s i) run (omega arith) in
            let once = named_in q (space_end t q) (space_end s i) chain refl run n told room in
            let one = attribute_in p (space_end t q) (space_end s i) n run (omega arith) told room in
            sym (turn_on s from' i (ap is_space (sym (byte_in p q i e h)) ∙ a) (space_end s i) refl (ap name_start (sym start) ∙ b) (sym once ∙ c) (Ok (n - d)) one)
            ∙ (rw is)
        by_turn r (breaks k is) inside = absurd (rw is at inside)

    pub attributes_in : (n : ℕ) → attributes_at t from ≡ Ok n → n < d + length s → attributes_at s from' ≡ Ok (n - d)
    unfolding attributes_at walk
    attributes_in n told room =
        walk_in (attribute_turn t from) (attribute_turn s from') d (length s) (λ k. Chain t k from)
        (record {
          forward = λ q n e. (turn_forward t from q n e).1;
          ending = λ q n e. omega (arith, turn_end t from q n e);
          keeps = turn_keeps t from;
          same = turn_same;
        })
        (suc (length t)) (suc (length s)) from from' n w (here refl) told room (omega arith)
