-- Payments kept track of from one state to another: what they add to the register, what they move, and that none was there before.
-- Assumes nothing.
use mathlib.Core.Path.{◌≡◌, refl, sym, ap, ap₂, ◌∙◌}
use mathlib.Core.Bool.{Bool, true, false, cond, ◌||◌, false≢true, or-true}
use mathlib.Core.List.{List, [], ◌∷◌, ◌++◌, map, map-append, append_assoc, append-nil}
use Prim.Native.Nat.{ℕ, ◌+◌}
use native.Mathlib.Nat.{zero-add, add_assoc}
use lib.Dec.{eqb}
use lib.IntN.{ℤ, pos, neg_ℤ, ◌+ℤ◌, ◌-ℤ◌, +ℤ_assoc, +ℤ_comm, +ℤ_idr, pos-+ℤ-pos, neg_ℤ-+ℤ}
use Rattle.wire.specs.Field.{same, number_at}
use Rattle.wire.proofs.Texts.{same_itself}
use Rattle.register.specs.Register.{key, message_tag, tag_place, keys_of, listed}
use Rattle.register.proofs.Laws.{stands_listed, listed_append}
use Rattle.positions.specs.Positions.{position_at, signed}
use Rattle.rules.specs.declared.Terms.{Terms}
use Rattle.messages.specs.Messages.{State}
use Rattle.promises.specs.Reading.{Payment, payment_key, to_row, from_row, cents_to, cents_from}
use Rattle.promises.specs.Runs.{SamePayment, NoneLike, NoneTwice, with_message_tag, message_keys, AllStand}

-- ---- cents add up

module _ (terms : Terms) (table : List ℕ) (j : ℕ) where
  to_append : (ps qs : List Payment) → cents_to terms table j (ps ++ qs) ≡ cents_to terms table j ps + cents_to terms table j qs
  unfolding cents_to
  to_append [] qs = sym (zero-add (cents_to terms table j qs))
  to_append (p ∷ ps) qs =
      ap (λ (n : ℕ). cond (to_row terms table j p) p.cents 0 + n) (to_append ps qs)
      ∙ sym (add_assoc (cond (to_row terms table j p) p.cents 0) (cents_to terms table j ps) (cents_to terms table j qs))

  from_append : (ps qs : List Payment) → cents_from terms table j (ps ++ qs) ≡ cents_from terms table j ps + cents_from terms table j qs
  unfolding cents_from
  from_append [] qs = sym (zero-add (cents_from terms table j qs))
  from_append (p ∷ ps) qs =
      ap (λ (n : ℕ). cond (from_row terms table j p) p.cents 0 + n) (from_append ps qs)
      ∙ sym (add_assoc (cond (from_row terms table j p) p.cents 0) (cents_from terms table j ps) (cents_from terms table j qs))

-- two moves one after the other, as one
moved_twice : (x : ℤ) (a b c d : ℕ) → x +ℤ pos a -ℤ pos b +ℤ pos c -ℤ pos d ≡ x +ℤ pos (a + c) -ℤ pos (b + d)
moved_twice x a b c d =
    let from = neg_ℤ (pos b) in
    let from' = neg_ℤ (pos d) in
    let less : from +ℤ from' ≡ neg_ℤ (pos (b + d)) = sym (neg_ℤ-+ℤ (pos b) (pos d)) ∙ ap neg_ℤ (pos-+ℤ-pos b d) in
    ap (λ (k : ℤ). k +ℤ from') (
    +ℤ_assoc (x +ℤ pos a) from (pos c)
    ∙ ap (λ (k : ℤ). x +ℤ pos a +ℤ k) (+ℤ_comm from (pos c))
    ∙ sym (+ℤ_assoc (x +ℤ pos a) (pos c) from))
    ∙ +ℤ_assoc (x +ℤ pos a +ℤ pos c) from from'
    ∙ ap₂ (λ (k l : ℤ). k +ℤ l) (+ℤ_assoc x (pos a) (pos c) ∙ ap (λ (k : ℤ). x +ℤ k) (pos-+ℤ-pos a c)) less

-- ---- lists of keys

pub tag_append : (xs ys : List (List ℕ)) → with_message_tag (xs ++ ys) ≡ with_message_tag xs ++ with_message_tag ys
unfolding with_message_tag
tag_append [] ys = refl
tag_append (x ∷ xs) ys = by_test (eqb (number_at x tag_place 1) message_tag) (tag_append xs ys)
  where
    by_test : (t : Bool) → with_message_tag (xs ++ ys) ≡ with_message_tag xs ++ with_message_tag ys
        → cond t (x ∷ with_message_tag (xs ++ ys)) (with_message_tag (xs ++ ys)) ≡ cond t (x ∷ with_message_tag xs) (with_message_tag xs) ++ with_message_tag ys
    by_test true e = ap (λ (l : List (List ℕ)). x ∷ l) e
    by_test false e = e

-- what is listed among those with the tag is listed among them all
tag_listed : (xs : List (List ℕ)) (e : List ℕ) → listed (with_message_tag xs) e ≡ true → listed xs e ≡ true
unfolding with_message_tag listed
tag_listed [] e h = h
tag_listed (x ∷ xs) e h = by_test (eqb (number_at x tag_place 1) message_tag) (tag_listed xs e) h
  where
    here : (t : Bool) → (listed (with_message_tag xs) e ≡ true → listed xs e ≡ true) → (t || listed (with_message_tag xs) e) ≡ true → (t || listed xs e) ≡ true
    here true later h = refl
    here false later h = later h

    by_test : (t : Bool) → (listed (with_message_tag xs) e ≡ true → listed xs e ≡ true) → listed (cond t (x ∷ with_message_tag xs) (with_message_tag xs)) e ≡ true → (same x e || listed xs e) ≡ true
    by_test true later h = here (same x e) later h
    by_test false later h = rw (later h) (or-true (same x e))

pub not_listed : (xs : List (List ℕ)) (e : List ℕ) → listed xs e ≡ false → listed (with_message_tag xs) e ≡ false
not_listed xs e h = by_test (listed (with_message_tag xs) e) refl
  where
    by_test : (t : Bool) → listed (with_message_tag xs) e ≡ t → listed (with_message_tag xs) e ≡ false
    by_test true told = absurd (false≢true (sym h ∙ tag_listed xs e told))
    by_test false told = told

-- ---- none was there before

-- each of their keys is none of the keys ks, nor of those of the payments before it
unfoldable pub Fresh : List (List ℕ) → List Payment → Type 0
Fresh ks [] = Unit {0}
Fresh ks (p ∷ ps) = (listed ks (payment_key p) ≡ false) × Fresh (ks ++ (payment_key p ∷ [])) ps

fresh_append : (ks : List (List ℕ)) (ps qs : List Payment) → Fresh ks ps → Fresh (ks ++ map payment_key ps) qs → Fresh ks (ps ++ qs)
unfolding Fresh
fresh_append ks [] qs f g = rw (append-nil ks) at g
fresh_append ks (p ∷ ps) qs f g =
    (f.0, fresh_append (ks ++ (payment_key p ∷ [])) ps qs f.1 (rw (append_assoc ks (payment_key p ∷ []) (map payment_key ps)) g))

-- so none of them is like another
none_like : (ks : List (List ℕ)) (p : Payment) (ps : List Payment) → listed ks (payment_key p) ≡ true → Fresh ks ps → NoneLike p ps
unfolding Fresh NoneLike
none_like ks p [] there f = tt
none_like ks p (q ∷ qs) there f = (
  (λ (alike : SamePayment p q).
      let equal : payment_key p ≡ payment_key q = ap₂ (λ (x y : List ℕ). key x y message_tag) alike.0 alike.1 in
      false≢true (sym f.0 ∙ (rw (← equal) there))),
  none_like (ks ++ (payment_key q ∷ [])) p qs (rw (listed_append ks (payment_key q ∷ []) (payment_key p), there)) f.1,
)

pub none_twice : (ks : List (List ℕ)) (ps : List Payment) → Fresh ks ps → NoneTwice ps
unfolding Fresh NoneTwice listed
none_twice ks [] f = tt
none_twice ks (p ∷ ps) f = (
  none_like (ks ++ (payment_key p ∷ [])) p ps (rw (listed_append ks (payment_key p ∷ []) (payment_key p), same_itself (payment_key p)) (or-true (listed ks (payment_key p)))) f.1,
  none_twice (ks ++ (payment_key p ∷ [])) ps f.1,
)

-- each stands in a register that lists them all
pub all_stand_from : (register : List ℕ) (ks : List (List ℕ)) (ps : List Payment) → message_keys register ≡ ks ++ map payment_key ps → AllStand register ps
unfolding AllStand listed
all_stand_from register ks [] e = tt
all_stand_from register ks (p ∷ ps) e = (
  stands_listed register (payment_key p)
      ∙ tag_listed (keys_of register) (payment_key p)
      (rw (e, listed_append ks (payment_key p ∷ map payment_key ps) (payment_key p), same_itself (payment_key p)) (or-true (listed ks (payment_key p)))),
  all_stand_from register (ks ++ (payment_key p ∷ [])) ps (e ∙ sym (append_assoc ks (payment_key p ∷ []) (map payment_key ps))),
)

-- ---- from one state to another

module _ (terms : Terms) (table : List ℕ) where
  pub record Tracked (before after : State) (ps : List Payment) : Type 0 where
    pub fresh : Fresh (message_keys before.register) ps
    pub recorded : message_keys after.register ≡ message_keys before.register ++ map payment_key ps
    pub positions : (j : ℕ)
        → signed (position_at after.positions j)
        ≡ signed (position_at before.positions j) +ℤ pos (cents_to terms table j ps) -ℤ pos (cents_from terms table j ps)

  pub tracked_none : (st : State) → Tracked st st []
  unfolding Fresh cents_to cents_from
  tracked_none st =
      record {
        fresh = tt;
        recorded = sym (append-nil (message_keys st.register));
        positions = λ j. sym (+ℤ_idr (signed (position_at st.positions j) +ℤ pos 0) ∙ +ℤ_idr (signed (position_at st.positions j)));
      }

  pub tracked_then : (a b c : State) (ps qs : List Payment) → Tracked a b ps → Tracked b c qs → Tracked a c (ps ++ qs)
  tracked_then a b c ps qs f g =
      record {
        fresh = fresh_append (message_keys a.register) ps qs f.fresh (rw f.recorded at g.fresh);
        recorded =
            g.recorded
            ∙ ap (λ (ks : List (List ℕ)). ks ++ map payment_key qs) f.recorded
            ∙ append_assoc (message_keys a.register) (map payment_key ps) (map payment_key qs)
            ∙ ap (λ (ks : List (List ℕ)). message_keys a.register ++ ks) (sym (map-append payment_key ps qs));
        positions = λ j.
            g.positions j
            ∙ ap (λ (k : ℤ). k +ℤ pos (cents_to terms table j qs) -ℤ pos (cents_from terms table j qs)) (f.positions j)
            ∙ moved_twice (signed (position_at a.positions j)) (cents_to terms table j ps) (cents_from terms table j ps) (cents_to terms table j qs) (cents_from terms table j qs)
            ∙ ap₂ (λ (t u : ℕ). signed (position_at a.positions j) +ℤ pos t -ℤ pos u) (sym (to_append terms table j ps qs)) (sym (from_append terms table j ps qs));
      }
