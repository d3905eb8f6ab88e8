-- The currency that a tag tells in a part of a text is that of the whole. Assumes nothing.
use mathlib.Core.Path.{◌≡◌, refl, sym, ap, ap₂, ◌∙◌}
use mathlib.Core.Logic.{◌⊎◌, inl, inr, ⊎_elim}
use mathlib.Core.Bool.{Bool, true, false, cond, ◌&&◌, ◌||◌, false≢true}
use mathlib.Core.List.{List, [], ◌∷◌}
use Prim.Native.Nat.{ℕ, suc, ◌+◌, ◌-◌, ◌≤◌, ◌<◌}
use native.Mathlib.Omega.{arith}
use lib.Dec.{eqb}
use lib.ListN.{length}
use borrow.Author.Tests.{eqb-true}
use Rattle.wire.specs.Field.{text, same}
use Rattle.letters.specs.Places.{byte_at}
use Rattle.letters.specs.Characters.{single}
use Rattle.letters.specs.References.{reference_at}
use Rattle.std.specs.Prelude.{Ok, Err, Option, Some, None}
use Rattle.letters.specs.declared.Turn.TheVariants.{On, Breaks}
use Rattle.letters.specs.declared.Reference.{Reference}
use Rattle.letters.proofs.References.{reference_forward}
use Rattle.letters.proofs.Characters.{width_first}
use Rattle.tags.specs.Attributes.{after_reference, value_turn, value_at, is_quote, quote_at, attribute_at, some_attribute, referring, spells, in_euros, euros, attributes_at}
use Rattle.tags.proofs.Values.{value_turn_lem, value_forward, value_reference, value_character}
use Rattle.tags.proofs.AttributeWalk.{attributes_forward}
use Rattle.joining.proofs.Parts.{Part, long_in, byte_in}
use Rattle.joining.proofs.Letters.{reference_in}
use Rattle.joining.proofs.Values.{attribute_read, attribute_name, quote_in, quote_byte}
use Rattle.joining.proofs.Attributes.{some_in, attributes_ended}

-- ---- letters

quote_is : (b : ℕ) → is_quote b ≡ true → (b ≡ 34) ⊎ (b ≡ 39)
quote_is b e = by_test (eqb b 34) refl (eqb b 39) refl e
  where
    by_test : (x : Bool) → eqb b 34 ≡ x → (y : Bool) → eqb b 39 ≡ y → (x || y) ≡ true → (b ≡ 34) ⊎ (b ≡ 39)
    by_test true p y q e = inl (eqb-true b 34 p)
    by_test false p true q e = inr (eqb-true b 39 q)
    by_test false p false q e = absurd (false≢true e)

-- letters that stand for themselves in any value
unfoldable pub Letters : List ℕ → Type 0
Letters [] = Unit {0}
Letters (c ∷ cs) = (60 < c) × (single c ≡ true) × Letters cs

module _ {s t : List ℕ} {d : ℕ} (p : Part s t d) (quote : ℕ) (is : (quote ≡ 34) ⊎ (quote ≡ 39)) where
  abbrev Spelled : List ℕ → Type 0
  Spelled cs = (q i n : ℕ) → Letters cs → q ≡ d + i → value_at quote t q ≡ Ok n → n < d + length s → spells cs quote t q ≡ spells cs quote s i

  spells_in : (cs : List ℕ) → Spelled cs
  unfolding spells Letters
  spells_in [] q i n letters e told room = rw (byte_in p q i e (omega (arith, value_forward quote t q n told)))
  spells_in (c ∷ cs) q i n letters e told room = rw (← byte) (by_letter (spells_in cs) (eqb (byte_at t q) c) refl)
    where
      before : q ≤ n
      before = value_forward quote t q n told

      byte : byte_at t q ≡ byte_at s i
      byte = byte_in p q i e (omega (arith, before))

      unquoted : (b : ℕ) → (b ≡ 34 → ⊥) → (b ≡ 39 → ⊥) → b ≡ quote → ⊥
      unquoted b one two same = ⊎_elim (λ (k : quote ≡ 34). one (same ∙ k)) (λ (k : quote ≡ 39). two (same ∙ k)) is

      sign : byte_at t q ≡ 38 → after_reference (reference_at t q) q ≡ value_turn quote t q
      sign k = value_reference quote t q (unquoted (byte_at t q) (λ z. omega arith) (λ z. omega arith)) (λ z. omega arith) k

      -- where the whole has no reference, the part has none
      none : reference_at t q ≡ None → (r : Option Reference) → reference_at s i ≡ r → r ≡ None
      none other (Some r) told' =
          let at_sign = byte ∙ (reference_forward s i r.character r.next told').2 in
          let broken : value_at quote t q ≡ Err q = value_turn_lem quote t q (Breaks q) (sym (sign at_sign) ∙ (rw other)) in
          absurd (let z : ◌≡◌ {A = ℕ} 0 1 = cc in omega arith)
      none other None told' = refl

      by_reference : Spelled cs → (r : Option Reference) → reference_at t q ≡ r
          → referring r c (λ next. spells cs quote t next) ≡ referring (reference_at s i) c (λ next. spells cs quote s next)
      by_reference rest (Some k) r =
          let ahead = reference_forward t q k.character k.next r in
          let later : value_at quote t k.next ≡ Ok n = sym (value_turn_lem quote t q (On k.next) (sym (sign ahead.2) ∙ (rw r))) ∙ told in
          let inside = value_forward quote t k.next n later in
          rw (reference_in p q i k.character k.next e (omega arith) (omega arith) r)
          (ap (λ (b : Bool). cond (eqb k.character c) b false) (rest k.next (k.next - d) n letters.2 (omega arith) later room))
      by_reference rest None r = rw (none r (reference_at s i) refl)

      by_letter : Spelled cs → (b : Bool) → eqb (byte_at t q) c ≡ b
          → cond b (spells cs quote t (q + 1)) (referring (reference_at t q) c (λ next. spells cs quote t next))
          ≡ cond b (spells cs quote s (i + 1)) (referring (reference_at s i) c (λ next. spells cs quote s next))
      by_letter rest true b =
          let letter = eqb-true (byte_at t q) c b in
          let high = letters.0 in
          let turn : value_turn quote t q ≡ On (q + 1) =
          sym (value_character quote t q (unquoted (byte_at t q) (λ z. omega arith) (λ z. omega arith)) (λ z. omega arith) (λ z. omega arith))
          ∙ (rw (← (width_first t q (ap single letter ∙ letters.1)))) in
          rest (q + 1) (i + 1) n letters.2 (omega arith) (sym (value_turn_lem quote t q (On (q + 1)) turn) ∙ told) room
      by_letter rest false b = by_reference rest (reference_at t q) refl

-- ---- a currency

eur : Letters (text "EUR")
unfolding Letters
eur = (omega arith, refl, (omega arith, refl, (omega arith, refl, tt)))

module _ {s t : List ℕ} {d : ℕ} (p : Part s t d) where
  in_euros_lem : (q i n : ℕ) → q ≡ d + i → i ≤ length s → attribute_at t q ≡ Ok n → n < d + length s → in_euros t q ≡ in_euros s i
  unfolding in_euros
  in_euros_lem q i n e h told room =
      let was = attribute_read t q n told in
      let quote = quote_in p q i n e h told room in
      ap₂ ◌&&◌ (ap (λ (l : List ℕ). same l (text "Ccy")) (attribute_name p q i n e h told room))
      (spells_in p (byte_at t (quote_at t q)) (quote_is _ was.quoted) (text "EUR") (quote_at t q + 1) (quote_at s i + 1) n eur (omega arith) was.value room
      ∙ ap (λ (b : ℕ). spells (text "EUR") b s (quote_at s i + 1)) (quote_byte p q i n e h told room))

  pub euros_in : (from from' end : ℕ) → from ≡ d + from' → attributes_at t from ≡ Ok end → end < d + length s → euros t from end ≡ euros s from' (end - d)
  unfolding some_attribute
  euros_in from from' end e told room =
      let was = attributes_ended t from end told in
      let on = attributes_forward t from end told in
      some_in p (in_euros t) (in_euros s) in_euros_lem was.at end (end - d) was.is (omega arith) room (suc (length t)) (suc (length s)) from from' e was.chain (omega (arith, long_in p (omega arith))) (omega arith)
