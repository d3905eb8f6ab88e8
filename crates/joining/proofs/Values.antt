-- Names, values and one attribute in a part of a text are those of the whole, where they end inside the part. Assumes nothing.
use mathlib.Core.Path.{◌≡◌, refl, sym, ap, ◌∙◌}
use mathlib.Core.Bool.{Bool, true, false, cond}
use mathlib.Core.List.{List}
use Prim.Native.Nat.{ℕ, suc, ◌+◌, ◌-◌, ◌≤◌, ◌<◌}
use native.Mathlib.Omega.{arith}
use lib.Dec.{eqb}
use lib.ListN.{length}
use borrow.Author.Tests.{eqb-true, eqb-false}
use Rattle.letters.specs.Places.{byte_at, walk}
use Rattle.letters.specs.Characters.{width_at}
use Rattle.letters.specs.References.{reference_at}
use Rattle.std.specs.Prelude.{Ok, Err, Option, Some, None}
use Rattle.letters.specs.declared.Turn.TheVariants.{On, Ends, Breaks}
use Rattle.letters.specs.declared.Reference.{Reference}
use Rattle.tags.specs.Names.{is_space, name_byte, name_end, name_at}
use Rattle.tags.specs.Attributes.{after_reference, after_character, value_turn, value_at, is_quote, equals_at, quote_at, attribute_at}
use Rattle.tags.proofs.Values.{value_on, value_forward, reference_unending, character_unending}
use Rattle.tags.proofs.AttributeWalk.{attribute_value}
use Rattle.joining.proofs.Parts.{Part, byte_in, run_in, between_in}
use Rattle.joining.proofs.Letters.{width_in, reference_in, Inside, lower_turn, walk_in}

-- ---- an attribute that was read

pub record Attribute (s : List ℕ) (at n : ℕ) : Type 0 where
  pub equals : byte_at s (equals_at s at) ≡ 61
  pub quoted : is_quote (byte_at s (quote_at s at)) ≡ true
  pub value : value_at (byte_at s (quote_at s at)) s (quote_at s at + 1) ≡ Ok n

pub attribute_read : (s : List ℕ) (at n : ℕ) → attribute_at s at ≡ Ok n → Attribute s at n
unfolding attribute_at
attribute_read s at n e = by_test (eqb (byte_at s (equals_at s at)) 61) refl (is_quote (byte_at s (quote_at s at))) refl e
  where
    by_test : (a : Bool) → eqb (byte_at s (equals_at s at)) 61 ≡ a → (b : Bool) → is_quote (byte_at s (quote_at s at)) ≡ b
        → cond a (cond b (value_at (byte_at s (quote_at s at)) s (quote_at s at + 1)) (Err (quote_at s at))) (Err (equals_at s at)) ≡ Ok n
        → Attribute s at n
    by_test false p b q told = absurd (let z : ◌≡◌ {A = ℕ} 0 1 = cc in omega arith)
    by_test true p false q told = absurd (let z : ◌≡◌ {A = ℕ} 0 1 = cc in omega arith)
    by_test true p true q told = record { equals = eqb-true _ 61 p; quoted = q; value = told }

value_ending : (quote : ℕ) (s : List ℕ) (at n : ℕ) → value_turn quote s at ≡ Ends n → at ≤ n
unfolding value_turn
value_ending quote s at n e = by_test (eqb (byte_at s at) quote) (eqb (byte_at s at) 60) (eqb (byte_at s at) 38) e
  where
    by_test : (a b c : Bool)
        → cond a (Ends (at + 1)) (cond b (Breaks at) (cond c (after_reference (reference_at s at) at) (after_character (width_at s at) at))) ≡ Ends n
        → at ≤ n
    by_test true b c told = let same : at + 1 ≡ n = cc in omega arith
    by_test false true c told = absurd (let z : ◌≡◌ {A = ℕ} 0 1 = cc in omega arith)
    by_test false false true told = absurd (reference_unending s at n told)
    by_test false false false told = absurd (character_unending s at n told)

module _ {s t : List ℕ} {d : ℕ} (p : Part s t d) where
  -- ---- names

  pub name_in : (q i : ℕ) → q ≡ d + i → i ≤ length s → name_end t q ≤ d + length s → name_at t q ≡ name_at s i
  name_in q i e h k =
      let ends = run_in p name_byte q i e h k in
      between_in p q i (name_end t q) (name_end s i) e ends (omega arith) (omega arith)

  -- ---- turns

  module _ (q i : ℕ) (e : q ≡ d + i) (h : i < length s) where
    pub reference_turn : Inside (d + length s) (after_reference (reference_at t q) q) → after_reference (reference_at s i) i ≡ lower_turn d (after_reference (reference_at t q) q)
    reference_turn = by_case (reference_at t q) refl
      where
        by_case : (r : Option Reference) → reference_at t q ≡ r → Inside (d + length s) (after_reference r q) → after_reference (reference_at s i) i ≡ lower_turn d (after_reference r q)
        by_case (Some r) is inside = rw (reference_in p q i r.character r.next e (omega arith) (omega arith) is)
        by_case None is inside = absurd inside

    pub character_turn : Inside (d + length s) (after_character (width_at t q) q) → after_character (width_at s i) i ≡ lower_turn d (after_character (width_at t q) q)
    character_turn = by_width (width_at t q) refl
      where
        by_test : (w : ℕ) → width_at t q ≡ w → (b : Bool) → eqb w 0 ≡ b → Inside (d + length s) (cond b (Breaks q) (On (q + w)))
            → cond (eqb (width_at s i) 0) (Breaks i) (On (i + width_at s i)) ≡ lower_turn d (cond b (Breaks q) (On (q + w)))
        by_test w is true b inside = absurd inside
        by_test w is false b inside =
            let some : 0 < w = omega (arith, eqb-false w 0 b) in
            let place : i + w ≡ q + w - d = omega arith in
            rw (width_in p q i w e is some (omega arith), b, place)

        by_width : (w : ℕ) → width_at t q ≡ w → Inside (d + length s) (after_character w q) → after_character (width_at s i) i ≡ lower_turn d (after_character w q)
        by_width w is inside = by_test w is (eqb w 0) refl inside

    -- ---- values

    value_same : (quote : ℕ) → Inside (d + length s) (value_turn quote t q) → value_turn quote s i ≡ lower_turn d (value_turn quote t q)
    unfolding value_turn
    value_same quote inside = rw (← (byte_in p q i e h)) (by_test (eqb (byte_at t q) quote) (eqb (byte_at t q) 60) (eqb (byte_at t q) 38) inside)
      where
        by_test : (a b c : Bool)
            → Inside (d + length s) (cond a (Ends (q + 1)) (cond b (Breaks q) (cond c (after_reference (reference_at t q) q) (after_character (width_at t q) q))))
            → cond a (Ends (i + 1)) (cond b (Breaks i) (cond c (after_reference (reference_at s i) i) (after_character (width_at s i) i)))
            ≡ lower_turn d (cond a (Ends (q + 1)) (cond b (Breaks q) (cond c (after_reference (reference_at t q) q) (after_character (width_at t q) q))))
        by_test true b c inside = ap Ends (omega arith)
        by_test false true c inside = absurd inside
        by_test false false true inside = reference_turn inside
        by_test false false false inside = character_turn inside

  pub value_in : (quote q i n : ℕ) → q ≡ d + i → value_at quote t q ≡ Ok n → n < d + length s → value_at quote s i ≡ Ok (n - d)
  unfolding value_at walk
  value_in quote q i n e told room =
      walk_in (value_turn quote t) (value_turn quote s) d (length s) (λ k. Unit {0})
      (record {
        forward = λ q n e. (value_on quote t q n e).0;
        ending = value_ending quote t;
        keeps = λ q n k e. tt;
        same = λ q i e h k inside. value_same q i e h quote inside;
      })
      (suc (length t)) (suc (length s)) q i n e tt told room (omega arith)

  -- ---- an attribute

  module _ (q i n : ℕ) (e : q ≡ d + i) (h : i ≤ length s) (told : attribute_at t q ≡ Ok n) (room : n < d + length s) where
    abbrev whole : Attribute t q n
    whole = attribute_read t q n told

    after_quote : quote_at t q < n
    after_quote = omega (arith, value_forward (byte_at t (quote_at t q)) t (quote_at t q + 1) n whole.value)

    pub attribute_name : name_at t q ≡ name_at s i
    attribute_name = name_in q i e h (omega (arith, after_quote))

    name_end_in : name_end t q ≡ d + name_end s i
    name_end_in = run_in p name_byte q i e h (omega (arith, after_quote))

    equals_in : equals_at t q ≡ d + equals_at s i
    equals_in = run_in p is_space (name_end t q) (name_end s i) name_end_in (omega (arith, after_quote, name_end_in)) (omega (arith, after_quote))

    pub quote_in : quote_at t q ≡ d + quote_at s i
    quote_in = run_in p is_space (equals_at t q + 1) (equals_at s i + 1) (omega (arith, equals_in)) (omega (arith, after_quote, equals_in)) (omega (arith, after_quote))

    pub quote_byte : byte_at t (quote_at t q) ≡ byte_at s (quote_at s i)
    quote_byte = byte_in p (quote_at t q) (quote_at s i) quote_in (omega (arith, after_quote, quote_in))

    pub attribute_in : attribute_at s i ≡ Ok (n - d)
    attribute_in =
        let equal = byte_in p (equals_at t q) (equals_at s i) equals_in (omega (arith, after_quote, equals_in)) in
        sym (attribute_value s i (equals_at s i) refl (sym equal ∙ whole.equals) (quote_at s i) refl (ap is_quote (sym quote_byte) ∙ whole.quoted))
        ∙ ap (λ (b : ℕ). value_at b s (quote_at s i + 1)) (sym quote_byte)
        ∙ value_in (byte_at t (quote_at t q)) (quote_at t q + 1) (quote_at s i + 1) n (omega (arith, quote_in)) whole.value room
