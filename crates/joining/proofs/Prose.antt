-- The text of an element in a part of a text ends where it does in the whole, where that is inside the part. Assumes nothing.
use mathlib.Core.Path.{◌≡◌, refl, ap}
use mathlib.Core.Bool.{Bool, true, false, cond}
use mathlib.Core.List.{List}
use Prim.Native.Nat.{ℕ, suc, ◌+◌, ◌-◌, ◌<◌}
use native.Mathlib.Omega.{arith}
use lib.Dec.{eqb}
use lib.ListN.{length}
use Rattle.letters.specs.Places.{byte_at, going, walk, Reach}
use Rattle.letters.specs.Characters.{width_at}
use Rattle.letters.specs.References.{stands, reference_at}
use Rattle.std.specs.Prelude.{Ok, Err}
use Rattle.letters.specs.declared.Turn.TheVariants.{Ends, Breaks}
use Rattle.tags.specs.Attributes.{after_reference, after_character}
use Rattle.prose.specs.Prose.{section_start, section_end, section_turn, section_at, text_turn, text_at}
use Rattle.prose.proofs.Turns.{section_onward, section_forward, text_onward}
use Rattle.joining.proofs.Parts.{Part, byte_in, stands_in, stands_not}
use Rattle.joining.proofs.Letters.{Inside, lower_turn, walk_in}
use Rattle.joining.proofs.Values.{reference_turn, character_turn}

module _ {s t : List ℕ} {d : ℕ} (p : Part s t d) where
  section_same : (q i : ℕ) → q ≡ d + i → i < length s → Inside (d + length s) (section_turn t q) → section_turn s i ≡ lower_turn d (section_turn t q)
  unfolding section_turn
  section_same q i e h inside = by_test (stands t q section_end) refl inside
    where
      by_test : (b : Bool) → stands t q section_end ≡ b → Inside (d + length s) (cond b (Ends (q + 3)) (after_character (width_at t q) q))
          → cond (stands s i section_end) (Ends (i + 3)) (after_character (width_at s i) i) ≡ lower_turn d (cond b (Ends (q + 3)) (after_character (width_at t q) q))
      by_test true b inside = rw (← (stands_in p section_end q i e (omega arith)), b) (ap Ends (omega arith))
      by_test false b inside = rw (stands_not p section_end q i e (omega arith) b) (character_turn p q i e h inside)

  pub section_in : (q i n : ℕ) → q ≡ d + i → section_at t q ≡ Ok n → n < d + length s → section_at s i ≡ Ok (n - d)
  unfolding section_at walk
  section_in q i n e told room =
      walk_in (section_turn t) (section_turn s) d (length s) (λ k. Unit {0})
      (record {
        forward = (section_onward t).forward;
        ending = (section_onward t).ending;
        keeps = λ q n k e. tt;
        same = λ q i e h k inside. section_same q i e h inside;
      })
      (suc (length t)) (suc (length s)) q i n e tt told room (omega arith)

  text_same : (q i : ℕ) → q ≡ d + i → i < length s → Inside (d + length s) (text_turn t q) → text_turn s i ≡ lower_turn d (text_turn t q)
  unfolding text_turn
  text_same q i e h inside =
      rw (← (byte_in p q i e h))
      (by_test (eqb (byte_at t q) 60) (eqb (byte_at t q) 38) (stands t q section_start) refl (stands t q section_end) refl (section_at t (q + 9)) refl inside)
    where
      by_test : (a b c : Bool) → stands t q section_start ≡ c → (x : Bool) → stands t q section_end ≡ x → (r : Reach) → section_at t (q + 9) ≡ r
          → Inside (d + length s) (cond a (cond c (going r) (Ends q)) (cond b (after_reference (reference_at t q) q) (cond x (Breaks q) (after_character (width_at t q) q))))
          → cond a (cond (stands s i section_start) (going (section_at s (i + 9))) (Ends i))
          (cond b (after_reference (reference_at s i) i) (cond (stands s i section_end) (Breaks i) (after_character (width_at s i) i)))
          ≡ lower_turn d (cond a (cond c (going r) (Ends q)) (cond b (after_reference (reference_at t q) q) (cond x (Breaks q) (after_character (width_at t q) q))))
      by_test true b true k x l (Ok n) told inside =
          let ahead = section_forward t (q + 9) n told in
          rw (← (stands_in p section_start q i e (omega arith)), k, section_in (q + 9) (i + 9) n (omega arith) told inside)
      by_test true b true k x l (Err z) told inside = absurd inside
      by_test true b false k x l r told inside = rw (stands_not p section_start q i e (omega arith) k) (ap Ends (omega arith))
      by_test false true c k x l r told inside = reference_turn p q i e h inside
      by_test false false c k true l r told inside = absurd inside
      by_test false false c k false l r told inside = rw (stands_not p section_end q i e (omega arith) l) (character_turn p q i e h inside)

  pub text_in_lem : (q i n : ℕ) → q ≡ d + i → text_at t q ≡ Ok n → n < d + length s → text_at s i ≡ Ok (n - d)
  unfolding text_at walk
  text_in_lem q i n e told room =
      walk_in (text_turn t) (text_turn s) d (length s) (λ k. Unit {0})
      (record {
        forward = (text_onward t).forward;
        ending = (text_onward t).ending;
        keeps = λ q n k e. tt;
        same = λ q i e h k inside. text_same q i e h inside;
      })
      (suc (length t)) (suc (length s)) q i n e tt told room (omega arith)
