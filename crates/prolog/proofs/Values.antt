-- The laws of a setting's value: the word UTF-8 in either case, byte by byte. Assumes nothing.
use mathlib.Core.Path.{◌≡◌, refl, sym, ap, ◌∙◌}
use mathlib.Core.Bool.{Bool, true, false, ◌&&◌, false≢true}
use mathlib.Core.List.{List, [], ◌∷◌}
use Prim.Native.Nat.{ℕ, zero, suc, ◌+◌, ◌-◌, ◌≤◌, ◌<◌, min}
use native.Mathlib.Nat.{add-zero, add_assoc}
use native.Mathlib.Omega.{arith}
use lib.ListN.{length, get_or, length-take, length-drop}
use lib.Seq.{get_or-drop, get_or-take}
use Rattle.wire.specs.Field.{text, part}
use Rattle.letters.specs.Places.{byte_at}
use Rattle.letters.proofs.Scans.{byte_there}
use Rattle.prolog.specs.Prolog.{same_letter, any_case}

and_left : (a b : Bool) → a && b ≡ true → a ≡ true
and_left true b e = refl
and_left false b e = e

and_right : (a b : Bool) → a && b ≡ true → b ≡ true
and_right true b e = e
and_right false b e = absurd (false≢true e)

-- grouped from the left, as the code has it, or from the right
five : (a b c d e : Bool) → (((a && b) && c) && d) && e ≡ a && (b && (c && (d && (e && true))))
five true true true true true = refl
five true true true true false = refl
five true true true false e = refl
five true true false d e = refl
five true false c d e = refl
five false b c d e = refl

digit_some : (b : ℕ) → same_letter b 56 ≡ true → 0 < b
digit_some zero e = absurd (false≢true e)
digit_some (suc b) e = omega arith

module _ (s : List ℕ) (at : ℕ) where
  abbrev same : ℕ → ℕ → Bool
  same k c = same_letter (byte_at s (at + k)) c

  step : (c : ℕ) (cs : List ℕ) (k : ℕ) (rest : Bool) → any_case cs s (at + (k + 1)) ≡ rest → any_case (c ∷ cs) s (at + k) ≡ same k c && rest
  unfolding any_case
  step c cs k rest e = ap (λ (b : Bool). same k c && b) (ap (any_case cs s) (add_assoc at k 1) ∙ e)

  last : any_case [] s (at + 5) ≡ true
  unfolding any_case
  last = refl

  letters : any_case (text "UTF-8") s at ≡ same 0 85 && (same 1 84 && (same 2 70 && (same 3 45 && (same 4 56 && true))))
  letters =
      ap (any_case (text "UTF-8") s) (sym (add-zero at))
      ∙ step 85 (text "TF-8") 0 _ (step 84 (text "F-8") 1 _ (step 70 (text "-8") 2 _ (step 45 (text "8") 3 _ (step 56 [] 4 true last))))

  pub utf8_there : any_case (text "UTF-8") s at ≡ true → at + 5 ≤ length s
  utf8_there e =
      let from1 = and_right (same 0 85) _ (sym letters ∙ e) in
      let from2 = and_right (same 1 84) _ from1 in
      let from3 = and_right (same 2 70) _ from2 in
      let from4 = and_right (same 3 45) _ from3 in
      omega (arith, byte_there s (at + 4) (digit_some _ (and_left (same 4 56) true from4)))

  module _ (t : List ℕ) (taken : t ≡ part s at 5) where
    pub utf8_short : length t < 5 → false ≡ any_case (text "UTF-8") s at
    utf8_short h = by_test (any_case (text "UTF-8") s at) refl
      where
        by_test : (r : Bool) → any_case (text "UTF-8") s at ≡ r → false ≡ r
        by_test true e =
            let there = utf8_there e in
            let long : length t ≡ min 5 (length s - at) = ap length taken ∙ simp (length-take, length-drop) in
            absurd (omega arith)
        by_test false e = refl

    byte : (k : ℕ) → k < 5 → get_or t k 0 ≡ byte_at s (at + k)
    byte k h = rw (taken, get_or-take, get_or-drop)

    abbrev own : ℕ → ℕ → Bool
    own k c = same_letter (get_or t k 0) c

    pub utf8_letters : (((own 0 85 && own 1 84) && own 2 70) && own 3 45) && own 4 56 ≡ any_case (text "UTF-8") s at
    utf8_letters =
        rw (byte 0 (omega arith), byte 1 (omega arith), byte 2 (omega arith), byte 3 (omega arith), byte 4 (omega arith))
        (five (same 0 85) (same 1 84) (same 2 70) (same 3 45) (same 4 56) ∙ sym letters)
