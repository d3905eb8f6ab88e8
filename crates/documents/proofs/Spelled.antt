-- A spelled character stands for itself, at any place of a text. Assumes nothing.
use mathlib.Core.Path.{◌≡◌, refl, sym, ap, ◌∙◌}
use mathlib.Core.Bool.{Bool, true, false, cond, not, ◌&&◌, ◌||◌, and-eq-true_iff, false≢true}
use mathlib.Core.List.{List, [], ◌∷◌, ◌++◌}
use Prim.Native.Nat.{ℕ, zero, suc, ◌+◌, ◌<◌}
use native.Mathlib.Nat.{add-sub_cancel_left}
use native.Mathlib.Omega.{arith}
use lib.Dec.{eqb, ltb}
use lib.ListN.{length, take, drop}
use lib.Seq.{drop-drop, get_or-drop}
use borrow.Author.Tests.{eqb-true, lt-ltb, le-ltb, not-true}
use Rattle.wire.specs.Field.{text, same}
use Rattle.wire.specs.Places.{every_from}
use Rattle.wire.proofs.Scans.{every_holds}
use Rattle.wire.proofs.Texts.{same_equal}
use Rattle.letters.specs.Places.{byte_at, run, between}
use Rattle.letters.specs.Characters.{is_character, single}
use Rattle.letters.specs.References.{digit_of, digit_in, numeral_from, numeral, numbered_at, stands, reference_at, refers}
use Rattle.std.specs.Prelude.{Option, Some, None}
use Rattle.letters.specs.declared.Reference.{Reference}
use Rattle.decimals.specs.Decimal.{digits_of, decimal_in, decimal}
use Rattle.documents.specs.Spelling.{Way, itself, decimally, hexadecimally, by_name, referred, hexadecimal_in, spelled_by}

-- ---- a reference by what is left of the text

abbrev moved : ℕ → Option Reference → Option Reference
moved at (Some r) = refers r.character (at + r.next)
moved at None = None

-- a number, from whether there are digits, what is behind them, they, and the place after it
abbrev numbered_if : ℕ → Bool → ℕ → List ℕ → ℕ → Option Reference
numbered_if base some b digits next =
    cond some (cond (eqb b 59) (cond (is_character (numeral base digits)) (refers (numeral base digits) next) None) None) None

module _ (base at : ℕ) where
  numbered_moved : (some other : Bool) (b c : ℕ) (xs ys : List ℕ) (m n : ℕ) → some ≡ other → b ≡ c → xs ≡ ys → m ≡ at + n
      → numbered_if base some b xs m ≡ moved at (numbered_if base other c ys n)
  numbered_moved some other b c xs ys m n p q r t = rw (p, q, r, t) (by_tests_lem other (eqb c 59) (is_character (numeral base ys)))
    where
      by_tests_lem : (t u v : Bool)
          → cond t (cond u (cond v (refers (numeral base ys) (at + n)) None) None) None
          ≡ moved at (cond t (cond u (cond v (refers (numeral base ys) n) None) None) None)
      by_tests_lem true true true = refl
      by_tests_lem true true false = refl
      by_tests_lem true false v = refl
      by_tests_lem false u v = refl

more_moved : (a k w : ℕ) → ltb (a + k) (a + k + w) ≡ ltb k (k + w)
more_moved a k zero = le-ltb (a + k) (a + k + 0) (omega arith) ∙ sym (le-ltb k (k + 0) (omega arith))
more_moved a k (suc w) = lt-ltb (a + k) (a + k + suc w) (omega arith) ∙ sym (lt-ltb k (k + suc w) (omega arith))

module _ (s : List ℕ) (at : ℕ) where
  number_moved : (base k : ℕ) → numbered_at base s (at + k) ≡ moved at (numbered_at base (drop at s) k)
  unfolding numbered_at
  number_moved base k =
      let w : ℕ = run (digit_in base) (drop (at + k) s) in
      let v : ℕ = run (digit_in base) (drop k (drop at s)) in
      let width : v ≡ w = ap (run (digit_in base)) (drop-drop k at s) in
      let digits : between s (at + k) (at + k + w) ≡ between (drop at s) k (k + v) =
      rw (width, add-sub_cancel_left (at + k) w, add-sub_cancel_left k w) (ap (take w) (sym (drop-drop k at s))) in
      let place : at + k + w ≡ at + (k + v) = omega arith in
      let behind : byte_at s (at + k + w) ≡ byte_at (drop at s) (k + v) = ap (byte_at s) place ∙ sym (get_or-drop at s (k + v) 0) in
      let some : ltb (at + k) (at + k + w) ≡ ltb k (k + v) = more_moved at k w ∙ ap (λ (n : ℕ). ltb k (k + n)) (sym width) in
      numbered_moved base at _ _ _ _ _ _ _ _ some behind digits (omega arith)

  pub reference_moved : reference_at s at ≡ moved at (reference_at (drop at s) 0)
  unfolding reference_at
  reference_moved =
      by_tests_lem (stands s at (text "&lt;")) (stands s at (text "&gt;")) (stands s at (text "&amp;")) (stands s at (text "&apos;")) (stands s at (text "&quot;"))
      (stands s at (text "&#x")) (stands s at (text "&#")) (numbered_at 16 s (at + 3)) (numbered_at 10 s (at + 2))
      (numbered_at 16 (drop at s) 3) (numbered_at 10 (drop at s) 2) (number_moved 16 3) (number_moved 10 2)
    where
      by_tests_lem : (a b c d e f g : Bool) (x y u v : Option Reference) → x ≡ moved at u → y ≡ moved at v
          → cond a (refers 60 (at + 4)) (cond b (refers 62 (at + 4)) (cond c (refers 38 (at + 5)) (cond d (refers 39 (at + 6)) (cond e (refers 34 (at + 6)) (cond f x (cond g y None))))))
          ≡ moved at (cond a (refers 60 4) (cond b (refers 62 4) (cond c (refers 38 5) (cond d (refers 39 6) (cond e (refers 34 6) (cond f u (cond g v None)))))))
      by_tests_lem true b c d e f g x y u v p q = refl
      by_tests_lem false true c d e f g x y u v p q = refl
      by_tests_lem false false true d e f g x y u v p q = refl
      by_tests_lem false false false true e f g x y u v p q = refl
      by_tests_lem false false false false true f g x y u v p q = refl
      by_tests_lem false false false false false true g x y u v p q = p
      by_tests_lem false false false false false false true x y u v p q = q
      by_tests_lem false false false false false false false x y u v p q = refl

-- ---- a spelled character is one that may stand as it is, or a reference to it

pub data Spelt (s : List ℕ) (at c : ℕ) (word : List ℕ) : Type 0 where
  plain : word ≡ c ∷ [] → referred c ≡ false → Spelt s at c word
  refers_to : reference_at s at ≡ refers c (at + length word) → Spelt s at c word

abbrev stands_for : ℕ → ℕ → Option Reference → Bool
stands_for c n (Some r) = eqb r.character c && eqb r.next n
stands_for c n None = false

abbrev right : List ℕ → List ℕ → ℕ → Bool
right word ys c = not (single c) || (same word (c ∷ []) && not (referred c)) || stands_for c (length word) (reference_at (word ++ ys) 0)

-- of all characters of one byte, by computing
every_right : (w : Way) (ys : List ℕ) → every_from (λ c. right (spelled_by w c) ys c) 128 0 ≡ true
unfolding every_from same is_character run digit_of numeral_from numbered_at reference_at decimal decimal_in digits_of hexadecimal_in spelled_by
every_right itself ys = refl
every_right decimally ys = refl
every_right hexadecimally ys = refl
every_right by_name ys = refl

told_stands : (c n : ℕ) (r : Option Reference) → stands_for c n r ≡ true → r ≡ refers c n
told_stands c n (Some r) e =
    let both = (and-eq-true_iff (eqb r.character c) (eqb r.next n)).0 e in
    rw (← (eqb-true r.character c both.0), ← (eqb-true r.next n both.1))
told_stands c n None e = absurd (false≢true e)

-- at any place
module _ (s : List ℕ) (at c : ℕ) (word ys : List ℕ) (one : single c ≡ true) (e : drop at s ≡ word ++ ys) where
  spelt_right : right word ys c ≡ true → Spelt s at c word
  spelt_right held = by_test (same word (c ∷ []) && not (referred c)) refl (rw one at held)
    where
      by_test : (t : Bool) → (same word (c ∷ []) && not (referred c)) ≡ t → (t || stands_for c (length word) (reference_at (word ++ ys) 0)) ≡ true → Spelt s at c word
      by_test true is h =
          let both = (and-eq-true_iff (same word (c ∷ [])) (not (referred c))).0 is in
          plain (same_equal word (c ∷ []) both.0) (not-true (referred c) both.1)
      by_test false is h = refers_to (reference_moved s at ∙ (rw (e, told_stands c (length word) (reference_at (word ++ ys) 0) h)))

pub spelt_here : (w : Way) (s : List ℕ) (at c : ℕ) (ys : List ℕ) → c < 128 → single c ≡ true → drop at s ≡ spelled_by w c ++ ys → Spelt s at c (spelled_by w c)
spelt_here w s at c ys small one e =
    spelt_right s at c (spelled_by w c) ys one e (every_holds (λ k. right (spelled_by w k) ys k) 128 0 c (every_right w ys) (omega arith) (omega arith))
