-- Texts of characters side by side, and filled up with spaces, are texts of characters. Assumes nothing.
use mathlib.Core.Path.{◌≡◌, refl, ap, ◌∙◌}
use mathlib.Core.Bool.{Bool, true, false, cond}
use mathlib.Core.List.{List, [], ◌∷◌, ◌++◌, append_assoc}
use Prim.Native.Nat.{ℕ, zero, suc, ◌+◌, ◌-◌, ◌≤◌}
use native.Mathlib.Omega.{arith}
use lib.Dec.{eqb}
use lib.ListN.{length, take, replicate, length-append}
use lib.Seq.{take-append-add}
use borrow.Author.Tests.{eqb-true}
use Rattle.wire.specs.Field.{text}
use Rattle.letters.specs.Characters.{single, width_of, width_at}
use Rattle.meanings.specs.Meanings.{filled, receiver}
use Rattle.documents.specs.Carried.{characters_by, characters}
use Rattle.documents.proofs.Here.{all}
use Rattle.documents.proofs.Fields.{singles}
use Rattle.documents.proofs.Firsts.{First, short, long, first_of}
use Rattle.documents.proofs.Texts.{some_left}
use Rattle.documents.proofs.Wides.{one_more_lem, single_wide}
use Rattle.documents.proofs.Sayings.{enough}

-- ---- side by side

module _ (ys : List ℕ) (more : characters ys ≡ true) where
  append_by : (n : ℕ) (xs : List ℕ) → characters_by n xs ≡ true → characters (xs ++ ys) ≡ true
  append_by zero xs e = by_list xs e
    where
      by_list : (xs : List ℕ) → characters_by zero xs ≡ true → characters (xs ++ ys) ≡ true
      by_list [] e = more
      by_list (a ∷ xs) e = absurd (some_left a xs e)
  append_by (suc n) xs e = by_list (append_by n) xs e
    where
      by_first : ((xs : List ℕ) → characters_by n xs ≡ true → characters (xs ++ ys) ≡ true) → (t : List ℕ) → First n t → characters (t ++ ys) ≡ true
      by_first rest t (short b left is one behind) =
          rw is (one_more_lem (b ∷ []) (left ++ ys) (length (left ++ ys)) (single_wide b 0 0 0 one) (rest left behind))
      by_first rest t (long b bs left is highs wide numbered behind) =
          let whole = b ∷ (bs ++ (left ++ ys)) in
          let size : length (bs ++ (left ++ ys)) ≡ length bs + length (left ++ ys) = length-append bs (left ++ ys) in
          let first = one_more_lem (b ∷ bs) (left ++ ys) (length (left ++ ys)) (record { some = omega arith; width = λ zs. wide (b ∷ (bs ++ zs)) 0 zs refl }) (rest left behind) in
          rw (is, append_assoc bs left ys) (enough (suc (length (left ++ ys))) (length whole) whole first (omega arith))

      by_list : ((xs : List ℕ) → characters_by n xs ≡ true → characters (xs ++ ys) ≡ true) → (xs : List ℕ) → characters_by (suc n) xs ≡ true → characters (xs ++ ys) ≡ true
      by_list rest [] e = more
      by_list rest (a ∷ xs) e = by_first rest (a ∷ xs) (first_of n a xs e)

pub characters_append : (xs ys : List ℕ) → characters xs ≡ true → characters ys ≡ true → characters (xs ++ ys) ≡ true
characters_append xs ys a b = append_by ys b (length xs) xs a

-- ---- filled up

pub spaces_single : (n k : ℕ) → all single (take k (replicate n 32)) ≡ true
unfolding all
spaces_single zero zero = refl
spaces_single zero (suc k) = refl
spaces_single (suc n) zero = refl
spaces_single (suc n) (suc k) = spaces_single n k

pub filled_split : (w : ℕ) (t : List ℕ) → length t ≤ w → filled w t ≡ t ++ take (w - length t) (replicate w 32)
filled_split w t h =
    let room : w ≡ length t + (w - length t) = omega arith in
    ap (λ (k : ℕ). take k (t ++ replicate w 32)) room ∙ take-append-add t (replicate w 32) (w - length t)

pub filled_characters : (w : ℕ) (t : List ℕ) → length t ≤ w → characters t ≡ true → characters (filled w t) ≡ true
filled_characters w t h e =
    rw (filled_split w t h) (characters_append t (take (w - length t) (replicate w 32)) e (singles (take (w - length t) (replicate w 32)) (spaces_single w (w - length t))))

office : characters (text "XXX") ≡ true
unfolding characters_by width_at width_of
office = refl

pub receiver_characters : (t : List ℕ) → length t ≤ 11 → characters t ≡ true → characters (receiver t) ≡ true
unfolding receiver
receiver_characters t h e = by_test (eqb (length t) 8) refl
  where
    by_test : (b : Bool) → eqb (length t) 8 ≡ b → characters (filled 11 (cond b (t ++ text "XXX") t)) ≡ true
    by_test true eight =
        let size : length (t ++ text "XXX") ≡ length t + 3 = length-append t (text "XXX") in
        let is = eqb-true (length t) 8 eight in
        filled_characters 11 (t ++ text "XXX") (omega arith) (characters_append t (text "XXX") e office)
    by_test false eight = filled_characters 11 t h e
