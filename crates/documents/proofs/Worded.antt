-- A text of a field, written whole or short, is a text of characters that fits and becomes the field's own bytes. Assumes nothing.
use mathlib.Core.Path.{◌≡◌, refl, sym, ap, ◌∙◌}
use mathlib.Core.Bool.{Bool, true, false, cond, and-eq-true_iff}
use mathlib.Core.List.{List, [], ◌∷◌, ◌++◌}
use Prim.Native.Nat.{ℕ, zero, suc, ◌-◌, ◌≤◌}
use native.Mathlib.Omega.{arith}
use lib.Dec.{eqb, leb}
use lib.ListN.{length, take, drop, replicate, length-append, length-take, take-append-drop}
use lib.Seq.{take_at}
use borrow.Author.Tests.{le-leb}
use Rattle.wire.specs.Field.{text, same}
use Rattle.wire.proofs.Texts.{same_equal}
use Rattle.letters.specs.Characters.{single}
use Rattle.letters.proofs.Characters.{within_true}
use Rattle.wording.specs.Wording.{trimmed, kept}
use Rattle.wording.proofs.Laws.{kept_within}
use Rattle.meanings.specs.Meanings.{filled, receiver}
use Rattle.meanings.proofs.Written.{filled_trimmed}
use Rattle.paths.specs.Roles as roles
use Rattle.fields.specs.Fields.{fits, field_bytes}
use Rattle.documents.specs.Brevity.{short_receiver, shortened, Brevity, worded}
use Rattle.documents.specs.Carried.{characters_by, characters}
use Rattle.documents.proofs.Here.{all}
use Rattle.documents.proofs.Fields.{Carries}
use Rattle.documents.proofs.Firsts.{high, First, short, long, first_of}
use Rattle.documents.proofs.Texts.{some_left}
use Rattle.documents.proofs.Safe.{single_small}
use Rattle.documents.proofs.Wides.{one_more_lem, single_wide}
use Rattle.documents.proofs.Sayings.{none_left, enough}
use Rattle.documents.proofs.Fills.{filled_split, spaces_single}

-- ---- what stands before characters of one byte

-- no longer character reaches into them
record Before (xs ys more rest : List ℕ) : Type 0 where
  left : List ℕ
  front : xs ≡ more ++ left
  back : rest ≡ left ++ ys

not_high : (ys : List ℕ) → all single ys ≡ true → (a : ℕ) (rest : List ℕ) → high a ≡ true → ys ≡ a ∷ rest → ⊥
unfolding all
not_high ys ones a rest tall is =
    let both = (and-eq-true_iff (single a) (all single rest)).0 (rw is at ones) in
    let small = single_small a both.0 in
    let big = within_true 128 255 a tall in
    omega arith

module _ (ys : List ℕ) (ones : all single ys ≡ true) where
  split : (more rest xs : List ℕ) → all high more ≡ true → xs ++ ys ≡ more ++ rest → Before xs ys more rest
  unfolding all
  split [] rest xs tall is = record { left = xs; front = refl; back = sym is }
  split (a ∷ more) rest [] tall is = absurd (not_high ys ones a (more ++ rest) ((and-eq-true_iff (high a) (all high more)).0 tall).0 is)
  split (a ∷ more) rest (x ∷ xs) tall is =
      let heads : x ≡ a = cc in
      let tails : xs ++ ys ≡ more ++ rest = cc in
      let further = split more rest xs ((and-eq-true_iff (high a) (all high more)).0 tall).1 tails in
      record { left = further.left; front = rw heads (ap (λ (l : List ℕ). a ∷ l) further.front); back = further.back }

  abbrev Fronts : ℕ → Type 0
  Fronts n = (xs : List ℕ) → characters_by n (xs ++ ys) ≡ true → characters_by n xs ≡ true

  front_by : (n : ℕ) → Fronts n
  front_by zero xs e = by_list xs e
    where
      by_list : Fronts zero
      by_list [] e = none_left zero
      by_list (a ∷ xs) e = absurd (some_left a (xs ++ ys) e)
  front_by (suc n) xs e = by_list (front_by n) xs e
    where
      by_first : Fronts n → (a : ℕ) (xs : List ℕ) → First n (a ∷ (xs ++ ys)) → characters_by (suc n) (a ∷ xs) ≡ true
      by_first rest a xs (short b left is one behind) =
          let heads : a ≡ b = cc in
          let tails : xs ++ ys ≡ left = cc in
          one_more_lem (a ∷ []) xs n (single_wide a 0 0 0 (rw heads one)) (rest xs (rw tails behind))
      by_first rest a xs (long b bs left is highs wide numbered behind) =
          let cut = split (b ∷ bs) left (a ∷ xs) highs is in
          rw cut.front (one_more_lem (b ∷ bs) cut.left n (record { some = omega arith; width = λ zs. wide (b ∷ (bs ++ zs)) 0 zs refl }) (rest cut.left (rw cut.back at behind)))

      by_list : Fronts n → Fronts (suc n)
      by_list rest [] e = none_left (suc n)
      by_list rest (a ∷ xs) e = by_first rest a xs (first_of n a (xs ++ ys) e)

  front_characters : (xs : List ℕ) → characters (xs ++ ys) ≡ true → characters xs ≡ true
  front_characters xs e = let size = length-append xs ys in enough (length (xs ++ ys)) (length xs) xs (front_by (length (xs ++ ys)) xs e) (omega arith)

-- ---- a text that is filled up to the field's bytes

record Kept (w : ℕ) (said t : List ℕ) : Type 0 where
  carried : characters said ≡ true
  form : leb (length said) w ≡ true
  back : filled w said ≡ t

module _ (w : ℕ) (t : List ℕ) (carried : characters t ≡ true) (e : length t ≡ w) where
  whole_kept : Kept w t t
  whole_kept = record { carried = carried; form = rw e (le-leb w w (omega arith)); back = take_at t (replicate w 32) w e }

  trimmed_kept : Kept w (trimmed t) t
  trimmed_kept =
      let within = kept_within t in
      let long : length (trimmed t) ≤ w = (rw (length-take (kept t) t) (omega arith)) in
      let spaces : List ℕ = take (w - length (trimmed t)) (replicate w 32) in
      let is : t ≡ trimmed t ++ spaces = sym (filled_trimmed w t e) ∙ filled_split w (trimmed t) long in
      record {
        carried = front_characters spaces (spaces_single w (w - length (trimmed t))) (trimmed t) (ap characters (sym is) ∙ carried);
        form = le-leb (length (trimmed t)) w long;
        back = filled_trimmed w t e;
      }

  either_kept : (b : Bool) → Kept w (cond b (trimmed t) t) t
  either_kept true = trimmed_kept
  either_kept false = whole_kept

-- ---- a receiver

module _ (t : List ℕ) (carried : characters t ≡ true) (e : length t ≡ 11) where
  whole_receiver : Carries roles.receiver t t
  unfolding fits field_bytes receiver
  whole_receiver = let k = whole_kept 11 t carried e in record { carried = k.carried; form = k.form; back = (rw e) ∙ k.back }

  office_receiver : drop 8 t ≡ text "XXX" → Carries roles.receiver (take 8 t) t
  unfolding fits field_bytes receiver all
  office_receiver office =
      let is : take 8 t ++ text "XXX" ≡ t = ap (λ (l : List ℕ). take 8 t ++ l) (sym office) ∙ take-append-drop 8 t in
      let eight : length (take 8 t) ≡ 8 = length-take 8 t ∙ (rw e) in
      record {
        carried = front_characters (text "XXX") refl (take 8 t) (ap characters is ∙ carried);
        form = rw eight;
        back = rw (eight, is) (whole_kept 11 t carried e).back;
      }

  trimmed_receiver : eqb (length (trimmed t)) 8 ≡ false → Carries roles.receiver (trimmed t) t
  unfolding fits field_bytes receiver
  trimmed_receiver other = let k = trimmed_kept 11 t carried e in record { carried = k.carried; form = k.form; back = (rw other) ∙ k.back }

  short_receiver_lem : Carries roles.receiver (short_receiver t) t
  unfolding short_receiver
  short_receiver_lem = by_tests_lem (same (drop 8 t) (text "XXX")) refl (eqb (length (trimmed t)) 8) refl
    where
      by_tests_lem : (p : Bool) → same (drop 8 t) (text "XXX") ≡ p → (q : Bool) → eqb (length (trimmed t)) 8 ≡ q
          → Carries roles.receiver (cond p (take 8 t) (cond q t (trimmed t))) t
      by_tests_lem true office q eight = office_receiver (same_equal (drop 8 t) (text "XXX") office)
      by_tests_lem false office true eight = whole_receiver
      by_tests_lem false office false eight = trimmed_receiver eight

-- ---- each field that is kept as text

module _ (brief : Brevity) (t : List ℕ) (carried : characters t ≡ true) where
  pub bulk_identifier_carries : length t ≡ 35 → Carries roles.bulk_identifier (worded brief roles.bulk_identifier t) t
  unfolding fits field_bytes shortened
  bulk_identifier_carries e = let k = either_kept 35 t carried e (brief roles.bulk_identifier t) in record { carried = k.carried; form = k.form; back = k.back }

  pub identifier_carries : length t ≡ 35 → Carries roles.identifier (worded brief roles.identifier t) t
  unfolding fits field_bytes shortened
  identifier_carries e = let k = either_kept 35 t carried e (brief roles.identifier t) in record { carried = k.carried; form = k.form; back = k.back }

  pub sender_carries : length t ≡ 8 → Carries roles.sender (worded brief roles.sender t) t
  unfolding fits field_bytes shortened
  sender_carries e = let k = either_kept 8 t carried e (brief roles.sender t) in record { carried = k.carried; form = k.form; back = k.back }

  pub reason_carries : length t ≡ 4 → Carries roles.reason (worded brief roles.reason t) t
  unfolding fits field_bytes shortened
  reason_carries e = let k = either_kept 4 t carried e (brief roles.reason t) in record { carried = k.carried; form = k.form; back = k.back }

  pub name_carries : length t ≡ 15 → Carries roles.original_name (worded brief roles.original_name t) t
  unfolding fits field_bytes shortened
  name_carries e = let k = either_kept 15 t carried e (brief roles.original_name t) in record { carried = k.carried; form = k.form; back = k.back }

  pub receiver_carries : length t ≡ 11 → Carries roles.receiver (worded brief roles.receiver t) t
  unfolding shortened
  receiver_carries e = by_test (brief roles.receiver t)
    where
      by_test : (b : Bool) → Carries roles.receiver (cond b (short_receiver t) t) t
      by_test true = short_receiver_lem t carried e
      by_test false = whole_receiver t carried e
