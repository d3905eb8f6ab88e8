-- The laws of the register that the crates above cite, and those that the proofs here share. Assumes nothing.
use mathlib.Core.Path.{◌≡◌, refl, sym, ap, ap₂, ◌∙◌}
use mathlib.Core.Logic.{⊎_elim}
use mathlib.Core.Bool.{Bool, true, false, cond, ◌&&◌, ◌||◌, false≢true, or_assoc, or-false, or-true}
use mathlib.Core.List.Memᴰ
use mathlib.Core.List.{List, [], ◌∷◌, ◌++◌, map, append-nil, Memᴰ}
use mathlib.Core.Option.{some}
use Prim.Native.Nat.{ℕ, zero, suc, ◌+◌, ◌-◌, ◌*◌, ◌/◌, ◌^◌, ◌≤◌, ◌<◌}
use native.Mathlib.Nat.{add-zero, zero-add, add-suc, suc-add, mod-eq_of_lt}
use native.Mathlib.Omega.{arith}
use lib.Dec.{lit≤, leb, eqb}
use lib.ListN.{length, drop, set, replicate, length-append, drop_of_length-le}
use lib.Seq.{sets, sets-eq, length-sets, take_all, take-take}
use borrow.Author.Tests.{leb-true, eqb-true, le-leb, eq-eqb}
use Rattle.wire.specs.Field.{number_of, bytes_of, same}
use Rattle.wire.specs.Places.{first_from}
use Rattle.wire.proofs.Numbers.{bytes_length, written_read}
use Rattle.wire.proofs.Texts.{same_itself, same_equal}
use Rattle.wire.proofs.Stores.{sets_append, part_stored, part_before, part_after}
use Rattle.register.specs.Register.{sender_width, tag_place, key_width, key, entry_width, entry, key_in, most_entries, used_width, used, room, free, entry_place, entry_at, key_at, well_formed, in_use, entries_to, entries_of, keys_of, listed, search, is_there, stands, add}
use Rattle.register.specs.Room.{Formed, Spare, FormTold, Parts}

-- ---- the form

form_told : (r : List ℕ) → well_formed r ≡ true → Formed r
unfolding well_formed
form_told r e =
    let tests = three (leb used_width (length r)) (eqb (length r) (used_width + entry_width * room r)) (leb (room r) most_entries) (leb (used r) (room r)) e in
    record {
      whole = eqb-true (length r) (used_width + entry_width * room r) tests.0;
      few = leb-true (room r) most_entries tests.1;
      within = leb-true (used r) (room r) tests.2;
    }
  where
    three : (a b c d : Bool) → (a && b && c && d) ≡ true → (b ≡ true) × (c ≡ true) × (d ≡ true)
    three true true true d e = (refl, refl, e)
    three true true false d e = absurd (false≢true e)
    three true false c d e = absurd (false≢true e)
    three false b c d e = absurd (false≢true e)

pub formed_told : (r : List ℕ) (told : Bool) → told ≡ well_formed r → FormTold r told
formed_told r told e = record { is = e; formed = λ h. form_told r (sym e ∙ h) }

-- and the facts are the test
pub well_formed_lem : (r : List ℕ) → Formed r → well_formed r ≡ true
unfolding well_formed
well_formed_lem r f =
    let long : used_width ≤ length r = omega (arith, f.whole) in
    rw (le-leb used_width (length r) long, eq-eqb (length r) (used_width + entry_width * room r) f.whole, le-leb (room r) most_entries f.few, le-leb (used r) (room r) f.within)

-- ---- a key

front_length : (s i : List ℕ) → Parts s i → length (s ++ i) ≡ tag_place
front_length s i p = simp length-append (omega (arith, p.sender_wide, p.identifier_wide))

pub key_length : (s i : List ℕ) (t : ℕ) → Parts s i → length (key s i t) ≡ key_width
key_length s i t p = simp length-append (omega (arith, p.sender_wide, p.identifier_wide))

-- a text as long as what it is written over
sets_whole : (d xs : List ℕ) → length xs ≡ length d → sets d 0 xs ≡ xs
sets_whole d xs e =
    let past : length d ≤ 0 + length xs = omega arith in
    sets-eq xs d 0 (omega arith) ∙ (rw (drop_of_length-le d past) (append-nil xs))

-- the parts written one after the other
pub key_written : (s i : List ℕ) (t : ℕ) (first second : List ℕ) → Parts s i → first ≡ sets (replicate key_width 0) 0 s → second ≡ sets first sender_width i
    → set second tag_place t ≡ key s i t
key_written s i t first second p ef es =
    let blank : List ℕ = replicate key_width 0 in
    let place : 0 + length (s ++ i) ≡ tag_place = ap (λ (n : ℕ). 0 + n) (front_length s i p) in
    sym (sets_append blank 0 (s ++ i) (t ∷ []) ∙ (rw (place, sets_append blank 0 s i, p.sender_wide, es, ef)))
    ∙ sets_whole blank (key s i t) (key_length s i t p)

-- ---- the entry of a key: only here is it known what is stored besides

pub entry_width_lem : (k : List ℕ) → length k ≡ key_width → length (entry k) ≡ entry_width
unfolding entry
entry_width_lem k wide = wide

pub key_of_entry : (k : List ℕ) → length k ≡ key_width → key_in (entry k) ≡ k
unfolding entry
key_of_entry k wide = take_all key_width k (omega arith)

key_at_lem : (r : List ℕ) (n : ℕ) → key_in (entry_at r n) ≡ key_at r n
key_at_lem r n = take-take key_width entry_width (drop (entry_place n) r) (lit≤ tt)

-- ---- a key added: what stays, and what is new

module _ (r k : List ℕ) where
  pub add_length : length (add r k) ≡ length r
  unfolding add
  add_length =
      length-sets (sets r (entry_place (used r)) (entry k)) 0 (bytes_of used_width (used r + 1)) ∙ length-sets r (entry_place (used r)) (entry k)

  pub add_room : room (add r k) ≡ room r
  add_room = ap (λ (n : ℕ). (n - used_width) / entry_width) add_length

  -- past the number, only the entry was written
  past_number : (n : ℕ) → entry_at (add r k) n ≡ entry_at (sets r (entry_place (used r)) (entry k)) n
  unfolding add
  past_number n =
      let after : 0 + length (bytes_of used_width (used r + 1)) ≤ entry_place n = rw (bytes_length used_width (used r + 1)) (omega arith) in
      part_after (sets r (entry_place (used r)) (entry k)) 0 (bytes_of used_width (used r + 1)) (entry_place n) entry_width after

  pub add_old : (n : ℕ) → n < used r → entry_at (add r k) n ≡ entry_at r n
  add_old n h = past_number n ∙ part_before r (entry_place (used r)) (entry k) (entry_place n) entry_width (omega arith)

  pub add_later : length k ≡ key_width → (n : ℕ) → used r < n → entry_at (add r k) n ≡ entry_at r n
  add_later wide n h =
      let stored : length (entry k) ≡ entry_width = entry_width_lem k wide in
      past_number n ∙ part_after r (entry_place (used r)) (entry k) (entry_place n) entry_width (omega arith)

  module _ (f : Formed r) (left : used r < room r) where
    pub add_used : used (add r k) ≡ used r + 1
    unfolding add
    add_used =
        let wide : 0 + used_width ≤ length (sets r (entry_place (used r)) (entry k)) = rw (length-sets r (entry_place (used r)) (entry k)) (omega (arith, f.whole)) in
        let fits : used r + 1 < 256 ^ used_width = omega (arith, f.few) in
        ap number_of (part_stored (sets r (entry_place (used r)) (entry k)) 0 used_width (bytes_of used_width (used r + 1)) (bytes_length used_width (used r + 1)) wide)
        ∙ written_read used_width (used r + 1)
        ∙ mod-eq_of_lt fits

    pub add_formed : Formed (add r k)
    add_formed = record {
      whole = rw add_length f.whole;
      few = rw add_room f.few;
      within = rw (add_used, add_room) (omega arith);
    }

    pub free_add : free (add r k) ≡ free r - 1
    free_add = rw (add_used, add_room) (omega arith)

    pub add_new : length k ≡ key_width → entry_at (add r k) (used r) ≡ entry k
    add_new wide =
        past_number (used r) ∙ part_stored r (entry_place (used r)) entry_width (entry k) (entry_width_lem k wide) (omega (arith, f.whole))

-- places left, after none and after one came into use
pub spare_less : (r : List ℕ) (m n : ℕ) → n ≤ m → Spare r m → Spare r n
spare_less r m n h s = record { formed = s.formed; left = (let l = s.left in omega arith) }

pub spare_add : (r k : List ℕ) (n : ℕ) → Spare r (suc n) → Spare (add r k) n
spare_add r k n s =
    let enough = s.left in
    let left : used r < room r = omega arith in
    record { formed = add_formed r k s.formed left; left = rw (free_add r k s.formed left) (omega arith) }

-- ---- the entries in use, and their keys

to_kept : (r k : List ℕ) (n : ℕ) → n ≤ used r → entries_to (add r k) n ≡ entries_to r n
unfolding entries_to
to_kept r k zero h = refl
to_kept r k (suc n) h = rw (to_kept r k n (omega arith), add_old r k n h)

pub entries_add : (r k : List ℕ) → Formed r → used r < room r → length k ≡ key_width → entries_of (add r k) ≡ entries_of r ++ (entry k ∷ [])
unfolding entries_to
entries_add r k f left wide =
    let before : in_use r ≡ used r = omega arith in
    let after : in_use (add r k) ≡ suc (used r) = rw (add_used r k f left, add_room r k) (omega arith) in
    rw (after, before, to_kept r k (used r) (omega arith), add_new r k f left wide)

keys_append : (es fs : List (List ℕ)) → map key_in (es ++ fs) ≡ map key_in es ++ map key_in fs
keys_append [] fs = refl
keys_append (e ∷ es) fs = ap (λ (ks : List (List ℕ)). key_in e ∷ ks) (keys_append es fs)

pub keys_add : (r k : List ℕ) → Formed r → used r < room r → length k ≡ key_width → keys_of (add r k) ≡ keys_of r ++ (k ∷ [])
keys_add r k f left wide =
    ap (map key_in) (entries_add r k f left wide)
    ∙ keys_append (entries_of r) (entry k ∷ [])
    ∙ ap (λ (x : List ℕ). keys_of r ++ (x ∷ [])) (key_of_entry k wide)

-- ---- what stands in the register

pub listed_append : (xs ys : List (List ℕ)) (x : List ℕ) → listed (xs ++ ys) x ≡ (listed xs x || listed ys x)
unfolding listed
listed_append [] ys x = refl
listed_append (k ∷ ks) ys x = rw (listed_append ks ys x) (sym (or_assoc (same k x) (listed ks x) (listed ys x)))

listed_last : (ks : List (List ℕ)) (k x : List ℕ) → listed (ks ++ (k ∷ [])) x ≡ (listed ks x || same k x)
unfolding listed
listed_last ks k x = listed_append ks (k ∷ []) x ∙ ap (λ (t : Bool). listed ks x || t) (or-false (same k x))

pub there_step : (f : ℕ → Bool) (n i : ℕ) → is_there (first_from f (suc n) i) ≡ (f i || is_there (first_from f n (suc i)))
unfolding first_from
there_step f n i = by_test (f i)
  where
    by_test : (t : Bool) → is_there (cond t (some i) (first_from f n (suc i))) ≡ (t || is_there (first_from f n (suc i)))
    by_test true = refl
    by_test false = refl

there_last : (f : ℕ → Bool) (n i : ℕ) → is_there (first_from f (suc n) i) ≡ (is_there (first_from f n i) || f (i + n))
unfolding first_from
there_last f zero i = there_step f zero i ∙ or-false (f i) ∙ ap f (sym (add-zero i))
there_last f (suc n) i =
    there_step f (suc n) i
    ∙ (rw (there_last f n (suc i), there_step f n i, suc-add i n, add-suc i n) (sym (or_assoc (f i) (is_there (first_from f n (suc i))) (f (suc (i + n))))))

found_to : (r x : List ℕ) (n : ℕ) → is_there (first_from (λ k. same (key_at r k) x) n 0) ≡ listed (map key_in (entries_to r n)) x
unfolding entries_to listed first_from
found_to r x zero = refl
found_to r x (suc n) =
    there_last (λ k. same (key_at r k) x) n 0
    ∙ ap₂ ◌||◌ (found_to r x n) (ap (λ (k : ℕ). same (key_at r k) x) (zero-add n))
    ∙ sym (
    ap (λ (ks : List (List ℕ)). listed ks x) (keys_append (entries_to r n) (entry_at r n ∷ []))
    ∙ listed_last (map key_in (entries_to r n)) (key_in (entry_at r n)) x
    ∙ ap (λ (k : List ℕ). listed (map key_in (entries_to r n)) x || same k x) (key_at_lem r n))

pub stands_listed : (r x : List ℕ) → stands r x ≡ listed (keys_of r) x
unfolding stands search
stands_listed r x = found_to r x (in_use r)

-- it stands there exactly if it is the key of an entry in use
pub listed_member : (ks : List (List ℕ)) (x : List ℕ) → listed ks x ≡ true → Memᴰ x ks
unfolding listed
listed_member [] x h = absurd (false≢true h)
listed_member (k ∷ ks) x h = by_test (listed_member ks x) (same k x) refl h
  where
    by_test : (listed ks x ≡ true → Memᴰ x ks) → (t : Bool) → same k x ≡ t → (t || listed ks x) ≡ true → Memᴰ x (k ∷ ks)
    by_test rest true here all = Memᴰ.head (sym (same_equal k x here))
    by_test rest false here all = Memᴰ.tail (rest all)

pub member_listed : (ks : List (List ℕ)) (x : List ℕ) → Memᴰ x ks → listed ks x ≡ true
unfolding listed
member_listed [] x m = absurd (Memᴰ.not-nil m)
member_listed (k ∷ ks) x m = ⊎_elim
    (λ (h : x ≡ k). rw (← h, same_itself x))
    (λ (h : Memᴰ x ks). rw (member_listed ks x h) (or-true (same k x)))
    (Memᴰ.cases_cons m)

pub stands_member : (r x : List ℕ) → (stands r x ≡ true → Memᴰ x (keys_of r)) × (Memᴰ x (keys_of r) → stands r x ≡ true)
stands_member r x = (λ h. listed_member (keys_of r) x (sym (stands_listed r x) ∙ h), λ m. stands_listed r x ∙ member_listed (keys_of r) x m)
