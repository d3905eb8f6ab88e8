-- The laws of the fields' bytes: how many there are, that a text over 35 bytes may be cut, and what they are by role. Assumes nothing.
use mathlib.Core.Path.{◌≡◌, refl, sym, ap, ◌∙◌}
use mathlib.Core.Logic.{⊎_elim}
use mathlib.Core.Bool.{Bool, true, false, cond}
use mathlib.Core.List.{List}
use Prim.Native.Nat.{ℕ, ◌≤◌, ◌<◌}
use native.Mathlib.Omega.{arith}
use lib.Dec.{eqb}
use lib.ListN.{length, take, replicate, length-take}
use lib.Seq.{sets, take_all, take-take, take-append-le}
use borrow.Author.Tests.{eq-eqb, ne_eqb, eqb-true}
use Rattle.std.specs.Prelude.{Option, Some, None}
use Rattle.wire.specs.Field.{same}
use Rattle.wire.proofs.Numbers.{bytes_length}
use Rattle.wire.proofs.Sides.{le_or_lt}
use Rattle.wire.proofs.Texts.{same_short}
use Rattle.meanings.specs.Meanings as meanings
use Rattle.meanings.proofs.Fills.{filled_length, receiver_length, other_receiver}
use Rattle.paths.specs.Roles as roles
use Rattle.fields.specs.Fields.{width_of, field_width, meant_bytes, field_bytes}
use Rattle.fields.proofs.Forms.{width_small, long_number, long_date, long_amount}

-- ---- how many

meant_length : (w : ℕ) (m : Option ℕ) → length (meant_bytes w m) ≡ w
meant_length w (Some n) = bytes_length w n
meant_length w None = bytes_length w 0

either : (a : Bool) (x y : List ℕ) (m n : ℕ) → length x ≡ m → length y ≡ n → length (cond a x y) ≡ cond a m n
either true x y m n ex ey = ex
either false x y m n ex ey = ey

text_length : (role : ℕ) (t : List ℕ) (b : Bool) → eqb role roles.receiver ≡ b
    → length (cond b (meanings.receiver t) (meanings.filled (width_of role) t)) ≡ width_of role
text_length role t true e = receiver_length t ∙ (rw (eqb-true role 29 e))
text_length role t false e = filled_length (width_of role) t

pub field_length : (role : ℕ) (t : List ℕ) → length (field_bytes role t) ≡ field_width role
unfolding field_bytes
field_length role t =
    either (eqb role roles.stated_number) _ _ _ _ (meant_length 8 (meanings.number_meant t))
    (either (eqb role roles.value_date) _ _ _ _ (meant_length 4 (meanings.date_meant t))
    (either (roles.is_amount role) _ _ _ _ (meant_length 8 (meanings.amount_meant t))
    (text_length role t (eqb role roles.receiver) refl)))

-- ---- a text that is cut to 35 bytes

module _ (t : List ℕ) (long : 35 < length t) where
  abbrev cut : List ℕ
  cut = take 35 t

  cut_length : length cut ≡ 35
  cut_length = rw (length-take 35 t) (omega arith)

  filled_cut : (w : ℕ) → w ≤ 35 → meanings.filled w cut ≡ meanings.filled w t
  filled_cut w h =
      let room = cut_length in
      take-append-le w cut (replicate w 32) (omega arith)
      ∙ take-take w 35 t h
      ∙ sym (take-append-le w t (replicate w 32) (omega arith))

  receiver_cut : meanings.receiver cut ≡ meanings.receiver t
  receiver_cut =
      let room = cut_length in
      sym (other_receiver cut (λ (e : length cut ≡ 8). omega arith))
      ∙ filled_cut 11 (omega arith)
      ∙ other_receiver t (λ (e : length t ≡ 8). omega arith)

  long_cut : (role : ℕ) → field_bytes role cut ≡ field_bytes role t
  unfolding field_bytes
  long_cut role =
      let room = cut_length in
      let whole : 35 ≤ length t = omega arith in
      let full : 35 ≤ length cut = omega arith in
      rw (
        long_number t whole,
        long_date t whole,
        long_amount t whole,
        long_number cut full,
        long_date cut full,
        long_amount cut full,
        receiver_cut,
        filled_cut (width_of role) (width_small role),
      )

  long_same : (w : List ℕ) → length w < 35 → same cut w ≡ same t w
  long_same w h =
      let room = cut_length in
      same_short cut w (λ (e : length cut ≡ length w). omega arith) ∙ sym (same_short t w (λ (e : length t ≡ length w). omega arith))

-- what is cut off tells nothing
pub field_cut : (role : ℕ) (t : List ℕ) → field_bytes role (take 35 t) ≡ field_bytes role t
field_cut role t = ⊎_elim
    (λ (h : length t ≤ 35). ap (field_bytes role) (take_all 35 t h))
    (λ (h : 35 < length t). long_cut t h role)
    (le_or_lt (length t) 35)

pub same_cut : (t w : List ℕ) → length w < 35 → same (take 35 t) w ≡ same t w
same_cut t w short = ⊎_elim
    (λ (h : length t ≤ 35). ap (λ (r : List ℕ). same r w) (take_all 35 t h))
    (λ (h : 35 < length t). long_same t h w short)
    (le_or_lt (length t) 35)

-- ---- stored

pub stored : (d : List ℕ) (place : ℕ) {r xs ys : List ℕ} → r ≡ sets d place xs → xs ≡ ys → r ≡ sets d place ys
stored d place e same = rw (← same) e

-- by role, in the order of the code's tests

module _ (role : ℕ) (t : List ℕ) where
  pub bytes_number : role ≡ roles.stated_number → meant_bytes 8 (meanings.number_meant t) ≡ field_bytes role t
  unfolding field_bytes
  bytes_number e = rw (eq-eqb role 22 e)

  pub bytes_receiver : role ≡ roles.receiver → meanings.receiver t ≡ field_bytes role t
  unfolding field_bytes
  bytes_receiver e = rw e

  module _ (other : role ≡ roles.stated_number → ⊥) where
    pub bytes_date : role ≡ roles.value_date → meant_bytes 4 (meanings.date_meant t) ≡ field_bytes role t
    unfolding field_bytes
    bytes_date e = rw (ne_eqb role 22 other, eq-eqb role 24 e)

    module _ (undated : role ≡ roles.value_date → ⊥) where
      pub bytes_amount : roles.is_amount role ≡ true → meant_bytes 8 (meanings.amount_meant t) ≡ field_bytes role t
      unfolding field_bytes
      bytes_amount e = rw (ne_eqb role 22 other, ne_eqb role 24 undated, e)

      module _ (unsummed : roles.is_amount role ≡ false) where
        pub bytes_text : (role ≡ roles.receiver → ⊥) → meanings.filled (width_of role) t ≡ field_bytes role t
        unfolding field_bytes
        bytes_text e = rw (ne_eqb role 22 other, ne_eqb role 24 undated, unsummed, ne_eqb role 29 e)
