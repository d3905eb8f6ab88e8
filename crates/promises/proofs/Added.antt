-- Keys added to a register one after the other: what it holds then, and what stays. Assumes nothing.
use mathlib.Core.Path.{◌≡◌, refl, sym, ap, ◌∙◌}
use mathlib.Core.List.{List, [], ◌∷◌, ◌++◌, map, append_assoc, append-nil}
use Prim.Native.Nat.{ℕ, ◌+◌, ◌≤◌, ◌<◌}
use native.Mathlib.Nat.{add-zero}
use native.Mathlib.Omega.{arith}
use lib.ListN.{length}
use Rattle.register.specs.Register.{key_width, entry, used, room, free, entry_at, entries_of, add}
use Rattle.register.specs.Room.{Formed}
use Rattle.register.proofs.Laws.{add_length, add_later, add_used, add_formed, free_add, entries_add}
use Rattle.promises.specs.Reading.{with_keys}

-- each is as wide as a key
unfoldable pub AllKeys : List (List ℕ) → Type 0
AllKeys [] = Unit {0}
AllKeys (k ∷ ks) = (length k ≡ key_width) × AllKeys ks

pub all_append : (xs ys : List (List ℕ)) → AllKeys xs → AllKeys ys → AllKeys (xs ++ ys)
unfolding AllKeys
all_append [] ys h h' = h'
all_append (x ∷ xs) ys h h' = (h.0, all_append xs ys h.1 h')

pub with_append : (r : List ℕ) (xs ys : List (List ℕ)) → with_keys r (xs ++ ys) ≡ with_keys (with_keys r xs) ys
unfolding with_keys
with_append r [] ys = refl
with_append r (x ∷ xs) ys = with_append (add r x) xs ys

pub record Added (before after : List ℕ) (ks : List (List ℕ)) : Type 0 where
  pub entries : entries_of after ≡ entries_of before ++ map entry ks
  pub number : used after ≡ used before + length ks
  pub later : (n : ℕ) → used before + length ks ≤ n → entry_at after n ≡ entry_at before n
  pub long : length after ≡ length before

pub none_added : (r : List ℕ) → Added r r []
none_added r = record { entries = sym (append-nil (entries_of r)); number = sym (add-zero (used r)); later = λ n h. refl; long = refl }

-- where there is room for them all
pub all_added : (r : List ℕ) (ks : List (List ℕ)) → Formed r → length ks ≤ free r → AllKeys ks → Added r (with_keys r ks) ks
unfolding with_keys AllKeys
all_added r [] f enough wide = none_added r
all_added r (k ∷ ks) f enough wide =
    let left : used r < room r = omega arith in
    let more = add_used r k f left in
    let rest = all_added (add r k) ks (add_formed r k f left) (rw (free_add r k f left) (omega arith)) wide.1 in
    let number = rest.number in
    record {
      entries =
          rest.entries
          ∙ ap (λ (l : List (List ℕ)). l ++ map entry ks) (entries_add r k f left wide.0)
          ∙ append_assoc (entries_of r) (entry k ∷ []) (map entry ks);
      number = omega arith;
      later = λ n h. rest.later n (omega arith) ∙ add_later r k wide.0 n (omega arith);
      long = rest.long ∙ add_length r k;
    }
