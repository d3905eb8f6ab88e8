-- A field's element in a part of a text is read as it is in the whole, where it ends inside the part. Assumes nothing.
use mathlib.Core.Path.{◌≡◌, sym, ap, ap₂, ◌∙◌}
use mathlib.Core.Bool.{Bool, true, not, ◌||◌, false≢true}
use mathlib.Core.List.{List, []}
use Prim.Native.Nat.{ℕ, suc, ◌+◌, ◌-◌, ◌≤◌, ◌<◌}
use native.Mathlib.Omega.{arith}
use lib.ListN.{length}
use Rattle.letters.specs.Places.{byte_at}
use Rattle.std.specs.Prelude.{Ok, Result, Err}
use Rattle.letters.specs.declared.Turn.TheVariants.{Ends}
use Rattle.tags.specs.Names.{name_start, name_byte, name_end}
use Rattle.tags.specs.Tags.{start_at, end_at}
use Rattle.tags.specs.declared.Tag.{Tag}
use Rattle.tags.specs.declared.Tag.TheVariants.{Open, Empty}
use Rattle.tags.proofs.Tags.{open_forward, end_forward}
use Rattle.prose.specs.Prose.{text_at, said_at}
use Rattle.prose.proofs.Turns.{text_forward, text_sign}
use Rattle.paths.specs.Roles as roles
use Rattle.fields.specs.Fields.{fits}
use Rattle.elements.specs.Forest.{Forest, none, tree}
use Rattle.elements.specs.Grammar.{Parsed, read, in_euros, filled_field, field_at}
use Rattle.elements.proofs.Forward.{reached, held}
use Rattle.joining.specs.Lowered.{lowered}
use Rattle.joining.proofs.Parts.{Part, run_in}
use Rattle.joining.proofs.Tags.{Sound, lower_tag, Started, started, closed_behind, EndsAt, closed_ends, start_in, end_in_lem}
use Rattle.joining.proofs.Euros.{euros_in}
use Rattle.joining.proofs.Prose.{text_in_lem}
use Rattle.joining.proofs.Sayings.{text_turn_lem, said_in}
use Rattle.joining.proofs.Forests.{Every, Under, every_more, leaf_every, leaf_under, lowered_leaf}
use Rattle.joining.proofs.Sound.{held_true, sound_more, Named, named}

-- a sign with a name behind it says nothing
unmarked : (b : ℕ) → name_start b ≡ true → b ≡ 33 → ⊥
unfolding name_start
unmarked b e is = false≢true (rw is at e)

filled_as : (s : List ℕ) (role i end inside mid m : ℕ) → start_at s i ≡ Ok (Open end inside) → in_euros role s (name_end s (i + 1)) end ≡ true → text_at s inside ≡ Ok mid
    → fits role (said_at s inside) ≡ true → end_at s i mid ≡ Ok m → field_at role s i (start_at s i) ≡ read m (tree role inside none none)
unfolding field_at filled_field
filled_as s role i end inside mid m a b c x y = rw (a, b, c, x, y)

module _ {s t : List ℕ} {d : ℕ} (p : Part s t d) where
  -- a place in the part and not before another, from which the part says what the whole does
  abbrev pub Kept : ℕ → ℕ → Type 0
  Kept from k = (from ≤ k) × (k < d + length s) × (said_at t k ≡ said_at s (k - d))

  -- what was read in the part, where the whole gave a forest from one place to another
  pub record Same (result : Parsed) (q n : ℕ) (f : Forest) : Type 0 where
    pub reads : result ≡ read (n - d) (lowered d f)
    pub kept : Every (Kept q) f
    pub under : Under (Kept (suc q)) f

  pub kept_later : (a b : ℕ) → a ≤ b → (f : Forest) → Every (Kept b) f → Every (Kept a) f
  kept_later a b h f one = every_more (Kept b) (Kept a) (λ k all. (omega (arith, all.0), all.1, all.2)) f one

  text_kept : (q n : ℕ) → d ≤ q → text_at t q ≡ Ok n → n < d + length s → Kept q q
  text_kept q n h told room = (omega arith, omega (arith, text_forward t q n told), said_in p q (q - d) n (omega arith) told room)

  sign_kept : (q : ℕ) → d ≤ q → byte_at t q ≡ 60 → name_start (byte_at t (q + 1)) ≡ true → q < d + length s → Kept q q
  sign_kept q h sign begins room =
      text_kept q q h (text_turn_lem t q q (Ends q) (text_sign t q sign (unmarked (byte_at t (q + 1)) begins))) room

  module _ (role q i n : ℕ) (f : Forest) (e : q ≡ d + i) (sign : byte_at t q ≡ 60) (room : n ≤ d + length s) where
    module _ (sound : Sound n (start_at t q)) where
      abbrev limited : Sound (d + length s) (start_at t q)
      limited = sound_more n (d + length s) (start_at t q) room sound

      abbrev was : Started t q (start_at t q)
      was = started t q n sound

      pub tag_named : Named t q n
      tag_named = named t q n sound

      pub tag_in : start_at s i ≡ lower_tag d (start_at t q)
      tag_in = start_in p q i e limited

      name_ends : name_end t (q + 1) ≡ d + name_end s (i + 1)
      name_ends = let inside = tag_named.ends in run_in p name_byte (q + 1) (i + 1) (omega arith) (omega arith) (omega arith)

      pub own_kept : Kept q q
      own_kept = let inside = tag_named.ends in sign_kept q (omega arith) sign tag_named.begins (omega arith)

      end_before : was.end < n
      end_before = closed_behind t was.end n (rw was.closed sound)

      end_is : EndsAt was.end (start_at t q)
      end_is = rw was.closed at (closed_ends t was.end)

      euros_same : in_euros role t (name_end t (q + 1)) was.end ≡ in_euros role s (name_end s (i + 1)) (was.end - d)
      euros_same = ap (λ (b : Bool). not (roles.is_amount role) || b) (euros_in p (name_end t (q + 1)) (name_end s (i + 1)) was.end name_ends was.attributes (omega (arith, end_before)))

      euros_held : (end : ℕ) → end ≡ was.end → in_euros role t (name_end t (q + 1)) end ≡ true → in_euros role s (name_end s (i + 1)) (end - d) ≡ true
      euros_held end is h = rw is (sym euros_same ∙ (rw (← is)) ∙ h)

      -- one place in it, from which the part says the same
      leaf_same : (result : Parsed) (m place j : ℕ) → place ≡ d + j → q ≤ place → Kept place place → result ≡ read (m - d) (tree role j none none)
          → read m (tree role place none none) ≡ read n f → Same result q n f
      leaf_same result m place j w low one is told =
          let ends : m ≡ n = cc in
          let forest : tree role place none none ≡ f = cc in
          record {
            reads = is ∙ ap₂ read (ap (λ (k : ℕ). k - d) ends) (sym (lowered_leaf d role place j w) ∙ ap (lowered d) forest);
            kept = rw forest at (leaf_every (Kept q) role place (low, one.1, one.2));
            under = rw forest at (leaf_under (Kept (suc q)) role place);
          }

      pub field_in : (tag : Result Tag ℕ) → start_at t q ≡ tag → field_at role t q tag ≡ read n f → Same (field_at role s i (start_at s i)) q n f
      unfolding field_at filled_field
      field_in (Ok (Open end inside)) is told =
          let first = open_forward t q end inside is in
          let start : start_at s i ≡ Ok (Open (end - d) (inside - d)) = tag_in ∙ ap (lower_tag d) is in
          let ended : end ≡ was.end = rw is at end_is in
          let euros_true = euros_held end ended (held_true (in_euros role t (name_end t (q + 1)) end) end _ n f told) in
          let a = held (in_euros role t (name_end t (q + 1)) end) end _ n f told in
          let b = reached (text_at t inside) _ n f a in
          let fits_true = held_true (fits role (said_at t inside)) b.mid _ n f b.then in
          let c = held (fits role (said_at t inside)) b.mid _ n f b.then in
          let x = reached (end_at t q b.mid) _ n f c in
          let same : x.mid ≡ n = (let then = x.then in cc) in
          let on = text_forward t inside b.mid b.first in
          let behind = end_forward t q b.mid x.mid x.first in
          let inside_named = tag_named.ends in
          let text = text_in_lem p inside (inside - d) b.mid (omega arith) b.first (omega arith) in
          let said = said_in p inside (inside - d) b.mid (omega arith) b.first (omega arith) in
          let end_tag = end_in_lem p q i b.mid (b.mid - d) x.mid e (omega arith) (omega arith) x.first (omega arith) in
          leaf_same (field_at role s i (start_at s i)) x.mid inside (inside - d) (omega arith) (omega arith) (text_kept inside b.mid (omega arith) b.first (omega arith))
          (filled_as s role i (end - d) (inside - d) (b.mid - d) (x.mid - d) start euros_true text (ap (fits role) (sym said) ∙ fits_true) end_tag) x.then
      field_in (Ok (Empty end next)) is told =
          let start : start_at s i ≡ Ok (Empty (end - d) (next - d)) = tag_in ∙ ap (lower_tag d) is in
          let ended : end ≡ was.end = rw is at end_is in
          let euros_true = euros_held end ended (held_true (in_euros role t (name_end t (q + 1)) end) end _ n f told) in
          let a = held (in_euros role t (name_end t (q + 1)) end) end _ n f told in
          let fits_true = held_true (fits role []) end _ n f a in
          let b = held (fits role []) end _ n f a in
          leaf_same (field_at role s i (start_at s i)) next q i e (omega arith) own_kept (rw (start, euros_true, fits_true)) b
      field_in (Err k) is told = absurd (let z : ◌≡◌ {A = ℕ} 0 1 = cc in omega arith)
