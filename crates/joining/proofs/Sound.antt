-- An element that was read has a start tag, which ends before the element does. Assumes nothing.
use mathlib.Core.Path.{◌≡◌, refl}
use mathlib.Core.Bool.{Bool, true, false, cond}
use mathlib.Core.List.{List, []}
use Prim.Native.Nat.{ℕ, zero, suc, ◌+◌, ◌≤◌, ◌<◌}
use native.Mathlib.Omega.{arith}
use lib.Dec.{ltb}
use lib.ListN.{length}
use Rattle.letters.specs.Places.{byte_at}
use Rattle.tags.specs.Names.{name_start, name_end}
use Rattle.tags.specs.Tags.{closed_at, start_at, end_at}
use Rattle.std.specs.Prelude.{Result, Ok, Err}
use Rattle.tags.specs.declared.Tag.{Tag}
use Rattle.tags.specs.declared.Tag.TheVariants.{Open, Empty}
use Rattle.tags.proofs.AttributeWalk.{attributes_forward}
use Rattle.tags.proofs.Tags.{end_forward}
use Rattle.prose.specs.Prose.{text_at, said_at}
use Rattle.prose.proofs.Turns.{text_forward}
use Rattle.paths.specs.Roles as roles
use Rattle.fields.specs.Fields.{fits}
use Rattle.elements.specs.Forest.{Forest}
use Rattle.elements.specs.Grammar.{Parsed, read, broken, deep, on_reached, provided, in_euros, filled_field, field_at, whole, content_by, group_at, element_at}
use Rattle.elements.proofs.Forward.{Onward, went, reached, held, content_forward, element_onward}
use Rattle.joining.proofs.Tags.{Sound, started, closed_behind}

pub held_true : (t : Bool) (p : ℕ) (k : Unit {0} → Parsed) (n : ℕ) (f : Forest) → provided t p k ≡ read n f → t ≡ true
held_true true p k n f e = refl
held_true false p k n f e = absurd (let z : ◌≡◌ {A = ℕ} 0 1 = cc in omega arith)

module _ (s : List ℕ) (role at n : ℕ) (f : Forest) where
  field_sound : (tag : Result Tag ℕ) → field_at role s at tag ≡ read n f → Sound n tag
  unfolding field_at filled_field
  field_sound (Ok (Open end inside)) told =
      let a = held (in_euros role s (name_end s (at + 1)) end) end _ n f told in
      let b = reached (text_at s inside) _ n f a in
      let c = held (fits role (said_at s inside)) b.mid _ n f b.then in
      let d = reached (end_at s at b.mid) _ n f c in
      let same : d.mid ≡ n = (let then = d.then in cc) in
      omega (arith, (text_forward s inside b.mid b.first).0, (end_forward s at b.mid d.mid d.first).0)
  field_sound (Ok (Empty end next)) told =
      let a = held (in_euros role s (name_end s (at + 1)) end) end _ n f told in
      let b = held (fits role []) end _ n f a in
      let same : next ≡ n = cc in omega arith
  field_sound (Err p) told = absurd (let z : ◌≡◌ {A = ℕ} 0 1 = cc in omega arith)

  group_sound : (element : ℕ → ℕ → Parsed) → Onward element (length s) → (tag : Result Tag ℕ) → group_at element role s at tag ≡ read n f → Sound n tag
  group_sound element onward (Ok (Open end inside)) told =
      let a = went (content_by element role s inside) (λ e f. on_reached (end_at s at e) (λ n. read n (whole role at f))) n f told in
      let c = content_forward element role s onward inside a.mid a.part a.first in
      let d = reached (end_at s at a.mid) (λ n. read n (whole role at a.part)) n f a.then in
      let same : d.mid ≡ n = (let then = d.then in cc) in
      omega (arith, (end_forward s at a.mid d.mid d.first).0)
  group_sound element onward (Ok (Empty end next)) told = let same : next ≡ n = cc in omega arith
  group_sound element onward (Err p) told = absurd (let z : ◌≡◌ {A = ℕ} 0 1 = cc in omega arith)

pub element_sound : (depth : ℕ) (s : List ℕ) (role at n : ℕ) (f : Forest) → element_at depth s role at ≡ read n f → Sound n (start_at s at)
unfolding element_at
element_sound zero s role at n f e = by_test (ltb at (length s)) (name_start (byte_at s (at + 1))) e
  where
    by_test : (t u : Bool) → cond t (cond u (deep at) (broken (at + 1))) (broken at) ≡ read n f → Sound n (start_at s at)
    by_test true true e = absurd (let z : ◌≡◌ {A = ℕ} 0 1 = cc in omega arith)
    by_test true false e = absurd (let z : ◌≡◌ {A = ℕ} 0 1 = cc in omega arith)
    by_test false u e = absurd (let z : ◌≡◌ {A = ℕ} 0 1 = cc in omega arith)
element_sound (suc depth) s role at n f e = by_test (roles.is_field role) e
  where
    by_test : (t : Bool) → cond t (field_at role s at (start_at s at)) (group_at (element_at depth s) role s at (start_at s at)) ≡ read n f → Sound n (start_at s at)
    by_test true told = field_sound s role at n f (start_at s at) told
    by_test false told = group_sound s role at n f (element_at depth s) (element_onward depth s) (start_at s at) told

pub sound_more : (m n : ℕ) (tag : Result Tag ℕ) → m ≤ n → Sound m tag → Sound n tag
sound_more m n (Ok (Open end k)) h sound = omega arith
sound_more m n (Ok (Empty end k)) h sound = omega arith
sound_more m n (Err p) h sound = sound

-- its name begins as one does, and ends inside it
pub record Named (s : List ℕ) (at n : ℕ) : Type 0 where
  pub begins : name_start (byte_at s (at + 1)) ≡ true
  pub ends : name_end s (at + 1) < n

pub named : (s : List ℕ) (at n : ℕ) → Sound n (start_at s at) → Named s at n
named s at n sound =
    let was = started s at n sound in
    let limited : Sound n (closed_at s was.end) = rw was.closed sound in
    let on = attributes_forward s (name_end s (at + 1)) was.end was.attributes in
    let before = closed_behind s was.end n limited in
    record { begins = was.begins; ends = omega arith }
