-- What an answer tells of what was read. Assumes nothing.
use mathlib.Core.Path.{◌≡◌, refl, sym, ap}
use mathlib.Core.List.{List}
use Prim.Native.Nat.{ℕ}
use Rattle.std.specs.Prelude.{true, false, Result, Ok, Err, is_err, length, replicate}
use Rattle.elements.specs.declared.Stop.{Stop}
use Rattle.elements.specs.declared.Stop.TheVariants.{Form, Deep}
use Rattle.elements.specs.Forest.{Forest}
use Rattle.elements.specs.Grammar.{Parsed, read, broken, deep}
use Rattle.elements.specs.Notes.{noted, step_of, formed, Noted, NotedIn, notes_of}

-- ---- a place: so far it was read

pub record Read (p : Parsed) (n : ℕ) : Type 0 where
  pub forest : Forest
  pub was : p ≡ read n forest

pub done_read : (p : Parsed) (n : ℕ) → step_of p ≡ Ok n → Read p n
done_read (read m f) n e = let same : m ≡ n = cc in record { forest = f; was = rw same }
done_read (broken q) n e = absurd (cc)
done_read (deep q) n e = absurd (cc)

pub read_noted : (p : Parsed) (n : ℕ) (f : Forest) (before after : List ℕ) → p ≡ read n f → Noted p before after → after ≡ noted f before
read_noted p n f before after e h = rw e at h

-- ---- a reason to stop: nothing was read, and the notes may hold anything

abbrev pub stopped : Stop → Parsed
stopped (Form p) = broken p
stopped (Deep p) = deep p

pub err_stopped : (p : Parsed) (e : Stop) → step_of p ≡ Err e → p ≡ stopped e
err_stopped (read m f) e h = absurd (cc)
err_stopped (broken q) e h = let same : Form q ≡ e = cc in ap stopped same
err_stopped (deep q) e h = let same : Deep q ≡ e = cc in ap stopped same

pub stopped_step : (e : Stop) → Err e ≡ step_of (stopped e)
stopped_step (Form p) = refl
stopped_step (Deep p) = refl

pub stopped_noted : (e : Stop) (before after : List ℕ) → Noted (stopped e) before after
stopped_noted (Form p) before after = tt
stopped_noted (Deep p) before after = tt

pub stopped_noted_in : (role place : ℕ) (e : Stop) (before after : List ℕ) → NotedIn role place (stopped e) before after
stopped_noted_in role place (Form p) before after = tt
stopped_noted_in role place (Deep p) before after = tt

-- ---- by the test for an error

pub err_notes : (p : Parsed) (before after : List ℕ) → is_err (step_of p) ≡ true → after ≡ replicate (length before) 0 → after ≡ notes_of p before
err_notes (read n f) before after e h = absurd (cc)
err_notes (broken q) before after e h = h
err_notes (deep q) before after e h = h

pub ok_notes : (p : Parsed) (before after : List ℕ) → is_err (step_of p) ≡ false → Noted p before after → after ≡ notes_of p before
ok_notes (read n f) before after e h = h
ok_notes (broken q) before after e h = absurd (cc)
ok_notes (deep q) before after e h = absurd (cc)

-- ---- a form that was whole, or broken at a place

pub ok_formed : {A : Type 0} (r : Result A ℕ) (a : A) → formed r ≡ Ok a → r ≡ Ok a
ok_formed (Ok b) a e = let same : b ≡ a = cc in rw same
ok_formed (Err p) a e = absurd (cc)

pub record Broken {A : Type 0} (r : Result A ℕ) (e : Stop) : Type 0 where
  pub place : ℕ
  pub was : r ≡ Err place
  pub is : e ≡ Form place

pub err_broken : {A : Type 0} (r : Result A ℕ) (e : Stop) → formed r ≡ Err e → Broken r e
err_broken (Ok a) e h = absurd (cc)
err_broken (Err p) e h = let same : Form p ≡ e = cc in record { place = p; was = refl; is = sym same }
