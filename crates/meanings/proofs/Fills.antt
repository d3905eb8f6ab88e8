-- The laws of texts that are filled up with spaces, and of how they are stored. Assumes nothing.
use mathlib.Core.Path.{◌≡◌, refl, sym, ◌∙◌}
use mathlib.Core.Bool.{cond}
use mathlib.Core.List.{List, [], ◌∷◌, ◌++◌}
use Prim.Native.Nat.{ℕ, zero, suc, ◌+◌, ◌-◌, ◌≤◌, ◌<◌, min}
use native.Mathlib.Omega.{arith}
use lib.Dec.{eqb}
use lib.ListN.{length, get_or, drop, set, replicate, length-append, length-take, length-replicate, get_or-replicate}
use lib.Seq.{sets, sets-eq, take_at, get_or-take}
use borrow.Author.Tests.{eq-eqb, ne_eqb}
use Rattle.wire.specs.Field.{text}
use Rattle.wire.proofs.Stores.{text_first, text_ends}
use Rattle.meanings.specs.Meanings.{filled, receiver}

pub filled_length : (n : ℕ) (t : List ℕ) → length (filled n t) ≡ n
filled_length n t = simp (length-take, length-append, length-replicate) (omega arith)

pub receiver_length : (t : List ℕ) → length (receiver t) ≡ 11
unfolding receiver
receiver_length t = filled_length 11 (cond (eqb (length t) 8) (t ++ text "XXX") t)

-- ---- byte by byte: those of the text, and spaces behind it

pub inside : (t : List ℕ) (i : ℕ) → i < length t → get_or t i 0 ≡ get_or t i 32
inside [] i h = absurd (omega arith)
inside (x ∷ xs) zero h = refl
inside (x ∷ xs) (suc i) h = inside xs i (omega arith)

spaced : (t : List ℕ) (n i : ℕ) → i < n → get_or (t ++ replicate n 32) i 0 ≡ get_or t i 32
spaced [] n i h = get_or-replicate n i 32 0 h
spaced (x ∷ xs) n zero h = refl
spaced (x ∷ xs) n (suc i) h = spaced xs n i (omega arith)

filled_byte : (n : ℕ) (t : List ℕ) (i : ℕ) → i < n → get_or (filled n t) i 0 ≡ get_or t i 32
filled_byte n t i h = get_or-take n (t ++ replicate n 32) i 0 h ∙ spaced t n i h

-- ---- stored from the first byte on

pub fill_more : (d : List ℕ) (at i n : ℕ) (t : List ℕ) (b : ℕ) → i < n → b ≡ get_or t i 32
    → sets (set d (at + i) b) (at + (i + 1)) (drop (i + 1) (filled n t)) ≡ sets d (at + i) (drop i (filled n t))
fill_more d at i n t b h e =
    let long = filled_length n t in
    let byte : b ≡ get_or (filled n t) i 0 = e ∙ sym (filled_byte n t i h) in
    rw byte (text_first d at i (filled n t) (omega arith))

pub fill_ends : (d : List ℕ) (at i n : ℕ) (t : List ℕ) → min n (length d - min at (length d)) ≤ i → sets d (at + i) (drop i (filled n t)) ≡ d
fill_ends d at i n t h = let long = filled_length n t in text_ends d at i (filled n t) (omega arith)

-- ---- receivers

-- eleven times the letter X, with eight bytes stored over them
pub head_office_lem : (t : List ℕ) → length t ≡ 8 → sets (replicate 11 88) 0 t ≡ receiver t
unfolding receiver
head_office_lem t e =
    let full : length (t ++ text "XXX") ≡ 11 = simp length-append (omega arith) in
    let place : 0 + length t ≡ 8 = omega arith in
    sets-eq t (replicate 11 88) 0 (omega arith)
    ∙ (rw (place, eq-eqb (length t) 8 e) (sym (take_at (t ++ text "XXX") (replicate 11 32) 11 full)))

pub other_receiver : (t : List ℕ) → (length t ≡ 8 → ⊥) → filled 11 t ≡ receiver t
unfolding receiver
other_receiver t h = rw (ne_eqb (length t) 8 h)
