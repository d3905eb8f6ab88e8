-- The laws of single lines: which text a test picks, and a line put together from its pieces. Assumes nothing.
use mathlib.Core.Path.{◌≡◌, refl, sym, ap, ◌∙◌}
use mathlib.Core.Bool.{Bool, true, false}
use mathlib.Core.List.{List, [], ◌∷◌, ◌++◌, map}
use Prim.Native.Nat.{ℕ, ◌+◌, ◌≤◌, ◌<◌}
use native.Mathlib.Numerals.{add-one}
use native.Mathlib.Omega.{arith}
use lib.ListN.{length, get_or, take}
use lib.Seq.{take-suc, take-length}
use borrow.Author.Tests.{eq-eqb, ne_eqb}
use Rattle.wire.specs.Field.{text, part}
use Rattle.wording.specs.Wording.{allowed, space, kept}
use Rattle.decimals.specs.Decimal.{field}
use Rattle.report.specs.Line.{identifier_in, outcome_in, faults_in, totals_in}
use Rattle.lines.specs.Lines.{shown, identifier_text, head_text, totals_text}

-- ---- the bytes of an identifier

pub shown_space : (c : ℕ) → c ≡ space → shown c ≡ 95
shown_space c e = rw (eq-eqb c space e)

pub shown_allowed : (c : ℕ) (told : Bool) → (c ≡ space → ⊥) → told ≡ allowed c → told ≡ true → shown c ≡ c
shown_allowed c told other is e = rw (ne_eqb c space other, ← is, e)

pub shown_odd : (c : ℕ) (told : Bool) → (c ≡ space → ⊥) → told ≡ allowed c → told ≡ false → shown c ≡ 42
shown_odd c told other is e = rw (ne_eqb c space other, ← is, e)

map_snoc : (f : ℕ → ℕ) (xs : List ℕ) (x : ℕ) → map f (xs ++ (x ∷ [])) ≡ map f xs ++ (f x ∷ [])
map_snoc f [] x = refl
map_snoc f (y ∷ ys) x = ap (λ (r : List ℕ). f y ∷ r) (map_snoc f ys x)

pub shown_more : (s : List ℕ) (i b : ℕ) → i < length s → b ≡ shown (get_or s i 0)
    → map shown (take i s) ++ (b ∷ []) ≡ map shown (take (i + 1) s)
shown_more s i b h e = rw (e, add-one i, take-suc s i 0 h) (sym (map_snoc shown (take i s) (get_or s i 0)))

pub shown_all : (s : List ℕ) (i : ℕ) → i ≤ length s → length s ≤ i → map shown (take i s) ≡ map shown s
shown_all s i low high = let end : i ≡ length s = omega arith in rw (end, take-length s)

pub identifier_blank : (s : List ℕ) (n : ℕ) → n ≡ kept s → n ≡ 0 → text "_" ≡ identifier_text s
unfolding identifier_text
identifier_blank s n is e = sym (rw (eq-eqb (kept s) 0 (sym is ∙ e)))

pub identifier_kept : (s t : List ℕ) (n : ℕ) → n ≡ kept s → (n ≡ 0 → ⊥) → t ≡ part s 0 n → map shown t ≡ identifier_text s
unfolding identifier_text
identifier_kept s t n is some cut = sym (rw (ne_eqb (kept s) 0 (λ (e : kept s ≡ 0). some (is ∙ e)), ← is, cut))

-- ---- the pieces of a line, each read from its field

pub head_pieces : (letters line a b : List ℕ) (o n : ℕ) → a ≡ identifier_in line → o ≡ outcome_in line → b ≡ part letters o 1 → n ≡ faults_in line
    → text " " ++ identifier_text a ++ text " " ++ b ++ field n ≡ head_text letters line
unfolding head_text
head_pieces letters line a b o n ea eo eb en = rw (ea, eb, eo, en)

pub totals_pieces : (line : List ℕ) (an ac rn rc : ℕ) → an ≡ (totals_in line).accepted_number → ac ≡ (totals_in line).accepted_cents
    → rn ≡ (totals_in line).rejected_number → rc ≡ (totals_in line).rejected_cents
    → field an ++ field ac ++ field rn ++ field rc ≡ totals_text line
unfolding totals_text
totals_pieces line an ac rn rc ean eac ern erc = rw (ean, eac, ern, erc)
