-- No text means an amount that is not carried. Assumes nothing.
use mathlib.Core.Path.{◌≡◌, ◌∙◌}
use mathlib.Core.Bool.{true, ◌&&◌, ◌||◌, or-true, and-eq-true_iff}
use mathlib.Core.List.{List, [], ◌∷◌, ◌++◌}
use Prim.Native.Nat.{ℕ, ◌+◌, ◌*◌, ◌%◌, ◌^◌, ◌≤◌, ◌<◌}
use native.Mathlib.Omega.{arith}
use lib.Dec.{eqb, ltb, leb}
use lib.ListN.{length, take, replicate}
use borrow.Author.Tests.{lt-ltb, eq-eqb, leb-true}
use Rattle.letters.specs.Places.{byte_at, run}
use Rattle.letters.specs.References.{digit_of}
use Rattle.meanings.specs.Meanings.{digit, digits, decimal, wholes, parts, cents, amount_digits, is_amount}
use Rattle.meanings.proofs.Decimals.{digit_counts, decimal_snoc, decimal_none, run_digits}
use Rattle.meanings.proofs.Forms.{decimal_small}
use Rattle.documents.specs.Amounts.{carried_amount}

zero_counts : digit_of 48 ≡ 0
zero_counts = digit_counts 48 (omega arith) (omega arith)

-- the cents, by the digits before the point and those behind it
abbrev cents_of : List ℕ → List ℕ → ℕ
cents_of w p = decimal w * 100 + decimal (take 2 (p ++ replicate 2 48))

module _ (n : ℕ) where
  wholly : n % 100 ≡ 0 → carried_amount n ≡ true
  wholly e = rw (eq-eqb (n % 100) 0 e) (or-true (ltb n (10 ^ 18) || (eqb (n % 10) 0 && ltb n (10 ^ 19))))

  to_tenths : n % 10 ≡ 0 → n < 10 ^ 19 → carried_amount n ≡ true
  to_tenths e h = rw (eq-eqb (n % 10) 0 e, lt-ltb n (10 ^ 19) h, or-true (ltb n (10 ^ 18)))

  to_cents : n < 10 ^ 18 → carried_amount n ≡ true
  to_cents h = rw (lt-ltb n (10 ^ 18) h)

by_parts : (w p : List ℕ) → digits w ≡ true → digits p ≡ true → length p ≤ 2 → length w + length p ≤ 18 → carried_amount (cents_of w p) ≡ true
by_parts w [] dw dp few short =
    let none : decimal (48 ∷ 48 ∷ []) ≡ 0 = decimal_snoc (48 ∷ []) 48 ∙ (rw (decimal_snoc [] 48, decimal_none, zero_counts)) in
    wholly (cents_of w []) (rw none (omega arith))
by_parts w (x ∷ []) dw dp few short =
    let one = decimal_small (x ∷ []) 1 dp (omega arith) in
    let front = decimal_small w 17 dw (omega arith) in
    let behind : decimal (x ∷ 48 ∷ []) ≡ decimal (x ∷ []) * 10 = decimal_snoc (x ∷ []) 48 ∙ (rw zero_counts (omega arith)) in
    to_tenths (cents_of w (x ∷ [])) (rw behind (omega arith)) (rw behind (omega arith))
by_parts w (x ∷ y ∷ []) dw dp few short =
    let two = decimal_small (x ∷ y ∷ []) 2 dp (omega arith) in
    let front = decimal_small w 16 dw (omega arith) in
    to_cents (cents_of w (x ∷ y ∷ [])) (omega arith)
by_parts w (x ∷ y ∷ z ∷ p) dw dp few short = absurd (omega arith)

pub amount_limit : (t : List ℕ) → is_amount t ≡ true → carried_amount (cents t) ≡ true
unfolding is_amount cents
amount_limit t e =
    let formed = digits t || eqb (byte_at t (run digit t)) 46 in
    let a = (and-eq-true_iff (formed && digits (parts t) && leb (length (parts t)) 2 && leb 1 (amount_digits t) && leb (amount_digits t) 18) (ltb (cents t) (2 ^ 64))).0 e in
    let b = (and-eq-true_iff (formed && digits (parts t) && leb (length (parts t)) 2 && leb 1 (amount_digits t)) (leb (amount_digits t) 18)).0 a.0 in
    let c = (and-eq-true_iff (formed && digits (parts t) && leb (length (parts t)) 2) (leb 1 (amount_digits t))).0 b.0 in
    let d = (and-eq-true_iff (formed && digits (parts t)) (leb (length (parts t)) 2)).0 c.0 in
    let f = (and-eq-true_iff formed (digits (parts t))).0 d.0 in
    by_parts (wholes t) (parts t) (run_digits t) f.1 (leb-true (length (parts t)) 2 d.1) (leb-true (amount_digits t) 18 b.1)
