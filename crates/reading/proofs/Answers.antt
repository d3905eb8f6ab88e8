-- What the first reading tells decides the outcome. Assumes nothing.
use mathlib.Core.Path.{◌≡◌, refl}
use mathlib.Core.Bool.{Bool, true, false, cond, ◌&&◌}
use mathlib.Core.List.{List}
use Prim.Native.Nat.{ℕ, ◌≤◌, ◌<◌}
use native.Mathlib.Omega.{arith}
use lib.Dec.{leb, ltb}
use lib.ListN.{length}
use lib.Seq.{sets}
use borrow.Author.Tests.{leb-true, lt-ltb, le-ltb}
use Rattle.std.specs.Prelude.{Result, Ok, Err}
use Rattle.elements.specs.Forest.{Forest}
use Rattle.elements.specs.Grammar.{Parsed, read, broken, deep}
use Rattle.elements.specs.Questions.{first_lack}
use Rattle.reading.specs.Text.{roots_at, some_roots}
use Rattle.reading.specs.Meaning.{bulks_in, sheet_in, countable, all_countable, fits_in}
use Rattle.reading.specs.Survey.{survey_of}
use Rattle.reading.specs.Filling.{Fitting, PutSheet}
use Rattle.reading.specs.Reading.{outcome, outcome_of, when_made}
use Rattle.reading.specs.declared.Unread.{Unread}
use Rattle.reading.specs.declared.Unread.TheVariants.{Lack, Short}
use Rattle.reading.proofs.Sheets.{both, sheet_length}

module _ (s space : List ℕ) where
  -- what is known where a sheet can be made
  fits_so : (f : Forest) (n : ℕ) → fits_in s f (length space) ≡ true → Fitting s (read n f) (length (bulks_in s f)) space
  unfolding fits_in
  fits_so f n e =
      let a = both (countable (length (bulks_in s f)) && all_countable f) (leb (length (sheet_in s f)) (length space)) e in
      let b = both (countable (length (bulks_in s f))) (all_countable f) a.0 in
      record { end = n; forest = f; was = refl; few = b.1; number = refl; room = omega (arith, sheet_length s f b.1, leb-true (length (sheet_in s f)) (length space) a.1) }

  module _ (n : ℕ) (f : Forest) where
    abbrev lack : ℕ
    lack = first_lack f (length s)

    abbrev told : Bool → Bool → Result ℕ Unread
    told t u = cond t (Err (Lack lack)) (cond u (Ok (length (bulks_in s f))) (Err Short))

    abbrev answer : Bool → Bool → Result ℕ Unread
    answer t u = cond t (Err (Lack lack)) (cond u (Ok (length (sheet_in s f))) (Err Short))

  pub fine_fits : (p : Parsed) (bulks : ℕ) → survey_of s (length space) p ≡ Ok bulks → Fitting s p bulks space
  fine_fits (read n f) bulks e = by_test (ltb (first_lack f (length s)) (length s)) (fits_in s f (length space)) refl e
    where
      by_test : (t u : Bool) → fits_in s f (length space) ≡ u → told n f t u ≡ Ok bulks → Fitting s (read n f) bulks space
      by_test true u k e = absurd (cc)
      by_test false true k e = let same : length (bulks_in s f) ≡ bulks = cc in rw (← same) (fits_so f n k)
      by_test false false k e = absurd (cc)
  fine_fits (broken q) bulks e = absurd (cc)
  fine_fits (deep q) bulks e = absurd (cc)

  pub fine_made : (p : Parsed) (bulks r : ℕ) (after : List ℕ) → survey_of s (length space) p ≡ Ok bulks → PutSheet s p space after r → outcome (Ok r) after ≡ outcome_of s space p
  fine_made (read n f) bulks r after e h = by_test (ltb (first_lack f (length s)) (length s)) (fits_in s f (length space)) e
    where
      by_test : (t u : Bool) → told n f t u ≡ Ok bulks → outcome (Ok r) after ≡ outcome (answer n f t u) (when_made (answer n f t u) (sets space 0 (sheet_in s f)) space)
      by_test true u e = absurd (cc)
      by_test false true e = rw (h.0, h.1)
      by_test false false e = absurd (cc)
  fine_made (broken q) bulks r after e h = absurd (cc)
  fine_made (deep q) bulks r after e h = absurd (cc)

  -- a refusal: what the first reading tells is answered, and nothing is written
  pub err_told : (p : Parsed) (e : Unread) → survey_of s (length space) p ≡ Err e → outcome (Err e) space ≡ outcome_of s space p
  err_told (read n f) e h = by_test (ltb (first_lack f (length s)) (length s)) (fits_in s f (length space)) h
    where
      by_test : (t u : Bool) → told n f t u ≡ Err e → outcome (Err e) space ≡ outcome (answer n f t u) (when_made (answer n f t u) (sets space 0 (sheet_in s f)) space)
      by_test true u h = rw (← h)
      by_test false true h = absurd (cc)
      by_test false false h = rw (← h)
  err_told (broken r) e h = rw (← h)
  err_told (deep r) e h = rw (← h)

-- ---- from a place on

pub no_document : (s : List ℕ) (at : ℕ) → length s ≤ at → some_roots s at ≡ broken at
no_document s at h = rw (le-ltb at (length s) h)

pub some_documents : (s : List ℕ) (at : ℕ) → at < length s → some_roots s at ≡ roots_at s at
some_documents s at h = rw (lt-ltb at (length s) h)
