-- A sheet that is written out from some bulks and others after them: where the bytes of each stand. Assumes nothing.
use mathlib.Core.Path.{◌≡◌, refl, sym, ap, ◌∙◌}
use mathlib.Core.List.{List, [], ◌∷◌, ◌++◌, map, map-append, append_assoc}
use Prim.Native.Nat.{ℕ, ◌+◌, ◌*◌}
use native.Mathlib.Omega.{arith}
use lib.ListN.{length, drop, length-append}
use Rattle.wire.specs.Field.{part}
use Rattle.wire.specs.Written.{joined}
use Rattle.sheet.specs.Sheet.{count_width, header_width, Bulk, first_section, end_from}
use Rattle.sheet.specs.Written.{sheet_bytes}
use Rattle.sheet.proofs.Bulks.{BulksWide}
use Rattle.sheet.proofs.Written.{EachCounted, Writable, headers_written, section_written, sections_written, headers_length, here, behind, bulks_written, headers_from, sections_from}

joined_append : (xs ys : List (List ℕ)) → joined (xs ++ ys) ≡ joined xs ++ joined ys
joined_append [] ys = refl
joined_append (x ∷ xs) ys = ap (λ (r : List ℕ). x ++ r) (joined_append xs ys) ∙ sym (append_assoc x (joined xs) (joined ys))

wide_parts : (xs ys : List Bulk) → BulksWide (xs ++ ys) → BulksWide xs × BulksWide ys
unfolding BulksWide
wide_parts [] ys wide = (tt, wide)
wide_parts (x ∷ xs) ys wide = let others = wide_parts xs ys wide.1 in ((wide.0, others.0), others.1)

counted_parts : (xs ys : List Bulk) → EachCounted (xs ++ ys) → EachCounted xs × EachCounted ys
unfolding EachCounted
counted_parts [] ys each = (tt, each)
counted_parts (x ∷ xs) ys each = let others = counted_parts xs ys each.1 in ((each.0, others.0), others.1)

module _ (xs ys : List Bulk) (can : Writable (xs ++ ys)) where
  abbrev s : List ℕ
  s = sheet_bytes (xs ++ ys)

  abbrev k : ℕ
  k = length xs

  -- each of the two can be written by itself
  pub first_writable : Writable xs
  first_writable =
      let longer = length-append xs ys in
      let few = can.few in
      record { wide = (wide_parts xs ys can.wide).0; each = (counted_parts xs ys can.each).0; few = omega arith }

  pub later_writable : Writable ys
  later_writable =
      let longer = length-append xs ys in
      let few = can.few in
      record { wide = (wide_parts xs ys can.wide).1; each = (counted_parts xs ys can.each).1; few = omega arith }

  headers_split : headers_written (xs ++ ys) ≡ headers_written xs ++ headers_written ys
  headers_split =
      ap joined (map-append (λ (b : Bulk). b.header) xs ys) ∙ joined_append (map (λ (b : Bulk). b.header) xs) (map (λ (b : Bulk). b.header) ys)

  sections_split : sections_written (xs ++ ys) ≡ sections_written xs ++ sections_written ys
  sections_split =
      ap joined (map-append (λ (b : Bulk). section_written b) xs ys) ∙ joined_append (map (λ (b : Bulk). section_written b) xs) (map (λ (b : Bulk). section_written b) ys)

  -- what stands from the first header on, and from the first section on
  headed : drop count_width s ≡ headers_written xs ++ (headers_written ys ++ sections_written (xs ++ ys))
  headed =
      headers_from (xs ++ ys) can
      ∙ ap (λ (h : List ℕ). h ++ sections_written (xs ++ ys)) headers_split
      ∙ append_assoc (headers_written xs) (headers_written ys) (sections_written (xs ++ ys))

  sectioned : drop (first_section s) s ≡ sections_written xs ++ sections_written ys
  sectioned = sections_from (xs ++ ys) can ∙ sections_split

  first_wide : length (headers_written xs) ≡ header_width * k
  first_wide = headers_length xs first_writable.wide

  pub first_headers : part s count_width (header_width * k) ≡ headers_written xs
  first_headers = here s (headers_written xs) (headers_written ys ++ sections_written (xs ++ ys)) count_width (header_width * k) headed first_wide

  pub later_headers : part s (count_width + header_width * k) (header_width * length ys) ≡ headers_written ys
  later_headers =
      here s (headers_written ys) (sections_written (xs ++ ys)) (count_width + header_width * k) (header_width * length ys)
      (behind s (headers_written xs) (headers_written ys ++ sections_written (xs ++ ys)) count_width (header_width * k) headed first_wide)
      (headers_length ys later_writable.wide)

  -- where the sections of the first end
  pub first_end : end_from s k count_width (first_section s) ≡ first_section s + length (sections_written xs)
  first_end =
      (bulks_written s xs (headers_written ys ++ sections_written (xs ++ ys)) (sections_written ys) count_width (first_section s)
      first_writable.wide first_writable.each headed sectioned).1

  pub first_sections : part s (first_section s) (length (sections_written xs)) ≡ sections_written xs
  first_sections = here s (sections_written xs) (sections_written ys) (first_section s) (length (sections_written xs)) sectioned refl

  pub later_sections_lem : drop (first_section s + length (sections_written xs)) s ≡ sections_written ys
  later_sections_lem = behind s (sections_written xs) (sections_written ys) (first_section s) (length (sections_written xs)) sectioned refl
