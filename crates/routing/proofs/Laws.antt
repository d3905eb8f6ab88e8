-- The laws of the table and of the lookup that the crates above cite, and those that the proofs here share. Assumes nothing.
use mathlib.Core.Path.{◌≡◌, refl, sym, ap, ◌∙◌}
use mathlib.Core.Bool.{Bool, true, false, cond, ◌&&◌, false≢true}
use mathlib.Core.List.{List}
use mathlib.Core.Option.{Option, none, some}
use Prim.Native.Nat.{ℕ, ◌+◌, ◌-◌, ◌*◌, ◌/◌, ◌≤◌, ◌<◌}
use native.Mathlib.Nat.{sub-zero, lt_of_lt_of_le}
use native.Mathlib.Omega.{arith}
use lib.Dec.{leb, eqb}
use lib.ListN.{length, get_or, get_or-eq_default}
use borrow.Author.Tests.{leb-true, eqb-true, eq-eqb, ne_eqb}
use Rattle.std.specs.Prelude.{Option as RustOption, Some, None, Ok}
use Rattle.std.specs.Option.{option_map}
use Rattle.wire.specs.Field.{same}
use Rattle.wire.specs.Places.{first_from, every_from}
use Rattle.wire.proofs.Numbers.{one_read}
use Rattle.wire.proofs.Scans.{first_found}
use Rattle.calendar.specs.Date.{is_date}
use Rattle.routing.specs.Table.{bic_width, kind_place, row_width, count_width, most_rows, row_at, rows, stated_rows, known_kind, kind_at, kinds_known, well_formed}
use Rattle.routing.specs.Promise.{Formed, FormTold, RowTold, ElseHead, RoutedBy, Below, AnswerTold}
use Rattle.routing.specs.declared.Refusal.TheVariants.{Date, Table, Bic}
use Rattle.routing.specs.Lookup.{bears, row_of, head_office, head_office_row, is_head_office, or_else, route, reachable, participates, refused, routed, lookup_number, lookup, Routed, row_is, option_of}

-- ---- places

kind_read : (table : List ℕ) (i : ℕ) → kind_at table i ≡ get_or table (row_at i + kind_place) 0
kind_read table i = one_read table (row_at i + kind_place)

-- past what is left behind the last whole row there is no kind
pub kind_past : (table : List ℕ) (i : ℕ) → rows table < i → kind_at table i ≡ 0
kind_past table i h = kind_read table i ∙ get_or-eq_default table 0 (omega arith)

-- a well formed table is its count, and as many whole rows
form_told : (table : List ℕ) → well_formed table ≡ true → Formed table
unfolding well_formed
form_told table e =
    let parts = three (leb count_width (length table)) (eqb (length table) (count_width + row_width * stated_rows table)) (leb (stated_rows table) most_rows) (kinds_known table) e in
    let long : length table ≡ count_width + row_width * stated_rows table = eqb-true (length table) (count_width + row_width * stated_rows table) parts.0 in
    let few : stated_rows table ≤ most_rows = leb-true (stated_rows table) most_rows parts.1 in
    let counted : rows table ≡ stated_rows table = rw long (mul_left_then_div (stated_rows table)) in
    record { whole = rw counted long; few = rw counted few }
  where
    three : (a b c d : Bool) → (a && b && c && d) ≡ true → (b ≡ true) × (c ≡ true)
    three true true true d e = (refl, refl)
    three true true false d e = absurd (false≢true e)
    three true false c d e = absurd (false≢true e)
    three false b c d e = absurd (false≢true e)

    mul_left_then_div : (k : ℕ) → (count_width + row_width * k - count_width) / row_width ≡ k
    mul_left_then_div k = omega arith

pub formed_told : (table : List ℕ) (told : Bool) → told ≡ well_formed table → FormTold table told
formed_told table told e = record { is = e; formed = λ h. form_told table (sym e ∙ h) }

-- ---- the scan of the kinds

-- a loop at place i of n: what is left of the scan
abbrev pub kinds_left : List ℕ → ℕ → ℕ → Bool
kinds_left table n i = every_from (λ k. known_kind (kind_at table k)) (n - i) i

pub kinds_start : (table : List ℕ) (n : ℕ) → n ≡ rows table → kinds_left table n 0 ≡ kinds_known table
unfolding kinds_known
kinds_start table n e = rw (e, sub-zero)

-- ---- the search of a row

abbrev pub row_left : ℕ → List ℕ → List ℕ → ℕ → ℕ → Option ℕ
row_left date table bic n i = first_from (bears date table bic) (n - i) i

pub row_start : (date : ℕ) (table bic : List ℕ) (n : ℕ) → n ≡ rows table → row_left date table bic n 0 ≡ row_of date table bic
unfolding row_of
row_start date table bic n e = rw (e, sub-zero)

-- ---- the three ways of a route

module _ (date : ℕ) (table bic : List ℕ) where
  pub route_own : (i : ℕ) → some i ≡ row_of date table bic → some i ≡ route date table bic
  unfolding route
  route_own i own = rw (← own)

  pub route_nowhere : none ≡ row_of date table bic → is_head_office bic ≡ true → none ≡ route date table bic
  unfolding route
  route_nowhere own head = rw (← own, head)

  pub route_head : none ≡ row_of date table bic → is_head_office bic ≡ false → head_office_row date table bic ≡ route date table bic
  unfolding route
  route_head own head = rw (← own, head)

  -- a search that tells the row of every text tells the row of a BIC
  pub route_told : (found : List ℕ → RustOption ℕ → Type 0) → ((bytes : List ℕ) (told : RustOption ℕ) → found bytes told → RowTold table (option_of told) (row_of date table bytes))
      → (told : RustOption ℕ) → RoutedBy found bic told → RowTold table (option_of told) (route date table bic)
  route_told found says told r = by_own r.own (says bic r.own r.own_found) r.is
    where
      by_own : (own : RustOption ℕ) → RowTold table (option_of own) (row_of date table bic) → ElseHead found bic own told → RowTold table (option_of told) (route date table bic)
      by_own (Some i) here e = rw e record { is = route_own i here.is; within = here.within }
      by_own None here e = by_test (is_head_office bic) refl
        where
          by_test : (t : Bool) → is_head_office bic ≡ t → RowTold table (option_of told) (route date table bic)
          by_test true head = rw (e.0 head) record { is = route_nowhere here.is head; within = tt }
          by_test false other = let row = says (head_office bic) told (e.1 other) in record { is = row.is ∙ route_head here.is other; within = row.within }

  -- ---- the five ways of a question

  pub lookup_date : is_date date ≡ false → refused (lookup_number Date) ≡ lookup date table bic
  unfolding lookup
  lookup_date e = rw e

  module _ (dated : is_date date ≡ true) where
    pub lookup_table : well_formed table ≡ false → refused (lookup_number Table) ≡ lookup date table bic
    unfolding lookup
    lookup_table e = rw (dated, e)

    module _ (formed : well_formed table ≡ true) where
      pub lookup_bic : (length bic ≡ bic_width → ⊥) → refused (lookup_number Bic) ≡ lookup date table bic
      unfolding lookup
      lookup_bic e = rw (dated, formed, ne_eqb (length bic) bic_width e)

      pub lookup_row : length bic ≡ bic_width → (found : Option ℕ) → found ≡ route date table bic → routed table found ≡ lookup date table bic
      unfolding lookup
      lookup_row long found e = rw (dated, formed, eq-eqb (length bic) bic_width long, e)

-- a search that tells one row of every text tells one of a BIC and its head office
pub routed_one : (found : List ℕ → RustOption ℕ → Type 0) → ((bytes : List ℕ) (x y : RustOption ℕ) → found bytes x → found bytes y → x ≡ y)
    → (bic : List ℕ) (x y : RustOption ℕ) → RoutedBy found bic x → RoutedBy found bic y → x ≡ y
routed_one found one bic x y p q = by_own p.own p.is (rw (one bic q.own p.own q.own_found p.own_found) at q.is)
  where
    by_own : (own : RustOption ℕ) → ElseHead found bic own x → ElseHead found bic own y → x ≡ y
    by_own (Some i) e f = e ∙ sym f
    by_own None e f = by_test (is_head_office bic) refl
      where
        by_test : (t : Bool) → is_head_office bic ≡ t → x ≡ y
        by_test true head = e.0 head ∙ sym (f.0 head)
        by_test false other = one (head_office bic) x y (e.1 other) (f.1 other)

-- ---- an answer: the row that was found, if one was

module _ (table : List ℕ) (expected : Routed) (formed : Formed table) (reached : Bool) where
  pub answer_told : (found : RustOption ℕ) → routed table (option_of found) ≡ expected → Below (rows table) (option_of found) → reached ≡ reachable table (option_of found)
      → AnswerTold table (Ok (option_map (λ i. record { place = i; reachable = reached }) found)) expected
  answer_told None is within same = record { is = is; within = tt; small = tt }
  answer_told (Some i) is within same = record { is = ap (row_is i) same ∙ is; within = within; small = lt_of_lt_of_le within formed.few }

-- ---- a row that was found is a row of the table

row_below : (date : ℕ) (table bic : List ℕ) (i : ℕ) → row_of date table bic ≡ some i → i < rows table
unfolding row_of
row_below date table bic i e = let found = first_found (bears date table bic) (rows table) 0 i e in omega (arith, found.1)

pub office_below : (date : ℕ) (table bic : List ℕ) (i : ℕ) → head_office_row date table bic ≡ some i → i < rows table
office_below date table bic i e = row_below date table (head_office bic) i e

pub route_below : (date : ℕ) (table bic : List ℕ) (i : ℕ) → route date table bic ≡ some i → i < rows table
unfolding route
route_below date table bic i e = own (row_of date table bic) refl e
  where
    office : (t : Bool) → cond t none (head_office_row date table bic) ≡ some i → i < rows table
    office true e = absurd (let z : ◌≡◌ {A = ℕ} 0 1 = cc in omega arith)
    office false e = office_below date table bic i e

    own : (r : Option ℕ) → row_of date table bic ≡ r → or_else r (cond (is_head_office bic) none (head_office_row date table bic)) ≡ some i → i < rows table
    own none found e = office (is_head_office bic) e
    own (some j) found e = let same : j ≡ i = cc in rw (← same) (row_below date table bic j found)

-- only a row that was found is reachable, or participates
pub reachable_row : (table : List ℕ) (found : Option ℕ) → reachable table found ≡ true → (i : ℕ) × (found ≡ some i)
reachable_row table none e = absurd (false≢true e)
reachable_row table (some i) e = (i, refl)

pub participates_row : (table : List ℕ) (found : Option ℕ) → participates table found ≡ true → (i : ℕ) × (found ≡ some i)
participates_row table none e = absurd (false≢true e)
participates_row table (some i) e = (i, refl)
