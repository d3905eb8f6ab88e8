-- The laws of a directory: each turn of its making, and what a search of it tells. Assumes nothing.
use mathlib.Core.Path.{◌≡◌, refl, sym, ap, ◌∙◌}
use mathlib.Core.Bool.{Bool, true, false}
use mathlib.Core.List.{List}
use mathlib.Core.Option.{none, some}
use Prim.Native.Nat.{ℕ, ◌+◌, ◌-◌, ◌≤◌}
use native.Mathlib.Numerals.{add-one}
use native.Mathlib.Omega.{arith}
use Rattle.slots.specs.Slots.{End, names}
use Rattle.slots.specs.Stored.{searched_in, added}
use Rattle.slots.specs.Asked.{end_of, named_by}
use Rattle.slots.specs.declared.Layout.{Layout}
use Rattle.slots.specs.declared.Ended.{Ended}
use Rattle.slots.proofs.Walks.{names_told, names_least}
use Rattle.slots.proofs.Laws.{picked_none, picked_add, picked_skip, picked_first}
use Rattle.routing.specs.Table.{rows, bic_at}
use Rattle.routing.specs.Promise.{Formed, RowTold}
use Rattle.routing.specs.Lookup.{counts, row_of}
use Rattle.directory.specs.Directory.{row_layout, slot_number, directory_length, blank, directory_to, directory_of}

-- ---- making

module _ (date : ℕ) (table : List ℕ) where
  pub make_starts : (directory : List ℕ) → directory ≡ blank → directory ≡ directory_to date table 0
  unfolding blank directory_to
  make_starts directory e = e ∙ sym (picked_none (counts date table) row_layout table directory_length)

  module _ (i : ℕ) (directory : List ℕ) (ed : directory ≡ directory_to date table i) (t : Bool) (et : t ≡ counts date table i) where
    pub row_added : (bic : List ℕ) (layout : Layout) (e : End) → t ≡ true → layout ≡ row_layout → bic ≡ bic_at table i
        → e ≡ searched_in layout table i bic directory → added e i directory ≡ directory_to date table (i + 1)
    unfolding directory_to
    row_added bic layout e ec el eb ee =
        (rw (ee, el, eb, ed) (picked_add (counts date table) row_layout table directory_length i (sym et ∙ ec))) ∙ ap (directory_to date table) (sym (add-one i))

    pub row_passed : t ≡ false → directory ≡ directory_to date table (i + 1)
    unfolding directory_to
    row_passed ec = ed ∙ picked_skip (counts date table) row_layout table directory_length i (sym et ∙ ec) ∙ ap (directory_to date table) (sym (add-one i))

  -- ---- a search

  module _ (f : Formed table) (bic : List ℕ) where
    -- the row of a BIC is the one that its search names
    row_named : row_of date table bic ≡ named_by (rows table) (searched_in row_layout table (rows table) bic (directory_of date table)).name
    unfolding row_of directory_to
    row_named = picked_first (counts date table) row_layout table directory_length slot_number refl (omega arith) (rows table) (omega (arith, f.few)) bic

    module _ (directory : List ℕ) (n : ℕ) (layout : Layout) (ended : Ended) (t : Bool) (ed : directory ≡ directory_of date table) (en : n ≡ rows table) (el : layout ≡ row_layout)
        (ee : end_of ended ≡ searched_in layout table n bic directory) (et : t ≡ names n ended.name) where
      name_is : row_of date table bic ≡ named_by n ended.name
      name_is =
          let end : end_of ended ≡ searched_in row_layout table (rows table) bic (directory_of date table) = ee ∙ (rw (el, en, ed)) in
          row_named ∙ ap (λ (e : End). named_by (rows table) e.name) (sym end) ∙ ap (λ (k : ℕ). named_by k ended.name) (sym en)

      pub row_least : t ≡ true → 1 ≤ ended.name
      row_least e = names_least n ended.name (sym et ∙ e)

      pub row_told : t ≡ true → RowTold table (some (ended.name - 1)) (row_of date table bic)
      row_told e =
          let told = names_told n ended.name (sym et ∙ e) in
          record { is = sym (name_is ∙ (rw (← et, e))); within = omega (arith, told.1, row_least e, en) }

      pub nothing_told : t ≡ false → RowTold table none (row_of date table bic)
      nothing_told e = record { is = sym (name_is ∙ (rw (← et, e))); within = tt }
