-- A search that reads from its start to the last slot, and then from the first slot to its start, ends as the definition says: over
-- slots as a list, and in bytes. Assumes nothing.
use mathlib.Core.Path.{◌≡◌, sym, ap, ◌∙◌}
use mathlib.Core.Bool.{Bool, true}
use mathlib.Core.List.{List}
use Prim.Native.Nat.{ℕ, ◌+◌, ◌-◌, ◌≤◌, ◌<◌, min}
use native.Mathlib.Nat.{zero-add, sub-zero}
use native.Mathlib.Omega.{arith}
use lib.ListN.{length, take, drop, get_or, length-drop, get_or-eq_default}
use Rattle.slots.specs.Slots.{start_at, turned, place_after, passed, End, end_after}
use Rattle.slots.specs.Stored.{slot_count, slot_at, slots_from, slots_of}
use Rattle.slots.proofs.Walks.{start_within, passed_within, passed_first, passed_second, place_near, place_far, place_none, turned_length, turned_get}
use Rattle.slots.proofs.Turns.{stop_from, stop_here, stop_ends}
use Rattle.slots.proofs.Stored.{slots_drop, slots_take, slots_many, slots_at}

abbrev end_by : ℕ → ℕ → ℕ → End
end_by place name read = record { place = place; name = name; read = read }

-- ---- as a list

module _ (stops : ℕ → Bool) (xs : List ℕ) (s : ℕ) (h : s ≤ length xs) where
  abbrev end : End
  end = end_after s xs (passed stops (turned s xs))

  abbrev front : ℕ
  front = passed stops (drop s xs)

  by_fields : (p place name read : ℕ) → passed stops (turned s xs) ≡ p → place ≡ place_after s p (length xs) → name ≡ get_or (turned s xs) p 0
      → read ≡ min (p + 1) (length xs) → end_by place name read ≡ end
  unfolding end_after
  by_fields p place name read e ep en er = rw e (λ i. record { place = ep i; name = en i; read = er i })

  -- it stops at the slot at that place
  at_slot : (p place read : ℕ) → passed stops (turned s xs) ≡ p → p < length xs → place_after s p (length xs) ≡ place
      → read ≡ min (p + 1) (length xs) → end_by place (get_or xs place 0) read ≡ end
  at_slot p place read e l ep er =
      by_fields p place (get_or xs place 0) read e (sym ep) (sym (turned_get s xs h p l ∙ ap (λ (k : ℕ). get_or xs k 0) ep)) er

  ends_near : (first : ℕ) → first ≡ s + front → first < length xs → end_by first (get_or xs first 0) (first - s + 1) ≡ end
  ends_near first e l =
      let short : front < length (drop s xs) = rw (length-drop s xs) (omega arith) in
      at_slot front first (first - s + 1) (passed_first stops (drop s xs) (take s xs) short) (omega arith)
      (place_near s front (length xs) (omega arith) ∙ sym e) (omega arith)

  module _ (all : length xs ≤ s + front) (second : ℕ) (e : second ≡ passed stops (take s xs)) where
    in_both : passed stops (turned s xs) ≡ length xs - s + second
    in_both =
        let full : length (drop s xs) ≤ front = rw (length-drop s xs) (omega arith) in
        passed_second stops (drop s xs) (take s xs) full ∙ (rw (length-drop s xs, e))

    ends_far : second < s → end_by second (get_or xs second 0) (length xs - s + second + 1) ≡ end
    ends_far l =
        let back : s + (length xs - s + second) - length xs ≡ second = omega arith in
        at_slot (length xs - s + second) second (length xs - s + second + 1) in_both (omega arith)
        (place_far s (length xs - s + second) (length xs) (omega arith) (omega arith) ∙ back) (omega arith)

    ends_nowhere : s ≤ second → end_by (length xs) 0 (length xs) ≡ end
    ends_nowhere l =
        let long : length (turned s xs) ≡ length xs = turned_length s xs h in
        let most : passed stops (turned s xs) ≤ length (turned s xs) = passed_within stops (turned s xs) in
        let out : length (turned s xs) ≤ length xs = omega arith in
        by_fields (length xs) (length xs) 0 (length xs) (omega (arith, in_both, most, long))
        (sym (place_none s (length xs) (length xs) (omega arith)))
        (sym (get_or-eq_default (turned s xs) 0 out)) (omega arith)

-- ---- in bytes, from the start of a key that comes to v

module _ (stops : ℕ → Bool) (index : List ℕ) (v n s first : ℕ) (en : n ≡ slot_count index) (es : s ≡ start_at v n)
    (ef : first ≡ s + passed stops (slots_from index (n - s) s)) where
  many : length (slots_of index) ≡ n
  many = slots_many index ∙ sym en

  starts_within : s ≤ n
  starts_within = rw es (start_within v n)

  low : s ≤ length (slots_of index)
  low = rw many starts_within

  starts : s ≡ start_at v (length (slots_of index))
  starts = rw many es

  after : drop s (slots_of index) ≡ slots_from index (n - s) s
  after = rw en (slots_drop index (slot_count index) 0 s ∙ ap (slots_from index (slot_count index - s)) (zero-add s))

  first_is : first ≡ s + passed stops (drop s (slots_of index))
  first_is = rw after ef

  abbrev wanted : End
  wanted = (let b = start_at v (length (slots_of index)) in end_after b (slots_of index) (passed stops (turned b (slots_of index))))

  search_near : (name : ℕ) → first < n → name ≡ slot_at index first → end_by first name (first - s + 1) ≡ wanted
  search_near name l e =
      let is : name ≡ get_or (slots_of index) first 0 = e ∙ sym (slots_at index first (rw en at l)) in
      rw (is, ← starts) (ends_near stops (slots_of index) s low first first_is (rw many l))

  module _ (all : n ≤ first) (second : ℕ) (e : second ≡ 0 + passed stops (slots_from index (s - 0) 0)) where
    through : length (slots_of index) ≤ s + passed stops (drop s (slots_of index))
    through = rw (many, ← first_is) all

    second_is : second ≡ passed stops (take s (slots_of index))
    second_is =
        let before : take s (slots_of index) ≡ slots_from index s 0 = slots_take index (slot_count index) 0 s (rw en at starts_within) in
        rw before (rw (sub-zero s, zero-add (passed stops (slots_from index s 0))) at e)

    search_far : (name : ℕ) → second < s → name ≡ slot_at index second → end_by second name (n - s + second + 1) ≡ wanted
    search_far name l is =
        let inside : second < slot_count index = omega (arith, starts_within) in
        let holds : name ≡ get_or (slots_of index) second 0 = is ∙ sym (slots_at index second inside) in
        rw (holds, ← many, ← starts) (ends_far stops (slots_of index) s low through second second_is l)

    search_none : s ≤ second → end_by n 0 n ≡ wanted
    search_none l = rw (← starts, ← many) (ends_nowhere stops (slots_of index) s low through second second_is l)

-- ---- a search in two loops, each of which passes slots as long as it does not stop

module _ (stops : ℕ → Bool) (index : List ℕ) (v n s : ℕ) (en : n ≡ slot_count index) (es : s ≡ start_at v n) where
  abbrev ended : End
  ended = (let b = start_at v (length (slots_of index)) in end_after b (slots_of index) (passed stops (turned b (slots_of index))))

  pub from_within_lem : s ≤ n
  from_within_lem = rw es (start_within v n)

  module _ (at : ℕ) (so_far : stop_from stops index n at ≡ stop_from stops index n s) where
    pub stops_near : (name : ℕ) → at < n → name ≡ slot_at index at → stops name ≡ true → end_by at name (at - s + 1) ≡ ended
    stops_near name l e here = search_near stops index v n s at en es (sym (stop_here stops index n at l (rw (← e) here)) ∙ so_far) name l e

    module _ (all : n ≤ at) (round : ℕ) (again : stop_from stops index s round ≡ stop_from stops index s 0) where
      first_is_all : at ≡ stop_from stops index n s
      first_is_all = sym (stop_ends stops index n at all) ∙ so_far

      pub stops_far : (name : ℕ) → round < s → name ≡ slot_at index round → stops name ≡ true → end_by round name (n - s + round + 1) ≡ ended
      stops_far name l e here =
          search_far stops index v n s at en es first_is_all all round (sym (stop_here stops index s round l (rw (← e) here)) ∙ again) name l e

      pub stops_nowhere : s ≤ round → end_by n 0 n ≡ ended
      stops_nowhere l = search_none stops index v n s at en es first_is_all all round (sym (stop_ends stops index s round l) ∙ again) l
