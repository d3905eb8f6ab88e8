-- What a reader of documents needs to know of what stands before them: that it ends in the text, that a text which begins with a tag
-- has nothing of it, and where it ends in the usual text. Assumes nothing.
use mathlib.Core.Path.{◌≡◌, refl, sym, ap, ◌∙◌}
use mathlib.Core.Bool.{Bool, true, false, cond, false≢true}
use mathlib.Core.List.{List, [], ◌∷◌, ◌++◌}
use Prim.Native.Nat.{ℕ, ◌+◌, ◌≤◌, ◌<◌}
use native.Mathlib.Omega.{arith}
use lib.ListN.{length, drop, get_or, length-drop}
use lib.Seq.{split_at, get_or-drop, get_or-take}
use Rattle.wire.specs.Field.{text, part}
use Rattle.wire.proofs.Texts.{same_equal}
use Rattle.letters.specs.Places.{byte_at, on_reach}
use Rattle.letters.specs.References.{stands}
use Rattle.std.specs.Prelude.{Ok}
use Rattle.letters.proofs.Scans.{byte_there, run_stops, run_within}
use Rattle.letters.proofs.Walks.{went}
use Rattle.letters.proofs.References.{stands_there, stands_differs}
use Rattle.tags.specs.Names.{is_space, name_start, space_end}
use Rattle.tags.proofs.Tags.{expected_inside}
use Rattle.prolog.specs.Prolog.{mark, after_mark, setting_at, maybe_setting, declaration_at, prolog}
use Rattle.prolog.proofs.Computing.{prolog_computes}
use Rattle.prolog.proofs.Prologs.{closed, from_standalone, from_encoding, prolog_plain}

-- ---- it ends in the text

space_inside : (s : List ℕ) (at : ℕ) → at ≤ length s → space_end s at ≤ length s
space_inside s at h = omega (arith, run_within is_space (drop at s), length-drop at s)

module _ (s : List ℕ) where
  declaration_inside : (at n : ℕ) → declaration_at s at ≡ Ok n → n ≤ length s
  unfolding declaration_at
  declaration_inside at n e =
      let a = went (setting_at 0 s at) (from_encoding s) n e in
      let b = went (maybe_setting 1 101 s a.mid) (from_standalone s) n a.then in
      let c = went (maybe_setting 2 115 s b.mid) (closed s) n b.then in
      expected_inside s 63 (62 ∷ []) (space_end s c.mid) n c.then

  mark_inside : after_mark s ≤ length s
  mark_inside = by_test (stands s 0 mark) refl
    where
      by_test : (t : Bool) → stands s 0 mark ≡ t → cond t 3 0 ≤ length s
      by_test true e = omega (arith, stands_there s 0 mark e (omega arith))
      by_test false e = omega arith

  pub prolog_inside : (n : ℕ) → prolog s ≡ Ok n → n ≤ length s
  unfolding prolog
  prolog_inside n e = by_test (stands s (after_mark s) (text "<?xml")) e
    where
      by_test : (t : Bool) → on_reach (cond t (declaration_at s (after_mark s + 5)) (Ok (after_mark s))) (λ m. Ok (space_end s m)) ≡ Ok n → n ≤ length s
      by_test true told =
          let a = went (declaration_at s (after_mark s + 5)) (λ m. Ok (space_end s m)) n told in
          let ends : space_end s a.mid ≡ n = cc a.then in
          omega (arith, space_inside s a.mid (declaration_inside (after_mark s + 5) a.mid a.first))
      by_test false told =
          let ends : space_end s (after_mark s) ≡ n = cc in
          omega (arith, space_inside s (after_mark s) mark_inside)

-- ---- a text that begins with a tag

question : (b : ℕ) → name_start b ≡ true → b ≡ 63 → ⊥
unfolding name_start
question b e same = false≢true (rw same at e)

less_than : (b : ℕ) → b ≡ 60 → is_space b ≡ false
unfolding is_space
less_than b e = rw e

module _ (s : List ℕ) (opens : byte_at s 0 ≡ 60) where
  no_mark : 0 ≡ after_mark s
  no_mark = rw (stands_differs s 0 239 (187 ∷ 191 ∷ []) (λ e. omega (arith, e)))

  pub prolog_none : name_start (byte_at s 1) ≡ true → prolog s ≡ Ok 0
  prolog_none named =
      let plain : stands s 0 (text "<?xml") ≡ false = by_test (stands s 0 (text "<?xml")) refl in
      let here = run_stops is_space s 0 (byte_there s 0 (omega arith)) (less_than (byte_at s 0) opens) in
      prolog_plain s 0 no_mark plain ∙ ap Ok (sym here)
    where
      by_test : (t : Bool) → stands s 0 (text "<?xml") ≡ t → t ≡ false
      by_test true e =
          let whole : part s 0 5 ≡ text "<?xml" = same_equal (part s 0 5) (text "<?xml") e in
          let near : 1 < 5 = omega arith in
          let byte : get_or (part s 0 5) 1 0 ≡ byte_at s 1 = rw (get_or-take, get_or-drop) in
          let second : byte_at s 1 ≡ 63 = sym byte ∙ ap (λ (l : List ℕ). get_or l 1 0) whole in
          absurd (question (byte_at s 1) named second)
      by_test false e = refl

-- ---- the usual declaration, a line feed and a tag

abbrev pub usual : List ℕ
usual = text "<?xml version=\"1.0\" encoding=\"UTF-8\"?>\n"

usual_read : (rest : List ℕ) → prolog (usual ++ (60 ∷ rest)) ≡ Ok 39
unfolding prolog_computes
usual_read rest = refl

pub prolog_usual : (s : List ℕ) → part s 0 39 ≡ usual → byte_at s 39 ≡ 60 → prolog s ≡ Ok 39
prolog_usual s e opens =
    let there = byte_there s 39 (omega arith) in
    ap prolog (split_at s 39 0 there) ∙ (rw (e, opens) (usual_read (drop 40 s)))
