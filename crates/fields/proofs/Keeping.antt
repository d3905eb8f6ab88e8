-- What is kept of a text: as many bytes of it as its clipped length says, and whether there are more. Assumes nothing.
use mathlib.Core.Path.{◌≡◌, sym, ap, ◌∙◌}
use mathlib.Core.Logic.{⊎_elim}
use mathlib.Core.List.{List, ◌++◌}
use Prim.Native.Nat.{ℕ, ◌≤◌, ◌<◌}
use native.Mathlib.Omega.{arith}
use lib.ListN.{length, take, replicate, length-take}
use lib.Seq.{take_all, take-take, take_at, take-append-le}
use Rattle.wire.proofs.Sides.{le_or_lt}
use Rattle.prose.specs.Prose.{Kept}

module _ (t kept : List ℕ) (long : ℕ) (k : Kept t kept long) where
  spaces : List ℕ
  spaces = replicate 35 32

  kept_short : length t ≤ 35 → take long kept ≡ take 35 t
  unfolding spaces
  kept_short h =
      let size : length t ≡ long = omega arith in
      ap (take long) k.bytes
      ∙ take-take long 35 (t ++ spaces) (omega arith)
      ∙ take_at t spaces long size
      ∙ sym (take_all 35 t h)

  kept_clipped : 35 < length t → take long kept ≡ take 35 t
  unfolding spaces
  kept_clipped h =
      let front : kept ≡ take 35 t = k.bytes ∙ take-append-le 35 t spaces (omega arith) in
      let few : length (take 35 t) ≤ long = rw (length-take 35 t) (omega arith) in
      ap (take long) front ∙ take_all long (take 35 t) few

  -- the bytes of the text among those that are kept
  pub kept_text : take long kept ≡ take 35 t
  kept_text = ⊎_elim (λ (h : length t ≤ 35). kept_short h) (λ (h : 35 < length t). kept_clipped h) (le_or_lt (length t) 35)

  pub kept_whole : long ≤ 35 → take long kept ≡ t
  kept_whole h = kept_text ∙ take_all 35 t (omega arith)

  pub kept_long : 35 < long → 35 < length t
  kept_long h = omega arith

  pub kept_told : take 35 (take long kept) ≡ take 35 t
  kept_told = ap (take 35) kept_text ∙ take-take 35 35 t (omega arith)
