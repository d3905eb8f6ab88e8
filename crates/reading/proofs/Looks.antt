-- What is noted of a document is what was asked of it. Assumes nothing.
use mathlib.Core.Path.{◌≡◌, refl, sym, ap, ◌∙◌}
use mathlib.Core.List.{List}
use Prim.Native.Nat.{ℕ}
use native.Mathlib.Omega.{arith}
use lib.ListN.{get_or, set, replicate}
use Rattle.std.specs.Prelude.{Result, Ok, Err, IfOk}
use Rattle.std.proofs.lemmas.Result.{IfOk-at_ok}
use Rattle.elements.specs.declared.Stop.{Stop}
use Rattle.elements.specs.Forest.{Forest}
use Rattle.elements.specs.Grammar.{Parsed, read, broken, deep}
use Rattle.elements.specs.Notes.{step_of, notes_of}
use Rattle.elements.proofs.Noting.{noted_lack, noted_messages}
use Rattle.elements.proofs.Steps.{done_read, stopped, err_stopped}
use Rattle.reading.specs.Survey.{Looked, seen_to}
use Rattle.reading.specs.declared.survey.Seen.{Seen}

-- notes that are empty but for the place before which something lacks
abbrev pub blank : ℕ → List ℕ
blank lack = set (replicate 36 0) 34 lack

pub looked : (p : Parsed) (lack : ℕ) (notes : List ℕ) (seen : Seen) → notes ≡ notes_of p (blank lack) → seen.lack ≡ get_or notes 34 0 → seen.messages ≡ get_or notes 35 0 → Looked p lack seen
looked (read n f) lack notes seen h l m = (
  l ∙ ap (λ (ns : List ℕ). get_or ns 34 0) h ∙ noted_lack f (blank lack) refl,
  m ∙ ap (λ (ns : List ℕ). get_or ns 35 0) h ∙ noted_messages f (blank lack) refl (omega arith) ∙ (omega arith),
)
looked (broken q) lack notes seen h l m = tt
looked (deep q) lack notes seen h l m = tt

-- where a document was read, it was seen whole
pub record Whole (p : Parsed) (lack : ℕ) (seen : Seen) : Type 0 where
  pub forest : Forest
  pub was : p ≡ read seen.next forest
  pub told : Looked (read seen.next forest) lack seen

pub seen_whole : (p : Parsed) (lack : ℕ) (r : Result Seen Stop) (seen : Seen) → seen_to r ≡ step_of p → IfOk r (λ seen. Looked p lack seen) → r ≡ Ok seen → Whole p lack seen
seen_whole p lack r seen step told was =
    let done = done_read p seen.next (sym step ∙ ap seen_to was) in
    let its : Looked p lack seen = IfOk-at_ok (λ seen. Looked p lack seen) was told in
    record { forest = done.forest; was = done.was; told = rw done.was at its }

-- and where it was not, the reason is the reading's
pub seen_stopped : (p : Parsed) (r : Result Seen Stop) (e : Stop) → seen_to r ≡ step_of p → r ≡ Err e → p ≡ stopped e
seen_stopped p r e step was = err_stopped p e (sym step ∙ ap seen_to was)
