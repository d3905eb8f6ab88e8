-- Totals added side by side: what a bulk has come to so far, and what is left of it. Assumes nothing.
use mathlib.Core.Path.{◌≡◌, refl}
use mathlib.Core.Bool.{Bool, true, false, cond}
use mathlib.Core.List.{List}
use Prim.Native.Nat.{ℕ, ◌+◌}
use native.Mathlib.Nat.{add-zero}
use native.Mathlib.Omega.{arith}
use Rattle.tally.specs.Tally.{Totals, nothing, with_accepted, with_rejected}
use Rattle.messages.specs.Messages.{State, is_accepted, faults_of, counted}
use Rattle.rules.specs.declared.Terms.{Terms}

abbrev pub plus : Totals → Totals → Totals
plus s t =
    record {
      accepted_number = s.accepted_number + t.accepted_number;
      accepted_cents = s.accepted_cents + t.accepted_cents;
      rejected_number = s.rejected_number + t.rejected_number;
      rejected_cents = s.rejected_cents + t.rejected_cents;
    }

totals_same : (s t : Totals) → s.accepted_number ≡ t.accepted_number → s.accepted_cents ≡ t.accepted_cents
    → s.rejected_number ≡ t.rejected_number → s.rejected_cents ≡ t.rejected_cents → s ≡ t
totals_same s t a b c d = λ i. record { accepted_number = a i; accepted_cents = b i; rejected_number = c i; rejected_cents = d i }

pub plus_nothing : (t : Totals) → plus t nothing ≡ t
plus_nothing t = totals_same (plus t nothing) t (add-zero _) (add-zero _) (add-zero _) (add-zero _)

either_plus : (b : Bool) (amount : ℕ) (s t : Totals)
    → plus (cond b (with_accepted s amount) (with_rejected s amount)) t ≡ plus s (cond b (with_accepted t amount) (with_rejected t amount))
either_plus true amount s t = totals_same (plus (with_accepted s amount) t) (plus s (with_accepted t amount)) (omega arith) (omega arith) refl refl
either_plus false amount s t = totals_same (plus (with_rejected s amount) t) (plus s (with_rejected t amount)) refl refl (omega arith) (omega arith)

-- a message may be counted with those before it or with those after it
pub counted_plus : (terms : Terms) (table header : List ℕ) (fallen : Bool) (message : List ℕ) (before : State) (s t : Totals)
    → plus (counted terms table header fallen message before s) t ≡ plus s (counted terms table header fallen message before t)
unfolding counted
counted_plus terms table header fallen message before s t = either_plus (is_accepted fallen (faults_of terms table header message before)) _ s t
