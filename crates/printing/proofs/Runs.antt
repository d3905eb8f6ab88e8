-- The laws of a response in a lent buffer. Assumes nothing.
use mathlib.Core.Path.{◌≡◌, refl, sym}
use mathlib.Core.List.{List}
use Prim.Native.Nat.{ℕ, ◌≤◌}
use native.Mathlib.Nat.{le_trans}
use native.Mathlib.Omega.{arith}
use lib.ListN.{length}
use lib.Seq.{length-take-le}
use Rattle.wire.proofs.Stores.{part_stored}
use Rattle.decimals.proofs.Runs.{printed_length}
use Rattle.printing.specs.Response.{most_response}
use Rattle.printing.specs.Writing.{PrintedWithin, Answered}

pub within_reading : {most : ℕ} {before after : List ℕ} {at next : ℕ} {xs ys : List ℕ} → xs ≡ ys
    → PrintedWithin most before after at next xs → PrintedWithin most before after at next ys
within_reading e p = rw e at p

pub widen : {few most : ℕ} {before after : List ℕ} {at next : ℕ} {text : List ℕ} → few ≤ most
    → PrintedWithin few before after at next text → PrintedWithin most before after at next text
widen h p = record { printed = p.printed; short = le_trans p.short h }

-- a text from the start on is a whole answer
pub whole_answer : {before after : List ℕ} {written : ℕ} {text : List ℕ} → PrintedWithin most_response before after 0 written text → Answered before after written text
whole_answer {before} {after} {written} {text} p =
    let same = printed_length p.printed in
    let place = p.printed.place in
    let short = p.short in
    let within : written ≤ length after = omega arith in
    record {
      printed = p.printed;
      within = within;
      counted = sym (length-take-le written after within);
      all = λ (room : most_response ≤ length before).
          let full : written ≡ length text = omega arith in
          rw (p.printed.bytes, full) (part_stored before 0 (length text) text refl (omega arith));
    }
