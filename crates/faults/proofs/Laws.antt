-- Few bits are enough for all facts. Assumes nothing.
use mathlib.Core.List.{List}
use Prim.Native.Nat.{ℕ, ◌<◌, ◌^◌}
use native.Mathlib.Omega.{arith}
use Rattle.masks.proofs.Laws.{mask_below}
use Rattle.rules.specs.declared.Terms.{Terms}
use Rattle.faults.specs.Faults.{bulk_facts, bulk_faults, message_facts, message_faults}

-- the two bytes of a line hold them

pub bulk_few : (terms : Terms) (table register header : List ℕ) (number sum : ℕ) → bulk_faults terms table register header number sum < 2 ^ 16
unfolding bulk_faults
bulk_few terms table register header number sum = (let h = mask_below (bulk_facts terms table register header number sum) in omega arith)

pub message_few : (terms : Terms) (table register header message : List ℕ) → message_faults terms table register header message < 2 ^ 16
unfolding message_faults
message_few terms table register header message = (let h = mask_below (message_facts terms table register header message) in omega arith)
