-- The register tried on cases of its form, of the search and of adding: each table one statement. Assumes nothing.
use mathlib.Core.Path.{◌≡◌, refl}
use mathlib.Core.Bool.{Bool, true, false, and-true}
use mathlib.Core.List.{List, [], ◌∷◌, ◌++◌, map}
use Prim.Native.Nat.{ℕ, ◌+◌, ◌-◌, ◌*◌, ◌/◌}
use Prim.Native.String.{String}
use native.Mathlib.Omega.{arith}
use lib.Dec.{leb}
use lib.ListN.{length, take, replicate, length-replicate}
use borrow.Author.Tests.{le-leb, eq-eqb}
use Rattle.wire.specs.Field.{text, bytes_of}
use Rattle.wire.specs.Written.{padded, joined}
use Rattle.register.specs.Register.{identifier_width, key_width, key, entry_width, entry, message_tag, bulk_tag, most_entries, used_width, well_formed, keys_of, stands, add}
use Rattle.register.proofs.Computing.{register_computes}

-- ---- the form: so many bytes, the first four of which say so many are used

record Form : Type 0 where
  bytes : ℕ
  used : ℕ
  good : Bool

form : ℕ → ℕ → Bool → Form
form n u b = record { bytes = n; used = u; good = b }

forms : List Form
forms =
    form 0 0 false
    ∷ form 3 0 false
    -- no room at all
    ∷ form 4 0 true
    ∷ form 4 1 false
    -- a byte short of an entry, an entry, and a byte left over
    ∷ form 47 0 false
    ∷ form 47 1 false
    ∷ form 48 0 true
    ∷ form 48 1 true
    ∷ form 48 2 false
    ∷ form 49 0 false
    ∷ form 49 1 false
    -- room for two
    ∷ form 92 2 true
    ∷ form 92 3 false
    ∷ form 92 4294967295 false
    ∷ []

forms_right : map (λ q. well_formed (take q.bytes (bytes_of 4 q.used ++ replicate 88 7))) forms ≡ map (λ q. q.good) forms
unfolding register_computes forms form
forms_right = refl

-- the most entries, and one more: too long to write out, so by their number
spacious : ℕ → List ℕ
spacious n = bytes_of 4 0 ++ replicate (entry_width * n) 7

spacious_formed : (n : ℕ) → well_formed (spacious n) ≡ leb n most_entries
unfolding register_computes spacious
spacious_formed n =
    let long : length (spacious n) ≡ used_width + entry_width * n = omega (arith, length-replicate {A = ℕ} (entry_width * n) 7) in
    let count : (used_width + entry_width * n - used_width) / entry_width ≡ n = omega arith in
    rw (long, count, le-leb used_width (used_width + entry_width * n) (omega arith), eq-eqb (used_width + entry_width * n) (used_width + entry_width * n) refl, le-leb 0 n (omega arith))
    (and-true (leb n most_entries))

most_right : (well_formed (spacious 60000) ≡ true) × (well_formed (spacious 60001) ≡ false)
most_right = (spacious_formed 60000, spacious_formed 60001)

-- ---- the search: of four places the first three are used

named : String → String → ℕ → List ℕ
named sender identifier tag = key (text sender) (padded identifier_width identifier) tag

-- the entries in use, and those that stand past them, told by their keys
register_of : List (List ℕ) → List (List ℕ) → List ℕ
register_of ks rest = bytes_of used_width (length ks) ++ joined (map entry (ks ++ rest))

used : List (List ℕ)
used = named "AAAALV22" "T1" message_tag ∷ named "BBBBLV22" "T2" message_tag ∷ named "AAAALV22" "D1" bulk_tag ∷ []

past : List ℕ
past = named "AAAALV22" "T3" message_tag

record Looked : Type 0 where
  looked : List ℕ
  found : Bool

look : String → String → ℕ → Bool → Looked
look s i t b = record { looked = named s i t; found = b }

searches : List Looked
searches =
    look "AAAALV22" "T1" message_tag true
    ∷ look "BBBBLV22" "T2" message_tag true
    ∷ look "AAAALV22" "D1" bulk_tag true
    -- another sender, the other tag, another identifier
    ∷ look "BBBBLV22" "T1" message_tag false
    ∷ look "AAAALV22" "T2" message_tag false
    ∷ look "AAAALV22" "T1" bulk_tag false
    ∷ look "AAAALV22" "D1" message_tag false
    ∷ look "AAAALV22" "T11" message_tag false
    ∷ look "AAAALV22" "T" message_tag false
    -- past the number used nothing has a meaning
    ∷ look "AAAALV22" "T3" message_tag false
    -- no key: too short
    ∷ record { looked = []; found = false }
    ∷ []

searches_right : map (λ q. stands (register_of used (past ∷ [])) q.looked) searches ≡ map (λ q. q.found) searches
unfolding register_computes searches look used past register_of named
searches_right = refl

keys_right : keys_of (register_of used (past ∷ [])) ≡ used
unfolding register_computes used past register_of named
keys_right = refl

-- ---- adding: over what stood past the number used, and at the last place

added_right : map (λ r. add r past) (register_of [] (past ∷ past ∷ []) ∷ register_of used (replicate key_width 7 ∷ []) ∷ register_of used (replicate key_width 7 ∷ past ∷ []) ∷ [])
    ≡ register_of (past ∷ []) (past ∷ []) ∷ register_of (used ++ (past ∷ [])) [] ∷ register_of (used ++ (past ∷ [])) (past ∷ []) ∷ []
unfolding register_computes used past register_of named
added_right = refl
