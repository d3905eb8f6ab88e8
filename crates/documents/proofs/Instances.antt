-- The round trip on a file of one payment and one return: there are bulks that documents carry. Assumes nothing.
use mathlib.Core.Path.{◌≡◌, refl}
use mathlib.Core.Logic.{◌⊎◌, inl, inr}
use mathlib.Core.Bool.{true}
use mathlib.Core.List.{List, [], ◌∷◌}
use Prim.Native.Nat.{ℕ, ◌≤◌, ◌<◌}
use native.Mathlib.Omega.{arith}
use lib.Dec.{ltb, lit<}
use lib.ListN.{length, get_or, get_or-eq_default}
use lib.Seq.{sets}
use borrow.Author.Tests.{ltb-true}
use Rattle.std.specs.Prelude.{Ok}
use Rattle.wire.specs.Field.{Bytes}
use Rattle.wire.specs.Places.{every_from}
use Rattle.wire.proofs.Scans.{every_holds}
use Rattle.wire.proofs.Sides.{le_or_lt}
use Rattle.sheet.specs.Sheet.{Bulk}
use Rattle.sheet.specs.Written.{header_bytes, message_bytes, payment_bytes, sheet_bytes}
use Rattle.sheet.proofs.Computing.{sheets_compute}
use Rattle.letters.specs.Characters.{width_of, width_at}
use Rattle.reading.specs.Reading.{reads, outcome}
use Rattle.documents.specs.Carried.{characters_by, CarriedMessages, CarriedBulk, CarriedEach, Carried}
use Rattle.documents.specs.Documents.{Manner, documents_of}
use Rattle.documents.proofs.ReadBack.{reads_back}

unfoldable pub payments : Bulk
payments = record {
  header = header_bytes 1 "B&1" "AAAALV22" 1 250 20240229 3;
  messages = payment_bytes "P1" "BBBBLV22" 250 ∷ [];
}

unfoldable pub returns : Bulk
returns = record {
  header = header_bytes 3 "B2" "AAAALV22" 1 199 20240301 4;
  messages = message_bytes "R1" "BBBBLV22XXX" 199 250 "AC01" "pacs.008.001.08" ∷ [];
}

-- a list of bytes, by computing
bytes_by : (s : List ℕ) → every_from (λ i. ltb (get_or s i 0) 256) (length s) 0 ≡ true → Bytes s
bytes_by s h i = by_size (le_or_lt (length s) i)
  where
    by_size : (length s ≤ i) ⊎ (i < length s) → get_or s i 0 < 256
    by_size (inl past) = rw (get_or-eq_default s 0 past) (lit< tt)
    by_size (inr inside) = ltb-true (get_or s i 0) 256 (every_holds (λ k. ltb (get_or s k 0) 256) (length s) 0 i h (omega arith) (omega arith))

payments_carried : CarriedBulk payments
unfolding sheets_compute width_of width_at characters_by CarriedMessages payments
payments_carried = record {
  header = record {
    width = refl;
    bytes = bytes_by payments.header refl;
    kind = refl;
    identifier = refl;
    sender = refl;
    number = lit< tt;
    sum = refl;
    date = lit< tt;
    marks = lit< tt;
  };
  messages = (
    record {
      width = refl;
      bytes = bytes_by (payment_bytes "P1" "BBBBLV22" 250) refl;
      identifier = refl;
      receiver = refl;
      amount = refl;
      original = refl;
      reason = refl;
      name = refl;
      payment = λ is. record { amount = refl; reason = refl; name = refl };
    },
    tt,
  );
  few = lit< tt;
}

returns_carried : CarriedBulk returns
unfolding sheets_compute width_of width_at characters_by CarriedMessages returns
returns_carried = record {
  header = record {
    width = refl;
    bytes = bytes_by returns.header refl;
    kind = refl;
    identifier = refl;
    sender = refl;
    number = lit< tt;
    sum = refl;
    date = lit< tt;
    marks = lit< tt;
  };
  messages = (
    record {
      width = refl;
      bytes = bytes_by (message_bytes "R1" "BBBBLV22XXX" 199 250 "AC01" "pacs.008.001.08") refl;
      identifier = refl;
      receiver = refl;
      amount = refl;
      original = refl;
      reason = refl;
      name = refl;
      payment = λ is. absurd (omega arith);
    },
    tt,
  );
  few = lit< tt;
}

abbrev both : List Bulk
both = payments ∷ returns ∷ []

both_carried : Carried both
unfolding CarriedEach
both_carried = record { each = (payments_carried, (returns_carried, tt)); some = lit< tt; few = lit< tt }

pub both_back : (manner : Manner) (space : List ℕ) → 304 ≤ length space → reads (documents_of manner both) space ≡ outcome (Ok 304) (sets space 0 (sheet_bytes both))
unfolding sheets_compute payments returns
both_back manner space room = reads_back manner both space both_carried room
