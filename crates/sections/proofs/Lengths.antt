-- How long the printed lines can be in all, of any bytes. Assumes nothing.
use mathlib.Core.List.{List}
use Prim.Native.Nat.{ℕ, zero, suc, ◌+◌, ◌*◌, ◌^◌, ◌≤◌}
use native.Mathlib.Omega.{arith}
use lib.Dec.{lit≤}
use lib.ListN.{length, take, drop, length-append}
use Rattle.wire.specs.Field.{Bytes}
use Rattle.wire.proofs.Numbers.{number_small_lem}
use Rattle.wire.proofs.Texts.{take_bytes, drop_bytes}
use Rattle.report.specs.Line.{count_width, bulk_line_width, message_line_width}
use Rattle.positions.specs.Positions.{position_width, position_place, rows, position_at}
use Rattle.register.specs.Register.{used_width, used}
use Rattle.lines.specs.Lines.{message_text}
use Rattle.lines.proofs.Lengths.{bulk_short, message_short}
use Rattle.figures.specs.Figures.{position_text, used_text}
use Rattle.figures.proofs.Lengths.{number_line_short, position_short}
use Rattle.sections.specs.Layout.{count_in, after_count, later_sections}
use Rattle.sections.specs.Sections.{messages_text, bulks_text, positions_from, positions_text}

-- ---- the entries in use

pub used_short : (register : List ℕ) → Bytes register → length (used_text (used register)) ≤ 13
used_short register bytes =
    let small = number_small_lem register 0 used_width bytes in
    number_line_short 9 _ (used register) (omega arith)

-- ---- positions

positions_short : (positions : List ℕ) (n i : ℕ) → Bytes positions → i + n ≤ 10 ^ 20 → length (positions_from positions n i) ≤ 48 * n
unfolding positions_from
positions_short positions zero i bytes few = lit≤ tt
positions_short positions (suc n) i bytes few =
    let first = position_short i (position_at positions i) (omega arith) (number_small_lem positions (position_place i) position_width bytes) in
    let rest = positions_short positions n (suc i) bytes (omega arith) in
    rw (length-append (position_text i (position_at positions i)) (positions_from positions n (suc i))) (omega arith)

pub all_positions_short : (positions : List ℕ) → Bytes positions → length positions ≤ 10 ^ 20 → length (positions_text positions) ≤ 6 * length positions
unfolding positions_text
all_positions_short positions bytes few =
    let short = positions_short positions (rows positions) 0 bytes (omega arith) in
    omega arith

-- ---- reports

messages_short : (n : ℕ) (lines : List ℕ) → Bytes lines → length (messages_text n lines) ≤ 46 * n
unfolding messages_text
messages_short zero lines bytes = lit≤ tt
messages_short (suc n) lines bytes =
    let first = message_short (take message_line_width lines) (take_bytes message_line_width lines bytes) in
    let rest = messages_short n (drop message_line_width lines) (drop_bytes message_line_width lines bytes) in
    rw (length-append (message_text (take message_line_width lines)) (messages_text n (drop message_line_width lines))) (omega arith)

-- the messages that n sections count
unfoldable pub messages_read : ℕ → List ℕ → ℕ
messages_read zero sections = 0
messages_read (suc n) sections = count_in sections + messages_read n (later_sections sections)

pub bulks_short : (n : ℕ) (lines sections : List ℕ) → Bytes lines → Bytes sections
    → length (bulks_text n lines sections) ≤ 115 * n + 46 * messages_read n sections
unfolding bulks_text messages_read
bulks_short zero lines sections hl hs = lit≤ tt
bulks_short (suc n) lines sections hl hs =
    let first = bulk_short (take bulk_line_width lines) (take_bytes bulk_line_width lines hl) in
    let own = messages_short (count_in sections) (after_count sections) (drop_bytes count_width sections hs) in
    let rest = bulks_short n (drop bulk_line_width lines) (later_sections sections) (drop_bytes bulk_line_width lines hl) (drop_bytes (count_width + message_line_width * count_in sections) sections hs) in
    simp length-append (omega arith)
