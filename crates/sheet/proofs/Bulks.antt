-- Bulks read from a sheet: those of two sheets that agree where they are read, the first of them and the others, and how wide they
-- are. What the promises and the program say of whole files rests on these. Assumes nothing.
use mathlib.Core.Path.{◌≡◌, refl, sym, ap, ap₂, ◌∙◌}
use mathlib.Core.List.{List, [], ◌∷◌, ◌++◌}
use Prim.Native.Nat.{ℕ, zero, suc, ◌+◌, ◌-◌, ◌*◌, ◌≤◌}
use native.Mathlib.Nat.{add-zero, zero-add, suc-add, add_assoc, mul-le-mul_right}
use native.Mathlib.Omega.{arith}
use lib.ListN.{length}
use Rattle.wire.specs.Field.{part, number_of}
use Rattle.wire.proofs.Texts.{part_length}
use Rattle.sheet.specs.Sheet.{header_width, fields_width, message_width, kind_of, count_width, count_at, records_at, header_at, Bulk, width_at, after_messages, bulk_at, bulks_from, end_from, messages_from}
use Rattle.sheet.proofs.Fields.{fields_fit}
use Rattle.sheet.proofs.Laws.{end_forward}

-- ---- two sheets that agree

records_agree : (w : ℕ) (s t : List ℕ) (n a b : ℕ) → ((o : ℕ) → o + w ≤ w * n → part s (a + o) w ≡ part t (b + o) w) → records_at s w n a ≡ records_at t w n b
unfolding records_at
records_agree w s t zero a b agree = refl
records_agree w s t (suc n) a b agree =
    ap₂ (λ (x : List ℕ) (l : List (List ℕ)). x ∷ l)
    (ap (λ (k : ℕ). part s k w) (sym (add-zero a)) ∙ agree 0 (omega arith) ∙ ap (λ (k : ℕ). part t k w) (add-zero b))
    (records_agree w s t n (a + w) (b + w)
    (λ o h. ap (λ (k : ℕ). part s k w) (add_assoc a w o) ∙ agree (w + o) (omega arith) ∙ ap (λ (k : ℕ). part t k w) (sym (add_assoc b w o))))

module _ (s t : List ℕ) where
  -- n headers from the places a and b on are the same bytes
  abbrev SameHeaders : ℕ → ℕ → ℕ → Type 0
  SameHeaders n a b = (o : ℕ) → o + header_width ≤ header_width * n → header_at s (a + o) ≡ header_at t (b + o)

  -- so are the next k bytes, wherever they are read
  abbrev SameBytes : ℕ → ℕ → ℕ → Type 0
  SameBytes k a b = (o n : ℕ) → o + n ≤ k → part s (a + o) n ≡ part t (b + o) n

  pub record Agree (n heads headt ats att : ℕ) : Type 0 where
    pub bulks : bulks_from s n heads ats ≡ bulks_from t n headt att
    pub messages : messages_from s n heads ats ≡ messages_from t n headt att
    pub end : end_from s n heads ats + att ≡ end_from t n headt att + ats

  -- the bytes of a section agree if its header and its count do, and those that follow it
  module _ (heads headt ats att k : ℕ) (header : header_at s heads ≡ header_at t headt) (bs : SameBytes k ats att) (inside : after_messages s heads ats ≤ ats + k) where
    abbrev width : ℕ
    width = width_at s heads

    same_width : width ≡ width_at t headt
    same_width = ap (λ (h : List ℕ). message_width (kind_of h)) header

    same_count : count_at s ats ≡ count_at t att
    same_count =
        ap number_of (
        ap (λ (a : ℕ). part s a count_width) (sym (add-zero ats)) ∙ bs 0 count_width (omega arith) ∙ ap (λ (a : ℕ). part t a count_width) (add-zero att))

    same_messages : records_at s width (count_at s ats) (ats + count_width) ≡ records_at t (width_at t headt) (count_at t att) (att + count_width)
    same_messages =
        records_agree width s t (count_at s ats) (ats + count_width) (att + count_width)
        (λ o h. ap (λ (a : ℕ). part s a width) (add_assoc ats count_width o) ∙ bs (count_width + o) width (omega arith) ∙ ap (λ (a : ℕ). part t a width) (sym (add_assoc att count_width o)))
        ∙ ap₂ (λ (w c : ℕ). records_at t w c (att + count_width)) same_width same_count

    same_after : SameBytes (k - (count_width + width * count_at s ats)) (after_messages s heads ats) (after_messages t headt att)
    same_after o n h =
        let there : after_messages s heads ats + o ≡ ats + (count_width + width * count_at s ats + o) = omega arith in
        let here : att + (count_width + width * count_at s ats + o) ≡ after_messages t headt att + o = rw (← same_count, ← same_width) (omega arith) in
        ap (λ (a : ℕ). part s a n) there ∙ bs (count_width + width * count_at s ats + o) n (omega arith) ∙ ap (λ (a : ℕ). part t a n) here

  same_later : (n heads headt : ℕ) → SameHeaders (suc n) heads headt → SameHeaders n (heads + header_width) (headt + header_width)
  same_later n heads headt hs o h =
      ap (header_at s) (add_assoc heads header_width o)
      ∙ hs (header_width + o) (omega arith)
      ∙ ap (header_at t) (sym (add_assoc headt header_width o))

  same_first : (n heads headt : ℕ) → SameHeaders (suc n) heads headt → header_at s heads ≡ header_at t headt
  same_first n heads headt hs = ap (header_at s) (sym (add-zero heads)) ∙ hs 0 (omega arith) ∙ ap (header_at t) (add-zero headt)

  pub bulks_agree : (n heads headt ats att k : ℕ) → SameHeaders n heads headt → SameBytes k ats att → end_from s n heads ats ≤ ats + k
      → Agree n heads headt ats att
  unfolding bulks_from messages_from end_from
  bulks_agree zero heads headt ats att k hs bs h = record { bulks = refl; messages = refl; end = omega arith }
  bulks_agree (suc n) heads headt ats att k hs bs h =
      let first = same_first n heads headt hs in
      let over = after_messages s heads ats in
      let inside : over ≤ ats + k = omega (arith, end_forward s n (heads + header_width) over) in
      let count = same_count heads headt ats att k first bs inside in
      let wide = same_width heads headt ats att k first bs inside in
      let rest =
      bulks_agree n (heads + header_width) (headt + header_width) over (after_messages t headt att) (k - (count_width + width_at s heads * count_at s ats))
      (same_later n heads headt hs) (same_after heads headt ats att k first bs inside) (omega arith)
      in
      let moved : over + att ≡ after_messages t headt att + ats = rw (← count, ← wide) (omega arith) in
      record {
        bulks =
            ap₂ (λ (b : Bulk) (l : List Bulk). b ∷ l)
            (λ i. record { header = first i; messages = same_messages heads headt ats att k first bs inside i })
            rest.bulks;
        messages = ap₂ (λ (x y : ℕ). x + y) count rest.messages;
        end = (let e = rest.end in omega arith);
      }

-- ---- the first bulks, and the others

module _ (s : List ℕ) where
  pub bulks_split : (k n head at : ℕ) → bulks_from s (k + n) head at ≡ bulks_from s k head at ++ bulks_from s n (head + header_width * k) (end_from s k head at)
  unfolding bulks_from end_from
  bulks_split zero n head at = rw (zero-add n) (ap (λ (h : ℕ). bulks_from s n h at) (omega arith))
  bulks_split (suc k) n head at =
      let over = after_messages s head at in
      let place : head + header_width + header_width * k ≡ head + header_width * suc k = omega arith in
      ap (λ (m : ℕ). bulks_from s m head at) (suc-add k n)
      ∙ ap (λ (l : List Bulk). bulk_at s head at ∷ l) (
      bulks_split k n (head + header_width) over
      ∙ ap (λ (h : ℕ). bulks_from s k (head + header_width) over ++ bulks_from s n h (end_from s k (head + header_width) over)) place)

  pub messages_split : (k n head at : ℕ) → messages_from s (k + n) head at ≡ messages_from s k head at + messages_from s n (head + header_width * k) (end_from s k head at)
  unfolding messages_from end_from
  messages_split zero n head at = rw (zero-add n) (ap (λ (h : ℕ). messages_from s n h at) (omega arith) ∙ sym (zero-add (messages_from s n (head + header_width * 0) at)))
  messages_split (suc k) n head at =
      let over = after_messages s head at in
      let last = end_from s k (head + header_width) over in
      let place : head + header_width + header_width * k ≡ head + header_width * suc k = omega arith in
      ap (λ (m : ℕ). messages_from s m head at) (suc-add k n)
      ∙ ap (λ (m : ℕ). count_at s at + m) (messages_split k n (head + header_width) over)
      ∙ sym (add_assoc (count_at s at) (messages_from s k (head + header_width) over) (messages_from s n (head + header_width + header_width * k) last))
      ∙ ap (λ (h : ℕ). count_at s at + messages_from s k (head + header_width) over + messages_from s n h last) place

  pub end_split : (k n head at : ℕ) → end_from s (k + n) head at ≡ end_from s n (head + header_width * k) (end_from s k head at)
  unfolding end_from
  end_split zero n head at = rw (zero-add n) (ap (λ (h : ℕ). end_from s n h at) (omega arith))
  end_split (suc k) n head at =
      let over = after_messages s head at in
      let place : head + header_width + header_width * k ≡ head + header_width * suc k = omega arith in
      ap (λ (m : ℕ). end_from s m head at) (suc-add k n)
      ∙ end_split k n (head + header_width) over
      ∙ ap (λ (h : ℕ). end_from s n h (end_from s k (head + header_width) over)) place

-- ---- how wide they are

-- messages of a kind
unfoldable pub MessagesWide : ℕ → List (List ℕ) → Type 0
MessagesWide kind [] = Unit {0}
MessagesWide kind (m ∷ ms) = (length m ≡ message_width kind) × MessagesWide kind ms

pub record BulkWide (b : Bulk) : Type 0 where
  pub header : length b.header ≡ header_width
  pub messages : MessagesWide (kind_of b.header) b.messages

unfoldable pub BulksWide : List Bulk → Type 0
BulksWide [] = Unit {0}
BulksWide (b ∷ bs) = BulkWide b × BulksWide bs

module _ (s : List ℕ) where
  records_wide : (kind n at : ℕ) → at + message_width kind * n ≤ length s → MessagesWide kind (records_at s (message_width kind) n at)
  unfolding records_at MessagesWide
  records_wide kind zero at h = tt
  records_wide kind (suc n) at h = (part_length s at (message_width kind) (omega arith), records_wide kind n (at + message_width kind) (omega arith))

  pub bulk_wide : (head at : ℕ) → head + header_width ≤ length s → after_messages s head at ≤ length s → BulkWide (bulk_at s head at)
  bulk_wide head at headed inside =
      record { header = part_length s head header_width headed; messages = records_wide (kind_of (header_at s head)) (count_at s at) (at + count_width) inside }

  pub bulks_wide : (n head at : ℕ) → head + header_width * n ≤ length s → end_from s n head at ≤ length s → BulksWide (bulks_from s n head at)
  unfolding bulks_from end_from BulksWide
  bulks_wide zero head at headed h = tt
  bulks_wide (suc n) head at headed h =
      let over = after_messages s head at in
      let inside : over ≤ length s = omega (arith, end_forward s n (head + header_width) over) in
      (bulk_wide head at (omega arith) inside, bulks_wide n (head + header_width) over (omega arith) h)

  -- a message takes all its fields, and maybe more
  pub sheet_length : (n head at : ℕ) → at + count_width * n + fields_width * messages_from s n head at ≤ end_from s n head at
  unfolding end_from messages_from
  sheet_length zero head at = omega arith
  sheet_length (suc n) head at =
      let rest = sheet_length n (head + header_width) (after_messages s head at) in
      let wide = mul-le-mul_right {m = fields_width} {n = width_at s head} (count_at s at) (fields_fit (kind_of (header_at s head))) in
      omega arith
