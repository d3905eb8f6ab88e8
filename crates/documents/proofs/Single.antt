-- One document of any text: it holds payments or returns and not both, and its bulk is carried. Assumes nothing.
use mathlib.Core.Path.{◌≡◌, refl, sym, ap, ◌∙◌}
use mathlib.Core.Logic.{◌⊎◌, inl, inr}
use mathlib.Core.Bool.{Bool, true, false, not, ◌&&◌, ◌||◌, false≢true}
use mathlib.Core.List.{List, [], ◌∷◌, ◌++◌, map}
use Prim.Native.Nat.{ℕ, suc, ◌^◌, ◌<◌}
use native.Mathlib.Omega.{arith}
use lib.Dec.{eqb}
use lib.ListN.{length}
use borrow.Author.Tests.{eqb-true, ne_eqb}
use Rattle.wire.specs.Field.{Bytes}
use Rattle.sheet.specs.Sheet.{Bulk, payment_kind, return_kind}
use Rattle.sheet.specs.Sheet as sheet
use Rattle.paths.specs.Roles as roles
use Rattle.paths.specs.Table.{rows, all_met, lacks}
use Rattle.records.specs.Records.{header_of, message_of}
use Rattle.records.proofs.Laws.{header_told}
use Rattle.elements.specs.Forest.{Forest, none, tree, count_of}
use Rattle.elements.specs.Questions.{place_in, messages_in}
use Rattle.reading.specs.Meaning.{places_in, bulk_in}
use Rattle.documents.specs.Carried.{CarriedMessages, CarriedBulk}
use Rattle.documents.proofs.Grown.{Sound, ChildOf, Grown}
use Rattle.documents.proofs.Within.{leads, child_leads, Within, grown_within, EachWithin, each_append, messages_within}
use Rattle.documents.proofs.Limited.{unplayed, header_carried, message_carried}

-- ---- sets of roles

abbrev any : ℕ → Bool
any role = true

-- all that no return needs
abbrev unreturned : ℕ → Bool
unreturned role =
    not (eqb role roles.document || eqb role roles.returns || eqb role roles.one_return
    || eqb role roles.original_group || eqb role roles.reason_information || eqb role roles.reason_group
    || eqb role roles.original_amount || eqb role roles.reason || eqb role roles.original_name)

-- what stands in no document beside payments
abbrev unpaid : ℕ → Bool
unpaid role = not (eqb role roles.document || eqb role roles.payments)

abbrev in_document : ℕ → Bool
in_document role = eqb role roles.other || eqb role roles.payments || eqb role roles.returns

any_closed : leads any any rows ≡ true
unfolding leads
any_closed = refl

unreturned_closed : leads unreturned unreturned rows ≡ true
unfolding leads
unreturned_closed = refl

unpaid_closed : leads unpaid unpaid rows ≡ true
unfolding leads
unpaid_closed = refl

document_closed : leads (λ role. eqb role roles.document) in_document rows ≡ true
unfolding leads
document_closed = refl

-- ---- what a document holds

either : (role : ℕ) → ChildOf roles.document role → (role ≡ roles.other → ⊥) → (role ≡ roles.payments) ⊎ (role ≡ roles.returns)
either role c known = by_test (eqb role roles.payments) refl (eqb role roles.returns) refl (child_leads (λ r. eqb r roles.document) in_document document_closed refl roles.document role refl c)
  where
    by_test : (p : Bool) → eqb role roles.payments ≡ p → (q : Bool) → eqb role roles.returns ≡ q → (eqb role roles.other || p || q) ≡ true → (role ≡ roles.payments) ⊎ (role ≡ roles.returns)
    by_test true e q f told = inl (eqb-true role roles.payments e)
    by_test false e true f told = inr (eqb-true role roles.returns f)
    by_test false e false f told = absurd (false≢true (sym (rw (ne_eqb role roles.other known)) ∙ told))

module _ (s : List ℕ) where
  counted : (role place : ℕ) (inner rest : Forest) → ChildOf roles.document role → Sound s role place → count_of (tree role place inner rest) roles.payments ≡ suc (count_of rest roles.payments)
  unfolding count_of
  counted role place inner rest c sound = by_role (either role c sound.known)
    where
      by_role : (role ≡ roles.payments) ⊎ (role ≡ roles.returns) → count_of (tree role place inner rest) roles.payments ≡ suc (count_of rest roles.payments)
      by_role (inl is) = rw is
      by_role (inr is) = rw is

  no_more : (rest : Forest) → Grown s (ChildOf roles.document) rest → count_of rest roles.payments ≡ 0 → rest ≡ none
  unfolding Grown
  no_more none g e = refl
  no_more (tree role place inner rest) g e = absurd (omega (arith, counted role place inner rest g.0 g.1))

  -- the payments or the returns, and nothing else that is needed
  data Only (inner : Forest) : Type 0 where
    one : (role place : ℕ) (below : Forest) → inner ≡ tree role place below none → (role ≡ roles.payments) ⊎ (role ≡ roles.returns) → Grown s (ChildOf role) below → Only inner

  only : (inner : Forest) → Grown s (ChildOf roles.document) inner → count_of inner roles.payments ≡ 1 → Only inner
  unfolding Grown count_of
  only none g e = absurd (omega arith)
  only (tree role place below rest) g e =
      let left : rest ≡ none = no_more rest g.3 (omega (arith, counted role place below rest g.0 g.1)) in
      one role place below (ap (tree role place below) left) (either role g.0 g.1.known) g.2

-- nothing is missing from a document
pub document_counts : (count : ℕ → ℕ) → lacks roles.document count ≡ false → count roles.payments ≡ 1
unfolding lacks all_met
document_counts count e = eqb-true (count roles.payments) 1 (by_test (eqb (count roles.payments) 1) e)
  where
    by_test : (b : Bool) → not (b && (b && true)) ≡ false → b ≡ true
    by_test true e = refl
    by_test false e = absurd (false≢true (sym e))

-- ---- its messages

unfoldable pub AllBytes : List (List ℕ) → Type 0
AllBytes [] = Unit {0}
AllBytes (m ∷ ms) = Bytes m × AllBytes ms

pub record InBytes (bulk : Bulk) : Type 0 where
  pub header : Bytes bulk.header
  pub messages : AllBytes bulk.messages

module _ (s : List ℕ) (set : ℕ → Bool) (kind : ℕ)
    (out : kind ≡ payment_kind → (set roles.original_amount ≡ false) × (set roles.reason ≡ false) × (set roles.original_name ≡ false)) where
  messages_carried : (ms : List Forest) → EachWithin s set ms → AllBytes (map (λ (m : Forest). message_of s (places_in m)) ms)
      → CarriedMessages kind (map (λ (m : Forest). message_of s (places_in m)) ms)
  unfolding EachWithin AllBytes CarriedMessages
  messages_carried [] w bytes = tt
  messages_carried (m ∷ ms) w bytes = (message_carried s set m w.0 kind out bytes.0, messages_carried ms w.1 bytes.1)

-- ---- its bulk

module _ (s : List ℕ) (place : ℕ) where
  abbrev root : Forest → Forest
  root inner = tree roles.document place inner none

  abbrev kind_in : Forest → ℕ
  kind_in inner = sheet.kind_of (header_of s (places_in (root inner)))

  -- its messages are payments that tell no original; or it is no bulk of payments
  payments_carried : (at : ℕ) (below : Forest) → Grown s (ChildOf roles.payments) below → (kind : ℕ)
      → AllBytes (bulk_in s (root (tree roles.payments at below none))).messages → CarriedMessages kind (bulk_in s (root (tree roles.payments at below none))).messages
  unfolding messages_in EachWithin
  payments_carried at below g kind bytes =
      let within = grown_within s unreturned unreturned_closed refl (ChildOf roles.payments) (λ r c. child_leads unreturned unreturned unreturned_closed refl roles.payments r refl c) below g in
      messages_carried s unreturned kind (λ e. (refl, refl, refl)) (messages_in (root (tree roles.payments at below none)))
      (each_append s unreturned (messages_in below ++ []) [] (each_append s unreturned (messages_in below) [] (messages_within s unreturned below within) tt) tt)
      bytes

  returns_kind : (at : ℕ) (below : Forest) → Grown s (ChildOf roles.returns) below → kind_in (tree roles.returns at below none) ≡ return_kind
  unfolding place_in
  returns_kind at below g =
      let within = grown_within s unpaid unpaid_closed refl (ChildOf roles.returns) (λ r c. child_leads unpaid unpaid unpaid_closed refl roles.returns r refl c) below g in
      header_told s (places_in (root (tree roles.returns at below none))) ∙ (rw (unplayed s unpaid below within roles.payments refl))

  module _ (inner : Forest) (within : Within s any (root inner)) where
    of_kind : Only s inner → AllBytes (bulk_in s (root inner)).messages → CarriedMessages (kind_in inner) (bulk_in s (root inner)).messages
    of_kind (one role at below is (inl payments) g) bytes =
        let all : inner ≡ tree roles.payments at below none = is ∙ ap (λ (r : ℕ). tree r at below none) payments in
        rw all (payments_carried at below (rw (← payments) g) (kind_in (tree roles.payments at below none)) (rw all at bytes))
    of_kind (one role at below is (inr returns) g) bytes =
        let all : inner ≡ tree roles.returns at below none = is ∙ ap (λ (r : ℕ). tree r at below none) returns in
        let kind : kind_in inner ≡ return_kind = ap kind_in all ∙ returns_kind at below (rw (← returns) g) in
        messages_carried s any (kind_in inner) (λ e. absurd (omega arith)) (messages_in (root inner)) (messages_within s any (root inner) within) bytes

  pub document_carried : (inner : Forest) → Sound s roles.document place → Grown s (ChildOf roles.document) inner → count_of inner roles.payments ≡ 1
      → InBytes (bulk_in s (root inner)) → length (bulk_in s (root inner)).messages < 2 ^ 32 → CarriedBulk (bulk_in s (root inner))
  unfolding Within
  document_carried inner sound g once bytes few =
      let below = grown_within s any any_closed refl (ChildOf roles.document) (λ r c. refl) inner g in
      let within : Within s any (root inner) = (refl, sound, below, tt) in
      record {
        header = header_carried s any (root inner) within bytes.header;
        messages = of_kind inner within (only s inner g once) bytes.messages;
        few = few;
      }
