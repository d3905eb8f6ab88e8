-- What is noted of the needed elements while they are read: the place of each role, the first element that lacks something, how many
-- messages there are. Assumes nothing.
use Rattle.std.specs.Prelude.{ℕ, suc, ◌+◌, min, ◌≡◌, Bool, cond, List, length, get_or, set, replicate, eqb, ltb, Result, Ok, Err}
use Rattle.letters.specs.Places.{byte_at, Reach}
use Rattle.tags.specs.Names.{name_start}
use Rattle.paths.specs.Roles as roles
use Rattle.paths.specs.Table.{lacks}
use Rattle.elements.specs.Forest.{Forest, none, tree, count_of}
use Rattle.elements.specs.Grammar.{Parsed, read, broken, deep}
pub use Rattle.elements.specs.Questions.{too_many}
use Rattle.elements.specs.declared.Stop.{Stop}
use Rattle.elements.specs.declared.Stop.TheVariants.{Form, Deep}

-- notes are numbers: by role the place of the last element that plays it; then these two
abbrev pub lack_note : ℕ
lack_note = 34

abbrev pub messages_note : ℕ
messages_note = 35

-- one more, up to that
abbrev pub one_more : ℕ → ℕ
one_more n = cond (ltb n too_many) (suc n) n

abbrev pub counted : Bool → List ℕ → List ℕ
counted message notes = cond message (set notes messages_note (one_more (get_or notes messages_note 0))) notes

abbrev pub warned : Bool → ℕ → List ℕ → List ℕ
warned lack place notes = cond lack (set notes lack_note (min (get_or notes lack_note 0) place)) notes

abbrev pub placed : ℕ → ℕ → List ℕ → List ℕ
placed role place notes = cond (ltb role roles.roles) (set notes role place) notes

-- an element of a role, of which is known whether it lacks something
unfoldable pub noting : ℕ → ℕ → Bool → List ℕ → List ℕ
noting role place lack notes =
    cond (eqb role roles.other) notes (warned lack place (counted (roles.is_message role) (placed role place notes)))

unfoldable pub noted : Forest → List ℕ → List ℕ
noted none notes = notes
noted (tree role place inner rest) notes = noted rest (noting role place (lacks role (count_of inner)) (noted inner notes))

-- ---- what reading an element tells

abbrev pub step_of : Parsed → Result ℕ Stop
step_of (read n f) = Ok n
step_of (broken p) = Err (Form p)
step_of (deep p) = Err (Deep p)

-- the notes follow from what was read; where nothing was, they may hold anything
abbrev pub Noted : Parsed → List ℕ → List ℕ → Type 0
Noted (read n f) before after = after ≡ noted f before
Noted (broken p) before after = Unit {0}
Noted (deep p) before after = Unit {0}

-- for crates above they are 0 then
abbrev pub notes_of : Parsed → List ℕ → List ℕ
notes_of (read n f) notes = noted f notes
notes_of (broken p) notes = replicate (length notes) 0
notes_of (deep p) notes = replicate (length notes) 0

-- of a group's content, the group itself is noted too
abbrev pub NotedIn : ℕ → ℕ → Parsed → List ℕ → List ℕ → Type 0
NotedIn role place (read n f) before after = after ≡ noting role place (lacks role (count_of f)) (noted f before)
NotedIn role place (broken p) before after = Unit {0}
NotedIn role place (deep p) before after = Unit {0}

-- ---- what the functions of an element tell

-- where no level is left
abbrev pub shallow : List ℕ → ℕ → Result ℕ Stop
shallow s at = cond (ltb at (length s)) (cond (name_start (byte_at s (at + 1))) (Err (Deep at)) (Err (Form (at + 1)))) (Err (Form at))

-- where the form is broken, that is the reason to stop
abbrev pub formed : {A : Type 0} → Result A ℕ → Result A Stop
formed (Ok a) = Ok a
formed (Err p) = Err (Form p)

abbrev pub closed_by : Reach → Result ℕ Stop
closed_by r = formed r

-- counts by role, up to two, with one child more
abbrev pub bumped : ℕ → List ℕ → List ℕ
bumped role counts = cond (eqb role roles.other) counts (set counts (roles.counts_as role) (min (suc (get_or counts (roles.counts_as role) 0)) 2))
