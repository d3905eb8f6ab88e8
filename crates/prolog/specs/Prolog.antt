-- What stands before the first document: a mark, a declaration, spaces. Assumes nothing.
use Rattle.std.specs.Prelude.{ℕ, ◌+◌, Bool, true, cond, ◌&&◌, ◌||◌, List, [], ◌∷◌, ltb, eqb, Ok, Err}
use Rattle.wire.specs.Field.{text}
use Rattle.letters.specs.Places.{byte_at, within, run_end, expected, on_reach, Reach}
use Rattle.letters.specs.References.{stands}
use Rattle.prolog.specs.declared.Key.{Key}
use Rattle.prolog.specs.declared.Key.TheVariants.{Version, Encoding, Standalone}
use Rattle.tags.specs.Names.{is_space, space_end}
use Rattle.tags.specs.Attributes.{is_quote}

-- ---- the declaration

-- a text of bytes that mark UTF-8
abbrev pub mark : List ℕ
mark = 239 ∷ 187 ∷ 191 ∷ []

abbrev pub after_mark : List ℕ → ℕ
after_mark s = cond (stands s 0 mark) 3 0

-- a letter, capital or small, of a word in capitals
abbrev pub same_letter : ℕ → ℕ → Bool
same_letter b c = eqb b c || (within 65 90 c && eqb b (c + 32))

-- a word in capitals stands here, or its letters in either case
unfoldable pub any_case : List ℕ → List ℕ → ℕ → Bool
any_case [] s at = true
any_case (c ∷ cs) s at = same_letter (byte_at s at) c && any_case cs s (at + 1)

abbrev pub digit : ℕ → Bool
digit b = within 48 57 b

-- where the value of each setting ends, if it is of its form; a value of another form ends where it begins
abbrev pub version_end : List ℕ → ℕ → ℕ
version_end s at = cond (stands s at (text "1.") && ltb (at + 2) (run_end digit s (at + 2))) (run_end digit s (at + 2)) at

abbrev pub encoding_end : List ℕ → ℕ → ℕ
encoding_end s at = cond (any_case (text "UTF-8") s at) (at + 5) at

abbrev pub standalone_end : List ℕ → ℕ → ℕ
standalone_end s at = cond (stands s at (text "yes")) (at + 3) (cond (stands s at (text "no")) (at + 2) at)

-- the settings, by number
abbrev pub number_of : Key → ℕ
number_of Version = 0
number_of Encoding = 1
number_of Standalone = 2

abbrev pub setting_name : ℕ → List ℕ
setting_name k = cond (eqb k 0) (text "version") (cond (eqb k 1) (text "encoding") (text "standalone"))

abbrev pub value_end : ℕ → List ℕ → ℕ → ℕ
value_end k s at = cond (eqb k 0) (version_end s at) (cond (eqb k 1) (encoding_end s at) (standalone_end s at))

-- a value between quotes: it is not empty, and the quote that began it ends it
abbrev pub quoted : ℕ → List ℕ → ℕ → Reach
quoted k s at =
    cond (is_quote (byte_at s at))
    (cond (ltb (at + 1) (value_end k s (at + 1)) && eqb (byte_at s (value_end k s (at + 1))) (byte_at s at)) (Ok (value_end k s (at + 1) + 1)) (Err (at + 1)))
    (Err at)

-- '=' with spaces round it, and the value
abbrev pub equated : ℕ → List ℕ → ℕ → Reach
equated k s at = cond (eqb (byte_at s (space_end s at)) 61) (quoted k s (space_end s (space_end s at + 1))) (Err (space_end s at))

-- spaces, the name, and the rest
unfoldable pub setting_at : ℕ → List ℕ → ℕ → Reach
setting_at k s at =
    cond (is_space (byte_at s at)) (on_reach (expected s (setting_name k) (space_end s at)) (λ n. equated k s n)) (Err at)

-- a setting that may be missing: it is there where its name's first letter is
abbrev pub maybe_setting : ℕ → ℕ → List ℕ → ℕ → Reach
maybe_setting k letter s at = cond (eqb (byte_at s (space_end s at)) letter) (setting_at k s at) (Ok at)

-- after '<?xml'
unfoldable pub declaration_at : List ℕ → ℕ → Reach
declaration_at s at =
    on_reach (setting_at 0 s at) (λ a.
    on_reach (maybe_setting 1 101 s a) (λ b.
    on_reach (maybe_setting 2 115 s b) (λ c.
    expected s (text "?>") (space_end s c))))

-- where the first document begins
unfoldable pub prolog : List ℕ → Reach
prolog s =
    on_reach (cond (stands s (after_mark s) (text "<?xml")) (declaration_at s (after_mark s + 5)) (Ok (after_mark s))) (λ n.
    Ok (space_end s n))
