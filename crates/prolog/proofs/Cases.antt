-- What stands before the first document, tried on cases: one table, one statement. Assumes nothing.
use mathlib.Core.Path.{◌≡◌, refl}
use mathlib.Core.List.{List, [], ◌∷◌, ◌++◌, map}
use Prim.Native.String.{String}
use Rattle.wire.specs.Field.{text}
use Rattle.letters.specs.Places.{Reach}
use Rattle.std.specs.Prelude.{Ok, Err}
use Rattle.prolog.specs.Prolog.{mark, prolog}
use Rattle.prolog.proofs.Computing.{prolog_computes}

-- where the first document of a text begins, and where it has to
record Case : Type 0 where
  says : Reach
  right : Reach

plain : String → Reach → Case
plain s r = record { says = prolog (text s); right = r }

marked : String → Reach → Case
marked s r = record { says = prolog (mark ++ text s); right = r }

cases : List Case
cases =
    -- none, and the mark, spaces or both alone
    plain "" (Ok 0) ∷ plain "<Document/>" (Ok 0) ∷ plain " \t\r\n<Document/>" (Ok 4) ∷ plain "x" (Ok 0) ∷ plain "<?xm" (Ok 0)
    ∷ marked "" (Ok 3) ∷ marked "<Document/>" (Ok 3) ∷ marked " <Document/>" (Ok 4)
    -- a declaration, with what may be missing and what may not
    ∷ plain "<?xml version=\"1.0\" encoding=\"UTF-8\"?>\n<Document/>" (Ok 39)
    ∷ marked "<?xml version=\"1.0\" encoding=\"UTF-8\"?>\r\n<Document/>" (Ok 43)
    ∷ plain "<?xml version=\"1.0\"?><A/>" (Ok 21) ∷ plain "<?xml version='1.1' encoding='utf-8' standalone='no' ?>  <A/>" (Ok 57)
    ∷ plain "<?xml\tversion = '1.0'\n encoding= \"Utf-8\" ?>" (Ok 43) ∷ plain "<?xml version=\"1.0\" standalone=\"yes\"?>" (Ok 38)
    ∷ plain "<?xml version=\"1.0\" encoding=\"UTF-8\" standalone=\"yes\"?>" (Ok 55)
    ∷ plain "<?xml version=\"1.0\" standalone=\"yes\" encoding=\"UTF-8\"?>" (Err 37)
    ∷ plain "<?xml encoding=\"UTF-8\"?>" (Err 6) ∷ plain "<?xml?>" (Err 5) ∷ plain "<?xml-stylesheet?>" (Err 5)
    ∷ plain "<?xml version=\"1.0\"encoding=\"UTF-8\"?>" (Err 19) ∷ plain "<?xml version=\"1.0\" encodes=\"UTF-8\"?>" (Err 25)
    -- a value of another form is broken where it begins
    ∷ plain "<?xml version=\"1.0\" encoding=\"ISO-8859-1\"?>" (Err 30) ∷ plain "<?xml version=\"1.0\" encoding=\"UTF-16\"?>" (Err 30)
    ∷ plain "<?xml version=\"1.0\" encoding=\"UTF-8 \"?>" (Err 30) ∷ plain "<?xml version=\"1.0\" encoding=\"UTF-8'?>" (Err 30)
    ∷ plain "<?xml version=\"2.0\"?>" (Err 15) ∷ plain "<?xml version=\"1.\"?>" (Err 15) ∷ plain "<?xml version=\"\"?>" (Err 15)
    ∷ plain "<?xml version=\"1.0a\"?>" (Err 15) ∷ plain "<?xml version=\"1.0" (Err 15)
    ∷ plain "<?xml version=\"1.0\" standalone=\"maybe\"?>" (Err 32) ∷ plain "<?xml version=\"1.0\" standalone=\"YES\"?>" (Err 32)
    -- other bytes where they stand, and what breaks off where it does
    ∷ plain "<?xml version=1.0?>" (Err 14) ∷ plain "<?xml version \"1.0\"?>" (Err 14) ∷ plain "<?xml version" (Err 13) ∷ plain "<?xml" (Err 5)
    ∷ plain "<?xml version=\"1.0\" encoding=\"UTF-8\">" (Err 36) ∷ plain "<?xml version=\"1.0\" encoding=\"UTF-8\"? >" (Err 37)
    ∷ plain "<?xml version=\"1.0\" other=\"1\"?>" (Err 20) ∷ plain "<?xml version=\"1.0\"? >" (Err 20)
    -- after a space it is no declaration: the element that has to stand there is then broken
    ∷ plain " <?xml version=\"1.0\"?>" (Ok 1) ∷ plain "<?XML version=\"1.0\"?>" (Ok 0)
    ∷ []

cases_right : map (λ c. c.says) cases ≡ map (λ c. c.right) cases
unfolding prolog_computes cases plain marked
cases_right = refl
