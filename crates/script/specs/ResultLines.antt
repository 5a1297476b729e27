-- The lines that tell what a server did. An instance goes by its number from 0, an event by its
-- place from 1 among the instance's own, or among all where it is no instance's.
use Rattle.std.specs.Prelude.{ℕ, List, ◌++◌, codes}
use Rattle.std.specs.Fmt.{decimal}
use Rattle.script.specs.Hexadecimal.{hex_word}

-- the bytes that an instance put on a connection
abbrev pub sent_line : ℕ → ℕ → List ℕ → List ℕ
sent_line instance connection bytes =
    codes "out " ++ decimal instance ++ codes " " ++ decimal connection
    ++ codes " " ++ hex_word bytes ++ codes "\n"

-- at that event of its own the instance had the job started
abbrev pub start_line : ℕ → ℕ → ℕ → List ℕ
start_line instance place job =
    codes "order " ++ decimal instance ++ codes " " ++ decimal place
    ++ codes " start " ++ decimal job ++ codes "\n"

-- or had the job's program killed
abbrev pub kill_line : ℕ → ℕ → ℕ → List ℕ
kill_line instance place job =
    codes "order " ++ decimal instance ++ codes " " ++ decimal place
    ++ codes " kill " ++ decimal job ++ codes "\n"

-- the instance refused that event of its own, for the cause of that code
abbrev pub refusal_line : ℕ → ℕ → ℕ → List ℕ
refusal_line instance place code =
    codes "refused " ++ decimal instance ++ codes " " ++ decimal place
    ++ codes " " ++ decimal code ++ codes "\n"

-- that event was no instance's
abbrev pub stray_line : ℕ → List ℕ
stray_line place = codes "stray " ++ decimal place ++ codes "\n"
