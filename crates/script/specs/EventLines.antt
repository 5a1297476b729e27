-- The events that the lines of a text say. A line that is no event says none.
use Rattle.std.specs.Prelude.{ℕ, List, [], ◌∷◌, ◌++◌, Option, None}
use Rattle.std.specs.Borrow.{Bor}
use Rattle.std.specs.Option.{option_to_list}
use Rattle.server_events.specs.Events.{EventValue}
use Rattle.script.specs.Parts.{words_of, lines_of, parts_left}
use Rattle.script.specs.ReplayEvents.{event_of}

-- the event of a line of these words
abbrev pub event_of_words : List (List ℕ) → Option EventValue
event_of_words [] = None
event_of_words (kind ∷ arguments) = event_of kind arguments

abbrev pub event_of_line : List ℕ → Option EventValue
event_of_line line = event_of_words (words_of line)

abbrev pub events_of_lines : List (List ℕ) → List EventValue
events_of_lines [] = []
events_of_lines (line ∷ lines) = option_to_list (event_of_line line) ++ events_of_lines lines

abbrev pub events_of_text : List ℕ → List EventValue
events_of_text text = events_of_lines (lines_of text)

-- the events of what is left of a text, and none once its last line was read
abbrev pub events_left : Option (Bor (List ℕ)) → List EventValue
events_left rest = events_of_lines (parts_left 10 rest)
