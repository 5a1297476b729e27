-- What is to be asked: runs, and the jobs whose run is to begin.
use Rattle.std.specs.Prelude.{◌≡◌, ◌⊎◌, ◌==◌, ◌&&◌, ℕ, Bool, true, false, Option, Some, None, not, nat_lt, List, [], ◌∷◌, ◌++◌, length, map, min, if◌then◌else◌}
use Rattle.std.specs.List.{filter, list_any}
use Rattle.run_calls.specs.declared.task.RunKey.{RunKey}
use Rattle.runner.specs.declared.stage.Run.{Run}
use Rattle.job_runs.specs.Spans.{IsAmong}
use Rattle.job_runs.specs.declared.span.Span.{Span}

abbrev pub is_key : RunKey → RunKey → Bool
is_key key other = other.instance == key.instance && other.job == key.job

abbrev pub has_key : RunKey → List RunKey → Bool
has_key key keys = list_any (is_key key) keys

abbrev pub without_key : RunKey → List RunKey → List RunKey
without_key key keys = filter (λ other. not (is_key key other)) keys

abbrev pub run_keys : List Run → List RunKey
run_keys runs = map (λ (run : Run). run.place.run) runs

-- the keys of runs, and behind them the jobs whose run is to begin
abbrev pub all_keys : List Run → List RunKey → List RunKey
all_keys runs to_begin = run_keys runs ++ to_begin

-- .. and the next of those that are noted together, if any are
abbrev pub next_in : Option Span → List RunKey
next_in None = []
next_in (Some span) = span.at ∷ []

-- what is asked in a circle
abbrev pub asked_keys : List Run → List RunKey → Option Span → List RunKey
asked_keys runs to_begin together = all_keys runs to_begin ++ next_in together

-- a run is to begin
abbrev pub IsToBegin : RunKey → List RunKey → Option Span → Type 0
IsToBegin key to_begin together = (has_key key to_begin ≡ true) ⊎ IsAmong key together

-- none stands twice
abbrev pub AreOnce : List RunKey → Type 0
AreOnce [] = Unit {0}
AreOnce (k ∷ ks) = (has_key k ks ≡ false) × AreOnce ks

-- how many there are, as far as they can be counted
abbrev pub count_of : List RunKey → ℕ
count_of keys = min (length keys) 18446744073709551615

-- whose turn it is, of so many in a circle
abbrev pub turn_in : ℕ → ℕ → ℕ
turn_in count next = if nat_lt next count then next else 0
