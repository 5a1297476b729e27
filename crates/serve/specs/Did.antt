-- What a server did, as runs of its instances (Runs.antt of server_core): one of each, which goes by
-- the events of the instance and of its parent among all that happened, beside the parent's own run.
-- To be read from `AllDid` up.
use Rattle.std.specs.Prelude.{◌≡◌, ◌⊎◌, ℕ, ◌==◌, ◌&&◌, not, if◌then◌else◌, Bool, List, [], ◌∷◌, ◌++◌, map, fold, Option, Some, None, IsSomeAnd}
use Rattle.std.specs.Option.{option_map_or, option_and_then}
use Rattle.std.specs.List.{filter_map, list_any, slice_get}
use Rattle.execution.specs.Orders.{OrderValue}
use Rattle.server_events.specs.Configs.{ConfigValue, parent_of}
use Rattle.server_core.specs.Families.{Family, family_in, family_event}
use Rattle.server_core.specs.LoneOutput.{config_at}
use Rattle.server_core.specs.Marked.{MarkedEvent, IsRun}
use Rattle.server_core.specs.Runs.{Run, FamilyRun, new_family_run, output_of_run}
use Rattle.serve.specs.SocketEvents.{SocketEvent, port, accepted, written}
use Rattle.serve.specs.RunEvents.{ordered}
use Rattle.serve.specs.Happenings.{MarkedHappening, at_sockets, at_runs, moment_then, sockets_then, event_then}
use Rattle.serve.specs.Closings.{IsShutRightly}
use Rattle.serve.specs.Served.{IsFaithful}

-- what happens at moment m is this event of instance i or of its parent p, marked where it was cut
-- short; or none of theirs
abbrev pub marked_at : ℕ → Option ℕ → ℕ → MarkedHappening → List MarkedEvent
marked_at i p m x =
    map (λ e. (e, x.1)) (option_map_or (family_event i p) (event_then m x.0) [])

-- by what happens from moment m on, behind what happened at the sockets before, a run of the two
-- goes from f to g: each event of theirs is a step, and what happens at the instance is right for it
-- as it is then, that a connection is closed too
abbrev pub GoesOn : ℕ → Option ℕ → List SocketEvent → ℕ → FamilyRun → List MarkedHappening →
    FamilyRun → Type 0
GoesOn i p before m f [] g = g ≡ f
GoesOn i p before m f (x ∷ h) g =
    IsFaithful i m f.own.lone x.0 × IsShutRightly i before f.own.lone x.0
    × (k : FamilyRun) × IsRun f (marked_at i p m x) k
    × GoesOn i p (sockets_then before x.0) (moment_then m x.0) k h g

-- the orders of instance i that were carried out, in order
abbrev pub order_of : ℕ → MarkedHappening → Option OrderValue
order_of i (at_runs (ordered j o), b) = if j == i then Some o else None
order_of i x = None

abbrev pub carried_by : ℕ → List MarkedHappening → List OrderValue
carried_by i h = filter_map (order_of i) h

-- what happened is this run of instance i and its parent p, and the orders that it gives were
-- carried out
pub record Did (family : Family) (i : ℕ) (p : Option ℕ) (h : List MarkedHappening)
    (run : FamilyRun) : Type 0 where
  pub goes : GoesOn i p [] 0 (new_family_run family) h run
  pub orders : carried_by i h ≡ map (λ o. o.1) (output_of_run run.own).orders

-- an instance's own run beside that of its parent, among the runs of all
abbrev pub beside : List Run → Option ℕ → Run → FamilyRun
beside runs p own = record { own = own; parent = option_and_then (slice_get runs) p }

-- these are the runs of all instances: the run of a parent is the same to all that build on it
abbrev pub AllDid : List ConfigValue → List MarkedHappening → List Run → Type 0
AllDid configs h runs =
    (i : ℕ) (config : ConfigValue) → config_at i configs ≡ Some config
    → IsSomeAnd (slice_get runs i) (λ own. Did (family_in configs config) i
    (parent_of configs config) h (beside runs (parent_of configs config) own))

-- ---- in the words of run_on: the events of the two, from moment m on

abbrev pub marked_from : ℕ → Option ℕ → ℕ → List MarkedHappening → List MarkedEvent
marked_from i p m [] = []
marked_from i p m (x ∷ h) = marked_at i p m x ++ marked_from i p (moment_then m x.0) h

-- ---- what was written, all in all

-- one of these connections has this number
abbrev pub is_among : ℕ → List (ℕ × List ℕ) → Bool
is_among c ws = list_any (λ w. w.0 == c) ws

-- these bytes were written on the last of this number
abbrev pub with_written : ℕ → List ℕ → List (ℕ × List ℕ) → List (ℕ × List ℕ)
with_written c bytes [] = []
with_written c bytes (w ∷ ws) =
    if w.0 == c && not (is_among c ws) then (w.0, w.1 ++ bytes) ∷ ws
    else w ∷ with_written c bytes ws

abbrev pub written_on : ℕ → List (ℕ × List ℕ) → MarkedHappening → List (ℕ × List ℕ)
written_on i ws (at_sockets (port j (accepted c)), b) = if j == i then ws ++ (c, []) ∷ [] else ws
written_on i ws (at_sockets (port j (written c bytes)), b) =
    if j == i then with_written c bytes ws else ws
written_on i ws x = ws

-- all bytes that were written on each connection of an instance, in order of acceptance, with its
-- number
abbrev pub written_by : ℕ → List MarkedHappening → List (ℕ × List ℕ)
written_by i h = fold (written_on i) [] h

-- what was written is a front of what was put
pub record IsFrontOf (w s : ℕ × List ℕ) : Type 0 where
  pub number : w.0 ≡ s.0
  pub more : List ℕ
  pub bytes : s.1 ≡ w.1 ++ more

-- of the connections that were accepted those that the instance did not refuse are these on which
-- it put bytes, in order, and nothing was written on others
abbrev pub AreFronts : List (ℕ × List ℕ) → List (ℕ × List ℕ) → Type 0
AreFronts [] [] = Unit {0}
AreFronts [] (s ∷ ss) = ⊥
AreFronts (w ∷ ws) [] = (w.1 ≡ []) × AreFronts ws []
AreFronts (w ∷ ws) (s ∷ ss) =
    ((w.1 ≡ []) × AreFronts ws (s ∷ ss)) ⊎ (IsFrontOf w s × AreFronts ws ss)
