-- What was served before a connection was closed.
use Rattle.std.proofs.Common.{◌≡◌, ℕ, List, [], ◌∷◌, ◌++◌, map, refl, subst}
use Rattle.std.specs.Prelude.{fold, Bool, Option}
use Rattle.server_events.specs.Configs.{ConfigValue, parents_of}
use Rattle.serve.specs.SocketEvents.{SocketEvent, port, shut}
use Rattle.serve.specs.RunEvents.{RunEvent}
use Rattle.serve.specs.Happenings.{MarkedHappening, at_sockets, moment_then, sockets_on, sockets_then}
use Rattle.serve.specs.KeepsServing.{moment_on}
use Rattle.serve.specs.Served.{AreShutRightly, AtWork, Happens, IsServed, MayServe, begun, with_orders}
use Rattle.serve.specs.Closed.{WasClosed}

-- what served before one thing happened, and what that was right for
record StandsBefore (parents : List (Option ℕ)) (front : List MarkedHappening) (x : MarkedHappening) (past : List SocketEvent) (m : ℕ)
    (w : AtWork) : Type 0 where
  at : AtWork
  serves : MayServe parents past m w front at
  next : AtWork
  happens : Happens parents (fold moment_on m front) at x next
  rightly : AreShutRightly (fold sockets_on past front) at.instances x.0

stands_before : (parents : List (Option ℕ)) (front : List MarkedHappening) (x : MarkedHappening) (back : List MarkedHappening)
    (past : List SocketEvent) (m : ℕ) (w v : AtWork) → MayServe parents past m w (front ++ x ∷ back) v →
    StandsBefore parents front x past m w
stands_before parents [] x back past m w v s = record { at = w; serves = refl; next = s.0; happens = s.1; rightly = s.2 }
stands_before parents (y ∷ front) x back past m w v s =
    let rest = stands_before parents front x back (sockets_then past y.0) (moment_then m y.0) s.0 v s.3 in
    record { at = rest.at; serves = (s.0, s.1, s.2, rest.serves); next = rest.next; happens = rest.happens; rightly = rest.rightly }

pub was_closed : (configs : List ConfigValue) (h : List MarkedHappening) → IsServed configs h →
    (i c : ℕ) (marked : Bool) (before after : List MarkedHappening) → h ≡ before ++ (at_sockets (port i (shut c)), marked) ∷ after →
    WasClosed configs i c before
was_closed configs h served i c marked before after is =
    let first : AtWork = with_orders (map begun configs) [] in
    let x : MarkedHappening = (at_sockets (port i (shut c)), marked) in
    let all : MayServe (parents_of configs) [] 0 first (before ++ x ∷ after) (with_orders served.1 []) =
    subst (λ (g : List MarkedHappening). MayServe (parents_of configs) [] 0 first g (with_orders served.1 [])) is served.2 in
    let t = stands_before (parents_of configs) before x after [] 0 first (with_orders served.1 []) all in
    let taken = t.happens.2 in
    record {
      ls = t.at.instances;
      serves = subst (λ (os : List RunEvent). MayServe (parents_of configs) [] 0 first before (with_orders t.at.instances os)) t.happens.0
          t.serves;
      own = taken.was;
      there = taken.there;
      reason = t.rightly i taken.was taken.there refl;
    }
