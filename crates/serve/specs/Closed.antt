-- A connection that was closed, and why it might be then.
use Rattle.std.specs.Prelude.{◌≡◌, ℕ, List, Some}
use Rattle.std.specs.List.{slice_get}
use Rattle.server_events.specs.Configs.{ConfigValue}
use Rattle.served_instance.specs.Lone.{LoneInstance}
use Rattle.serve.specs.SocketEvents.{moment_of}
use Rattle.serve.specs.Happenings.{MarkedHappening, sockets_in}
use Rattle.serve.specs.Closings.{MayBeShut, own_past}
use Rattle.serve.specs.Served.{ServesAll}

-- behind all this instance i had come to something, beside the others, by which it might be closed
pub record WasClosed (configs : List ConfigValue) (i c : ℕ) (before : List MarkedHappening) :
    Type 0 where
  pub ls : List LoneInstance
  pub serves : ServesAll configs before ls
  pub own : LoneInstance
  pub there : slice_get ls i ≡ Some own
  pub reason : MayBeShut (moment_of (sockets_in before)) c (own_past i (sockets_in before)) own
