-- What a log of sockets says.
use Rattle.std.specs.Prelude.{◌<◌, List, map, Option, IfSome, IsSome, vec_capacity, vec_len}
use Rattle.std.specs.Option.{option_map}
use Rattle.std.specs.declared.alloc.Global.{Global}
use Rattle.std.specs.declared.vec.Vec.{Vec}
use Rattle.logs.specs.declared.logged_sockets.SocketRecord.{SocketRecord}
use Rattle.logs.specs.declared.logged_sockets.SocketRecord.TheVariants.{Clock, Accepted, Read, Written, Shut, Failed}
use Rattle.serve.specs.SocketEvents.{SocketEvent, clock, port, failed, accepted, read, written, shut}

abbrev pub record_event : SocketRecord → SocketEvent
record_event (Clock n) = clock n
record_event (Accepted at) = port at.instance (accepted at.connection)
record_event (Read at bytes) = port at.instance (read at.connection bytes.items)
record_event (Written at bytes) = port at.instance (written at.connection bytes.items)
record_event (Shut at) = port at.instance (shut at.connection)
record_event (Failed at) = failed at.instance at.connection

abbrev pub events_of : List SocketRecord → List SocketEvent
events_of records = map record_event records

-- a log is lost only where memory for it is refused: where there was room for one record more, it
-- is there still
abbrev pub IsKept : {R : Type 0} → Option (Vec R Global) → Option (Vec R Global) → Type 0
IsKept before now =
    IfSome before (λ records. vec_len records < vec_capacity records → IsSome now)

-- all that happened, where the log is there
abbrev pub logged : Option (Vec SocketRecord Global) → Option (List SocketEvent)
logged log = option_map (λ records. events_of records.items) log
