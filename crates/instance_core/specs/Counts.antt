-- What counts of calls come to.
use Rattle.std.specs.Prelude.{ℕ, ◌+◌, ◌-◌, ◌^◌, min, List, [], slice_index_or, slice_set}
use Rattle.rpc.specs.declared.method.Method.{Method}
use Rattle.rpc.specs.declared.method.Method.TheVariants.{FindMissingBlobs, BatchUpdateBlobs, BatchReadBlobs, GetTree, GetActionResult, UpdateActionResult, Execute, WaitExecution, GetCapabilities, Read, Write, QueryWriteStatus}
use Rattle.instance_core.specs.declared.counts.MethodCounts.{MethodCounts}
use Rattle.instance_core.specs.declared.counts.CallCounts.{CallCounts}

-- a count after so many more: it stays at the largest number
abbrev pub more : ℕ → ℕ → ℕ
more k n = min (n + k) (2 ^ 64 - 1)

-- which of the methods' counts are a method's
abbrev pub place_of : Method → ℕ
place_of FindMissingBlobs = 0
place_of BatchUpdateBlobs = 1
place_of BatchReadBlobs = 2
place_of GetTree = 3
place_of GetActionResult = 4
place_of UpdateActionResult = 5
place_of Execute = 6
place_of WaitExecution = 7
place_of GetCapabilities = 8
place_of Read = 9
place_of Write = 10
place_of QueryWriteStatus = 11

abbrev pub nothing : MethodCounts
nothing = record { ended = []; bytes_received = 0; bytes_sent = 0 }

-- the counts of a method
abbrev pub of_method : Method → CallCounts → MethodCounts
of_method m s = slice_index_or s.methods (place_of m) nothing

-- the counts of a method are changed, and no other's
abbrev pub with_method : Method → (MethodCounts → MethodCounts) → CallCounts → CallCounts
with_method m f s =
    record s { methods = slice_set s.methods (place_of m) (f (of_method m s)) }

abbrev pub with_end : ℕ → MethodCounts → MethodCounts
with_end code k =
    record k { ended = slice_set k.ended code (more 1 (slice_index_or k.ended code 0)) }

abbrev pub with_received : ℕ → MethodCounts → MethodCounts
with_received bytes k = record k { bytes_received = more bytes k.bytes_received }

abbrev pub with_sent : ℕ → MethodCounts → MethodCounts
with_sent bytes k = record k { bytes_sent = more bytes k.bytes_sent }
