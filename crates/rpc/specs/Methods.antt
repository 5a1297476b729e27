-- The methods that are known, and their paths (gRPC over HTTP2, Path: the service's name and the
-- method's).
use Rattle.std.specs.Prelude.{ℕ, List, [], ◌∷◌, Option, Some, None, codes, if◌then◌else◌}
use Rattle.std.specs.Str.{bytes_eq}
use Rattle.rpc.specs.declared.method.Method.{Method}
use Rattle.rpc.specs.declared.method.Method.TheVariants.{FindMissingBlobs, BatchUpdateBlobs, BatchReadBlobs, GetTree, GetActionResult, UpdateActionResult, Execute, WaitExecution, GetCapabilities, Read, Write, QueryWriteStatus}

abbrev pub path_of : Method → List ℕ
path_of FindMissingBlobs =
    codes "/build.bazel.remote.execution.v2.ContentAddressableStorage/FindMissingBlobs"
path_of BatchUpdateBlobs =
    codes "/build.bazel.remote.execution.v2.ContentAddressableStorage/BatchUpdateBlobs"
path_of BatchReadBlobs =
    codes "/build.bazel.remote.execution.v2.ContentAddressableStorage/BatchReadBlobs"
path_of GetTree = codes "/build.bazel.remote.execution.v2.ContentAddressableStorage/GetTree"
path_of GetActionResult = codes "/build.bazel.remote.execution.v2.ActionCache/GetActionResult"
path_of UpdateActionResult = codes "/build.bazel.remote.execution.v2.ActionCache/UpdateActionResult"
path_of Execute = codes "/build.bazel.remote.execution.v2.Execution/Execute"
path_of WaitExecution = codes "/build.bazel.remote.execution.v2.Execution/WaitExecution"
path_of GetCapabilities = codes "/build.bazel.remote.execution.v2.Capabilities/GetCapabilities"
path_of Read = codes "/google.bytestream.ByteStream/Read"
path_of Write = codes "/google.bytestream.ByteStream/Write"
path_of QueryWriteStatus = codes "/google.bytestream.ByteStream/QueryWriteStatus"

-- all of them
abbrev pub methods : List Method
methods =
    FindMissingBlobs ∷ BatchUpdateBlobs ∷ BatchReadBlobs ∷ GetTree ∷ GetActionResult
    ∷ UpdateActionResult ∷ Execute ∷ WaitExecution ∷ GetCapabilities ∷ Read ∷ Write
    ∷ QueryWriteStatus ∷ []

-- the first of these that has the path
abbrev pub method_in : List Method → List ℕ → Option Method
method_in [] path = None
method_in (m ∷ ms) path = if bytes_eq (path_of m) path then Some m else method_in ms path

unfoldable pub method_at : List ℕ → Option Method
method_at path = method_in methods path
