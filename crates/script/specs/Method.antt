-- The methods that a script may call, of the service ContentAddressableStorage
-- (remote_execution.proto).
use Rattle.std.specs.Prelude.{ℕ, List, [], ◌∷◌, codes, Option, find}
use Rattle.std.specs.Str.{bytes_eq}
use Rattle.script.specs.declared.unary.method.Method.{Method}
use Rattle.script.specs.declared.unary.method.Method.TheVariants.{FindMissingBlobs, BatchUpdateBlobs, BatchReadBlobs}

-- a method's name
abbrev pub method_name : Method → List ℕ
method_name FindMissingBlobs = codes "FindMissingBlobs"
method_name BatchUpdateBlobs = codes "BatchUpdateBlobs"
method_name BatchReadBlobs = codes "BatchReadBlobs"

abbrev pub script_methods : List Method
script_methods = FindMissingBlobs ∷ BatchUpdateBlobs ∷ BatchReadBlobs ∷ []

-- the method of that name, or none
abbrev pub method_named : List ℕ → Option Method
method_named name = find (λ method. bytes_eq name (method_name method)) script_methods
