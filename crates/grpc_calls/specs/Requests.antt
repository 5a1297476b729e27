-- The head of a request (gRPC over HTTP2, Requests).
use Rattle.std.specs.Prelude.{◌≡◌, ℕ, ◌⊎◌, Bool, false, ◌&&◌, nat_eq, List, [], ◌∷◌, ◌++◌, Option, Some, None, Result, Ok, Err, codes, if◌then◌else◌}
use Rattle.std.specs.List.{list_any, starts_with}
use Rattle.std.specs.Str.{bytes_eq}
use Rattle.hpack.specs.Header.{Header, value_of}
use Rattle.rpc.specs.declared.method.Method.{Method}
use Rattle.grpc_calls.specs.declared.request.HeadFault.{HeadFault}
use Rattle.grpc_calls.specs.declared.request.HeadFault.TheVariants.{Method as BadMethod, ContentType as BadContentType, Path as BadPath}
use Rattle.rpc.specs.Methods.{path_of, method_at}

-- ---- which request is a call

abbrev pub IsPost : List Header → Type 0
IsPost hs = value_of (codes ":method") hs ≡ Some (codes "POST")

-- a content type of gRPC, perhaps with the message's format behind it
abbrev pub IsGrpcType : Header → Type 0
IsGrpcType h =
    (h.name ≡ codes "content-type")
    × ((format : List ℕ) × (h.value ≡ codes "application/grpc" ++ format))

-- one of the fields is such a content type
abbrev pub IsGrpc : List Header → Type 0
IsGrpc [] = ⊥
IsGrpc (h ∷ hs) = IsGrpcType h ⊎ IsGrpc hs

abbrev pub HasPathOf : Method → List Header → Type 0
HasPathOf m hs = value_of (codes ":path") hs ≡ Some (path_of m)

pub record IsCall (hs : List Header) (m : Method) : Type 0 where
  pub post : IsPost hs
  pub grpc : IsGrpc hs
  pub path : HasPathOf m hs

-- ---- reading a head, with the first fault

abbrev pub is_value : List ℕ → Option (List ℕ) → Bool
is_value text None = false
is_value text (Some value) = bytes_eq value text

abbrev pub is_grpc_type : Header → Bool
is_grpc_type h =
    bytes_eq h.name (codes "content-type") && starts_with nat_eq h.value (codes "application/grpc")

abbrev pub method_for : Option (List ℕ) → Option Method
method_for None = None
method_for (Some path) = method_at path

abbrev pub method_or_fault : Option Method → Result Method HeadFault
method_or_fault None = Err BadPath
method_or_fault (Some m) = Ok m

abbrev pub head_of : List Header → Result Method HeadFault
head_of hs =
    if is_value (codes "POST") (value_of (codes ":method") hs) then
    (if list_any is_grpc_type hs then method_or_fault (method_for (value_of (codes ":path") hs))
    else Err BadContentType)
    else Err BadMethod
