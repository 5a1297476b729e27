-- Reading a head, and which request is a call.
use Rattle.grpc_calls.specs.declared.request.HeadFault.TheVariants.{Method as BadMethod, ContentType as BadContentType, Path as BadPath}
use Rattle.std.proofs.Common.{◌≡◌, ℕ, ◌⊎◌, ◌↔◌, inl, inr, Bool, true, false, cond, ◌&&◌, ◌||◌, nat_eq, List, [], ◌∷◌, length, drop, Option, Some, None, Result, Ok, Err, codes, refl, sym, ap, ◌∙◌}
use Rattle.std.specs.List.{list_any, starts_with}
use Rattle.std.specs.Str.{bytes_eq}
use Rattle.std.proofs.lemmas.Bool.Decides.{Decides-eqb}
use Rattle.std.proofs.lemmas.Slice.Eq.{bytes_eq-Decides, starts_is}
use Rattle.hpack.specs.Header.{Header, value_of}
use Rattle.rpc.specs.declared.method.Method.{Method}
use Rattle.rpc.specs.declared.method.Method.TheVariants.{FindMissingBlobs, BatchUpdateBlobs, BatchReadBlobs, GetTree, GetActionResult, UpdateActionResult, Execute, WaitExecution, GetCapabilities, Read, Write, QueryWriteStatus}
use Rattle.grpc_calls.specs.declared.request.HeadFault.{HeadFault}
use Rattle.rpc.specs.Methods.{path_of, methods, method_in, method_at}
use Rattle.grpc_calls.specs.Requests.{IsPost, IsGrpcType, IsGrpc, HasPathOf, IsCall, is_value, is_grpc_type, method_for, method_or_fault, head_of}

same : (xs ys : List ℕ) → bytes_eq xs ys ≡ true → xs ≡ ys
same xs ys e = (bytes_eq-Decides xs ys).0 e

equal : (xs ys : List ℕ) → xs ≡ ys → bytes_eq xs ys ≡ true
equal xs ys e = (bytes_eq-Decides xs ys).1 e

-- ---- paths

found_in : (ms : List Method) (path : List ℕ) (m : Method) → method_in ms path ≡ Some m → path ≡ path_of m
found_in [] path m e = absurd cc
found_in (n ∷ ms) path m e = go (bytes_eq (path_of n) path) refl e (found_in ms path m) where
  go : (b : Bool) → bytes_eq (path_of n) path ≡ b → cond b (Some n) (method_in ms path) ≡ Some m →
      (method_in ms path ≡ Some m → path ≡ path_of m) → path ≡ path_of m
  go true h e later = let is : n ≡ m = cc in sym (same (path_of n) path h) ∙ ap path_of is
  go false h e later = later e

of_path : (m : Method) → method_in methods (path_of m) ≡ Some m
of_path FindMissingBlobs = refl
of_path BatchUpdateBlobs = refl
of_path BatchReadBlobs = refl
of_path GetTree = refl
of_path GetActionResult = refl
of_path UpdateActionResult = refl
of_path Execute = refl
of_path WaitExecution = refl
of_path GetCapabilities = refl
of_path Read = refl
of_path Write = refl
of_path QueryWriteStatus = refl

pub path_is : (path : List ℕ) (m : Method) → method_at path ≡ Some m → path ≡ path_of m
unfolding method_at
path_is path m e = found_in methods path m e

pub is_path : (path : List ℕ) (m : Method) → path ≡ path_of m → method_at path ≡ Some m
unfolding method_at
is_path path m e = ap (method_in methods) e ∙ of_path m

pub one_method : (path : List ℕ) (m : Method) → (method_at path ≡ Some m) ↔ (path ≡ path_of m)
one_method path m = (path_is path m, is_path path m)

-- ---- fields

value_is : (text : List ℕ) (o : Option (List ℕ)) → is_value text o ≡ true → o ≡ Some text
value_is text None e = absurd cc
value_is text (Some value) e = ap (λ (x : List ℕ). Some x) (same value text e)

is_value_of : (text : List ℕ) (o : Option (List ℕ)) → o ≡ Some text → is_value text o ≡ true
is_value_of text o e = ap (is_value text) e ∙ equal text text refl

both : (a b : Bool) → (a && b) ≡ true → (a ≡ true) × (b ≡ true)
both true b e = (refl, e)
both false b e = absurd cc

grpc_type_is : (h : Header) → is_grpc_type h ≡ true → IsGrpcType h
grpc_type_is h e =
    let b = both (bytes_eq h.name (codes "content-type")) (starts_with nat_eq h.value (codes "application/grpc")) e in (
      same h.name (codes "content-type") b.0,
      (
        drop (length (codes "application/grpc")) h.value,
        (starts_is Decides-eqb h.value (codes "application/grpc") (starts_with nat_eq h.value (codes "application/grpc")) refl).0 b.1,
      ),
    )

is_grpc_type_of : (h : Header) → IsGrpcType h → is_grpc_type h ≡ true
is_grpc_type_of h g =
    let name = equal h.name (codes "content-type") g.0 in
    let value = (starts_is Decides-eqb h.value (codes "application/grpc") (starts_with nat_eq h.value (codes "application/grpc")) refl).1
    g.1.0 g.1.1 in
    ap (λ (x : Bool). x && starts_with nat_eq h.value (codes "application/grpc")) name ∙ value

either : (a b : Bool) → (a || b) ≡ true → (a ≡ true) ⊎ (b ≡ true)
either true b e = inl refl
either false b e = inr e

on_left : (a b : Bool) → a ≡ true → (a || b) ≡ true
on_left true b e = refl
on_left false b e = absurd cc

on_right : (a b : Bool) → b ≡ true → (a || b) ≡ true
on_right true b e = refl
on_right false b e = e

grpc_is : (hs : List Header) → list_any is_grpc_type hs ≡ true → IsGrpc hs
grpc_is [] e = absurd cc
grpc_is (h ∷ hs) e = elim (either (is_grpc_type h) (list_any is_grpc_type hs) e)
    [ inl t ↦ inl (grpc_type_is h t) | inr t ↦ inr (grpc_is hs t) ]

is_grpc_of : (hs : List Header) → IsGrpc hs → list_any is_grpc_type hs ≡ true
is_grpc_of [] g = absurd g
is_grpc_of (h ∷ hs) (inl g) = on_left (is_grpc_type h) (list_any is_grpc_type hs) (is_grpc_type_of h g)
is_grpc_of (h ∷ hs) (inr g) = on_right (is_grpc_type h) (list_any is_grpc_type hs) (is_grpc_of hs g)

-- ---- a head by its three tests

abbrev head_by : Bool → Bool → Option Method → Result Method HeadFault
head_by post grpc o = cond post (cond grpc (method_or_fault o) (Err BadContentType)) (Err BadMethod)

abbrev post_of : List Header → Bool
post_of hs = is_value (codes "POST") (value_of (codes ":method") hs)

abbrev grpc_of : List Header → Bool
grpc_of hs = list_any is_grpc_type hs

abbrev named_by : List Header → Option Method
named_by hs = method_for (value_of (codes ":path") hs)

record Found (p g : Bool) (o : Option Method) (m : Method) : Type 0 where
  post : p ≡ true
  grpc : g ≡ true
  named : o ≡ Some m

found_by : (p g : Bool) (o : Option Method) (m : Method) → head_by p g o ≡ Ok m → Found p g o m
found_by true true (Some n) m e = record { post = refl; grpc = refl; named = cc }
found_by true true None m e = absurd cc
found_by true false o m e = absurd cc
found_by false g o m e = absurd cc

path_named : (hs : List Header) (m : Method) → named_by hs ≡ Some m → HasPathOf m hs
path_named hs m e = go (value_of (codes ":path") hs) e where
  go : (o : Option (List ℕ)) → method_for o ≡ Some m → o ≡ Some (path_of m)
  go None e = absurd cc
  go (Some path) e = ap (λ (x : List ℕ). Some x) (path_is path m e)

named_path : (hs : List Header) (m : Method) → HasPathOf m hs → named_by hs ≡ Some m
named_path hs m e = ap method_for e ∙ is_path (path_of m) m refl

call_is : (hs : List Header) (m : Method) → head_of hs ≡ Ok m → IsCall hs m
call_is hs m e =
    let f = found_by (post_of hs) (grpc_of hs) (named_by hs) m e in
    record {
      post = value_is (codes "POST") (value_of (codes ":method") hs) f.post;
      grpc = grpc_is hs f.grpc;
      path =
          path_named hs m f.named;
    }

head_at : (hs : List Header) (p g : Bool) (o : Option Method) → post_of hs ≡ p → grpc_of hs ≡ g → named_by hs ≡ o →
    head_of hs ≡ head_by p g o
head_at hs p g o a b c = rw (← a, ← b, ← c) refl

post_is : (hs : List Header) → IsPost hs → post_of hs ≡ true
post_is hs h = is_value_of (codes "POST") (value_of (codes ":method") hs) h

is_call : (hs : List Header) (m : Method) → IsCall hs m → head_of hs ≡ Ok m
is_call hs m c = head_at hs true true (Some m) (post_is hs c.post) (is_grpc_of hs c.grpc) (named_path hs m c.path)

pub calls : (hs : List Header) (m : Method) → (head_of hs ≡ Ok m) ↔ IsCall hs m
calls hs m = (call_is hs m, is_call hs m)

untrue : (b : Bool) → b ≡ true → b ≡ false → ⊥
untrue b e d = cc

not_true : (b : Bool) → (b ≡ true → ⊥) → b ≡ false
not_true true h = absurd (h refl)
not_true false h = refl

method_by : (p g : Bool) (o : Option Method) → head_by p g o ≡ Err BadMethod → p ≡ false
method_by true true (Some n) e = absurd cc
method_by true true None e = absurd cc
method_by true false o e = absurd cc
method_by false g o e = refl

pub method_fault : (hs : List Header) → (head_of hs ≡ Err BadMethod) ↔ (¬ IsPost hs)
method_fault hs = (
  λ e h. untrue (post_of hs) (post_is hs h) (method_by (post_of hs) (grpc_of hs) (named_by hs) e),
  λ none. head_at hs false (grpc_of hs) (named_by hs)
      (not_true (post_of hs) (λ t. none (value_is (codes "POST") (value_of (codes ":method") hs) t))) refl refl,
)

type_by : (p g : Bool) (o : Option Method) → head_by p g o ≡ Err BadContentType → (p ≡ true) × (g ≡ false)
type_by true true (Some n) e = absurd cc
type_by true true None e = absurd cc
type_by true false o e = (refl, refl)
type_by false g o e = absurd cc

pub type_fault : (hs : List Header) → (head_of hs ≡ Err BadContentType) ↔ (IsPost hs × ¬ IsGrpc hs)
type_fault hs = (
  λ e. let t = type_by (post_of hs) (grpc_of hs) (named_by hs) e in
      (value_is (codes "POST") (value_of (codes ":method") hs) t.0, λ g. untrue (grpc_of hs) (is_grpc_of hs g) t.1),
  λ h. head_at hs true false (named_by hs) (post_is hs h.0) (not_true (grpc_of hs) (λ t. h.1 (grpc_is hs t))) refl,
)

record Unnamed (p g : Bool) (o : Option Method) : Type 0 where
  post : p ≡ true
  grpc : g ≡ true
  named : o ≡ None

path_by : (p g : Bool) (o : Option Method) → head_by p g o ≡ Err BadPath → Unnamed p g o
path_by true true (Some n) e = absurd cc
path_by true true None e = record { post = refl; grpc = refl; named = refl }
path_by true false o e = absurd cc
path_by false g o e = absurd cc

unnamed : (o : Option Method) → ((m : Method) → o ≡ Some m → ⊥) → o ≡ None
unnamed None h = refl
unnamed (Some m) h = absurd (h m refl)

some_none : (o : Option Method) (m : Method) → o ≡ Some m → o ≡ None → ⊥
some_none o m e d = cc

pub path_fault : (hs : List Header) → (head_of hs ≡ Err BadPath) ↔ (IsPost hs × IsGrpc hs × ((m : Method) → ¬ HasPathOf m hs))
path_fault hs = (
  λ e. let t = path_by (post_of hs) (grpc_of hs) (named_by hs) e in (
    value_is (codes "POST") (value_of (codes ":method") hs) t.post,
    grpc_is hs t.grpc,
    λ m h. some_none (named_by hs) m
        (named_path hs m h) t.named,
  ),
  λ h. head_at hs true true None (post_is hs h.0) (is_grpc_of hs h.1) (unnamed (named_by hs) (λ m e. h.2 m (path_named hs m e))),
)
