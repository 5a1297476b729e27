-- Changes of an instance that store only what is named.
use Rattle.std.specs.Prelude.{◌⊎◌, List, Contains}
use Rattle.std.specs.List.{AllByRecursion}
use Rattle.digest.specs.Naming.{Names}
use Rattle.instance_view.specs.Visible.{Blob}
use Rattle.cas_service.specs.Changes as Texts
use Rattle.instance_core.specs.Changes.{InstanceChange, Text, Goes, Ends, Wrote, Keeps, Expires, Does, Pushes, Settles}

-- bytes are stored only under the digest that names them
abbrev pub StoresNamedText : Texts.TextChange → Type 0
StoresNamedText (Texts.Use d) = Unit {0}
StoresNamedText (Texts.Store d text) = Names d text

-- the text stood under this digest before, or is what the digest says
abbrev pub IsOldOrNamed : List Blob → Blob → Type 0
IsOldOrNamed visible b = Contains visible b ⊎ Names b.0 b.1

-- a change of an instance that has these texts stores bytes only under the digest that names them
abbrev pub StoresNamed : List Blob → InstanceChange → Type 0
StoresNamed visible (Text c) = StoresNamedText c
StoresNamed visible (Wrote w) = AllByRecursion (IsOldOrNamed visible) w.visible
StoresNamed visible (Keeps results) = Unit {0}
StoresNamed visible (Goes id call) = Unit {0}
StoresNamed visible (Ends id) = Unit {0}
StoresNamed visible Expires = Unit {0}
StoresNamed visible (Does operation) = Unit {0}
StoresNamed visible (Pushes job) = Unit {0}
StoresNamed visible (Settles steps) = Unit {0}
