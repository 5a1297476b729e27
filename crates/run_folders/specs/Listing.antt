-- Listings of directories.
use Rattle.std.specs.Prelude.{List, map, string_cmp}
use Rattle.std.specs.List.Sorted.{IsStrictlySortedBy}
use Rattle.run_calls.specs.declared.folder.Entry.{Entry}

-- the names of entries rise, byte by byte: each is below those after it, so that none stands twice
abbrev pub NamesRise : List Entry → Type 0
NamesRise entries = IsStrictlySortedBy string_cmp (map (λ e. e.name) entries)
