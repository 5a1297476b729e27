use Rattle.std.proofs.Common.{◌≡◌, ◌-◌, rules}
use Rattle.std.specs.Prelude.{nat_lt}
use Rattle.std.specs.List.{filter}
use Rattle.keyed_maps.proofs.MapLemmas.{filter-RetainsPairs}
use Rattle.uploads.specs.declared.key.UploadKey.{UploadKey}
use Rattle.uploads.specs.declared.table.Upload.{Upload}
use Rattle.uploads.proofs.TableLemmas.{unexpired_shown, whole_filter}
use Rattle.uploads.proofs.table.expire.Goals as goal

pub returns-clause-left : goal.returns-clause-left
returns-clause-left c =
    let left : c.retain.new.self.entries ≡ filter
    (λ (e : UploadKey × Upload). nat_lt (c.args.moment - e.1.written) 600000) c.args.table.now.entries =
    filter-RetainsPairs _ _ _ (λ k v b w g call. search rules) _ _ c.retain.ensures.filtered in
    rw left (unexpired_shown c.args.moment c.args.table.now.entries)

pub returns-clause-whole : goal.returns-clause-whole
returns-clause-whole c =
    let left : c.retain.new.self.entries ≡ filter
    (λ (e : UploadKey × Upload). nat_lt (c.args.moment - e.1.written) 600000) c.args.table.now.entries =
    filter-RetainsPairs _ _ _ (λ k v b w g call. search rules) _ _ c.retain.ensures.filtered in
    rw left (whole_filter _ c.args.table.now.entries c.requires.whole)
