use Rattle.std.proofs.Common.{◌≡◌, List, ◌++◌, OnOk, rules}
use Rattle.std.proofs.lemmas.Result.{on_ok_weaker}
use Rattle.protobuf_wire.specs.Record.{Record}
use Rattle.protobuf_wire.specs.Writing.{followed_by_records}
use Rattle.protobuf_wire.specs.Parts.{embedded_field, int32_field, int64_field, repeated_enum_field}
use Rattle.reapi_messages.specs.Capabilities.{action_cache_update_capabilities_records, cache_capabilities_shown}
use Rattle.reapi_messages.proofs.Steps.{written_next}
use Rattle.reapi_messages.proofs.capabilities.CacheCapabilitiesMessage.write.Goals as goal

pub returns : goal.returns
returns c =
    let before = c.args.writer.now in
    let v = cache_capabilities_shown c.args.self.now in
    let functions : List Record = repeated_enum_field 1 v.digest_functions in
    let update : List Record = embedded_field action_cache_update_capabilities_records 2 v.action_cache_update_capabilities in
    let size : List Record = int64_field 4 v.max_batch_total_size_bytes in
    let strategy : List Record = int32_field 5 v.symlink_absolute_path_strategy in
    let one : c.put_repeated_enum.new.writer ≡ followed_by_records before functions = search rules in
    let sized : c.put_int64.new.writer ≡ followed_by_records c.put_embedded.new.writer size = search rules in
    let ended : OnOk c.put_int32.result (c.put_int32.new.writer ≡ followed_by_records c.put_int64.new.writer strategy) = search rules in
    let two = written_next before functions update c.put_repeated_enum.new.writer c.put_embedded.new.writer one
    c.in_ok-put_embedded.ensures in
    let three = written_next before (functions ++ update) size c.put_embedded.new.writer c.put_int64.new.writer two sized in
    on_ok_weaker c.put_int32.result (written_next before
    (functions ++ update ++ size) strategy c.put_int64.new.writer c.put_int32.new.writer three) ended
