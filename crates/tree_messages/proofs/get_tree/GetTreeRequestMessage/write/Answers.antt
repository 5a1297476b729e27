use Rattle.std.proofs.Common.{◌≡◌, List, ◌++◌, OnOk, rules}
use Rattle.std.proofs.lemmas.Result.{on_ok_weaker}
use Rattle.protobuf_wire.specs.Record.{Record}
use Rattle.protobuf_wire.specs.Writing.{followed_by_records}
use Rattle.protobuf_wire.specs.Parts.{embedded_field, int32_field, string_field}
use Rattle.reapi_messages.specs.Digests.{digest_records}
use Rattle.tree_messages.specs.GetTree.{get_tree_request_shown}
use Rattle.tree_messages.proofs.Texts.{written_next}
use Rattle.tree_messages.proofs.get_tree.GetTreeRequestMessage.write.Goals as goal

pub returns : goal.returns
returns c =
    let before = c.args.writer.now in
    let v = get_tree_request_shown c.args.self.now in
    let name : List Record = string_field 1 v.instance_name in
    let root : List Record = embedded_field digest_records 2 v.root_digest in
    let size : List Record = int32_field 3 v.page_size in
    let token : List Record = string_field 4 v.page_token in
    let function : List Record = int32_field 5 v.digest_function in
    let sized : c.put_int32.new.writer ≡ followed_by_records c.put_embedded.new.writer size = search rules in
    let ended : OnOk c.put_int32-2.result (c.put_int32-2.new.writer ≡ followed_by_records c.put_string-2.new.writer function) =
    search rules in
    let two = written_next before name root c.put_string.new.writer c.put_embedded.new.writer c.in_ok-put_string.ensures
    c.in_ok-put_embedded.ensures in
    let three = written_next before (name ++ root) size c.put_embedded.new.writer c.put_int32.new.writer two sized in
    let four = written_next before (name ++ root ++ size) token c.put_int32.new.writer c.put_string-2.new.writer three
    c.in_ok-put_string-2.ensures in
    on_ok_weaker c.put_int32-2.result (written_next before
    (name ++ root ++ size ++ token) function c.put_string-2.new.writer c.put_int32-2.new.writer four) ended
