use Rattle.std.proofs.Common.{rules, ◌≡◌, ◌++◌, true, map, subst, ap, ◌∙◌}
use Rattle.std.specs.Global.{Vec}
use Rattle.protobuf_wire.specs.Parts.{text_for}
use Rattle.tree_messages.specs.Results.{action_result_records}
use Rattle.run_calls.specs.declared.outcome.Output.{Output}
use Rattle.run_calls.specs.declared.outcome.Streams.{Streams}
use Rattle.outcomes.specs.Asked.{are_asked}
use Rattle.outcomes.specs.Completing.{IsCollected, blob_shown, collection_shown}
use Rattle.outcomes.specs.Results.{result_with, stream_blobs, stream_digest}
use Rattle.actions.specs.Shown.{asked_shown}
use Rattle.run_calls.specs.Shown.{exited_shown, output_shown}
use Rattle.outcomes.proofs.Completed.{completed}
use Rattle.outcomes.proofs.completion.complete.Goals as goal

pub returns : goal.returns
returns c =
    let like = c.args.action.now in
    let asked = map asked_shown c.args.asked.now in
    let outputs = map output_shown c.args.exited.outputs.items in
    let collected = collection_shown c.in-Some.collection in
    let known : are_asked asked outputs ≡ true = search (rules, c.deref.ensures.value, c.are_asked.ensures, c.if-not-are_asked.false) in
    let there = subst (λ (os : Vec Output). IsCollected like (map output_shown os.items) c.in_ok-collection.field-0)
    c.into_parts-code.ensures.outputs c.in_ok-collection.ensures in
    let both = subst (λ found. IsCollected like outputs found) c.in-Some.is there in
    let lent : c.deref-2.result.now ≡ c.args.exited.streams.value = search (rules, c.deref-2.ensures, c.into_parts-code.ensures.streams) in
    let moved : c.into_inner-stdout.result ≡ c.args.exited.streams.value =
    search (rules, c.into_inner-stdout.ensures, c.into_parts-code.ensures.streams) in
    let result : c.in_ok-result.result.items ≡ text_for action_result_records
    (result_with c.args.exited.code collected.files collected.trees (stream_digest like c.args.exited.streams.value.stdout)
    (stream_digest like c.args.exited.streams.value.stderr)) =
    search (rules, c.in_ok-result.ensures, c.into_parts-code.ensures.code, lent) in
    let blobs = c.in_ok-blobs.ensures ∙ ap (λ (s : Streams). collected.file_blobs ++ collected.tree_blobs ++ stream_blobs like s.stdout
    ++ stream_blobs like s.stderr) moved in
    completed like asked (exited_shown c.args.exited) collected
    (map blob_shown c.in_ok-blobs.blobs.items) c.in_ok-result.result.items known both.0 both.1 result blobs
