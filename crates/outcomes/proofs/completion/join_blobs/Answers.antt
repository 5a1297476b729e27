use Rattle.std.proofs.Common.{rules, ◌≡◌, ◌++◌, [], ◌∷◌, List, map, sym, ap, ◌∙◌, append_assoc}
use Rattle.std.proofs.lemmas.List.{append-nil, map-append}
use Rattle.instance_view.specs.Visible.{Blob}
use Rattle.outcomes.specs.declared.completion.OutputBlob.{OutputBlob}
use Rattle.outcomes.specs.Completing.{blob_shown}
use Rattle.outcomes.specs.Results.{stream_blobs}
use Rattle.outcomes.proofs.completion.join_blobs.Goals as goal

pub loop-blob-preserved : goal.loop-blob-preserved
loop-blob-preserved c =
    let blobs = c.loop-blob.blobs.items in
    let rest = c.pop_front.new.self.items in
    let is : c.loop-blob.left.items ≡ c.in-Some.blob ∷ rest = c.in-Some.ensures.items in
    ap (λ (bs : List OutputBlob). map blob_shown bs ++ map blob_shown rest) c.in_ok-push.ensures.items
    ∙ ap (λ (bs : List Blob). bs ++ map blob_shown rest) (map-append blob_shown blobs (c.in-Some.blob ∷ []))
    ∙ append_assoc (map blob_shown blobs) (blob_shown c.in-Some.blob ∷ []) (map blob_shown rest)
    ∙ ap (λ (bs : List OutputBlob). map blob_shown blobs ++ map blob_shown bs) (sym is)
    ∙ c.loop-blob.invariant

pub returns : goal.returns
returns c =
    let like = c.args.like.now in
    let blobs = map blob_shown c.loop-blob.blobs.items in
    let none : c.loop-blob.left.items ≡ [] = search (rules, c.in_default.ensures.items) in
    let joined = sym (append-nil blobs) ∙ ap (λ (bs : List OutputBlob). blobs ++ map blob_shown bs) (sym none) ∙ c.loop-blob.invariant in
    c.in_ok-push_stream-2.ensures
    ∙ ap (λ (bs : List Blob). bs ++ stream_blobs like c.args.stderr) (c.in_ok-push_stream.ensures
    ∙ ap (λ (bs : List Blob). bs ++ stream_blobs like c.args.stdout) joined)
