use Rattle.std.proofs.Common.{ap, ◌∙◌, ◌++◌, ◌+◌, ◌-◌, length, take, drop}
use Rattle.grpc_sending.specs.Spans.{Span}
use Rattle.grpc_sending.proofs.Filling.{extended}
use Rattle.grpc_sending.proofs.Heads.{range_put}
use Rattle.grpc_sending.proofs.buffer.put_range.Goals as goal

pub returns-clause-items : goal.returns-clause-items
returns-clause-items g c =
    let texts = g.P.Parts.text_of c.args.parts.now in
    let s = c.args.range.now in
    let head = c.head-head.result in
    let rest = c.after-rest.result.now in
    let of_head = c.min-of_head.result in
    let skipped = c.saturating_sub.result in
    range_put 65536 c.args.count s (texts s.source) head rest of_head skipped c.args.stream c.args.out.now.items c.put_header.new.out.items
    c.extend_from_slice.new.self.items c.fill.new.out.items c.requires.fit c.requires.there
    (record {
      head_is = c.head-head.ensures;
      rest_is = c.after-rest.ensures ∙ ap (λ (x : Span). drop x.put head) c.range.view_is;
      of_head_is = c.min-of_head.ensures;
      skipped_is = c.saturating_sub.ensures ∙ ap (λ k. c.range.inside.put - k) c.len.ensures
          ∙ ap (λ (x : Span). x.put - length head) c.range.view_is;
    })
    c.put_header.ensures.items
    (extended c.extend_from_slice.result c.extend_from_slice.new.self.items c.put_header.new.out.items
    (take of_head rest) c.unwrap.ensures c.extend_from_slice.ensures.items)
    (c.fill.ensures.items ∙ ap (λ (x : Span). c.extend_from_slice.new.self.items
    ++ take (c.args.count - of_head) (drop (x.from + skipped) (texts x.source))) c.range.view_is)
