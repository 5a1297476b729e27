use Rattle.std.proofs.Common.{◌≡◌, ◌++◌, refl, arith}
use Rattle.std.proofs.lemmas.Grind.{common_steps}
use Rattle.http2_frames.proofs.Written.{go_away_text}
use Rattle.http2_frames.proofs.writer.put_go_away.Goals as goal

pub returns-clause-items : goal.returns-clause-items
returns-clause-items c =
    let last : c.extend_from_slice.new.self.items ≡ c.put_numbers.new.out.items ++ c.args.debug_data.now = grind (arith, common_steps) in
    go_away_text c.args.out.now.items _ c.put_numbers.new.out.items c.extend_from_slice.new.self.items c.args.debug_data.now _
    c.args.last_stream c.args.error_code refl c.put_header.ensures.items c.put_numbers.ensures.items last
