use Rattle.std.proofs.Common.{◌≡◌, ◌∷◌, [], List, ◌∙◌, arith}
use Rattle.http2_streams.specs.History.{Entry}
use Rattle.grpc_sending.specs.StoredSending.{IsStoredSending}
use Rattle.conn_core.specs.Past.{streams_setting, window_setting}
use Rattle.conn_core.proofs.Greeting.{larger, payload_is}
use Rattle.conn_core.proofs.connection.greeting.greet.Goals as goal

pub returns-clause-stands : goal.returns-clause-stands
returns-clause-stands c = λ texts h.
    let same : c.new-2.result ≡ streams_setting ∷ window_setting c.args.window ∷ [] =
    c.new-2.ensures ∙ payload_is c.to_be_bytes.result c.args.window (omega arith) c.to_be_bytes.ensures in
    let first = c.put_control-2.ensures.stands texts [] [] h in
    larger (λ (d : List Entry). IsStoredSending texts c.put_control-3.new.self d []) c.args.window c.new-2.result (omega arith) same
    (c.put_control-3.ensures.stands texts _ [] first)
