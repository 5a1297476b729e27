use Rattle.http2_streams.proofs.PutLaw.{data_put_law}
use Rattle.http2_streams.proofs.streams.Streams.on_data_put.Goals as goal

pub returns-clause-stands : goal.returns-clause-stands
returns-clause-stands c = λ d content count can h. data_put_law _ _ d _ _ _ content can.live (c.put_data.ensures.spent can) count h
