use Rattle.http2_streams.proofs.Rising.{end_leaves}
use Rattle.http2_streams.proofs.PutLaw.{headers_put_law}
use Rattle.http2_streams.proofs.streams.Streams.on_headers_put.Goals as goal

pub returns-clause-stands : goal.returns-clause-stands
returns-clause-stands c = λ d end_headers fragment h. headers_put_law _ _ d _ _ end_headers fragment c.requires c.end_by_server.ensures h

pub returns-clause-others : goal.returns-clause-others
returns-clause-others c = end_leaves _ _ _ _ c.end_by_server.ensures
