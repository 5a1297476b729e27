use Rattle.http2_streams.proofs.Rising.{reset_leaves}
use Rattle.http2_streams.proofs.PutLaw.{reset_put_law}
use Rattle.http2_streams.proofs.streams.Streams.on_reset_put.Goals as goal

pub returns-clause-stands : goal.returns-clause-stands
returns-clause-stands c = λ d code low h. reset_put_law _ _ d _ code low c.reset.ensures h

pub returns-clause-others : goal.returns-clause-others
returns-clause-others c = reset_leaves _ _ _ c.reset.ensures
