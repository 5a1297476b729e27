use Rattle.std.proofs.Common.{refl, ap, ◌∙◌, ◌+◌}
use Rattle.std.specs.Prelude.{cond}
use Rattle.http2_streams.specs.History.{In, Out, Took}
use Rattle.conn_core.specs.Floods.{resets_since_taking}
use Rattle.conn_core.proofs.ResetCounts.{count_more, taken_anew}
use Rattle.conn_core.proofs.laws.resets_are_counted_since_bytes_were_taken.Goals as goal

pub returns-clause-begins : goal.returns-clause-begins
returns-clause-begins c = refl

pub returns-clause-reset : goal.returns-clause-reset
returns-clause-reset c = λ d f is. count_more d (In f) ∙ ap (λ b. cond b (resets_since_taking d + 1) (resets_since_taking d)) is

pub returns-clause-received : goal.returns-clause-received
returns-clause-received c = λ d f is. count_more d (In f) ∙ ap (λ b. cond b (resets_since_taking d + 1) (resets_since_taking d)) is

pub returns-clause-put : goal.returns-clause-put
returns-clause-put c = λ d f. count_more d (Out f)

pub returns-clause-taken : goal.returns-clause-taken
returns-clause-taken c = λ d n more. count_more d (Took n) ∙ taken_anew n (resets_since_taking d) more
