use Rattle.std.proofs.Common.{ap, sym, ◌∙◌, List, ℕ}
use Rattle.http2_streams.specs.declared.event.Event.TheVariants.{Request, Content, Trailers, Cancel}
use Rattle.conn_core.specs.Step.{with_reader}
use Rattle.conn_core.proofs.Bring.{brings_by}
use Rattle.conn_core.proofs.Bring.{nothing_by}
use Rattle.conn_core.proofs.connection.Connection.bring.Goals as goal

pub returns-in-Nothing-clause-stands : goal.returns-in-Nothing-clause-stands
returns-in-Nothing-clause-stands c = λ reader texts. nothing_by texts (with_reader reader c.args.self.now) c.args.event c.in-Nothing.is

pub returns-in-Request-clause-stands : goal.returns-in-Request-clause-stands
returns-in-Request-clause-stands c = brings_by c.begin.result c.args.self.now c.begin.new.self c.args.event
    (Request c.in-Request.stream c.in-Request.fields c.in-Request.end_stream) c.in-Request.is c.begin.ensures.stands

pub returns-in-Content-clause-stands : goal.returns-in-Content-clause-stands
returns-in-Content-clause-stands c = brings_by c.take_text.result c.args.self.now c.take_text.new.self c.args.event
    (Content c.in-Content.stream c.as_slice.result.now c.in-Content.end_stream)
    (c.in-Content.is ∙ ap (λ (bytes : List ℕ). Content c.in-Content.stream bytes c.in-Content.end_stream) (sym c.as_slice.ensures.bytes))
    c.take_text.ensures.stands

pub returns-in-Trailers-clause-stands : goal.returns-in-Trailers-clause-stands
returns-in-Trailers-clause-stands c = brings_by c.take_trailers.result c.args.self.now c.take_trailers.new.self c.args.event
    (Trailers c.in-Trailers.stream) c.in-Trailers.is c.take_trailers.ensures.stands

pub returns-in-Cancel-clause-stands : goal.returns-in-Cancel-clause-stands
returns-in-Cancel-clause-stands c = brings_by c.cancel.result c.args.self.now c.cancel.new.self c.args.event
    (Cancel c.in-Cancel.stream) c.in-Cancel.is c.cancel.ensures.stands
