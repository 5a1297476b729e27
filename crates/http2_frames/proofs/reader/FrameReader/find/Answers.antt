use Rattle.std.proofs.Common.{◌∙◌, ap}
use Rattle.http2_frames.specs.Step.{look, after_look}
use Rattle.http2_frames.proofs.Steps.{stands_found, whole_found, no_longer, all_given, fault_of, kept_after}
use Rattle.http2_frames.proofs.reader.FrameReader.find.Goals as goal

pub returns-clause-stands : goal.returns-clause-stands
returns-clause-stands c = stands_found c.args.self.now c.look.result c.look.new.self
    (c.look.ensures.answer ∙ ap look c.pass_preface.ensures.passed)
    (c.look.ensures.after ∙ ap (after_look c.look.result) c.pass_preface.ensures.passed)

pub returns-clause-whole : goal.returns-clause-whole
returns-clause-whole c = whole_found c.args.self.now c.look.result c.look.new.self
    (c.look.ensures.answer ∙ ap look c.pass_preface.ensures.passed)
    (c.look.ensures.after ∙ ap (after_look c.look.result) c.pass_preface.ensures.passed)

pub returns-clause-no_longer : goal.returns-clause-no_longer
returns-clause-no_longer c = no_longer c.args.self.now c.look.result c.look.new.self
    (c.look.ensures.after ∙ ap (after_look c.look.result) c.pass_preface.ensures.passed)

pub returns-clause-none : goal.returns-clause-none
returns-clause-none c = all_given c.args.self.now c.look.result c.look.new.self
    (c.look.ensures.answer ∙ ap look c.pass_preface.ensures.passed)
    (c.look.ensures.after ∙ ap (after_look c.look.result) c.pass_preface.ensures.passed)

pub returns-clause-refused : goal.returns-clause-refused
returns-clause-refused c = fault_of c.args.self.now c.look.result (c.look.ensures.answer ∙ ap look c.pass_preface.ensures.passed)

pub returns-clause-kept : goal.returns-clause-kept
returns-clause-kept c = kept_after c.pass_preface.new.self c.look.result c.look.new.self c.pass_preface.ensures.short c.look.ensures.answer
    c.look.ensures.after
