use Rattle.std.proofs.Common.{◌≡◌, Some, None, refl, sym, ap, subst, ◌∙◌}
use Rattle.instance_core.specs.Calls.{CallValue, IsProgressOf, call_at, watches}
use Rattle.instance_core.proofs.Entries.{replaced}
use Rattle.instance_core.proofs.calls.Calls.watch.Goals as goal

pub returns-in_default-clause-watches : goal.returns-in_default-clause-watches
returns-in_default-clause-watches c = λ call is.
    absurd (let none : None ≡ Some call = c.in_default.ensures.value ∙ ap (call_at c.args.id) c.self.view_is ∙ is in cc)

pub invariant_of-self : goal.invariant_of-self
invariant_of-self c =
    replaced c.args.id c.new-watching.result c.self.inside.by_id.entries _ c.replace.ensures.entries c.replace.ensures.once
    (subst (λ (v : CallValue). IsProgressOf v.method v.progress) (sym c.new-watching.ensures) tt) c.self.invariant

pub returns-clause-watches : goal.returns-clause-watches
returns-clause-watches c = λ call is.
    let found : Some c.in-Some.call.now ≡ Some call = c.in-Some.ensures.value ∙ ap (call_at c.args.id) c.self.view_is ∙ is in
    let same : c.in-Some.call.now ≡ call = cc in
    let method : c.method.result ≡ call.method = c.method.ensures ∙ ap (λ (v : CallValue). v.method) same in
    let watching : c.new-watching.result ≡ record { method = call.method; progress = watches c.args.number } =
    rw (c.new-watching.ensures, method) refl in
    rw (c.replace.ensures.entries, watching, ← c.self.view_is) refl

pub returns-clause-calls : goal.returns-clause-calls
returns-clause-calls c =
    replaced c.args.id c.new-watching.result c.self.inside.by_id.entries _ c.replace.ensures.entries c.replace.ensures.once
    (subst (λ (v : CallValue). IsProgressOf v.method v.progress) (sym c.new-watching.ensures) tt) c.self.invariant
