use Rattle.std.proofs.Common.{sym, subst, List}
use Rattle.served_instance.specs.declared.open_connection.OpenConnection.{OpenConnection}
use Rattle.served_instance.specs.Lone.{after_opening}
use Rattle.served_instance.specs.Acts.{Acts, HoldAlike}
use Rattle.served_instance.proofs.Ranges.{alike_push, fit_none}
use Rattle.served_instance.proofs.Closes.{opens}
use Rattle.served_instance.proofs.instance.open.Goals as goal

pub returns-clause-opened : goal.returns-clause-opened
returns-clause-opened c = λ s is.
    let os = c.args.connections.now.items in
    subst (λ (xs : List OpenConnection). Acts s os s xs (after_opening c.args.number)) (sym c.in_ok-push.ensures.items)
    (opens c.args.window c.args.number c.in_ok-connection.connection s os is c.in_ok-connection.ensures.stands)

pub returns-clause-holds : goal.returns-clause-holds
returns-clause-holds c =
    let os = c.args.connections.now.items in
    subst (λ (xs : List OpenConnection). HoldAlike os xs) (sym c.in_ok-push.ensures.items)
    (alike_push os (record { number = c.args.number; connection = c.in_ok-connection.connection }) c.in_ok-connection.ensures.sources
    (λ texts. fit_none texts c.in_ok-connection.connection.sending c.in_ok-connection.ensures.sources))
