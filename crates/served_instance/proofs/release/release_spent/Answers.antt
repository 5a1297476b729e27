use Rattle.std.proofs.Common.{refl, sym, ap, ◌∙◌, subst, ℕ, ◌<◌}
use Rattle.blob_pool.specs.Slots.{count_at}
use Rattle.blob_pool.specs.Moves.{Moves, no_holders, one_at}
use Rattle.conn_core.specs.StandsFor.{ConnectionValue}
use Rattle.served_instance.proofs.Releasing.{release_none, is_held, release_next}
use Rattle.served_instance.proofs.release.release_spent.Goals as goal

pub sources-init : goal.sources-init
sources-init c = record {
  stands = λ texts p h. h;
  queues = refl;
  rest = refl;
  released = release_none c.args.pool.now c.args.connection.now.sending.spent;
}

pub release_kept-requires : goal.release_kept-requires
release_kept-requires c =
    subst (λ (k : ℕ). 0 < count_at c.sources.pool k) (sym c.of_number-kept.ensures)
    (is_held c.args.pool.now c.sources.pool c.args.connection.now.sending.spent c.sources.connection.sending.spent
    c.spent.new.self.sending.spent c.in-Some.source c.sources.invariant.released c.in-Some.ensures.source c.requires)

pub sources-preserved : goal.sources-preserved
sources-preserved c = record {
  stands = λ texts p h. c.spent.ensures.stands texts p (c.sources.invariant.stands texts p h);
  queues = c.spent.ensures.queues ∙ c.sources.invariant.queues;
  rest = c.spent.ensures.rest ∙ ap (λ (v : ConnectionValue). let w : ConnectionValue = record v { sending = c.spent.new.self.sending } in w)
      c.sources.invariant.rest;
  released = release_next c.args.pool.now c.sources.pool c.release_kept.new.pool c.args.connection.now.sending.spent
      c.sources.connection.sending.spent c.spent.new.self.sending.spent c.in-Some.source c.sources.invariant.released
      c.in-Some.ensures.source (subst (λ (k : ℕ). Moves c.sources.pool c.release_kept.new.pool (one_at k) no_holders)
      c.of_number-kept.ensures c.release_kept.ensures);
}

pub returns-clause-stands : goal.returns-clause-stands
returns-clause-stands c = λ texts p h. c.spent.ensures.stands texts p (c.sources.invariant.stands texts p h)
