use Rattle.std.proofs.Common.{map, arith, add-one}
use Rattle.served_instance.specs.Shown.{connection_shown}
use Rattle.served_instance.proofs.Releasing.{releases_trans, releases_at, spent_few, set_stands, tidy_more, tidy_all}
use Rattle.served_instance.proofs.release.release_all.Goals as goal

pub release_spent-requires : goal.release_spent-requires
release_spent-requires c = λ k.
    let r = c.loop-kept.invariant.releases in
    omega (
      arith,
      spent_few c.loop-kept.connections c.loop-kept.kept-index c.kept-item.result k
          (omega arith),
      r.sources k,
      r.moves.counts k,
      c.requires k,
    )

pub loop-kept-preserved : goal.loop-kept-preserved
loop-kept-preserved c =
    let i = c.loop-kept.kept-index in
    let os = c.args.connections.now in
    let ns = c.loop-kept.connections in
    record {
      stands = λ texts ls s. set_stands texts ns ls i c.kept-item.result c.release_spent.new.connection
          (omega arith) c.release_spent.ensures.stands (c.loop-kept.invariant.stands texts ls s);
      releases = releases_trans c.args.pool.now c.loop-kept.pool c.release_spent.new.pool (map connection_shown os)
          (map connection_shown ns) _ c.loop-kept.invariant.releases
          (releases_at c.loop-kept.pool c.release_spent.new.pool ns i c.kept-item.result c.release_spent.new.connection
          (omega arith) c.release_spent.ensures.queues c.release_spent.ensures.told c.release_spent.ensures.moves);
      tidy = rw add-one (tidy_more ns i c.kept-item.result c.release_spent.new.connection (omega arith) c.loop-kept.invariant.tidy
          (c.release_spent.ensures.told, c.release_spent.ensures.sorted));
    }

pub returns-clause-tidy : goal.returns-clause-tidy
returns-clause-tidy c = tidy_all c.loop-kept.connections c.loop-kept.kept-index (omega arith) c.loop-kept.invariant.tidy
