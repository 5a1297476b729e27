use Rattle.std.proofs.Common.{◌<◌, length, map, arith, add-one, get_or, refl}
use Rattle.std.proofs.Math.ListN.{set}
use Rattle.blob_pool.specs.Slots.{text_at}
use Rattle.served_instance.specs.declared.open_connection.OpenConnection.{OpenConnection}
use Rattle.served_instance.specs.Shown.{connection_shown}
use Rattle.served_instance.proofs.Ranges.{alike_here, alike_trans, alike_set, fit_at}
use Rattle.served_instance.proofs.Serves.{Pumps, pumped_more, pump_serves}
use Rattle.served_instance.proofs.instance.pump_each.Goals as goal

pub loop-kept-init : goal.loop-kept-init
loop-kept-init c = record { pumped = refl; holds = alike_here (map connection_shown c.args.connections.now) }

pub pump-requires : goal.pump-requires
pump-requires c =
    let p = c.args.pool.now in
    record {
      fit = fit_at (text_at p) c.loop-kept.connections c.loop-kept.kept-index c.kept-item.result (omega arith)
          (c.loop-kept.invariant.holds.fit (text_at p) c.requires);
    }

pub loop-kept-preserved : goal.loop-kept-preserved
loop-kept-preserved c =
    let texts = text_at c.args.pool.now in
    let i = c.loop-kept.kept-index in
    let os = c.args.connections.now in
    let ns = c.loop-kept.connections in
    let x = get_or ns i c.kept-item.result in
    let lt : i < length ns = omega arith in
    let w : OpenConnection = record { number = x.number; connection = c.pump.new.self } in
    let h : Pumps texts x w = (refl, c.pump.ensures.stands) in
    record {
      pumped = rw add-one (pumped_more texts i os ns c.kept-item.result w lt h c.loop-kept.invariant.pumped);
      holds = alike_trans (map connection_shown os) (map connection_shown ns)
          (map connection_shown (set ns i w)) c.loop-kept.invariant.holds
          (alike_set ns i c.kept-item.result w lt (record { sources = c.pump.ensures.sources; fit = c.pump.ensures.fit }));
    }

pub returns-clause-stands : goal.returns-clause-stands
returns-clause-stands c = pump_serves (text_at c.args.pool.now) c.loop-kept.kept-index c.args.connections.now c.loop-kept.connections
    (omega arith) c.loop-kept.invariant.pumped

pub returns-clause-holds : goal.returns-clause-holds
returns-clause-holds c = c.loop-kept.invariant.holds
