use Rattle.std.proofs.Common.{◌-◌, ◌<◌, ◌∙◌, arith}
use Rattle.blob_pool.proofs.Moves.{moves_trans}
use Rattle.instance_view.specs.Shown.{visible_in, holders}
use Rattle.quota_evict.proofs.Steps.{sizes_fit, entries_fit, added_named, new_text, kept_admitted}
use Rattle.quota_evict.proofs.admission.store.Goals as goal

pub add-requires-clause-fits : goal.add-requires-clause-fits
add-requires-clause-fits c = sizes_fit c.args.quota c.args.digest.now.size c.args.pool.now c.args.view.now c.requires.kept c.requires.quota
    (omega (arith, c.requires.named.size, c.requires.fits))

pub add-requires-clause-room : goal.add-requires-clause-room
add-requires-clause-room c = entries_fit c.args.quota c.args.pool.now c.args.view.now c.requires.kept

pub evict-requires-clause-named : goal.evict-requires-clause-named
evict-requires-clause-named c =
    let is = c.trim.ensures.shown c.args.digest.now c.args.draft.text
    (visible_in c.args.pool.now c.args.view.now) c.in_ok-add.ensures.shown in
    added_named (c.limit-limit.result - 1) c.args.digest.now c.args.draft.text (visible_in c.args.pool.now c.args.view.now)
    (visible_in c.trim.new.pool c.trim.new.view) is c.requires.named c.requires.kept.within.named

pub returns-clause-ok : goal.returns-clause-ok
returns-clause-ok c =
    let is = c.trim.ensures.shown c.args.digest.now c.args.draft.text
    (visible_in c.args.pool.now c.args.view.now) c.in_ok-add.ensures.shown in
    new_text c.args.quota c.args.digest.now c.args.draft.text c.args.pool.now c.args.view.now (visible_in c.trim.new.pool c.trim.new.view)
    (visible_in c.evict.new.pool c.evict.new.view)
    (c.requires.absent c.args.pool.now) c.requires.fits c.limit-limit.result c.limit-limit.ensures.limit is c.evict.ensures.shown

pub returns-clause-kept : goal.returns-clause-kept
returns-clause-kept c =
    let is = c.trim.ensures.shown c.args.digest.now c.args.draft.text
    (visible_in c.args.pool.now c.args.view.now) c.in_ok-add.ensures.shown in
    let stored = new_text c.args.quota c.args.digest.now c.args.draft.text c.args.pool.now c.args.view.now
    (visible_in c.trim.new.pool c.trim.new.view) (visible_in c.evict.new.pool c.evict.new.view)
    (c.requires.absent c.args.pool.now) c.requires.fits c.limit-limit.result c.limit-limit.ensures.limit is c.evict.ensures.shown in
    let trimmed = moves_trans c.args.pool.now c.add.new.pool c.trim.new.pool (holders c.args.view.now) (holders c.add.new.self)
    (holders c.trim.new.view) c.in_ok-add.ensures.moves c.trim.ensures.moves in
    let moves = moves_trans c.args.pool.now c.trim.new.pool c.evict.new.pool (holders c.args.view.now) (holders c.trim.new.view)
    (holders c.evict.new.view) trimmed c.evict.ensures.moves in
    let some : 0 < c.args.view.now.limit = omega (arith, c.limit-limit.ensures.limit, c.limit-limit.ensures.some) in
    kept_admitted c.args.quota c.args.digest.now c.args.draft.text c.args.pool.now c.evict.new.pool c.args.view.now c.evict.new.view
    c.requires.kept some c.requires.named
    (c.evict.ensures.limit ∙ c.trim.ensures.limit ∙ c.add.ensures.limit) stored moves
