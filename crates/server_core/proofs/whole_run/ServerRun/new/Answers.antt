use Rattle.std.proofs.Common.{◌≡◌, ◌∙◌, ap, arith, length, refl, subst, sym}
use Rattle.std.proofs.lemmas.List.{length-map}
use Rattle.std.proofs.lemmas.Option.{slice_get_within}
use Rattle.server_events.specs.Shown.{config_value}
use Rattle.server_events.specs.Faults.{AreParents}
use Rattle.server_core.proofs.Families.{family_begun}
use Rattle.server_core.proofs.whole_run.ServerRun.new.Goals as goal

pub returns : goal.returns
returns c =
    let server = c.in_ok-server.ensures in
    let records = c.in_ok-records.ensures in
    let many : length c.instances.result.now ≡ length c.args.configs.now =
    sym (length-map c.instances.result.now config_value) ∙ ap length c.instances.ensures.instances in
    record {
      many = server.count;
      count = refl;
      parents = server.parents;
      alone = λ i config is.
          family_begun c.args.configs.now _ _ i config (subst AreParents server.parents server.related) is (λ j other there.
          let lt = slice_get_within c.args.configs.now j other there in
          record { stands = server.stands j other there; noted = records.begun j (omega (arith, lt, many)) other });
      strays = c.new-2.ensures.items;
    }

pub invariant_of-result : goal.invariant_of-result
invariant_of-result c =
    let server = c.in_ok-server.ensures in
    let records = c.in_ok-records.ensures in
    let many : length c.instances.result.now ≡ length c.args.configs.now =
    sym (length-map c.instances.result.now config_value) ∙ ap length c.instances.ensures.instances in
    record {
      within = server.within;
      parents = server.related;
      each = records.count ∙ many ∙ sym server.count;
      room = records.room;
    }
