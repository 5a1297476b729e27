use Rattle.std.proofs.Common.{◌≡◌, ◌∙◌, ap, sym, subst, List, ◌+◌, ◌++◌, ◌∷◌, [], ℕ}
use Rattle.std.specs.Prelude.{map}
use Rattle.std.proofs.lemmas.List.{map_push}
use Rattle.served_instance.specs.declared.refusal.EventRefusal.{EventRefusal}
use Rattle.served_instance.specs.declared.refusal.EventRefusal.TheVariants.{NoMemory}
use Rattle.server_core.specs.declared.record.OpenRecord.{OpenRecord}
use Rattle.server_core.specs.Shown.{ordered_shown, sent_shown, refused_shown}
use Rattle.server_core.specs.Records.{RecordValue, IsRecord}
use Rattle.server_core.proofs.Marks.{short_noted}
use Rattle.server_core.proofs.record.InstanceRecord.note_short.Goals as goal

pub returns-clause-stands : goal.returns-clause-stands
returns-clause-stands c = λ r q bs e st is step.
    let v : RecordValue = record {
      count = c.self.inside.count;
      orders = map ordered_shown c.self.inside.orders.items;
      refusals =
          map refused_shown c.self.inside.refusals.items;
      sent = map sent_shown c.self.inside.sent.items;
      live = c.self.inside.live.items;
    } in
    let st0 : IsRecord v r = subst (λ (w : RecordValue). IsRecord w r) (sym c.self.view_is) st in
    let made : List (ℕ × EventRefusal) → List OpenRecord → RecordValue =
    λ refusals live. record { count = v.count + 1; orders = v.orders; refusals = refusals; sent = v.sent; live = live } in
    let told : map refused_shown c.push.new.self.items ≡ v.refusals ++ (v.count + 1, NoMemory) ∷ [] =
    ap (map refused_shown) c.in_ok-push.ensures.items ∙ map_push refused_shown c.self.inside.refusals.items _ in
    subst (λ (xs : List (ℕ × EventRefusal)). IsRecord (made xs c.close_by.new.live.items) q) (sym told)
    (subst (λ (os : List OpenRecord). IsRecord (made (v.refusals ++ (v.count + 1, NoMemory) ∷ []) os) q) (sym c.close_by.ensures)
    (short_noted v r q bs e c.args.broken is st0 step))
