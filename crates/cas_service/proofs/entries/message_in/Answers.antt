use Rattle.std.proofs.Common.{◌≡◌, ℕ, List, [], ◌∷◌, length, refl, sym, ◌∙◌}
use Rattle.std.proofs.lemmas.Bool.{eqb-true}
use Rattle.protobuf_wire.specs.Reading.{items_in}
use Rattle.reapi_messages.specs.Fields.{records_in}
use Rattle.cas_service.proofs.entries.message_in.Goals as goal

none : (text : List ℕ) → length text ≡ 0 → text ≡ []
none [] is = refl
none (x ∷ xs) is = absurd (let z : ⊥ = cc is in z)

pub returns-then-is_empty : goal.returns-then-is_empty
unfolding records_in items_in
returns-then-is_empty g c = rw (none c.args.payload.now
    (eqb-true (length c.args.payload.now) 0 (sym c.is_empty.ensures ∙ c.if-is_empty.true))) c.of_fields.ensures
