-- What the parts of a turn keep, one after another.
use Rattle.std.proofs.Common.{◌≡◌, ◌<◌, ◌∙◌, ℕ, List, arith}
use Rattle.std.specs.Prelude.{Option}
use Rattle.serve.specs.declared.serving.Serving.{Serving}
use Rattle.serve.specs.KeepsOpen.{HasAllOpen, ServesOn}
use Rattle.serve.specs.KeepsServing.{KeepsServingAt}
use Rattle.serve.specs.RunEvents.{RunEvent}
use Rattle.serve.specs.SocketEvents.{SocketEvent}

-- one of one instance
pub on_at : (i : ℕ) (s t v : Serving) (h k l : Option (List SocketEvent)) (r q p : Option (List RunEvent))
    → ServesOn s h r t k q → i < t.instances → KeepsServingAt i k q t.counting t.moment l p v.counting v.moment
    → v.instances ≡ t.instances → HasAllOpen v l → ServesOn s h r v l p
on_at i s t v h k l r q p so one next as_many opened = record {
  serving = λ configs same at. next configs (omega (arith, one, same, so.instances)) (so.serving configs same at);
  instances = as_many ∙ so.instances;
  opened = opened;
}
