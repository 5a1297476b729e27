-- What want of memory leaves of an instance lost what it lost by rule.
use Rattle.std.proofs.Common.{ℕ, List, [], ◌∷◌, ◌++◌, refl, ap, ◌∙◌, inl, inr, append_assoc}
use Rattle.job_queue.specs.Jobs.{running_job}
use Rattle.run_calls.specs.Outcomes.{OutcomeValue}
use Rattle.instance_core.specs.Answer.{answer, state_after, ending_changes, steps_at}
use Rattle.instance_core.specs.Calls.{CallEventValue, tick as time_passes, end_job}
use Rattle.instance_core.specs.Changes.{InstanceChange, Settles, MadeInPart}
use Rattle.instance_core.specs.State.{InstanceState}
use Rattle.instance_core.specs.Visible.{Blob}
use Rattle.instance_core.proofs.Losses.{front_is_by_rule}
use Rattle.server_events.specs.Events.{LoneEvent, WhatValue, opened, received, took, closed, tick, ended}
use Rattle.served_instance.specs.Lone.{LoneInstance, lone_at_moment}
use Rattle.served_instance.specs.Events.{bytes_events}
use Rattle.served_instance.specs.Losses.{IsMadeByRule, AreMadeByRule, LosesByRules, events_of}
use Rattle.served_instance.specs.Short.{IsCutShort, IsCutEffect, Short}
use Rattle.served_instance.proofs.RoomLeft.{all_made}

made_by_rule : (event : CallEventValue) (s t : InstanceState) → MadeInPart (answer s event).changes s t → IsMadeByRule event s t
made_by_rule event s t part = record { part = part; rules = front_is_by_rule s event part.made part.left part.front }

cut_by_rule : (events : List CallEventValue) (s t : InstanceState) → IsCutShort events s t → AreMadeByRule events s t
cut_by_rule [] s t same = same
cut_by_rule (event ∷ events) s t (inl part) = inl (made_by_rule event s t part)
cut_by_rule (event ∷ events) s t (inr rest) =
    inr (made_by_rule event s (state_after s event) (all_made s event), cut_by_rule events (state_after s event) t rest)

-- a front of what the job left is a front of all that its outcome changes
front_made : (n : ℕ) (outcome : OutcomeValue) (s t : InstanceState) → MadeInPart (ending_changes s outcome (running_job n s.jobs)) s t →
    MadeInPart (answer s (end_job n outcome)).changes s t
front_made n outcome s t h =
    let rest : List InstanceChange = Settles (steps_at s (end_job n outcome)) ∷ [] in
    record {
      made = h.made;
      left = h.left ++ rest;
      front = ap (λ (xs : List InstanceChange). xs ++ rest) h.front ∙ append_assoc h.made h.left rest;
      so_far = h.so_far;
    }

effect_loses : (what : WhatValue) (l m : LoneInstance) → IsCutEffect what l m → LosesByRules (events_of what l) l.state m.state
effect_loses (opened c) l m same = record {
  left = l.state;
  made = refl;
  visible = ap (λ (k : LoneInstance). k.state.visible) same;
  results = ap (λ (k : LoneInstance). k.state.results) same;
  uploads = ap (λ (k : LoneInstance). k.state.uploads) same;
}
effect_loses (received c bytes) l m h = record {
  left = h.left;
  made = cut_by_rule (bytes_events c bytes l) l.state h.left h.cut;
  visible = ap (λ (k : LoneInstance). k.state.visible) h.gone;
  results = ap (λ (k : LoneInstance). k.state.results) h.gone;
  uploads = ap (λ (k : LoneInstance). k.state.uploads) h.gone;
}
effect_loses (took c n) l m h = absurd h
effect_loses (closed c) l m h = absurd h
effect_loses tick l m same = record {
  left = state_after l.state time_passes;
  made = inl (made_by_rule time_passes l.state (state_after l.state time_passes) (all_made l.state time_passes));
  visible = ap (λ (k : LoneInstance). k.state.visible) same;
  results = ap (λ (k : LoneInstance). k.state.results) same;
  uploads = ap (λ (k : LoneInstance). k.state.uploads) same;
}
effect_loses (ended n outcome) l m h = record {
  left = h.left;
  made = inl (made_by_rule (end_job n outcome) l.state h.left (front_made n outcome l.state h.left h.made));
  visible = ap (λ (k : LoneInstance). k.state.visible) h.gone;
  results = ap (λ (k : LoneInstance). k.state.results) h.gone;
  uploads = ap (λ (k : LoneInstance). k.state.uploads) h.gone;
}

pub short_loses : (parent : List Blob) (e : LoneEvent) (l m : LoneInstance) → Short parent e l m →
    LosesByRules (events_of e.what (lone_at_moment e.moment parent l)) (lone_at_moment e.moment parent l).state m.state
short_loses parent e l m h = effect_loses e.what (lone_at_moment e.moment parent l) m h
