-- The laws about the servers that an accepted event leaves as they were.
use Rattle.std.proofs.Common.{◌≡◌, Option, None, Some, Ok, refl, ap, ◌∙◌}
use Rattle.std.specs.Prelude.{Err}
use Rattle.std.specs.Option.{option_map_or}
use Rattle.mencius_base.specs.declared.event.Event.{Event}
use Rattle.mencius_base.specs.declared.event.Event.TheVariants.{Lose, Execute}
use Rattle.mencius_base.specs.declared.refusal.Refusal.{Refusal}
use Rattle.mencius_base.specs.Members.{Membership}
use Rattle.mencius_model.specs.Trace.{Trace}
use Rattle.mencius_model.specs.Next.{next, refusal_cause, with_event}
use Rattle.mencius_server.specs.Laws.{ExecutionLeavesAll, LeavesOthers, LossLeavesAll}
use Rattle.mencius_server.specs.Reached.{server_at}
use Rattle.mencius_server.proofs.events.OtherServers.{execution_stays, loss_stays, others_stay}

accepted_on : (w v : Trace) (o : Option Refusal) → option_map_or Err o (Ok w) ≡ Ok v → (o ≡ None) × (v ≡ w)
accepted_on w v None h = (refl, cc)
accepted_on w v (Some r) h = absurd (cc)

accepted : (m : Membership) (w v : Trace) (e : Event) → next m w e ≡ Ok v
    → (refusal_cause m w e ≡ None) × (v ≡ with_event m w e)
accepted m w v e h = accepted_on (with_event m w e) v (refusal_cause m w e) h

pub leaves_others : LeavesOthers
leaves_others m w v e r h q ne =
    let is = accepted m w v e h in
    ap (λ (x : Trace). server_at m x q) is.1 ∙ others_stay m w e r is.0 q ne

pub loss_leaves_all : LossLeavesAll
loss_leaves_all m w v k p h q =
    ap (λ (x : Trace). server_at m x q) (accepted m w v (Lose k p) h).1 ∙ loss_stays m w k p q

pub execution_leaves_all : ExecutionLeavesAll
execution_leaves_all m w v p h q =
    ap (λ (x : Trace). server_at m x q) (accepted m w v (Execute p) h).1 ∙ execution_stays m w p q
