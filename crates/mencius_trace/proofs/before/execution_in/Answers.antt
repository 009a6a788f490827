use Rattle.std.proofs.Common.{◌≡◌, Some, sym, ◌∙◌, subst}
use Rattle.mencius_base.specs.declared.event.Event.{Event}
use Rattle.mencius_base.specs.Members.{IsMember}
use Rattle.mencius_cluster.specs.State.{trace_of}
use Rattle.mencius_trace.specs.Before.{execution_in}
use Rattle.mencius_trace.proofs.MemberAnswers.{execution_in_is}
use Rattle.mencius_trace.proofs.before.execution_in.Goals as goal
use Rattle.mencius_model.specs.Next.{server_of}

pub returns : goal.returns
returns c =
    subst (λ (e : Event). IsMember c.args.cluster.now.members (server_of e)
    → Some (c.in_ok-inst.inst, c.in_ok-value.value)
    ≡ execution_in (trace_of c.args.cluster.now) e) (sym c.in-Execute.is)
    (λ member. execution_in_is c.args.cluster.now.members _ c.in-Execute.server _ _ member
    (sym c.in_ok-inst.was ∙ c.done.ensures) (sym c.in_ok-value.was ∙ c.learned.ensures))
