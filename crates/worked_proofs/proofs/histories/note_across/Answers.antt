use Rattle.std.proofs.Common.{◌≡◌, ◌≤◌, Ok, arith, rules, subst}
use Rattle.mencius_base.specs.Members.{Membership}
use Rattle.mencius_model.specs.Next.{replay}
use Rattle.mencius_model.specs.Executed.{history}
use Rattle.mencius_cluster.specs.State.{trace_of}
use Rattle.worked_proofs.proofs.JournalMoments.{comparable, grows}
use Rattle.worked_proofs.proofs.histories.note_across.Goals as goal

pub returns-clause-agree : goal.returns-clause-agree
returns-clause-agree c =
    let old = c.args.cluster.now in
    let new = c.step_all.new.cluster in
    let earlier : c.in_ok-earlier.earlier.items ≡ history (trace_of old) c.args.server = search rules in
    let later : c.in_ok-later.later.items ≡ history (trace_of new) c.args.other = search rules in
    let some : 1 ≤ old.members.count = omega arith in
    let after = subst (λ (m : Membership). replay m new.journal ≡ Ok (trace_of new)) c.in_ok-step_all.ensures.same.members
    c.replays-2.ensures in
    record {
      comparable = rw (earlier, later)
          (comparable c.agreement.ensures.histories old.members old.journal new.journal _ (trace_of old)
          (trace_of new) c.args.server c.args.other
          some c.in_ok-step_all.ensures.journal c.replays.ensures after);
      grows = λ same. rw (earlier, later, same)
          (grows c.growth.ensures.histories old.members old.journal new.journal _ (trace_of old)
          (trace_of new) c.args.other
          some c.in_ok-step_all.ensures.journal c.replays.ensures after);
    }
