use Rattle.std.proofs.Common.{◌≡◌, ◌-◌, vec_len}
use Rattle.mencius_base.specs.Members.{owner}
use Rattle.mencius_server.specs.Instances.{instance_slot}
use Rattle.mencius_server.proofs.tickets.TicketMarks.{IsMarkedUpTo}
use Rattle.mencius_server.proofs.notes.mark.Given as goal

abbrev pub invariant-loop-inst : goal.invariant-loop-inst
invariant-loop-inst l = record {
  len : vec_len l.suggested_again ≡ vec_len l.initial.suggested_again;
  own : owner l.members l.inst ≡ l.id;
  marked : IsMarkedUpTo l.members l.id l.ticket l.end (instance_slot l.instances) l.initial.suggested_again.items
      l.suggested_again.items l.inst;
}

abbrev pub decreases-loop-inst : goal.decreases-loop-inst
decreases-loop-inst l = l.end - l.inst
