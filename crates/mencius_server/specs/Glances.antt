-- The summary of a server's knowledge about an instance.
use Rattle.std.specs.List.{count_by}
use Rattle.coord_paxos.specs.SlotState.{SlotState}
use Rattle.mencius_server.specs.declared.glance.Glance.{Glance}

-- The glance of a slot. It has counts in place of the two sets of servers, and leaves out the two votes.
abbrev pub glance_of : SlotState → Glance
glance_of s = record {
  promised = s.promised;
  learned = s.learned;
  trying = s.trying;
  proposal = s.proposal;
  promise_count = count_by (λ a. a) s.promises;
  acceptance_count = count_by (λ a. a) s.accepts;
}
