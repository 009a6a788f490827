-- The fact that a server maintains over its fields, in addition to the facts that callers see.
use Rattle.std.specs.Prelude.{◌≡◌, ◌<◌, ◌≤◌, false, None, Some, length, slice_index_or}
use Rattle.std.specs.List.{list_any}
use Rattle.mencius_base.specs.Members.{Membership, instances}
use Rattle.mencius_base.specs.Numbers.{Inst, TicketNo}
use Rattle.mencius_server.specs.Machine.{is_free_at, is_suggested_again, own_waiting_at, suggested_at}
use Rattle.mencius_server.specs.Notes.{NotesState}
use Rattle.mencius_server.specs.State.{IsServer, ServerState}
use Rattle.mencius_base.specs.Limits.{instance_count}

-- The fields of a server fit together. There is a slot for each instance, and the instances have the server's
-- membership. The notes are right. No own ticket waits below `lost_from`, no own instance below `free_from` is free,
-- and each suggested ticket is less than `next_ticket`. The mark of an own instance says whether its ticket was
-- suggested again at a later instance. Instances at or above the front have no mark.
pub record IsServerInside (s : ServerState) (m : Membership) (n : NotesState) : Type 0 where
  pub full : length s.slots ≡ instance_count
  pub members : m ≡ s.members
  pub server : IsServer s
  pub early : n.lost_from ≤ instance_count
  pub lost : (j : Inst) → j < n.lost_from → own_waiting_at s j ≡ None
  pub bound : n.free_from ≤ instance_count
  pub free : (j : Inst) → j < n.free_from → is_free_at s j ≡ false
  pub tickets : (j : Inst) (t : TicketNo) → j < instance_count → suggested_at s j ≡ Some t → t < n.next_ticket
  pub short : length n.suggested_again ≤ s.front
  pub suggested_again : (j : Inst) (t : TicketNo) → j < instance_count → suggested_at s j ≡ Some t
      → list_any (is_suggested_again s t j) instances ≡ slice_index_or n.suggested_again j false
