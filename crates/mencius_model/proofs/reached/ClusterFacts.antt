-- Facts about reached traces that the cluster relies on.
use Rattle.std.proofs.Common.{◌≡◌, ℕ, ◌<◌, Some, length}
use Rattle.mencius_base.specs.declared.message.Value.{Value}
use Rattle.mencius_base.specs.declared.message.Value.TheVariants.{Ticket}
use Rattle.mencius_base.specs.Members.{Membership}
use Rattle.mencius_model.specs.Trace.{Trace, submitted_commands}
use Rattle.mencius_model.specs.Instance.{learned_value}
use Rattle.mencius_model.specs.Server.{done}
use Rattle.mencius_model.specs.Next.{IsReached}
use Rattle.mencius_model.proofs.rights.Journals.{reached_grown}
use Rattle.mencius_model.proofs.paxos.Decisions.{learned_decided}
use Rattle.mencius_model.proofs.paxos.Tickets.{decided_submitted}
use Rattle.mencius_model.proofs.histories.Histories.{executed_learned}

-- Each executed instance was learned, and the ticket of each learned value was submitted.
pub record HasClusterFacts (m : Membership) (w : Trace) : Type 0 where
  pub executed : (p i : ℕ) → i < done w p → (z : Value) × (learned_value w p i ≡ Some z)
  pub ticketed : (p i t : ℕ) → learned_value w p i ≡ Some (Ticket t) → t < length (submitted_commands w)

-- In every reached trace, executed instances were learned and learned tickets were submitted.
pub cluster_facts : (m : Membership) (w : Trace) → IsReached m w → HasClusterFacts m w
cluster_facts m w reached =
    let grown = reached_grown m w reached in
    record {
      executed = executed_learned m w grown;
      ticketed = λ p i t h. decided_submitted m w grown i t (learned_decided m w grown p i (Ticket t) h);
    }
