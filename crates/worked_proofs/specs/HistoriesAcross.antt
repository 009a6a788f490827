-- The histories that a caller notes before and after further events of a cluster.
use Rattle.std.specs.Prelude.{◌≡◌, ◌≤◌, ◌⊎◌, ◌++◌, List}
use Rattle.mencius_base.specs.Members.{IsMember}
use Rattle.mencius_base.specs.Numbers.{ServerId}
use Rattle.mencius_base.specs.declared.event.Event.{Event}
use Rattle.mencius_base.specs.declared.refusal.Refusal.{Refusal}
use Rattle.mencius_base.specs.declared.refusal.Refusal.TheVariants.{BadServer, NoMemory}
use Rattle.mencius_model.specs.Executed.{IsComparable, IsPrefix, history}
use Rattle.mencius_cluster.specs.State.{ClusterState, trace_of}
use Rattle.worked_proofs.specs.declared.histories.TwoHistories.{TwoHistories}

-- the histories of two members p and q. `earlier` is the history of p before the events, and `later` is the history of
-- q after them
pub record AreHistoriesAcross (old new : ClusterState) (p q : ServerId) (histories : TwoHistories) : Type 0 where
  pub inside : IsMember old.members p × IsMember old.members q
  pub earlier : histories.earlier.items ≡ history (trace_of old) p
  pub later : histories.later.items ≡ history (trace_of new) q

-- one of the two histories is a prefix of the other. If p and q are one server, the earlier history is a prefix of the
-- later history
pub record AgreeAcross (p q : ServerId) (histories : TwoHistories) : Type 0 where
  pub comparable : IsComparable histories.earlier.items histories.later.items
  pub grows : p ≡ q → IsPrefix histories.earlier.items histories.later.items

-- the members and the hasher of the cluster have not changed
pub record SameMembersAndHasher (old new : ClusterState) : Type 0 where
  pub members : new.members ≡ old.members
  pub hasher : new.hasher ≡ old.hasher

-- one of the servers is not a member and nothing has changed, or memory ran out, perhaps after some of the events
pub record IsRefusalAcross (old new : ClusterState) (p q : ServerId) (r : Refusal) : Type 0 where
  pub cause : (r ≡ BadServer) ⊎ (r ≡ NoMemory)
  pub outside : r ≡ BadServer → (old.members.count ≤ p) ⊎ (old.members.count ≤ q)
  pub nothing : r ≡ BadServer → new ≡ old
  pub taken : (events : List Event) × (new.journal ≡ old.journal ++ events)
