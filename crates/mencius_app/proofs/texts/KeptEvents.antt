-- A cluster is stepped through the events of a list, and the events are kept in a new list.
use Rattle.mencius_app.proofs.Words.{◌≡◌, List, ◌++◌, Event, trace_from, ClusterState, trace_of}

-- the cluster took the kept events, and the other events are left
pub record IsKept (old : ClusterState) (es left : List Event) (new : ClusterState) (kept : List Event) : Type 0 where
  pub members : new.members ≡ old.members
  pub kept_are : kept ++ left ≡ es
  pub trace : trace_from old.members (trace_of new) left ≡ trace_from old.members (trace_of old) es
