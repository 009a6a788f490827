-- The records that contracts and the invariant build from the fields of a cluster.
use Rattle.mencius_cluster.specs.declared.cluster.Cluster.TheInside.{Inside}
use Rattle.mencius_cluster.specs.MessageBits.{has_bit_in}
use Rattle.mencius_cluster.specs.State.{ClusterState}
use Rattle.mencius_cluster.specs.Tables.{Tables, IsCluster, journal_of}

-- the tables of a cluster, from its fields
abbrev pub tables_in : Inside → Tables
tables_in x = record {
  servers = x.servers.items;
  executors = x.executors.items;
  done = x.done.items;
  messages = x.messages;
  rows = x.submissions.entries;
  is_lost = has_bit_in x.lost;
  entries = x.journal.items;
}

-- the members, the hasher of identities and the journal of a cluster, from its fields
abbrev pub state_in : Inside → ClusterState
state_in x = record {
  members = x.members;
  hasher = x.submissions.hasher;
  journal = journal_of x.submissions.entries x.journal.items;
}

-- the invariant of a cluster, over its fields
abbrev pub IsClusterInside : Inside → Type 0
IsClusterInside x = IsCluster x.members (journal_of x.submissions.entries x.journal.items) (tables_in x)
