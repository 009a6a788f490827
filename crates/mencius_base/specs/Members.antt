-- The members of a cluster, the owner of each instance, and the leader of each ballot.
use Rattle.std.specs.Prelude.{ℕ, ◌<◌, ◌+◌, ◌-◌, ◌*◌, ◌/◌, ◌%◌, List, if◌then◌else◌, ◌==◌}
use Rattle.std.specs.List.{range_with_len}
use Rattle.mencius_base.specs.Numbers.{ServerId, Inst, BallotNo}
use Rattle.mencius_base.specs.Limits.{instance_count}

-- the number of servers of a cluster, and beta, which sets how far past its own front a server's suspicion looks
pub record Membership : Type 0 where
  pub count : ℕ
  pub beta : ℕ

-- the membership of `count` servers with a beta of 0
abbrev pub new_members : ℕ → Membership
new_members count = record { count = count; beta = 0 }

-- p is one of the servers
abbrev pub IsMember : Membership → ServerId → Type 0
IsMember m p = p < m.count

-- the smallest number of servers that is more than half of them
abbrev pub majority : Membership → ℕ
majority m = m.count / 2 + 1

-- the server that owns instance i. The servers own the instances in turn
abbrev pub owner : Membership → Inst → ServerId
owner m i = i % m.count

-- the lowest instance that p owns and that is not below `from`
abbrev pub first_owned : Membership → ServerId → Inst → Inst
first_owned m p from = from + (p + m.count - from % m.count) % m.count

-- the ballot of a round, 1 or greater, that a server leads
abbrev pub ballot_of : Membership → ℕ → ServerId → BallotNo
ballot_of m round server = round * m.count + server

-- the round of ballot b, which is 0 for ballot 0
abbrev pub round : Membership → BallotNo → ℕ
round m b = b / m.count

-- the server that leads ballot b of instance i. The owner of i leads ballot 0
abbrev pub leader : Membership → BallotNo → Inst → ServerId
leader m b i = if b == 0 then owner m i else b % m.count

-- the numbers below n, in rising order
unfoldable pub numbers_below : ℕ → List ℕ
numbers_below n = range_with_len 0 n

-- all instances, in rising order
unfoldable pub instances : List Inst
instances = numbers_below instance_count

-- the greatest number of messages that may be sent
unfoldable pub most_messages : ℕ
most_messages = 262144

-- the greatest number of events that may be accepted
unfoldable pub most_events : ℕ
most_events = 262144
