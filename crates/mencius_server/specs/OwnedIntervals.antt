-- Intervals of the instances of one server.
use Rattle.std.specs.Prelude.{◌≡◌, ◌<◌, ◌≤◌}
use Rattle.mencius_base.specs.Members.{owner}
use Rattle.mencius_server.specs.declared.owned_interval.OwnedInterval.{OwnedInterval}
use Rattle.mencius_base.specs.Limits.{greatest_front}

-- The server of the interval is a member and owns the first instance, and the interval ends at or below 4,102.
pub record IsOwnedInterval (a : OwnedInterval) : Type 0 where
  pub member : a.server < a.members.count
  pub own : owner a.members a.first ≡ a.server
  pub small : a.stop ≤ greatest_front
