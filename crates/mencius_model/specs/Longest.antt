-- The server that has the longest history.
use Rattle.std.specs.Prelude.{◌≤◌, ◌<◌, length}
use Rattle.mencius_base.specs.Members.{IsMember, Membership}
use Rattle.mencius_base.specs.Numbers.{ServerId}
use Rattle.mencius_model.specs.Executed.{history}
use Rattle.mencius_model.specs.Replies.{longest_at}
use Rattle.mencius_model.specs.Trace.{Trace}

-- p is a member, no member has a longer history than p, and each server with a lower number has a shorter history than
-- p
pub record HasLongest (m : Membership) (w : Trace) (p : ServerId) : Type 0 where
  pub member : IsMember m p
  pub longest : (q : ServerId) → IsMember m q → length (history w q) ≤ length (history w p)
  pub least : (q : ServerId) → q < p → length (history w q) < length (history w p)

-- in every trace, reached or not, of at least one server, the server `longest_at` has a longest history, and its number
-- is the lowest of all servers with a longest history
abbrev pub LongestIsLeast : Type 0
LongestIsLeast = (m : Membership) (w : Trace) → 1 ≤ m.count → HasLongest m w (longest_at m w)
