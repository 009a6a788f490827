-- Three servers that a caller steps by itself, and the trace that they are at.
use Rattle.std.specs.Prelude.{◌≡◌, ◌≢◌}
use Rattle.mencius_base.specs.Members.{most_messages}
use Rattle.mencius_base.specs.Outbox.{OutboxState}
use Rattle.mencius_model.specs.Trace.{Trace, sent_messages}
use Rattle.mencius_server.specs.Reached.{IsAt}
use Rattle.mencius_server.specs.State.{ServerState}

-- all three servers are at the trace, and the outbox has the messages of the trace and the limit `most_messages`
pub record AreAt (w : Trace) (r s z : ServerState) (o : OutboxState) : Type 0 where
  pub first : IsAt w r
  pub second : IsAt w s
  pub third : IsAt w z
  pub messages : o.messages ≡ sent_messages w
  pub limit : o.limit ≡ most_messages

-- the second and the third server have the members of the first server, and other numbers than the first server
pub record AreOthers (r s z : ServerState) : Type 0 where
  pub second : s.members ≡ r.members
  pub third : z.members ≡ r.members
  pub apart : (r.id ≢ s.id) × (r.id ≢ z.id)
