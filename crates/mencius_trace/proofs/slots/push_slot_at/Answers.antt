use Rattle.std.proofs.Common.{rules}
use Rattle.mencius_trace.proofs.slots.push_slot_at.Goals as goal

pub returns : goal.returns
returns c = search rules
