use Rattle.std.proofs.Common.{rules}
use Rattle.mencius_input.proofs.schedule.note_fault.Goals as goal

pub returns-in_default : goal.returns-in_default
returns-in_default c = search rules
