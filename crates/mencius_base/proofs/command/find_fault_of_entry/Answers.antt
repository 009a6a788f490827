use Rattle.std.proofs.Common.{rules}
use Rattle.mencius_base.proofs.command.find_fault_of_entry.Goals as goal

pub returns : goal.returns
returns c = search rules

pub returns-then-held-gt-MOST_TEXT_BYTES : goal.returns-then-held-gt-MOST_TEXT_BYTES
returns-then-held-gt-MOST_TEXT_BYTES c = search rules
