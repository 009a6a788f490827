use Rattle.std.proofs.Common.{rules}
use Rattle.mencius_choices.proofs.table.find_message.Goals as goal

pub returns : goal.returns
returns c = search rules
