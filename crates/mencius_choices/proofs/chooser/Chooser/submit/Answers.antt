use Rattle.std.proofs.Common.{rules}
use Rattle.mencius_choices.proofs.chooser.Chooser.submit.Goals as goal

pub returns-in_err-command : goal.returns-in_err-command
returns-in_err-command c = search rules
