use Rattle.std.proofs.Common.{rules}
use Rattle.mencius_choices.proofs.chooser.Chooser.new.Goals as goal

pub returns : goal.returns
returns c = search rules
