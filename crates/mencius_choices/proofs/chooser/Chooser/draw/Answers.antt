use Rattle.std.proofs.Common.{rules}
use Rattle.mencius_choices.proofs.chooser.Chooser.draw.Goals as goal

pub returns-clause-words : goal.returns-clause-words
returns-clause-words c = search rules

pub returns-clause-drawn : goal.returns-clause-drawn
returns-clause-drawn c = search rules
