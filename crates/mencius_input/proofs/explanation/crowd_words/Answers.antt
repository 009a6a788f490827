use Rattle.std.proofs.Common.{rules}
use Rattle.mencius_input.proofs.explanation.crowd_words.Goals as goal

pub returns-in-Braces : goal.returns-in-Braces
returns-in-Braces c = search rules
