use Rattle.std.proofs.Common.{rules}
use Rattle.mencius_input.proofs.explanation.wrong_place.Goals as goal

pub returns-in_ok-said-in-Event : goal.returns-in_ok-said-in-Event
returns-in_ok-said-in-Event c = search rules
