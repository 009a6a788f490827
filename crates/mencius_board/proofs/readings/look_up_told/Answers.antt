use Rattle.std.proofs.Common.{arith}
use Rattle.std.proofs.lemmas.Grind.{common_steps}
use Rattle.mencius_board.proofs.readings.look_up_told.Goals as goal

pub returns-clause-told : goal.returns-clause-told
returns-clause-told c = grind (arith, common_steps)
