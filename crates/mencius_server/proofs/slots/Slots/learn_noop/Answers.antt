use Rattle.std.proofs.Common.{arith}
use Rattle.std.proofs.lemmas.Grind.{common_steps}
use Rattle.mencius_server.proofs.slots.Slots.learn_noop.Goals as goal

pub returns-then-has_slot : goal.returns-then-has_slot
returns-then-has_slot c = λ j. grind (arith, common_steps)
