use Rattle.std.proofs.Common.{refl}
use Rattle.mencius_clients.specs.Configurations.{no_slots}
use Rattle.mencius_clients.proofs.slot_set.SlotSet.new.Goals as goal

pub returns : goal.returns
unfolding no_slots
returns c = refl
