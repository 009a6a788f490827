use Rattle.mencius_input.proofs.mistakes.PlacedFaults.{places_there}
use Rattle.mencius_input.proofs.laws.faults_have_places.Goals as goal

pub returns : goal.returns
returns c = places_there
