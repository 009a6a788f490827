use Rattle.mencius_model.proofs.events.Outcomes.{trace_reached}
use Rattle.mencius_model.proofs.laws.reached.Goals as goal

pub returns : goal.returns
returns c = trace_reached
