use Rattle.mencius_model.proofs.reached.LedBallots.{messages_led}
use Rattle.mencius_model.proofs.further_laws.ballots.Goals as goal

pub returns : goal.returns
returns c = messages_led
