use Rattle.mencius_model.proofs.reached.BetaZero.{beta_zero_refuses, beta_zero_sends}
use Rattle.mencius_model.proofs.laws.beta_zero.Goals as goal

pub returns-clause-refuses : goal.returns-clause-refuses
returns-clause-refuses c = beta_zero_refuses

pub returns-clause-sends : goal.returns-clause-sends
returns-clause-sends c = beta_zero_sends
