use Rattle.mencius_app.proofs.Words.{rules}
use Rattle.mencius_app.proofs.ending.ending_of.Goals as goal

pub returns-in-Err : goal.returns-in-Err
returns-in-Err c = search rules
