use Rattle.std.proofs.Common.{rules}
use Rattle.mencius_judge.proofs.quotes.quote_of_submission.Goals as goal

pub returns : goal.returns
returns c = search rules
