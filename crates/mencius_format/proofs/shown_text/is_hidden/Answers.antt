use Rattle.std.proofs.Common.{rules}
use Rattle.mencius_format.proofs.shown_text.is_hidden.Goals as goal

pub returns-else-is_among-4 : goal.returns-else-is_among-4
returns-else-is_among-4 c = search rules
