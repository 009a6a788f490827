use Rattle.std.proofs.Common.{rules}
use Rattle.mencius_draw.specs.Words.{plain_byte}
use Rattle.mencius_draw.proofs.words.plain_byte.Goals as goal

pub returns-else-is_plain-clause-value : goal.returns-else-is_plain-clause-value
unfolding plain_byte
returns-else-is_plain-clause-value c = search rules
