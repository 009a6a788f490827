use Rattle.std.proofs.Common.{rules}
use Rattle.mencius_format.proofs.words.is_number.Goals as goal

pub returns-in-Some-eq48-default : goal.returns-in-Some-eq48-default
returns-in-Some-eq48-default c = search rules
