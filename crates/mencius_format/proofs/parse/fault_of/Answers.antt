use Rattle.std.proofs.Common.{rules}
use Rattle.mencius_format.proofs.parse.fault_of.Goals as goal

pub returns-in-KeyByte : goal.returns-in-KeyByte
returns-in-KeyByte c = search rules
