use Rattle.std.proofs.Common.{length}
use Rattle.mencius_json.proofs.stops.open_brackets.Given as goal

abbrev pub decreases-tokens : goal.decreases-tokens
decreases-tokens l = length l.reader
