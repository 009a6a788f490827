use Rattle.std.proofs.Common.{length}
use Rattle.mencius_json.proofs.stops.last_before.Given as goal

abbrev pub decreases-tokens : goal.decreases-tokens
decreases-tokens l = length l.reader
