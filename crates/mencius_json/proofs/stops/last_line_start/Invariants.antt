use Rattle.std.proofs.Common.{◌≡◌, ◌≤◌, ◌==◌, drop, length}
use Rattle.std.specs.List.{filter}
use Rattle.mencius_json.proofs.stops.last_line_start.Given as goal

abbrev pub invariant-bytes : goal.invariant-bytes
invariant-bytes l = record {
  within : l.start ≤ length l.front;
  last : length (filter (λ byte. byte == 10) (drop l.start l.front)) ≡ 0;
}

abbrev pub decreases-bytes : goal.decreases-bytes
decreases-bytes l = l.start
