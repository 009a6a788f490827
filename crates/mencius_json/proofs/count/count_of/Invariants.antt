use Rattle.std.proofs.Common.{◌≡◌, ◌≤◌, ◌+◌, ◌==◌, length}
use Rattle.std.specs.List.{filter}
use Rattle.mencius_json.proofs.count.count_of.Given as goal

abbrev pub invariant-parts : goal.invariant-parts
invariant-parts l = record {
  value : l.count + length (filter (λ byte. byte == l.fn.wanted) l.rest) ≡ length (filter (λ byte. byte == l.fn.wanted) l.fn.bytes);
  within : l.count + length l.rest ≤ length l.fn.bytes;
}

abbrev pub decreases-parts : goal.decreases-parts
decreases-parts l = length l.rest
