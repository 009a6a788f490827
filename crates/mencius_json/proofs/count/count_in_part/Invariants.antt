use Rattle.std.proofs.Common.{◌≡◌, ◌==◌, ◌≤◌, length, take}
use Rattle.std.specs.List.{filter}
use Rattle.mencius_json.proofs.count.count_in_part.Given as goal

abbrev pub invariant-bytes : goal.invariant-bytes
invariant-bytes l =
    (l.count ≡ length (filter (λ byte. byte == l.fn.wanted) (take l.byte-index l.fn.part))) × (l.count ≤ l.byte-index)
