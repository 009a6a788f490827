use Rattle.std.proofs.Common.{◌≡◌, ◌++◌, flat_map, string_bytes, take}
use Rattle.mencius_clients.specs.ClientLines.{execution_line}
use Rattle.mencius_clients.proofs.client_lines.push_order.Given as goal

abbrev pub invariant-loop-id : goal.invariant-loop-id
invariant-loop-id l =
    string_bytes l.text ≡ string_bytes l.initial.text ++ flat_map execution_line (take l.id-index l.order)
