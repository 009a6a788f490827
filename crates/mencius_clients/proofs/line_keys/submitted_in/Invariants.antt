use Rattle.std.proofs.Common.{◌≡◌, None, reverse, take}
use Rattle.mencius_judge.specs.Log.{command_of}
use Rattle.mencius_clients.proofs.line_keys.submitted_in.Given as goal

abbrev pub invariant-loop-line : goal.invariant-loop-line
invariant-loop-line l = command_of (reverse (take l.line l.lines)) l.id ≡ None
