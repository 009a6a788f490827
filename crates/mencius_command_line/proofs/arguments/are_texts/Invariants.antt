use Rattle.std.proofs.Common.{◌≡◌, length}
use Rattle.mencius_command_line.specs.CommandLine.{are_texts, bytes_of}
use Rattle.mencius_command_line.proofs.arguments.are_texts.Given as goal

abbrev pub invariant-loop-argument : goal.invariant-loop-argument
invariant-loop-argument l = are_texts (bytes_of l.rest) ≡ are_texts (bytes_of l.arguments)

abbrev pub decreases-loop-argument : goal.decreases-loop-argument
decreases-loop-argument l = length l.rest
