use Rattle.std.proofs.Common.{◌≡◌, ◌++◌, length, map, string_bytes}
use Rattle.mencius_command_line.specs.CommandLine.{line_of, lossy_of}
use Rattle.mencius_command_line.proofs.arguments.words_in.Given as goal

-- the words so far and the texts of the remaining arguments together make the command line
abbrev pub invariant-loop-argument : goal.invariant-loop-argument
invariant-loop-argument l = map string_bytes l.words.items ++ lossy_of l.rest ≡ line_of (lossy_of l.arguments)

abbrev pub decreases-loop-argument : goal.decreases-loop-argument
decreases-loop-argument l = length l.rest
