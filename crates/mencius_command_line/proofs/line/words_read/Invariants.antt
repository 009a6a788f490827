use Rattle.std.proofs.Common.{◌≡◌, ◌++◌, length, map, string_bytes}
use Rattle.mencius_command_line.specs.CommandLine.{with_joined_key, words_read}
use Rattle.mencius_command_line.proofs.line.words_read.Given as goal

-- the words joined so far, followed by the remaining words after joining, are all words as `clap` reads them
abbrev pub invariant-loop-word : goal.invariant-loop-word
invariant-loop-word l =
    map string_bytes l.joined.items ++ with_joined_key (map string_bytes l.rest)
    ≡ words_read (map string_bytes l.words)

abbrev pub decreases-loop-word : goal.decreases-loop-word
decreases-loop-word l = length l.rest
