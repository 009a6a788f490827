use Rattle.mencius_clients.specs.KeyLines.{HasLines}
use Rattle.mencius_clients.proofs.KeyQuotes.{first_lines}
use Rattle.mencius_clients.proofs.key_lines.key_lines.Given as goal

abbrev pub invariant-loop-place : goal.invariant-loop-place
invariant-loop-place l = HasLines l.key (first_lines l.log.numbers.items l.log.observations.items l.place) l.lines
