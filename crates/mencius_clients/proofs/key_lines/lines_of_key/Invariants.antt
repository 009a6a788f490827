use Rattle.std.proofs.Common.{reverse, take}
use Rattle.mencius_clients.specs.FittingAnswers.{HasAbout}
use Rattle.mencius_clients.proofs.key_lines.lines_of_key.Given as goal

abbrev pub invariant-loop-line : goal.invariant-loop-line
invariant-loop-line l = HasAbout l.key (reverse (take l.line l.log)) l.known l.lines.items
