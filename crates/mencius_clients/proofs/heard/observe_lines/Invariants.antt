use Rattle.std.proofs.Common.{[], reverse, take}
use Rattle.mencius_clients.specs.Explained.{HasHeard, heard}
use Rattle.mencius_clients.proofs.heard.observe_lines.Given as goal

abbrev pub invariant-loop-line : goal.invariant-loop-line
invariant-loop-line l = HasHeard l.initial.judge [] → HasHeard l.judge (heard (reverse (take l.line l.log)))
