use Rattle.mencius_clients.specs.Configurations.{AreReplyLines}
use Rattle.mencius_clients.proofs.answers.reply_lines.Given as goal

abbrev pub invariant-loop-line : goal.invariant-loop-line
invariant-loop-line l = AreReplyLines l.log l.lines l.line
