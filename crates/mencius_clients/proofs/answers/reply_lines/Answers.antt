use Rattle.mencius_clients.proofs.ReplyLines.{none_noted}
use Rattle.mencius_clients.proofs.answers.reply_lines.Goals as goal

pub loop-line-init : goal.loop-line-init
loop-line-init c = none_noted c.args.log.now c.new-lines.result
