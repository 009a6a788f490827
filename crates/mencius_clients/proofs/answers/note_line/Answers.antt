use Rattle.mencius_clients.proofs.answers.note_line.Goals as goal
use Rattle.std.proofs.Common.{Some, ap, ◌∙◌}
use Rattle.mencius_clients.proofs.Explaining.{get_at}

pub note_reply-requires : goal.note_reply-requires
note_reply-requires c = get_at c.args.log.now c.args.line c.index-log-line.result c.requires c.index-log-line.is ∙ ap Some c.in-Reply.is
