use Rattle.std.proofs.Common.{subst}
use Rattle.mencius_clients.specs.Explained.{IsHeard}
use Rattle.mencius_clients.proofs.SearchFound.{one_reply_heard}
use Rattle.mencius_clients.proofs.fitting_answers.has_order.Goals as goal

pub is_explained-requires : goal.is_explained-requires
is_explained-requires c =
    one_reply_heard c.in-Kept.judge c.args.lines.now (subst (IsHeard c.args.lines.now) c.in-Kept.is c.in_ok-hear.ensures)
