use Rattle.std.proofs.Common.{reverse, sym, subst}
use Rattle.mencius_judge.specs.Promises.{AreOneReply}
use Rattle.mencius_clients.proofs.SearchFound.{one_reply_heard}
use Rattle.mencius_clients.proofs.client_judge.judge_heard.Goals as goal

pub explain-requires : goal.explain-requires
explain-requires c =
    subst (λ lines. AreOneReply (reverse lines)) (sym c.as_slice-lines.ensures.value)
    (one_reply_heard c.args.judge c.args.log.now.observations.items c.requires.heard)

pub judge_unexplained-requires-clause-one_reply : goal.judge_unexplained-requires-clause-one_reply
judge_unexplained-requires-clause-one_reply c =
    one_reply_heard c.args.judge c.args.log.now.observations.items c.requires.heard
