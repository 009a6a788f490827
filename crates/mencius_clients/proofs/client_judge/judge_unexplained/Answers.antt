use Rattle.std.proofs.Common.{reverse, sym, subst}
use Rattle.mencius_judge.specs.Promises.{AreOneReply}
use Rattle.mencius_clients.proofs.client_judge.judge_unexplained.Goals as goal

pub first_line-requires-clause-one_reply : goal.first_line-requires-clause-one_reply
first_line-requires-clause-one_reply c =
    subst (λ lines. AreOneReply (reverse lines)) (sym c.as_slice.ensures.value) c.requires.one_reply
