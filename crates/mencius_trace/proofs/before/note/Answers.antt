use Rattle.std.proofs.Common.{ap, ◌∙◌, subst}
use Rattle.mencius_cluster.specs.Answers.{if_member}
use Rattle.mencius_cluster.specs.State.{trace_of}
use Rattle.mencius_model.specs.Server.{front}
use Rattle.mencius_trace.specs.Before.{AreSkipped, IsReaction, heard_in}
use Rattle.mencius_trace.proofs.before.note.Goals as goal

pub returns : goal.returns
returns c =
    let m = c.args.cluster.now.members in
    let w = trace_of c.args.cluster.now in
    record {
      replays = c.replays.ensures;
      server = c.server_of-server.ensures;
      front = c.front.ensures ∙ ap (λ p. if_member m p (front m w p)) c.server_of-server.ensures;
      heard = c.heard_in-heard.ensures;
      reaction = subst (λ p. IsReaction m w p (heard_in w c.args.event.now) c.reaction_in-reaction.result)
          c.server_of-server.ensures
          (subst (λ o. IsReaction m w c.server_of-server.result o c.reaction_in-reaction.result)
          c.heard_in-heard.ensures
          c.reaction_in-reaction.ensures);
      skipped = subst (λ p. AreSkipped m w p (heard_in w c.args.event.now) c.in_ok-skipped.skipped.items)
          c.server_of-server.ensures
          (subst (λ o. AreSkipped m w c.server_of-server.result o c.in_ok-skipped.skipped.items)
          c.heard_in-heard.ensures c.in_ok-skipped.ensures);
      execution = c.execution_in-execution.ensures;
      awaited = c.is_awaited-is_awaited.ensures;
    }
