use Rattle.std.proofs.Common.{subst, sym, inl, inr}
use Rattle.std.proofs.lemmas.Result.{err_from_is_err_and}
use Rattle.mencius_cluster.specs.State.{ClusterState, IsRefusal}
use Rattle.mencius_choices.specs.Choices.{IsChoice}
use Rattle.mencius_board.specs.Turns.{EndsTurn}
use Rattle.mencius_board.proofs.workers.worker_turn.Goals as goal

pub returns-in-Ok-clause-turn : goal.returns-in-Ok-clause-turn
returns-in-Ok-clause-turn c = record {
  event = c.in_ok-event.event;
  chosen = subst (λ (x : ClusterState). IsChoice c.args.chooser.now x c.in_ok-event.event c.choose.new.self)
      c.cluster.ensures.cluster c.in_ok-event.ensures;
  stepped = inl (record { effect = _; stepped = c.in-Ok.ensures.effect; rest = c.step.ensures.rest });
}

pub returns-in_err-memory_apart-in-Err-clause-turn : goal.returns-in_err-memory_apart-in-Err-clause-turn
returns-in_err-memory_apart-in-Err-clause-turn c =
    let chosen = subst (λ (x : ClusterState). IsChoice c.args.chooser.now x c.in_ok-event.event c.choose.new.self)
    c.cluster.ensures.cluster c.in_ok-event.ensures in
    let refusal = subst (IsRefusal c.args.board.now.cluster c.in_ok-event.event)
    c.in_err-memory_apart-in-Err.ensures c.in-Err.ensures.refusal in
    let fault = err_from_is_err_and c.from_residual-in_err-memory_apart-in-Err.result
    c.from_residual-in_err-memory_apart-in-Err.ensures.1 in
    subst (EndsTurn c.args.chooser.now c.choose.new.self c.args.board.now c.step.new.self) (sym fault.1)
    (fault.2, c.in-Err.ensures.err, inr (c.in_ok-event.event, chosen, refusal))

pub returns-in_ok-memory_apart-in-Err-clause-turn : goal.returns-in_ok-memory_apart-in-Err-clause-turn
returns-in_ok-memory_apart-in-Err-clause-turn c = record {
  event = c.in_ok-event.event;
  chosen = subst (λ (x : ClusterState). IsChoice c.args.chooser.now x c.in_ok-event.event c.choose.new.self)
      c.cluster.ensures.cluster c.in_ok-event.ensures;
  stepped = inr (record {
    refusal = c.in-Err.refusal;
    is = c.in-Err.ensures.refusal;
    memory = c.in_ok-memory_apart-in-Err.ensures.1;
    same = c.in-Err.ensures.err;
  });
}
