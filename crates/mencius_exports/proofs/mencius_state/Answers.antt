use Rattle.mencius_exports.specs.Calls.{IsStateCall}
use Rattle.mencius_exports.proofs.ToldAnswers.{answers}
use Rattle.mencius_exports.proofs.mencius_state.Goals as goal

pub returns : goal.returns
returns c =
    answers (IsStateCall c.args.input.now) c.call_for_state.result c.tell.new.answer c.args.printed.now c.tell.new.printed c.args.said.now
    c.tell.new.said c.call_for_state.ensures c.tell.ensures
