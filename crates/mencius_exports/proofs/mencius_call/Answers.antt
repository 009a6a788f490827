use Rattle.mencius_exports.specs.Calls.{IsCall, words_in}
use Rattle.mencius_exports.proofs.ToldAnswers.{answers}
use Rattle.mencius_exports.proofs.mencius_call.Goals as goal

pub returns : goal.returns
returns c =
    answers (IsCall (words_in c.args.words.now) c.args.input.now) c.call.result c.tell.new.answer c.args.printed.now c.tell.new.printed c.args.said.now
    c.tell.new.said c.call.ensures c.tell.ensures
