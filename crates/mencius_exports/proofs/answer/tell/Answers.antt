use Rattle.mencius_exports.proofs.ToldAnswers.{told_of_none}
use Rattle.mencius_exports.proofs.answer.tell.Goals as goal

pub returns-in-Err : goal.returns-in-Err
returns-in-Err c =
    let memory = c.without_memory in
    rw c.in-Err.is (
    told_of_none c.tell_texts-in-Err.new.answer memory.result.status memory.result.printed.items
    memory.result.said.items memory.result.is_asked c.args.printed.now c.tell_texts-in-Err.new.printed
    c.args.said.now c.tell_texts-in-Err.new.said memory.ensures.status memory.ensures.printed
    memory.ensures.said memory.ensures.unread c.tell_texts-in-Err.ensures)
