use Rattle.std.proofs.Common.{◌∙◌, subst}
use Rattle.mencius_exports.specs.Calls.{IsPut}
use Rattle.mencius_exports.proofs.ToldAnswers.{number_is}
use Rattle.mencius_exports.proofs.answer.tell_texts.Goals as goal

pub returns : goal.returns
returns c =
    let called = c.args.called.now in
    record {
      status_is = c.from-answer.ensures;
      printed_is = c.len.ensures ∙ called.printed.ok.0;
      said_is = c.len-2.ensures ∙ called.said.ok.0;
      asked_is = c.from-answer-2.ensures ∙ number_is called.is_asked;
      out_is = subst (λ text. IsPut text c.args.printed.now c.put.new.room) c.as_slice.ensures.value c.put.ensures;
      err_is = subst (λ text. IsPut text c.args.said.now c.put-2.new.room) c.as_slice-2.ensures.value c.put-2.ensures;
    }
