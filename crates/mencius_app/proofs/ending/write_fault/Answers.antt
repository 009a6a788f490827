use Rattle.mencius_app.proofs.Words.{codes, ◌++◌, ◌∙◌, ap, append-nil, sym}
use Rattle.mencius_app.specs.Ending.{fault_line}
use Rattle.mencius_app.proofs.texts.JoinedTexts.{write_result}
use Rattle.mencius_app.proofs.ending.write_fault.Goals as goal
use Rattle.mencius_app.proofs.ending.write_fault.Goals.{in-Some, in-None}

pub returns-clause-lines : goal.returns-clause-lines
returns-clause-lines g c = elim c.match-words.branch [
  | in-Some w ↦ rw (w.errors-is, w.in-Some.is) (write_result w.write_words.result _ _ _ _
      (ap (λ line. line ++ (w.in-Some.words.now ++ codes "\n")) w.line_of_fault.ensures) w.write_words.ensures.whole
      w.write_words.ensures.front w.write_words.ensures.failed)
  | in-None w ↦ rw (w.errors-is, w.in-None.is) (write_result w.write_all.result _ _ _ _
      ((w.as_bytes.ensures.value ∙ w.line_of_fault-in-None.ensures) ∙ sym (append-nil (fault_line c.args.fault)))
      w.write_all.ensures.whole w.write_all.ensures.front w.write_all.ensures.failed)
]
