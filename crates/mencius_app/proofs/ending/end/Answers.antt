use Rattle.mencius_app.proofs.Words.{◌++◌, ap, ap₂, append-nil, subst}
use Rattle.mencius_app.specs.Calls.{WritesOrFails}
use Rattle.mencius_app.specs.Ending.{fault_line, words_line}
use Rattle.mencius_app.specs.declared.fault.AppFault.TheVariants.{BoardFailed}
use Rattle.mencius_app.proofs.ending.end.Goals as goal

pub returns-in-Failed-clause-lines : goal.returns-in-Failed-clause-lines
returns-in-Failed-clause-lines g c =
    rw c.in-Failed.is (subst
    (WritesOrFails (g.E.Sink.state c.args.errors.now) (g.E.Sink.state c.write_fault.new.errors))
    (ap₂ (λ xs ys. xs ++ ys) (ap fault_line c.from.ensures) (ap words_line c.as_deref.ensures.value))
    c.write_fault.ensures.lines)

pub returns-in-BoardFailed-clause-lines : goal.returns-in-BoardFailed-clause-lines
returns-in-BoardFailed-clause-lines g c =
    rw c.in-BoardFailed.is (subst
    (WritesOrFails (g.E.Sink.state c.args.errors.now) (g.E.Sink.state c.write_fault-in-BoardFailed.new.errors))
    (append-nil (fault_line BoardFailed)) c.write_fault-in-BoardFailed.ensures.lines)
