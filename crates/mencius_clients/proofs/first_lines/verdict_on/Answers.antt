use Rattle.std.proofs.Common.{IfOk, sym, subst}
use Rattle.mencius_clients.specs.FirstLines.{IsVerdictOn}
use Rattle.mencius_clients.proofs.Halving.{cause_of, has_of, lacks_of, one_reply_first}
use Rattle.mencius_clients.proofs.first_lines.verdict_on.Goals.{in-Explained, in-Unexplained, in-Undecided}
use Rattle.mencius_clients.proofs.first_lines.verdict_on.Goals as goal

pub explain-requires : goal.explain-requires
explain-requires c = one_reply_first c.args.log.now c.args.count c.requires.one_reply

pub returns : goal.returns
returns c =
    let log = c.args.log.now in
    elim c.match-branch-2.branch [
      | in-Explained w ↦
          subst (λ r. IfOk r (IsVerdictOn log c.args.limit c.args.count)) (sym w.result-is)
          (has_of log c.args.count c.args.limit c.in_ok-cause.field-0 w.in-Explained.order w.in-Explained.is c.in_ok-cause.ensures)
      | in-Unexplained w ↦
          subst (λ r. IfOk r (IsVerdictOn log c.args.limit c.args.count)) (sym w.result-is)
          (lacks_of log c.args.count c.args.limit c.in_ok-cause.field-0 w.in-Unexplained.line w.in-Unexplained.is c.in_ok-cause.ensures)
      | in-Undecided w ↦
          subst (λ r. IfOk r (IsVerdictOn log c.args.limit c.args.count)) (sym w.result-is)
          (cause_of log c.args.count c.args.limit c.in_ok-cause.field-0 w.in-Undecided.cause w.in-Undecided.is c.in_ok-cause.ensures)
    ]
