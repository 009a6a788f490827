use Rattle.std.proofs.Common.{◌≡◌, ◌<◌, ◌≤◌, [], arith, rules, sym, append-nil}
use Rattle.mencius_model.specs.Executed.{history}
use Rattle.mencius_cluster.specs.State.{trace_of}
use Rattle.worked_proofs.proofs.JournalMoments.{comparable}
use Rattle.worked_proofs.proofs.histories.histories.Goals as goal

pub returns-clause-comparable : goal.returns-clause-comparable
returns-clause-comparable c =
    let at = c.args.cluster.now in
    let first : c.in_ok-history.field-0.now ≡ history (trace_of at) c.args.first = search rules in
    let second : c.in_ok-history-2.field-0.now ≡ history (trace_of at) c.args.second = search rules in
    let inside : c.args.first < at.members.count = search rules in
    let some : 1 ≤ at.members.count = omega arith in
    rw (first, second) (comparable c.agreement.ensures.histories at.members at.journal at.journal [] (trace_of at)
    (trace_of at) c.args.first c.args.second
    some (sym (append-nil at.journal)) c.replays.ensures c.replays.ensures)
