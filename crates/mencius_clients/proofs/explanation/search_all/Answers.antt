use Rattle.mencius_judge.specs.Log.{Log}
use Rattle.mencius_clients.specs.OrdersSoFar.{HasFound}
use Rattle.mencius_clients.proofs.SearchFound.{goes_on, lines_linearizable, part_length, whole_part}
use Rattle.std.proofs.Common.{ℕ, ◌≡◌, Some, refl, reverse, slice_get, sym, subst, take}
use Rattle.std.specs.Prelude.{IfSome}
use Rattle.mencius_clients.specs.Explained.{IsExplanation}
use Rattle.mencius_clients.specs.Searched.{HasSearched}
use Rattle.mencius_clients.proofs.Explaining.{ended_right, get_at, part_more, went_on, whole_at}
use Rattle.mencius_clients.proofs.explanation.search_all.Goals as goal

pub returns-in-Some-clause-explained : goal.returns-in-Some-clause-explained
returns-in-Some-clause-explained c first one found =
    let log = c.args.log.now in
    let u : Log = reverse (take c.loop-line.line log) in
    let at : slice_get log c.loop-line.line ≡ Some c.index-log-line.result =
    get_at log c.loop-line.line c.index-log-line.result c.loop-line-test.true c.index-log-line.is in
    let whole = whole_at log c.loop-line.line c.index-log-line.result at in
    subst (λ ended. IfSome ended (IsExplanation log c.args.limit)) c.in-Some.is
    (ended_right log c.loop-line.line c.index-log-line.result u whole.0 c.take.new.self c.in_ok-outcome.outcome c.ended.result
    at whole.1 refl c.ended.ensures (c.in_ok-outcome.ensures.after u whole.0 whole.1 (c.loop-line.invariant.0 first))
    c.args.limit c.loop-line-test.true
    (lines_linearizable log c.loop-line.line (reverse log) c.loop-line.search (c.loop-line.invariant.0 first)
    (c.loop-line.invariant.1 first one found))
    (c.in_ok-outcome.ensures.many u whole.0 whole.1 one (c.loop-line.invariant.0 first)
    (c.loop-line.invariant.1 first one found)))

pub loop-line-preserved : goal.loop-line-preserved
loop-line-preserved c =
    let log = c.args.log.now in
    let line : ℕ = c.loop-line.line in
    let u : Log = reverse (take line log) in
    let at : slice_get log line ≡ Some c.index-log-line.result =
    get_at log line c.index-log-line.result c.loop-line-test.true c.index-log-line.is in
    let whole = whole_at log line c.index-log-line.result at in (
      λ first. subst (λ v. HasSearched (reverse log) v log c.take.new.self) (sym (part_more log line c.index-log-line.result at))
          (went_on (reverse log) _ log c.take.new.self c.in_ok-outcome.outcome line c.ended.result c.ended.ensures
          c.in_default.is
          (c.in_ok-outcome.ensures.after u whole.0 whole.1 (c.loop-line.invariant.0 first))),
      λ first one found. subst (λ v. HasFound log v c.take.new.self) (sym (part_more log line c.index-log-line.result at))
          (c.in_ok-outcome.ensures.found u whole.0 whole.1 (part_length log line c.loop-line-test.true) one
          (c.loop-line.invariant.0 first) (c.loop-line.invariant.1 first one found)
          (goes_on c.in_ok-outcome.outcome line c.ended.result c.ended.ensures c.in_default.is)),
    )

pub returns-clause-searched : goal.returns-clause-searched
returns-clause-searched c none first =
    subst (λ v. HasSearched (reverse c.args.log.now) v c.args.log.now c.loop-line.search)
    (whole_part c.args.log.now c.loop-line.line c.loop-line-test.false) (c.loop-line.invariant.0 first)

pub returns-clause-orders : goal.returns-clause-orders
returns-clause-orders c none first one found =
    subst (λ v. HasFound c.args.log.now v c.loop-line.search)
    (whole_part c.args.log.now c.loop-line.line c.loop-line-test.false) (c.loop-line.invariant.1 first one found)
