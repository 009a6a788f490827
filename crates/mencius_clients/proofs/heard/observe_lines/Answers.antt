use Rattle.std.proofs.Common.{◌≡◌, sym, subst, ◌∷◌, ℕ, reverse, take, arith, Some, slice_get}
use Rattle.std.proofs.lemmas.List.{take_all}
use Rattle.mencius_log.specs.declared.observation.Observation.{Observation}
use Rattle.mencius_judge.specs.Judged.{Breaks}
use Rattle.mencius_judge.specs.Log.{Log}
use Rattle.mencius_clients.specs.Explained.{HasHeard, heard}
use Rattle.mencius_clients.proofs.Explaining.{broken_at, get_at, none_found, part_more, some_found}
use Rattle.mencius_clients.proofs.heard.observe_lines.Goals as goal

pub loop-line-preserved : goal.loop-line-preserved
loop-line-preserved c first =
    let log = c.args.log.now in
    let n : ℕ = c.loop-line.line in
    let o : Observation = c.index-log-line.result in
    let at : slice_get log n ≡ Some o = get_at log n o c.loop-line-test.true c.index-log-line.is in
    let before : Log = reverse (take n log) in
    subst (λ l. HasHeard c.observe_line.new.judge (heard l)) (sym (part_more log n o at))
    (none_found c.in_ok-violation.field-0 (HasHeard c.observe_line.new.judge (heard (o ∷ before)))
    (λ v. Breaks (heard before) o v) c.in_default.is (c.in_ok-violation.ensures before (c.loop-line.invariant first)))

pub returns-in-Some : goal.returns-in-Some
returns-in-Some c first =
    let log = c.args.log.now in
    let n : ℕ = c.loop-line.line in
    let o : Observation = c.index-log-line.result in
    let at : slice_get log n ≡ Some o = get_at log n o c.loop-line-test.true c.index-log-line.is in
    let before : Log = reverse (take n log) in
    broken_at log n o c.in-Some.violation at
    (some_found c.in_ok-violation.field-0 c.in-Some.violation (HasHeard c.observe_line.new.judge (heard (o ∷ before)))
    (λ v. Breaks (heard before) o v) c.in-Some.is (c.in_ok-violation.ensures before (c.loop-line.invariant first)))

pub returns : goal.returns
returns c first =
    let log = c.args.log.now in
    subst (λ l. HasHeard c.loop-line.judge (heard (reverse l)))
    (take_all c.loop-line.line log (omega arith)) (c.loop-line.invariant first)
