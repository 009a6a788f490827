use Rattle.std.proofs.Common.{◌≡◌, ℕ, Some, reverse, take, slice_get, arith, sym, subst, ap, ◌∙◌}
use Rattle.std.proofs.lemmas.List.{take_all}
use Rattle.mencius_log.specs.declared.observation.Observation.{Observation}
use Rattle.mencius_judge.specs.Log.{Log}
use Rattle.mencius_clients.specs.FittingAnswers.{HasAbout, about_key}
use Rattle.mencius_clients.proofs.Explaining.{get_at, part_more}
use Rattle.mencius_clients.proofs.key_lines.lines_of_key.Goals as goal

pub loop-line-init : goal.loop-line-init
loop-line-init c = record { tracks = (c.new-known.ensures c.args.key.now).tracks; are = ap reverse c.new-lines.ensures.items }

pub loop-line-preserved : goal.loop-line-preserved
loop-line-preserved c =
    let log = c.args.log.now in
    let n : ℕ = c.loop-line.line in
    let o : Observation = c.index-log-line.result in
    let at : slice_get log n ≡ Some o = get_at log n o c.loop-line-test.true c.index-log-line.is in
    let before : Log = reverse (take n log) in
    subst (λ (w : Log). HasAbout c.args.key.now w c.push_about.new.self c.push_about.new.lines.items)
    (sym (part_more log n o at)) (c.in_ok-push_about.ensures before c.loop-line.invariant)

pub returns : goal.returns
returns c =
    let log = c.args.log.now in
    c.loop-line.invariant.are
    ∙ ap (λ (l : Log). about_key c.args.key.now (reverse l)) (take_all c.loop-line.line log (omega arith))
