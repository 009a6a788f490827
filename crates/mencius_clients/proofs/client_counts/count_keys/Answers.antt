use Rattle.std.proofs.Common.{◌≡◌, ◌+◌, ◌∙◌, ℕ, Some, cond, reverse, slice_get, take, ap, sym, subst}
use Rattle.mencius_log.specs.declared.observation.Observation.{Observation}
use Rattle.mencius_judge.specs.Log.{Log}
use Rattle.mencius_clients.specs.ClientCounts.{key_count}
use Rattle.mencius_clients.specs.Keys.{AreKeys}
use Rattle.mencius_clients.proofs.Explaining.{get_at, part_more}
use Rattle.mencius_clients.proofs.client_counts.count_keys.Goals as goal

pub loop-line-preserved : goal.loop-line-preserved
loop-line-preserved c =
    let log = c.args.log.now in
    let n : ℕ = c.loop-line.line in
    let o : Observation = c.index-log-line.result in
    let at : slice_get log n ≡ Some o = get_at log n o c.loop-line-test.true c.index-log-line.is in
    let before : Log = reverse (take n log) in
    let noted = c.in_ok-is_new.ensures before c.loop-line.invariant.0 in
    let lines = sym (part_more log n o at) in (
      subst (λ (w : Log). AreKeys w c.note_key.new.keys) lines noted.0,
      subst (λ (w : Log). c.in_ok-more.more ≡ key_count w) lines
          (c.in_ok-more.ensures ∙ ap (λ (k : ℕ). cond c.in_ok-is_new.is_new (k + 1) k) c.loop-line.invariant.1
          ∙ sym noted.1),
    )
