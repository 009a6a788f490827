use Rattle.std.proofs.Common.{◌≡◌, ap, arith, sym, subst, Some, None, slice_get, ◌∙◌}
use Rattle.std.specs.BTreeMap.{get}
use Rattle.std.specs.Ordering.{nat_cmp}
use Rattle.mencius_judge.specs.Tables.{AreSettled, identity_key}
use Rattle.mencius_judge.proofs.acknowledged.SettledCounts.{past_end}
use Rattle.mencius_judge.proofs.acknowledged.SettleLines.{seen_settled, settle_behind, settle_kept, settle_missing, settle_within}
use Rattle.mencius_judge.proofs.judge.Judge.settle.Goals as goal
use Rattle.mencius_judge.proofs.judge.Judge.settle.Goals.{else-self-gt0-via-then-self-gt0+else-self-reached, else-self-gt0-via-else-self-gt0}

pub returns-in-Some : goal.returns-in-Some
returns-in-Some c n line h =
    let j = c.args.self.now in
    let id = c.in-Some.id in
    let settled = c.count_settled-self.result in
    let facts : AreSettled j.acknowledged.items j.executions settled.count settled.highest =
    subst (λ ids. AreSettled ids j.executions j.settled.count j.settled.highest
    → AreSettled ids j.executions settled.count settled.highest)
    c.as_slice-acknowledged.ensures.value c.count_settled-self.ensures.settled h.log.settled in
    let there : slice_get j.acknowledged.items settled.count ≡ Some id =
    ap (λ ids. slice_get ids settled.count) (sym c.as_slice-acknowledged.ensures.value) ∙ sym c.in-Some.ensures in
    let none : get nat_cmp j.executions (identity_key id) ≡ None =
    c.count_settled-self.ensures.all id (ap (λ ids. slice_get ids settled.count) c.as_slice-acknowledged.ensures.value ∙ there) in
    (settle_missing j n h c.args.server settled.count id there none, seen_settled j n settled h facts)

pub returns-in_err-id : goal.returns-in_err-id
returns-in_err-id c n line h =
    let j = c.args.self.now in
    let settled = c.count_settled-self.result in
    let facts : AreSettled j.acknowledged.items j.executions settled.count settled.highest =
    subst (λ ids. AreSettled ids j.executions j.settled.count j.settled.highest
    → AreSettled ids j.executions settled.count settled.highest)
    c.as_slice-acknowledged.ensures.value c.count_settled-self.ensures.settled h.log.settled in
    let past = settle_within j n h c.args.server settled facts c.if-self-gt0.true in
    let off = past_end j.histories.order.items settled.highest
    (ap (λ ids. slice_get ids settled.highest) (sym c.as_slice.ensures.value) ∙ sym c.in_err-id.ensures) in
    absurd (omega (arith, past, off))

pub returns-then-self-reached : goal.returns-then-self-reached
returns-then-self-reached c n line h =
    let j = c.args.self.now in
    let settled = c.count_settled-self.result in
    let facts : AreSettled j.acknowledged.items j.executions settled.count settled.highest =
    subst (λ ids. AreSettled ids j.executions j.settled.count j.settled.highest
    → AreSettled ids j.executions settled.count settled.highest)
    c.as_slice-acknowledged.ensures.value c.count_settled-self.ensures.settled h.log.settled in
    let there : slice_get j.histories.order.items settled.highest ≡ Some c.in_ok-id.id =
    ap (λ ids. slice_get ids settled.highest) (sym c.as_slice.ensures.value) ∙ sym c.in_ok-id.ensures in
    (settle_behind j n h c.args.server settled facts c.if-self-gt0.true (omega arith) c.in_ok-id.id there, seen_settled j n settled h facts)

pub returns : goal.returns
returns c n line h =
    let j = c.args.self.now in
    let settled = c.count_settled-self.result in
    let facts : AreSettled j.acknowledged.items j.executions settled.count settled.highest =
    subst (λ ids. AreSettled ids j.executions j.settled.count j.settled.highest
    → AreSettled ids j.executions settled.count settled.highest)
    c.as_slice-acknowledged.ensures.value c.count_settled-self.ensures.settled h.log.settled in
    let all = past_end j.acknowledged.items settled.count
    (ap (λ ids. slice_get ids settled.count) (sym c.as_slice-acknowledged.ensures.value) ∙ sym c.in_default.ensures) in
    settle_kept j n h c.args.server settled facts line all (λ some. elim c.else-self-gt0.branch [
      | else-self-gt0-via-then-self-gt0+else-self-reached w ↦ omega arith
      | else-self-gt0-via-else-self-gt0 w ↦ omega (arith, some)
    ])
