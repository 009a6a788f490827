use Rattle.std.specs.Prelude.{◌≡◌, ℕ, ◌+◌, ◌<◌, get_or, length, vec_len}
use Rattle.std.proofs.Common.{rules, arith, add-zero, subst, sym}
use Rattle.std.specs.Vec.Iter.{into_iter_items, into_iter_len}
use Rattle.mencius_base.specs.Plan.{PlanState}
use Rattle.mencius_board.specs.Workers.{Answers, EndState, IsWorkerEnd}
use Rattle.mencius_board.proofs.runs.JoinedWorkers.{ended}
use Rattle.mencius_board.proofs.logs.ListSteps.{first_of, more_of}
use Rattle.mencius_board.proofs.workers.gather.Goals as goal

pub loop-child-preserved : goal.loop-child-preserved
loop-child-preserved g c =
    let was = c.loop-child.invariant in let done : ℕ = vec_len c.loop-child.ends in
    let plan : PlanState = c.args.plan.now in
    let step = c.in-Some.ensures.steps in
    let many : ℕ = into_iter_len c.loop-child.child-iterator in
    let left : ℕ = into_iter_len c.next.new.self in
    let two = first_of (λ m o. Answers plan (done + m) o) many left _ _ c.in-Some.child step.0 step.1 was.2 in
    let next : Answers plan done c.in-Some.child = rw add-zero at two.0 in
    let end : EndState = c.join_started-end.result in
    let is_end : IsWorkerEnd c.args.plan.now done end =
    ended c.in-Some.child c.args.plan.now done end next c.join_started-end.ensures in
    let longer : vec_len c.push_reserved.new.self ≡ done + 1 = c.push_reserved.ensures.len in (
      omega (arith, was.0, longer, step.1),
      search rules,
      (λ m d below.
          let e : done + (m + 1) ≡ vec_len c.push_reserved.new.self + m = omega (arith, longer) in
          subst (λ (n : ℕ). Answers plan n (get_or (into_iter_items c.next.new.self) m d)) e (two.1 m d below)),
      λ m d below.
          let len : length c.loop-child.ends.items ≡ done = sym c.loop-child.ends.ok.0 in
          let small : m < length c.loop-child.ends.items + 1 = omega (arith, len, longer, below) in
          let is : IsWorkerEnd c.args.plan.now (length c.loop-child.ends.items) end = rw len is_end in
          rw c.push_reserved.ensures.items (more_of (IsWorkerEnd c.args.plan.now) m c.loop-child.ends.items end d
          (λ l e under. was.3 l e (omega (arith, len, under))) is small),
    )
