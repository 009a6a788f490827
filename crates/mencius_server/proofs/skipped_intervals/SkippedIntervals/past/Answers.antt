use Rattle.std.proofs.Common.{◌≡◌, ℕ, ◌<◌, ◌≤◌, true, false, List, length, get_or, sym, ◌∙◌, ap, subst, arith}
use Rattle.std.proofs.lemmas.List.{get_or_default}
use Rattle.mencius_server.specs.declared.skipped_intervals.Interval.{Interval}
use Rattle.mencius_server.specs.Intervals.{IsRising, is_in_any}
use Rattle.mencius_server.proofs.intervals.RisingIntervals.{in_any_at, open_between, open_stop}
use Rattle.mencius_server.proofs.skipped_intervals.SkippedIntervals.past.Goals as goal
use Rattle.mencius_server.proofs.skipped_intervals.SkippedIntervals.past.Goals.{else-at-len-via-then-at-len+else-index-inst, else-at-len-via-else-at-len}

here_covered : (xs now : List Interval) (at i j : ℕ) (r d : Interval) → xs ≡ now → at < length xs → r ≡ get_or xs at r
    → d ≡ get_or xs at d
    → r.first ≤ i → i ≤ j → j < d.stop → is_in_any now j ≡ true
here_covered xs now at i j r d e within r_is t_is low from high =
    let same : get_or xs at d ≡ r = get_or_default xs at d r within ∙ sym r_is in
    let first : (get_or xs at d).first ≤ j = omega (arith, ap (λ (s : Interval). s.first) same) in
    let stop : j < (get_or xs at d).stop = omega (arith, ap (λ (s : Interval). s.stop) t_is) in
    subst (λ ys. is_in_any ys j ≡ true) e (in_any_at xs at j d within first stop)

stop_open : (xs now : List Interval) (at : ℕ) (d : Interval) → xs ≡ now → IsRising 0 xs → at < length xs
    → d ≡ get_or xs at d → is_in_any now d.stop ≡ false
stop_open xs now at d e rising within t_is =
    subst (λ ys. is_in_any ys d.stop ≡ false) e
    (ap (λ (s : Interval). is_in_any xs s.stop) t_is ∙ open_stop xs rising at d within)

between_open : (xs ys now : List Interval) (at i : ℕ) (d : Interval) → ys ≡ xs → xs ≡ now → IsRising 0 xs
    → ((n : ℕ) (d : Interval) → n < at → (get_or ys n d).stop ≤ i)
    → (at < length xs → i < (get_or xs at d).first) → is_in_any now i ≡ false
between_open xs ys now at i d same e rising before next =
    subst (λ zs. is_in_any zs i ≡ false) e
    (open_between xs rising at i d (λ n low. subst (λ zs. (get_or zs n d).stop ≤ i) same (before n d low)) next)

pub returns-then-index-inst-clause-covered : goal.returns-then-index-inst-clause-covered
returns-then-index-inst-clause-covered c = λ j from high.
    let within : c.first_past-at.result < length c.self.inside.intervals.items =
    omega (arith, c.if-at-len.true, c.len.ensures, c.self.inside.intervals.ok.0) in
    here_covered _ _ c.first_past-at.result c.args.inst j c.index.result.now c.index-then-index-inst.result.now
    c.self.view_is within
    c.index.ensures c.index-then-index-inst.ensures c.if-index-inst.true from high

pub returns-then-index-inst-clause-open : goal.returns-then-index-inst-clause-open
returns-then-index-inst-clause-open c =
    let within : c.first_past-at.result < length c.self.inside.intervals.items =
    omega (arith, c.if-at-len.true, c.len.ensures, c.self.inside.intervals.ok.0) in
    stop_open _ _ c.first_past-at.result c.index-then-index-inst.result.now c.self.view_is c.self.invariant within
    c.index-then-index-inst.ensures

pub returns-else-at-len-clause-open : goal.returns-else-at-len-clause-open
returns-else-at-len-clause-open c =
    let none : Interval = record { first = 0; stop = 0 } in
    between_open c.self.inside.intervals.items _ _ c.first_past-at.result c.args.inst none c.deref.ensures.value
    c.self.view_is c.self.invariant c.first_past-at.ensures.before
    (λ within. elim c.else-at-len.branch [
      | else-at-len-via-then-at-len+else-index-inst way ↦
          let here = way.index.ensures ∙ get_or_default c.self.inside.intervals.items c.first_past-at.result
          way.index.result.now none within in
          omega (arith, way.if-index-inst.false, ap (λ (s : Interval). s.first) here)
      | else-at-len-via-else-at-len way ↦ absurd
          (omega (arith, way.if-at-len.false, c.len.ensures, c.self.inside.intervals.ok.0))
    ])
