use Rattle.std.proofs.Common.{◌≡◌, ◌≢◌, ◌≤◌, arith, sym, subst, true}
use Rattle.mencius_judge.specs.Timelines.{IsFirstCount}
use Rattle.mencius_judge.proofs.keys.Periods.{in_period, in_present, in_none}
use Rattle.mencius_judge.proofs.timeline.Timeline.first_count.Goals as goal
use Rattle.mencius_judge.proofs.timeline.Timeline.first_count.Goals.{else-from-to-via-then-from-to+else-is_same_text, else-from-to-via-else-from-to}

pub returns-in-Some : goal.returns-in-Some
returns-in-Some c held h =
    let text = c.args.text.now in
    subst (IsFirstCount held text c.args.from c.args.to) (sym c.max.ensures)
    (in_period held c.args.to c.args.self.now h text c.args.from c.in-Some.period (c.in-Some.ensures (h.rising text)))

pub returns-then-is_same_text : goal.returns-then-is_same_text
returns-then-is_same_text c held h =
    let text = c.args.text.now in
    subst (IsFirstCount held text c.args.from c.args.to) (sym c.max-then-is_same_text.ensures)
    (in_present held c.args.to c.args.self.now h text c.args.from (c.in_default.ensures (h.rising text))
    (c.is_same_text.ensures.0 c.if-is_same_text.true) c.if-from-to.true)

pub returns : goal.returns
returns c held h =
    let text = c.args.text.now in
    let t = c.args.self.now in
    let other : c.args.from ≤ c.args.to → t.text ≢ text =
    λ le same. elim c.else-from-to.branch [
      | else-from-to-via-then-from-to+else-is_same_text w ↦
          let yes : w.is_same_text.result ≡ true = w.is_same_text.ensures.1 same in
          let no = w.if-is_same_text.false in
          (cc)
      | else-from-to-via-else-from-to w ↦ (let more = w.if-from-to.false in omega (arith, le, more))
    ] in
    in_none held c.args.to t h text c.args.from (c.in_default.ensures (h.rising text)) other
