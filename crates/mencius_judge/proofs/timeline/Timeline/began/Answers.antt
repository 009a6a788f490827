use Rattle.mencius_judge.proofs.keys.Periods.{none_began, period_began}
use Rattle.mencius_judge.proofs.timeline.Timeline.began.Goals as goal

pub returns-in-Some : goal.returns-in-Some
returns-in-Some c held to h fits is =
    let text = c.args.text.now in
    period_began held to c.args.self.now h text c.args.count fits is c.in-Some.period
    (c.in-Some.ensures (h.rising text))

pub returns-in-None : goal.returns-in-None
returns-in-None c held to h fits is =
    let text = c.args.text.now in
    none_began held to c.args.self.now h text c.args.count fits is (c.in-None.ensures (h.rising text))
