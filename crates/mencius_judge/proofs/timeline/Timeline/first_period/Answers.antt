use Rattle.std.proofs.Common.{◌≡◌, None, [], sym, subst, ap, ◌∙◌, MatchOption, slice_get}
use Rattle.std.specs.BTreeMap.{get_by_text}
use Rattle.mencius_judge.specs.Timelines.{AllBefore, AreRising, IsFirstPeriod, items_of, periods_of}
use Rattle.mencius_judge.proofs.timeline.Timeline.first_period.Goals as goal

pub returns-in-Some-get : goal.returns-in-Some-get
returns-in-Some-get c =
    let t = c.args.self.now in
    let from = c.args.from in
    let r = c.period_after-in-Some-get.result in
    let these : periods_of t c.args.text.now ≡ c.as_slice-in-Some-get.result.now =
    ap (periods_of t) c.in-Some.is ∙ ap (λ bytes. items_of (get_by_text t.presences bytes)) (sym c.as_str.ensures)
    ∙ ap items_of (sym c.in-Some-get.ensures.value) ∙ sym c.as_slice-in-Some-get.ensures.value in
    subst (λ ps. AreRising ps → MatchOption r (AllBefore ps from) (IsFirstPeriod ps from)) (sym these)
    c.period_after-in-Some-get.ensures

pub returns-in-None-get : goal.returns-in-None-get
returns-in-None-get c rising i p there =
    let t = c.args.self.now in
    let these : periods_of t c.args.text.now ≡ [] =
    ap (periods_of t) c.in-Some.is ∙ ap (λ bytes. items_of (get_by_text t.presences bytes)) (sym c.as_str.ensures)
    ∙ ap items_of (sym c.in-None-get.ensures.value) in
    let none : slice_get (periods_of t c.args.text.now) i ≡ None = ap (λ ps. slice_get ps i) these in
    absurd (cc)
