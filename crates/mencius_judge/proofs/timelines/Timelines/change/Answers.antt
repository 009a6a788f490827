use Rattle.std.proofs.Common.{◌≡◌, ◌≢◌, ◌+◌, ◌≤◌, ℕ, List, Option, Some, None, sym, subst, ◌∙◌}
use Rattle.std.specs.BTreeMap.{get_by_text}
use Rattle.mencius_judge.specs.Timelines.{IsTimeline, IsTimelineOf}
use Rattle.mencius_judge.proofs.keys.Periods.{changed_at, fresh}
use Rattle.mencius_judge.proofs.keys.TextMaps.{on_ok, text_elsewhere}
use Rattle.mencius_judge.proofs.timelines.Timelines.change.Goals as goal
use Rattle.mencius_judge.proofs.timelines.Timelines.change.Goals.{in-Some, in-None}

pub returns-clause-own : goal.returns-clause-own
returns-clause-own c =
    let key = c.args.key.now in
    let t = c.match-remove.timeline in
    let new = c.change.new.self in
    let before : (held : ℕ → Option (List ℕ)) (n : ℕ)
    → IsTimelineOf held n (get_by_text c.args.self.now.by_key key) → IsTimeline held n t =
    λ held n h. elim c.match-remove.branch [
      | in-Some w ↦ subst (IsTimeline held n) (sym w.timeline-is)
          (subst (IsTimelineOf held n) (sym c.remove.ensures.value ∙ w.in-Some.is) h)
      | in-None w ↦ subst (IsTimeline held n) (sym w.timeline-is)
          (fresh held n w.new-timeline.result
          (subst (IsTimelineOf held n) (sym c.remove.ensures.value ∙ w.in-None.is) h)
          w.new-timeline.ensures.text w.new-timeline.ensures.since w.new-timeline.ensures.periods)
    ] in
    on_ok c.put_text.result (λ (is : get_by_text c.put_text.new.map key ≡ Some new).
    (λ (held after : ℕ → Option (List ℕ)) (n : ℕ) (h : IsTimelineOf held n (get_by_text c.args.self.now.by_key key))
    (e : n + 1 ≡ c.args.count) (kept : (m : ℕ) → m ≤ n → after m ≡ held m) (last : after c.args.count ≡ c.args.text)
    (changes : after c.args.count ≢ held n).
    subst (IsTimelineOf after c.args.count) (sym is)
    (changed_at held after n c.args.count t new e (before held n h) kept c.args.text last changes c.in_ok-change.ensures.text
    c.in_ok-change.ensures.since c.in_ok-change.ensures.former c.in_ok-change.ensures.others)))
    c.put_text.ensures.own

pub returns-clause-others : goal.returns-clause-others
returns-clause-others c =
    on_ok c.put_text.result (λ (h : (x : List ℕ) → x ≢ c.args.key.now
    → get_by_text c.put_text.new.map x ≡ get_by_text c.remove.new.self x).
    (λ (x : List ℕ) (ne : x ≢ c.args.key.now). h x ne
    ∙ text_elsewhere c.args.key.now c.args.self.now.by_key c.remove.new.self None c.remove.ensures.updates x ne))
    c.put_text.ensures.others
