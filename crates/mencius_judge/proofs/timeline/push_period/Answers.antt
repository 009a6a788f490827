use Rattle.std.proofs.Common.{◌≡◌, ◌≢◌, ℕ, List, None, ap, ◌∙◌}
use Rattle.std.specs.BTreeMap.{get_by_text}
use Rattle.mencius_judge.specs.Timelines.{items_of}
use Rattle.mencius_judge.proofs.keys.TextMaps.{on_ok, text_elsewhere}
use Rattle.mencius_judge.proofs.timeline.push_period.Goals as goal

pub returns-clause-others : goal.returns-clause-others
returns-clause-others c =
    on_ok c.put_text.result (λ (h : (x : List ℕ) → x ≢ c.args.text.now
    → get_by_text c.put_text.new.map x ≡ get_by_text c.remove.new.self x).
    (λ (x : List ℕ) (ne : x ≢ c.args.text.now). ap items_of (h x ne
    ∙ text_elsewhere c.args.text.now c.args.presences.now c.remove.new.self None c.remove.ensures.updates x ne)))
    c.put_text.ensures.others
