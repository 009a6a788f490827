use Rattle.std.proofs.Common.{[], sym, subst}
use Rattle.mencius_judge.specs.Timelines.{IsTimelineOf, held_by}
use Rattle.mencius_judge.proofs.keys.Changes.{held_none}
use Rattle.mencius_judge.proofs.keys.TextMaps.{no_text}
use Rattle.mencius_judge.proofs.timelines.Timelines.new.Goals as goal

pub returns : goal.returns
returns c key =
    subst (IsTimelineOf (held_by [] key) 0) (sym (no_text c.new.result key c.new.ensures.empty)) (λ n le. held_none key n)
