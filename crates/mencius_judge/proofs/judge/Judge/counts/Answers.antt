use Rattle.std.proofs.Common.{ap, count_by, refl, ◌∙◌}
use Rattle.mencius_judge.specs.Tables.{has_no_place}
use Rattle.mencius_judge.proofs.promises.Counted.{counted}
use Rattle.mencius_judge.proofs.judge.Judge.counts.Goals as goal

pub returns : goal.returns
returns c w h =
    let j = c.args.self.now in
    counted j w _ h c.servers.ensures refl c.longest.ensures refl
    (c.open_count.ensures ∙ ap (count_by (has_no_place j.executions)) c.as_slice.ensures.value) refl
    c.shortest.ensures
