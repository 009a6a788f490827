use Rattle.std.proofs.Common.{take, true, ap, ◌∙◌, set}
use Rattle.std.proofs.Math.Seq.{take-set-lt}
use Rattle.coord_paxos.specs.Slot.{has_majority}
use Rattle.coord_paxos.proofs.has_majority_with.Goals as goal

pub returns : goal.returns
returns c =
    let parts = take-set-lt c.args.members.count c.args.among c.args.from true c.requires in
    c.has_majority.ensures
    ∙ ap (has_majority c.args.members)
    (ap (λ n. take n (set c.args.among c.args.from true)) c.count-count.ensures.count ∙ parts)
