use Rattle.std.proofs.Common.{◌<◌, true, ap, arith}
use Rattle.std.proofs.Math.Seq.{take-set-lt}
use Rattle.coord_paxos.specs.SlotState.{SlotState}
use Rattle.coord_paxos.proofs.Slot.note_promise.Goals as goal

pub returns : goal.returns
returns c =
    let member : c.args.from < c.self.inside.members.count =
    omega (arith, c.requires, ap (λ (s : SlotState). s.members.count) c.self.view_is) in
    rw (
      take-set-lt c.self.inside.members.count c.self.inside.promises c.args.from true member,
      c.higher-self-inside.ensures,
      ← c.self.view_is,
    )
