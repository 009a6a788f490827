use Rattle.std.proofs.Common.{◌≤◌, length, subst, arith}
use Rattle.mencius_clients.specs.Configurations.{AreFull}
use Rattle.mencius_clients.proofs.Growing.{placed_last}
use Rattle.mencius_clients.proofs.key_search.KeySearch.call.Goals as goal

pub returns-then-len-ge-SLOTS-clause-placed : goal.returns-then-len-ge-SLOTS-clause-placed
returns-then-len-ge-SLOTS-clause-placed c =
    let most : 4096 ≤ length c.args.self.now.slots.items = omega arith in
    (most, subst (AreFull c.args.log.now) c.as_slice.ensures.value c.in_default.ensures)

pub returns-clause-placed : goal.returns-clause-placed
returns-clause-placed c =
    placed_last c.args.log.now c.args.self.now.slots.items c.push.new.self.items c.args.line c.in_ok-push.ensures.items
