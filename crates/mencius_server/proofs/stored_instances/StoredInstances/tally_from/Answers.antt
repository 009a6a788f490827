use Rattle.std.proofs.Common.{arith, refl, ap, ◌∙◌}
use Rattle.mencius_server.specs.Instances.{instance_slot_in}
use Rattle.mencius_server.specs.declared.tally.Tally.{Tally}
use Rattle.mencius_server.proofs.tallies.OneTally.{tallied_all, tallied_few, tallied_more, tallied_start}
use Rattle.mencius_server.proofs.stored_instances.StoredInstances.tally_from.Goals as goal

pub loop-inst-init : goal.loop-inst-init
loop-inst-init c = record {
  tallied = tallied_start c.args.self.now.members (instance_slot_in c.args.self.now.members c.args.self.now.slots c.args.self.now.skipped.items) c.args.server c.args.first
      c.args.stop _ c.first_owned-inst.result refl refl c.requires.ahead c.first_owned-inst.ensures.owned
      c.first_owned-inst.ensures.above c.first_owned-inst.ensures.least;
  stop = refl;
}

pub loop-inst-preserved : goal.loop-inst-preserved
loop-inst-preserved c = record {
  tallied = tallied_more c.args.self.now.members (instance_slot_in c.args.self.now.members c.args.self.now.slots c.args.self.now.skipped.items) c.args.server c.args.first
      c.args.stop c.loop-inst.tally c.tally_with-tally.result c.loop-inst.inst c.next_owned-inst.result
      c.loop-inst-test.true c.next_owned-inst.ensures.above c.next_owned-inst.ensures.owned
      c.next_owned-inst.ensures.least c.tally_with-tally.ensures c.loop-inst.invariant.tallied;
  stop = ap (λ (a : Tally). a.stop) c.tally_with-tally.ensures ∙ c.loop-inst.invariant.stop;
}

pub tally_with-tally-requires-clause-few : goal.tally_with-tally-requires-clause-few
tally_with-tally-requires-clause-few c =
    (tallied_few c.args.self.now.members (instance_slot_in c.args.self.now.members c.args.self.now.slots c.args.self.now.skipped.items) c.args.server c.args.first
    c.args.stop c.loop-inst.tally c.loop-inst.inst c.loop-inst-test.true c.requires.small
    c.loop-inst.invariant.tallied).0

pub tally_with-tally-requires-clause-fewer : goal.tally_with-tally-requires-clause-fewer
tally_with-tally-requires-clause-fewer c =
    (tallied_few c.args.self.now.members (instance_slot_in c.args.self.now.members c.args.self.now.slots c.args.self.now.skipped.items) c.args.server c.args.first
    c.args.stop c.loop-inst.tally c.loop-inst.inst c.loop-inst-test.true c.requires.small
    c.loop-inst.invariant.tallied).1

pub returns-clause-counted : goal.returns-clause-counted
returns-clause-counted c =
    tallied_all c.args.self.now.members (instance_slot_in c.args.self.now.members c.args.self.now.slots c.args.self.now.skipped.items) c.args.server c.args.first
    c.args.stop c.loop-inst.tally c.loop-inst.inst c.requires.ahead (omega (arith, c.loop-inst-test.false))
    c.requires.small c.loop-inst.invariant.stop c.loop-inst.invariant.tallied

pub returns-clause-stop : goal.returns-clause-stop
returns-clause-stop c = c.loop-inst.invariant.stop
