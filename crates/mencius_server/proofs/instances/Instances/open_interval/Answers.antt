use Rattle.std.proofs.Common.{◌<◌, ap, arith, refl}
use Rattle.mencius_server.specs.Instances.{InstancesState}
use Rattle.mencius_server.proofs.suspicions.OpenInstances.{open_before}
use Rattle.mencius_server.proofs.suspicions.SuspicionReach.{first_least, first_own}
use Rattle.mencius_server.proofs.instances.Instances.open_interval.Goals as goal

pub returns : goal.returns
returns c =
    let m = c.self.inside.stored.members in
    let members = ap (λ (s : InstancesState). s.members) c.self.view_is in
    let member : c.args.suspected < m.count = omega (
      arith,
      c.requires,
      ap (λ (s : InstancesState).
          s.members.count) c.self.view_is,
    ) in
    record {
      interval = record {
        member = member;
        own = rw c.from.ensures (first_own m c.args.suspected member);
        small = omega (arith, c.min.ensures);
      };
      members = members;
      server = refl;
      stop = c.min.ensures;
      before = open_before _ _ _ _ c.self.view_is c.args.suspected c.args.reach c.from.result
          (λ i from own. omega (arith, first_least m c.args.suspected i own, c.from.ensures));
    }
