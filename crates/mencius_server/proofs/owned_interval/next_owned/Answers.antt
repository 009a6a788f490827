use Rattle.std.proofs.Common.{◌≡◌, ◌+◌, ◌≤◌, ap, arith, refl, ◌∙◌}
use Rattle.std.proofs.Math.Nat.{add-mod_right}
use Rattle.mencius_base.specs.Members.{owner}
use Rattle.mencius_server.proofs.intervals.IntervalCounts.{apart}
use Rattle.mencius_server.proofs.owned_interval.next_owned.Goals as goal

pub returns-clause-owned : goal.returns-clause-owned
returns-clause-owned c =
    let round : c.from.result ≡ c.args.members.count = c.from.ensures ∙ c.count.ensures.count in
    ap (λ n. owner c.args.members (c.args.inst + n)) round ∙ add-mod_right c.args.inst c.args.members.count

pub returns-clause-least : goal.returns-clause-least
returns-clause-least c = λ i low own.
    let round : c.from.result ≡ c.args.members.count = c.from.ensures ∙ c.count.ensures.count in
    let far : c.args.inst + c.args.members.count ≤ i =
    apart c.args.members.count (owner c.args.members c.args.inst) i c.args.inst own refl (omega arith) in
    omega (arith, round, far)
