use Rattle.std.proofs.Common.{◌≡◌, ◌+◌, refl, subst, sym, ap, ◌∙◌}
use Rattle.std.specs.Prelude.{max}
use Rattle.mencius_judge.specs.Tables.{AreSettled}
use Rattle.mencius_judge.proofs.acknowledged.SettledCounts.{settled_more}
use Rattle.mencius_judge.proofs.settled.count_settled.Goals as goal

pub loop-count-preserved : goal.loop-count-preserved
loop-count-preserved c = record {
  count = refl;
  facts = λ start.
      let ids = c.args.acknowledged.now in
      let executions = c.args.executions.now in
      let old = c.loop-count.settled in
      let at = c.in-Some.ensures in
      let before : AreSettled ids executions c.loop-count.count old.highest =
      subst (λ n. AreSettled ids executions n old.highest) c.loop-count.invariant.count (c.loop-count.invariant.facts start) in
      let highest : max old.highest at.1.place ≡ c.max.result = ap (max old.highest) at.4 ∙ sym c.max.ensures in
      subst (AreSettled ids executions (c.loop-count.count + 1)) highest
      (settled_more ids executions c.loop-count.count old.highest at.0 at.1 before at.2 at.3);
}
