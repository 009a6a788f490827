use Rattle.std.proofs.Common.{◌<◌, arith}
use Rattle.std.proofs.lemmas.Bool.{eq-eqb, eqb-true}
use Rattle.std.proofs.lemmas.Bool.Decides.{nat_tests}
use Rattle.mencius_judge.proofs.acknowledged.OpenReplies.{as_true, is_true, judged_all, judged_some, was_judged}
use Rattle.mencius_judge.proofs.counts.Counts.is_judged.Goals as goal

pub returns-then-self-gt0 : goal.returns-then-self-gt0
returns-then-self-gt0 c w comparable counts =
    let n = c.args.self.now.open_replies in (
      (λ none. was_judged w c.args.self.now counts c.if-self-gt0.true (eqb-true n 0 (is_true _ none))),
      (λ was. as_true _ (eq-eqb n 0 (judged_all w c.args.self.now comparable counts was))),
    )

pub returns-else-self-gt0 : goal.returns-else-self-gt0
returns-else-self-gt0 c w comparable counts =
    let n = c.args.self.now.executed in (
      (λ some. absurd (let more : 0 < n = grind (arith, nat_tests, some) in omega arith)),
      (λ was. let more : 0 < n = judged_some w c.args.self.now counts was in absurd (omega arith)),
    )
