use Rattle.std.proofs.Common.{ℕ, rules, Option, Result, Ok, Err, IfOk, IsNone, ◌∷◌, ◌↔◌}
use Rattle.mencius_judge.specs.declared.judge.Judge.{Judge}
use Rattle.mencius_log.specs.declared.observation.Observation.{Observation}
use Rattle.mencius_judge.specs.declared.violation.Violation.{Violation}
use Rattle.mencius_judge.specs.Judged.{HasSeen, IsJudged}
use Rattle.mencius_judge.specs.Promises.{KeepsAll}
use Rattle.mencius_judge.specs.Quotes.{NumberedLog, log_of}
use Rattle.mencius_judge.proofs.promises.Kept.{judged_kept}
use Rattle.mencius_judge.proofs.judge.Judge.observe.Goals as goal

-- a right verdict is None exactly if the log with the observation keeps all promises
kept_by : {E : Type 0} (line : ℕ) (o : Observation) (r : Result (Option Violation) E) (old new : Judge)
    → IfOk r (λ x. (n : NumberedLog) → HasSeen old n → IsJudged n (record { number = line; observation = o }) x new)
    → IfOk r (λ x. (n : NumberedLog) → HasSeen old n → IsNone x ↔ KeepsAll (o ∷ log_of n))
kept_by line o (Ok x) old new h = λ n at. judged_kept n (record { number = line; observation = o }) x new (h n at)
kept_by line o (Err e) old new h = h

pub returns-in-Submit-clause-kept : goal.returns-in-Submit-clause-kept
returns-in-Submit-clause-kept c =
    kept_by c.args.line c.args.observation.now c.submit.result c.args.self.now c.submit.new.self (search rules)

pub returns-in-Execute-clause-kept : goal.returns-in-Execute-clause-kept
returns-in-Execute-clause-kept c =
    kept_by c.args.line c.args.observation.now c.execute.result c.args.self.now c.execute.new.self (search rules)

pub returns-in-Reply-clause-kept : goal.returns-in-Reply-clause-kept
returns-in-Reply-clause-kept c =
    kept_by c.args.line c.args.observation.now c.reply.result c.args.self.now c.reply.new.self (search rules)

pub returns-in-Restore-clause-kept : goal.returns-in-Restore-clause-kept
returns-in-Restore-clause-kept c =
    kept_by c.args.line c.args.observation.now c.restore.result c.args.self.now c.restore.new.self (search rules)

-- a look-up and a Tell observation may have any number
unnumbered : {E : Type 0} (line : ℕ) (o : Observation) (r : Result (Option Violation) E) (old new : Judge)
    → IfOk r (λ x. (n : NumberedLog) (number : ℕ) → HasSeen old n
    → IsJudged n (record { number = number; observation = o }) x new)
    → IfOk r (λ x. (n : NumberedLog) → HasSeen old n → IsJudged n (record { number = line; observation = o }) x new)
unnumbered line o (Ok x) old new h = λ n at. h n line at
unnumbered line o (Err e) old new h = h

pub returns-in-Lookup-clause-kept : goal.returns-in-Lookup-clause-kept
returns-in-Lookup-clause-kept c =
    kept_by c.args.line c.args.observation.now c.look_up.result c.args.self.now c.look_up.new.self
    (unnumbered c.args.line c.args.observation.now c.look_up.result c.args.self.now c.look_up.new.self (search rules))

pub returns-in-Tell-clause-kept : goal.returns-in-Tell-clause-kept
returns-in-Tell-clause-kept c =
    kept_by c.args.line c.args.observation.now c.tell.result c.args.self.now c.tell.new.self
    (unnumbered c.args.line c.args.observation.now c.tell.result c.args.self.now c.tell.new.self (search rules))

pub returns-in-Settle-clause-kept : goal.returns-in-Settle-clause-kept
returns-in-Settle-clause-kept c n at =
    judged_kept n (record { number = c.args.line; observation = c.args.observation.now }) c.settle.result c.settle.new.self
    (search rules)
