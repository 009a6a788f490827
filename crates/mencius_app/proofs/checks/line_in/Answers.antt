use Rattle.mencius_app.proofs.Words.{◌≡◌, ◌≢◌, ◌⊎◌, Err, rules, subst, sym, BadShape, NoMemory}
use Rattle.mencius_app.specs.Check.{either_scenario, replay_scenario}
use Rattle.mencius_app.proofs.inputs.CheckedInputs.{AreWordsByFields, other_fault, other_words, replay_checked}
use Rattle.mencius_app.proofs.checks.line_in.Goals as goal

pub returns-in_ok-replay_line-in-Ok-clause-line : goal.returns-in_ok-replay_line-in-Ok-clause-line
returns-in_ok-replay_line-in-Ok-clause-line c = (
  replay_scenario c.in-Ok.scenario,
  replay_checked c.args.bytes.now c.in-Ok.scenario c.in-Ok.ensures,
  c.in_ok-replay_line-in-Ok.ensures,
)

pub returns-else-eq-clause-fault : goal.returns-else-eq-clause-fault
returns-else-eq-clause-fault c =
    let other : c.in-Err.fault ≢ BadShape = search rules in
    subst (λ fault. (fault ≡ NoMemory) ⊎ (either_scenario c.args.bytes.now ≡ Err fault)) (sym c.misread.ensures.fault)
    (other_fault c.args.bytes.now c.in-Err.fault other c.in-Err.ensures)

pub returns-else-eq-clause-words : goal.returns-else-eq-clause-words
returns-else-eq-clause-words c =
    let other : c.in-Err.fault ≢ BadShape = search rules in
    subst (λ fault. AreWordsByFields fault c.args.bytes.now c.misread.result.words) (sym c.misread.ensures.fault)
    (other_words c.args.bytes.now c.in-Err.fault other c.in-Err.ensures c.misread.result.words c.misread.ensures.words)
