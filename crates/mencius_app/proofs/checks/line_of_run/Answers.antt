use Rattle.mencius_app.specs.Check.{run_scenario}
use Rattle.mencius_app.proofs.inputs.CheckedInputs.{run_checked}
use Rattle.mencius_app.proofs.checks.line_of_run.Goals as goal

pub returns-in_ok-run_line-in-Ok-clause-line : goal.returns-in_ok-run_line-in-Ok-clause-line
returns-in_ok-run_line-in-Ok-clause-line c = (
  run_scenario c.in-Ok.scenario,
  run_checked c.args.bytes.now c.in-Ok.scenario c.requires c.in-Ok.ensures,
  c.in_ok-run_line-in-Ok.ensures,
)
