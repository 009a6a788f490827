use Rattle.mencius_app.specs.Check.{either_scenario}
use Rattle.mencius_app.specs.Failures.{ExplainsByFields}
use Rattle.mencius_app.proofs.inputs.CheckedInputs.{checked_bad}
use Rattle.mencius_app.proofs.inputs.Inputs.{at_err, misread, short}
use Rattle.mencius_app.proofs.checks.read_check.Goals as goal

pub returns-in_err-text-clause-fault : goal.returns-in_err-text-clause-fault
returns-in_err-text-clause-fault g c =
    at_err _ c.in_err-text.field-0.0 _ c.from_residual.ensures.1
    (misread either_scenario checked_bad _ c.in-Ok.bytes.items c.as_slice.result.now c.in-Ok.ensures.whole
    (short _ _ c.as_slice.ensures.len c.in-Ok.ensures.fits) c.as_slice.ensures.value ExplainsByFields _
    c.in_err-text.field-0.0 c.in_err-text.ensures.fault c.in_err-text.ensures.words)
