use Rattle.mencius_app.proofs.Words.{◌∙◌, trace_text}
use Rattle.mencius_app.specs.Replay.{IsMadeOf}
use Rattle.mencius_app.proofs.inputs.Inputs.{at_err}
use Rattle.mencius_app.proofs.inputs.PictureFaults.{without_picture, without_scenario}
use Rattle.mencius_app.proofs.pictures.read_picture.Goals as goal

pub returns-in_err-scenario-clause-fault : goal.returns-in_err-scenario-clause-fault
returns-in_err-scenario-clause-fault g c =
    at_err _ c.in_err-scenario.field-0.0 _ c.from_residual.ensures.1
    (without_scenario c.args.options.now _ _ c.in_err-scenario.field-0.0 c.in_err-scenario.ensures.fault)

pub returns-in_err-text-clause-fault : goal.returns-in_err-text-clause-fault
returns-in_err-text-clause-fault g c =
    let trace : IsMadeOf trace_text (g.R.Source.state c.args.source.now).bytes c.as_str.result.now = record {
      written = c.in_ok-scenario.scenario;
      says = c.in_ok-scenario.ensures.said;
      is = c.as_str.ensures.value ∙ c.in_ok-trace.ensures.text;
    } in
    at_err _ c.in_err-text.field-0.0 _ c.from_residual-in_err-text.ensures.1
    (without_picture c.args.options.now _ _ c.as_str.result.now c.in_err-text.field-0.0 trace
    c.in_err-text.ensures.refused)
