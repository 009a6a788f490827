use Rattle.std.proofs.Common.{Err, ap, sym, ◌∙◌}
use Rattle.std.specs.Option.{option_map_or}
use Rattle.mencius_io.specs.declared.fault.IoFault.TheVariants.{NotJson}
use Rattle.mencius_format.specs.ValuesOrFaults.{value_or_fault}
use Rattle.mencius_format.proofs.ValuesOfParts.{given, passed_on}
use Rattle.mencius_input.specs.declared.kind.Kind.TheVariants.{Run}
use Rattle.mencius_input.specs.Scenario.{scenario_of, is_scenario_within}
use Rattle.mencius_input.specs.Plan.{plan_read, is_plan_within, run_names}
use Rattle.mencius_input.proofs.objects.RunFields.{plan_fields_say}
use Rattle.mencius_input.proofs.objects.SharedFields.{unread_fails}
use Rattle.mencius_input.proofs.plan.read_plan.Goals as goal

pub returns-in_err-fields : goal.returns-in_err-fields
returns-in_err-fields c =
    passed_on _ _ _ c.from_residual.ensures.1 (unread_fails Run plan_read is_plan_within _ _ c.in_err-fields.ensures.err)

pub returns : goal.returns
returns c =
    let all = c.in_ok-fields.ensures.ok in
    given _ _ (c.run_of.ensures ∙ plan_fields_say c.in_ok-fields.fields all.ms all.fields all.only
    ∙ ap (λ o. option_map_or (λ d. value_or_fault (is_scenario_within is_plan_within) (scenario_of run_names plan_read d)) o
    (Err NotJson))
    (sym all.there))
