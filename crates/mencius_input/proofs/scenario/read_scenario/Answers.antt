use Rattle.std.proofs.Common.{Err, ap, sym, ◌∙◌}
use Rattle.std.specs.List.{list_all}
use Rattle.std.specs.Option.{option_map_or}
use Rattle.mencius_io.specs.declared.fault.IoFault.TheVariants.{NotJson}
use Rattle.mencius_format.specs.Grammar.{is_event_within}
use Rattle.mencius_format.specs.ValuesOrFaults.{value_or_fault}
use Rattle.mencius_format.proofs.ValuesOfParts.{given, passed_on}
use Rattle.mencius_input.specs.declared.kind.Kind.TheVariants.{Replay}
use Rattle.mencius_input.specs.Scenario.{is_within_limits, schedule_of, written_of}
use Rattle.mencius_input.proofs.objects.ScenarioFields.{fields_say}
use Rattle.mencius_input.proofs.objects.SharedFields.{unread_fails}
use Rattle.mencius_input.proofs.scenario.read_scenario.Goals as goal

pub returns-in_err-fields : goal.returns-in_err-fields
returns-in_err-fields c =
    passed_on _ _ _ c.from_residual.ensures.1 (unread_fails Replay schedule_of (λ members. list_all is_event_within) _ _ c.in_err-fields.ensures.err)

pub returns : goal.returns
returns c =
    let all = c.in_ok-fields.ensures.ok in
    given _ _ (c.schedule_of.ensures ∙ fields_say c.in_ok-fields.fields all.ms all.fields all.only
    ∙ ap (λ o. option_map_or (λ d. value_or_fault is_within_limits (written_of d)) o (Err NotJson))
    (sym all.there))
