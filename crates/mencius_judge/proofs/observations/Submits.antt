-- A judge is right about a submission.
use Rattle.std.proofs.Common.{◌≡◌, true, List, ◌∷◌, Some, None, is_some, Global, String, sym, subst, ap, ◌∙◌}
use Rattle.std.specs.List.{Contains}
use Rattle.std.specs.BTreeMap.{BTreeMap}
use Rattle.mencius_base.specs.declared.command.Command.{Command}
use Rattle.mencius_base.specs.declared.command.CommandId.{CommandId}
use Rattle.mencius_judge.specs.declared.timeline.Timeline.{Timeline}
use Rattle.mencius_log.specs.declared.observation.Observation.TheVariants.{Submit}
use Rattle.mencius_judge.specs.Log.{Log, command_of, commands_of}
use Rattle.mencius_judge.specs.Promises.{AreOneCommand}
use Rattle.mencius_judge.specs.Tables.{IsOrder}
use Rattle.mencius_judge.specs.Timelines.{AreTimelines}
use Rattle.mencius_judge.proofs.promises.Logs.{command_found, command_known, kept_commands}
use Rattle.mencius_judge.proofs.observations.Steps.{one_submit}

-- submitting the same command again keeps the promise OneCommand
pub again_one : (w : Log) (c d : Command) → AreOneCommand w → command_of w c.id ≡ Some d → d.op ≡ c.op
    → AreOneCommand (Submit c ∷ w)
again_one w c d h found ops =
    one_submit w c h (λ x there ids. sym same ∙ h d x at.0 there (at.1 ∙ ids))
  where
    at : Contains w (Submit d) × (d.id ≡ c.id)
    at = command_found w c.id d found

    same : d ≡ c
    same =
        let ids : d.id ≡ c.id = at.1 in
        let build : CommandId → Command = λ id. record { id = id; op = d.op } in
        ap build ids ∙ ap (λ op. record { id = c.id; op = op }) ops

-- submitting a command with a new identity keeps the promise OneCommand
pub new_one : (w : Log) (c : Command) → AreOneCommand w → command_of w c.id ≡ None → AreOneCommand (Submit c ∷ w)
new_one w c h none =
    one_submit w c h (λ x there ids.
    let known : is_some (command_of w x.id) ≡ true = command_known w x there in
    let empty : command_of w x.id ≡ None = ap (command_of w) (sym ids) ∙ none in
    absurd (cc))

pub timelines_submit : (w : Log) (c : Command) (order : List CommandId) (by_key : BTreeMap (String Global) Timeline)
    → IsOrder w order → AreTimelines (commands_of w order) by_key → AreTimelines (commands_of (Submit c ∷ w) order) by_key
timelines_submit w c order by_key facts h =
    subst (λ cs. AreTimelines cs by_key) (sym (kept_commands w c order facts.known)) h
