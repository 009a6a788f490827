-- The names of other crates that the proofs cite, passed on from one place.
pub use Rattle.std.proofs.Common.{Bool, Err, Global, IfErr, IfOk, IfSome, List, None, Ok, Option, Result, Some, String, [], ap, append-nil, append_assoc, ap₂, arith, codes, cond, false, fold, get_or, inl, inr, is_none, is_some, length, map, not, option_map, refl, replicate, rules, set, string_bytes, subst, suc, sym, take, true, vec_len, zero, ℕ, ⊎_elim, ◌&&◌, ◌++◌, ◌+◌, ◌<◌, ◌^◌, ◌∙◌, ◌∷◌, ◌≡◌, ◌≢◌, ◌≤◌, ◌⊎◌}
pub use Rattle.std.specs.Prelude.{Contains, OnErr, OnOk, option_to_list, vec_items}
pub use Rattle.clap.specs.Words.{IsAmong, Text, kind_of}
pub use Rattle.mencius_base.specs.Members.{Membership, numbers_below}
pub use Rattle.mencius_base.specs.Plan.{PlanState}
pub use Rattle.mencius_base.specs.declared.command.Command.{Command}
pub use Rattle.mencius_base.specs.declared.event.Event.{Event}
pub use Rattle.mencius_base.specs.declared.refusal.Refusal.{Refusal}
pub use Rattle.mencius_board.specs.Boards.{BoardState, longest_of, new_board}
pub use Rattle.mencius_board.specs.Runs.{HasRun, IsRun, Way, no_board}
pub use Rattle.mencius_choices.specs.Choices.{ChooserState, first_chooser}
pub use Rattle.mencius_cluster.specs.State.{ClusterState, new_cluster, trace_of}
pub use Rattle.mencius_command_line.specs.CommandLine.{TaskState, are_texts, asked_judge, bytes_of, faults, line_of, task_in, task_state}
pub use Rattle.mencius_format.specs.ValuesOrFaults.{FailsBy, value_or_fault}
pub use Rattle.mencius_input.specs.Kinds.{has_run_field, is_crowded, kind_in, kind_said}
pub use Rattle.mencius_input.specs.Plan.{is_plan_within, plan, plan_read, run_names}
pub use Rattle.mencius_input.specs.Scenario.{is_scenario_within, is_within_limits, json_of, scenario, scenario_of, written_of}
pub use Rattle.mencius_input.specs.declared.kind.Kind.{Kind}
pub use Rattle.mencius_input.specs.declared.kind.Kind.TheVariants.{Replay, Run}
pub use Rattle.mencius_input.specs.declared.scenario.Scenario.{Scenario}
pub use Rattle.mencius_io.specs.Streams.{HasFailed, StreamState, TakesAtMost, WritesFront, most_bytes, most_failed_calls, most_failures}
pub use Rattle.mencius_io.specs.declared.failure.Failure.{Failure}
pub use Rattle.mencius_io.specs.declared.fault.IoFault.{IoFault}
pub use Rattle.mencius_io.specs.declared.fault.IoFault.TheVariants.{BadLimit, BadShape, NoMemory, NotJson, ReadFailed, WriteFailed}
pub use Rattle.mencius_model.specs.Executed.{history}
pub use Rattle.mencius_model.specs.KeyMap.{KeyMap, apply, map_after, value_at}
pub use Rattle.mencius_model.specs.Next.{next, replay, replay_from, replay_on}
pub use Rattle.mencius_model.specs.Outcomes.{accepted_from, outcomes_from, trace_from}
pub use Rattle.mencius_model.specs.Replies.{command_at, commands_of, longest_commands, reply_of}
pub use Rattle.mencius_model.specs.Trace.{Trace, submitted_commands}
pub use Rattle.mencius_trace.proofs.TextLoops.{texts_further}
pub use Rattle.mencius_trace.specs.LastLines.{events_text, trace_text}
pub use Rattle.mencius_trace.specs.Words.{answer_line, ticket_text}
pub use Rattle.serde_json.specs.Data.{Data}
pub use Rattle.std.proofs.lemmas.Bool.{cases_eq, le-ltb}
pub use Rattle.std.proofs.lemmas.Grind.{get_or-set_at}
pub use Rattle.std.proofs.lemmas.List.{get_or-replicate, get_or-set_other, get_or_default, length-append, take_all}
pub use Rattle.std.proofs.lemmas.List.Sums.{fold-append}
pub use Rattle.std.proofs.lemmas.Option.{IfSome_then, get_or_from_slice_get, slice_get_within}
pub use Rattle.std.proofs.lemmas.Result.{err_from_is_err_and}
pub use Rattle.std.specs.Io.KnownBytes.{Appends, Keeps}
pub use Rattle.std.specs.List.{enumerate_from, flat_map, list_all, range_with_len}
pub use Rattle.std.specs.Option.{option_map_or}
pub use Rattle.std.specs.Result.{IsErrAnd, result_err, result_unwrap_or}
pub use mathlib.Core.List.{IsPrefix}
