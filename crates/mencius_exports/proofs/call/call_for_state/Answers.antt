use Rattle.std.proofs.Common.{◌++◌, refl, subst, true}
use Rattle.mencius_app.specs.Ending.{lines_of_ending, status_of_ending}
use Rattle.mencius_exports.specs.Calls.{IsStateCall, ending_of_state}
use Rattle.mencius_exports.proofs.CallEnds.{ended_call}
use Rattle.mencius_exports.proofs.StateEnds.{state_ended}
use Rattle.mencius_exports.proofs.call.call_for_state.Goals as goal

pub returns : goal.returns
returns c =
    let stated = c.state in
    let ending = ending_of_state stated.result in
    let rest = c.new-source.result.rest.now in
    let out = stated.new.sink.bytes.items in
    let err_1 = c.new.result.bytes.items in
    let err = err_1 ++ lines_of_ending ending in
    let ended = rw c.ending_of_state-ending.ensures at c.end_call.ensures in
    ended_call (IsStateCall c.args.input.now) c.end_call.result (status_of_ending ending) stated.new.sink.failures
    c.new.result.failures out err true ended.whole ended.status ended.printed ended.said ended.read
    (λ none still.
    subst (λ i. IsStateCall i (status_of_ending ending) out err true) c.new-source.ensures.rest (
      ending,
      refl,
      state_ended rest stated.new.source.rest.now c.new-sink.result.bytes.items out err_1 err
          c.new-sink.result.failures stated.new.sink.failures c.new-sink.ensures.bytes c.new.ensures.bytes
          c.new-sink.ensures.none none stated.result stated.ensures.done stated.ensures.fault refl,
      refl,
    ))
