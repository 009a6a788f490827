-- A judge may go to another thread with its pointer, because a judge may, and any thread may free a block of the heap.
use mir.Raw.{raw}
use base.Shift.{Keyless}
use denote.Memory.{lone}
use denote.Param.Send.{IsSend, sendable}
use denote.Param.SendFields.{declared_send}
use denote.RawPtr.{Ptr}
use Rattle.std.specs.Prelude.{Option, Some, None}
use Rattle.std.proofs.Crossing.{Vec-send, frees}
use Rattle.std.proofs.option.Option.TheSendSync as option
use Rattle.std_alloc.proofs.SendSync.{lies}
use Rattle.mencius_judge.proofs.log_reader.LogReader.TheSendSync as reader
use Rattle.mencius_exports.specs.Holdings.{heap, held_owns}
use Rattle.mencius_exports.specs.declared.log_judge.LogJudge.{LogJudge}
use Rattle.mencius_exports.specs.contracts.call.Called as called
use Rattle.mencius_exports.specs.contracts.log_judge.LogJudge as judging
use Rattle.mencius_exports.specs.contracts.held.Held.{the_row}

called_send : IsSend called.the_row
called_send = search (sendable, Vec-send) depth 20

judging_send : IsSend judging.the_row
judging_send = declared_send judging.the_type (
  search sendable,
  (search sendable, (reader.the_send, (option.the_send called.the_row called_send, tt))),
)

held_keyless : (p : Ptr) (x : Option LogJudge) → Keyless (held_owns judging.the_row p x)
held_keyless p None = tt
held_keyless p (Some x) = (lies judging.the_row judging_send p x, frees.frees heap (raw (lone judging.the_row.mir)) p)

pub send : IsSend the_row
send = record {
  owned = λ h vs. ((λ vss. (tt, (tt, tt))), held_keyless h.at h.value);
  leaving = λ k x w. tt;
}
