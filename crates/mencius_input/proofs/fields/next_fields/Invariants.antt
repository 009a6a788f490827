use Rattle.std.proofs.Common.{length}
use Rattle.serde_json.specs.Data.{Members}
use Rattle.mencius_input.specs.FieldValues.{AreFieldValues}
use Rattle.mencius_json.proofs.NextValues.{MembersSoFar}
use Rattle.mencius_input.proofs.fields.next_fields.Given as goal

abbrev pub invariant-fields : goal.invariant-fields
invariant-fields l =
    (found : Members) × MembersSoFar l.depth l.initial.reader l.reader found × AreFieldValues l.kind l.fields found

abbrev pub decreases-fields : goal.decreases-fields
decreases-fields l = length l.reader
