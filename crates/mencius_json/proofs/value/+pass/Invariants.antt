use Rattle.std.proofs.Common.{List, ◌+◌, ◌*◌, length}
use Rattle.serde_json.specs.Data.{Data, Members}
use Rattle.mencius_json.proofs.NextValues.{ItemsSoFar, MembersSoFar}
use Rattle.mencius_json.proofs.value.+pass.Given as goal

abbrev pub decreases-pass_from : goal.decreases-pass_from
decreases-pass_from l = 3 * l.depth

abbrev pub decreases-pass : goal.decreases-pass
decreases-pass l = 3 * l.depth + 1

abbrev pub decreases-pass_items : goal.decreases-pass_items
decreases-pass_items l = 3 * l.depth + 2

abbrev pub decreases-pass_members : goal.decreases-pass_members
decreases-pass_members l = 3 * l.depth + 2

abbrev pub invariant-pass_items-items : goal.invariant-pass_items-items
invariant-pass_items-items l = (read : List Data) × ItemsSoFar l.depth l.initial.reader l.reader read

abbrev pub decreases-pass_items-items : goal.decreases-pass_items-items
decreases-pass_items-items l = length l.reader

abbrev pub invariant-pass_members-members : goal.invariant-pass_members-members
invariant-pass_members-members l = (found : Members) × MembersSoFar l.depth l.initial.reader l.reader found

abbrev pub decreases-pass_members-members : goal.decreases-pass_members-members
decreases-pass_members-members l = length l.reader
