use Rattle.std.proofs.Common.{◌≡◌, ℕ, take}
use Rattle.std.specs.List.{list_any}
use Rattle.mencius_cluster.specs.MessageBits.{has_bit_in}
use Rattle.mencius_trace.specs.Settled.{is_settled_by_entry}
use Rattle.mencius_trace.proofs.unheard.settled.Given as goal

abbrev pub invariant-loop-entry : goal.invariant-loop-entry
invariant-loop-entry l =
    (k p : ℕ) → has_bit_in l.marks k p ≡ list_any (is_settled_by_entry k p) (take l.entry-index l.entry-items)
