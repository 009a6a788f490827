use Rattle.std.proofs.Common.{length, map}
use Rattle.mencius_format.specs.Grammar.{newest_version}
use Rattle.mencius_input.specs.Newest.{command_item_version, list_version}
use Rattle.mencius_input.specs.ItemFaults.{items_or_fault}
use Rattle.mencius_input.specs.Plan.{commands_read}
use Rattle.mencius_input.specs.FieldValues.{are_lists_within}
use Rattle.mencius_input.proofs.lists.ListItems.{ListSoFar}
use Rattle.mencius_input.proofs.commands.lists_in.Given as goal

abbrev pub invariant-items : goal.invariant-items
invariant-items l =
    ListSoFar (commands_read newest_version) are_lists_within (list_version command_item_version) l.depth l.initial.reader
    l.reader
    (items_or_fault (map (λ list. list.items) l.lists.items) l.fault) l.version

abbrev pub decreases-items : goal.decreases-items
decreases-items l = length l.reader
