use Rattle.std.proofs.Common.{length}
use Rattle.std.specs.List.{list_all}
use Rattle.mencius_format.specs.Grammar.{command_of, is_command_within, newest_version}
use Rattle.mencius_input.specs.Newest.{command_item_version}
use Rattle.mencius_input.specs.ItemFaults.{items_or_fault}
use Rattle.mencius_input.specs.Scenario.{said_by}
use Rattle.mencius_input.proofs.lists.ListItems.{ListSoFar}
use Rattle.mencius_input.proofs.commands.commands_in.Given as goal

abbrev pub invariant-items : goal.invariant-items
invariant-items l =
    ListSoFar (said_by (command_of newest_version)) (list_all is_command_within) command_item_version l.depth l.initial.reader
    l.reader (items_or_fault l.commands.items l.fault) l.version

abbrev pub decreases-items : goal.decreases-items
decreases-items l = length l.reader
