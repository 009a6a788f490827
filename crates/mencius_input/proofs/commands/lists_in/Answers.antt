use Rattle.std.proofs.Common.{◌≡◌, None, Ok, length, map, nat_lt, refl, sym, ap, ◌∙◌, arith, max}
use Rattle.std.specs.List.{list_all}
use Rattle.json.specs.Json.{after_end_array}
use Rattle.mencius_base.specs.Limits.{most_servers}
use Rattle.mencius_format.specs.Grammar.{is_command_within, newest_version}
use Rattle.mencius_format.specs.ValuesOrFaults.{map_ok}
use Rattle.mencius_input.specs.Newest.{command_item_version, list_version}
use Rattle.mencius_input.specs.Plan.{commands_read}
use Rattle.mencius_input.specs.FieldValues.{are_lists_within}
use Rattle.mencius_input.proofs.Stops.{stops_at, stops_whole}
use Rattle.mencius_input.proofs.lists.ListItems.{list_close, few_further, few_mapped, list_start, list_stop, map_ok_twice, items_mapped}
use Rattle.mencius_input.proofs.commands.lists_in.Goals as goal

pub items-init : goal.items-init
items-init c =
    list_start (commands_read newest_version) are_lists_within (list_version command_item_version) _ _ _ refl
    (ap (λ lists. Ok (map (λ list. list.items) lists)) c.new-lists.ensures.items)

pub returns-in_err-commands-clause-err : goal.returns-in_err-commands-clause-err
returns-in_err-commands-clause-err c =
    let l = c.items in
    let going : (after_end_array l.reader ≡ None) × (c.take_end_array.new.self ≡ l.reader) = grind arith in
    stops_at _ _ _ c.from_residual.ensures.1
    (stops_whole _ _ _ (λ none. list_stop l.invariant going.0 (rw (← going.1) none)) c.in_err-commands.ensures.err)

pub items-preserved : goal.items-preserved
items-preserved c =
    let l = c.items in
    let going : (after_end_array l.reader ≡ None) × (c.take_end_array.new.self ≡ l.reader) = grind arith in
    let done = c.in_ok-commands.ensures in
    let many : c.len.result ≡ length l.lists.items = grind arith in
    few_further (list_all is_command_within) most_servers _ _ l.invariant going.0 _ done.ok.0 _ _ _
    (rw (← going.1) done.shorter)
    (rw (← going.1) done.ok.1)
    (c.max-version.ensures ∙ ap (max l.version) done.ok.3)
    (sym done.ok.2)
    (few_mapped (λ list. list.items) most_servers _ _ _ _ _ _ _ c.where_room-commands.ensures
    (ap (λ n. nat_lt n most_servers) many) c.in_ok-note.ensures)

pub returns-clause-ok : goal.returns-clause-ok
returns-clause-ok c =
    let read = list_close c.items.invariant c.take_end_array.new.self (grind arith) in (
      read.0,
      read.1,
      map_ok_twice _ _ c.items_or_fault.result ∙ ap (map_ok (map (λ list. list.items))) c.items_or_fault.ensures
          ∙ items_mapped (λ list. list.items) _ _
          ∙ read.2,
      read.3,
    )
