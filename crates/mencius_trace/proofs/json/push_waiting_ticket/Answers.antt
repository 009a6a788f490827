use Rattle.std.proofs.Common.{string_bytes}
use Rattle.mencius_trace.proofs.GrownTexts.{last_piece, with_piece}
use Rattle.mencius_trace.proofs.json.push_waiting_ticket.Goals as goal

pub returns : goal.returns
returns c =
    with_piece _ (string_bytes c.args.text.now) _ _ _ _ c.in_ok-push_str.ensures.bytes
    (with_piece _ (string_bytes c.push_str.new.self) _ _ _ _ c.in_ok-push_place.ensures
    (with_piece _ (string_bytes c.push_place.new.text) _ _ _ _ c.in_ok-push_ticket_field.ensures
    (last_piece c.push_str-2.result (string_bytes c.push_ticket_field.new.text) _ _ c.push_str-2.ensures.bytes)))
