use Rattle.std.proofs.Common.{string_bytes}
use Rattle.mencius_trace.specs.Json.{progress_json}
use Rattle.mencius_trace.proofs.GrownTexts.{last_piece, with_piece}
use Rattle.mencius_trace.proofs.json.push_progress.Goals as goal

pub returns : goal.returns
unfolding progress_json
returns c =
    with_piece _ (string_bytes c.args.text.now) _ _ _ _ c.in_ok-push_server_start.ensures
    (with_piece _ (string_bytes c.push_server_start.new.text) _ _ _ _ c.in_ok-push_front_field.ensures
    (with_piece _ (string_bytes c.push_front_field.new.text) _ _ _ _ c.in_ok-push_done_fields.ensures
    (last_piece c.push_str.result (string_bytes c.push_done_fields.new.text) _ _ c.push_str.ensures.bytes)))
