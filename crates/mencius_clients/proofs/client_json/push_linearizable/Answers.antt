use Rattle.std.proofs.Common.{string_bytes}
use Rattle.mencius_verdict.proofs.GrownTexts.{last_piece, with_piece}
use Rattle.mencius_clients.proofs.client_json.push_linearizable.Goals as goal

pub returns : goal.returns
returns c =
    with_piece _ (string_bytes c.args.text.now) _ _ _ _ c.in_ok-push_counts.ensures
    (with_piece _ (string_bytes c.push_counts.new.text) _ _ _ _ c.in_ok-push_order_if.ensures
    (last_piece c.push_str.result (string_bytes c.push_order_if.new.text) _ _ c.push_str.ensures.bytes))
