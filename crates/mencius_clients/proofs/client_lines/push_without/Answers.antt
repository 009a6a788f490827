use Rattle.std.proofs.Common.{arith, string_bytes}
use Rattle.mencius_verdict.proofs.GrownTexts.{last_char, with_piece}
use Rattle.mencius_clients.specs.ClientLines.{without_text}
use Rattle.mencius_clients.proofs.client_lines.push_without.Goals as goal

pub returns : goal.returns
returns c =
    with_piece _ (string_bytes c.args.text.now) (without_text c.args.number c.args.key.now) _ _ _
    c.in_ok-push_without_text.ensures
    (last_char c.push.result (string_bytes c.push_without_text.new.text) _ _ _ (c.push.ensures.ascii (omega arith))
    c.push.ensures.bytes)
