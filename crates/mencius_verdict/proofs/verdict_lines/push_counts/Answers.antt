use Rattle.std.proofs.Common.{string_bytes}
use Rattle.mencius_verdict.specs.VerdictLines.{commands_text}
use Rattle.mencius_verdict.proofs.GrownTexts.{with_piece}
use Rattle.mencius_verdict.proofs.verdict_lines.push_counts.Goals as goal

pub returns : goal.returns
returns c =
    with_piece _ (string_bytes c.args.text.now) (commands_text c.args.counts.now) _ _ _ c.in_ok-write.ensures.bytes
    c.writeln.ensures.bytes
