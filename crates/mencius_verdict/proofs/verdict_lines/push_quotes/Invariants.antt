use Rattle.std.proofs.Common.{◌≡◌, ◌++◌, flat_map, string_bytes, take}
use Rattle.mencius_verdict.specs.VerdictLines.{quote_line}
use Rattle.mencius_verdict.proofs.verdict_lines.push_quotes.Given as goal

abbrev pub invariant-loop-quote : goal.invariant-loop-quote
invariant-loop-quote l =
    string_bytes l.text ≡ string_bytes l.initial.text ++ flat_map quote_line (take l.quote-index l.quotes)
