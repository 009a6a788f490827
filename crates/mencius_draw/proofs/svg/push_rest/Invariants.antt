use Rattle.std.proofs.Common.{◌≡◌, ◌++◌, string_bytes, take}
use Rattle.mencius_draw.specs.Words.{tag_text}
use Rattle.mencius_draw.proofs.svg.push_rest.Given as goal

abbrev pub invariant-loop-byte : goal.invariant-loop-byte
invariant-loop-byte l = string_bytes l.text ≡ string_bytes l.initial.text ++ tag_text (take l.byte-index l.rest)
