use Rattle.std.proofs.Common.{◌≡◌, ◌++◌, flat_map, string_bytes}
use Rattle.mencius_format.specs.Shown.{shown_char}
use Rattle.mencius_format.proofs.shown_text.push_front.Given as goal

abbrev pub invariant-loop-c : goal.invariant-loop-c
invariant-loop-c l = string_bytes l.words ≡ string_bytes l.initial.words ++ flat_map shown_char l.yielded
