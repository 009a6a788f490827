use Rattle.std.proofs.Common.{◌≡◌, drop}
use Rattle.mencius_draw.specs.Words.{number_from}
use Rattle.mencius_draw.proofs.words.number.Given as goal

abbrev pub invariant-loop-byte : goal.invariant-loop-byte
invariant-loop-byte l = number_from l.so_far (drop l.byte-index l.word) ≡ number_from 0 l.word
