use Rattle.std.specs.Prelude.{◌≡◌, ◌++◌, drop, map, vec_items}
use Rattle.mencius_exports.specs.Calls.{words_from, words_in}
use Rattle.mencius_exports.proofs.call.arguments_in.Given as goal

abbrev pub invariant-loop-byte : goal.invariant-loop-byte
invariant-loop-byte l =
    words_in l.words ≡ map vec_items (vec_items l.arguments) ++ words_from (vec_items l.word) (drop l.byte-index l.words)
