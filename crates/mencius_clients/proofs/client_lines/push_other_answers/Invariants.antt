use Rattle.std.proofs.Common.{◌≡◌, ◌++◌, codes, flat_map, string_bytes, take}
use Rattle.mencius_log.specs.ObservationLines.{answer_text}
use Rattle.mencius_clients.proofs.client_lines.push_other_answers.Given as goal

abbrev pub invariant-loop-answer : goal.invariant-loop-answer
invariant-loop-answer l =
    string_bytes l.text
    ≡ string_bytes l.initial.text ++ flat_map (λ x. codes " or " ++ answer_text x) (take l.answer-index l.answers)
