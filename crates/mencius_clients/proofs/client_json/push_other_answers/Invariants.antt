use Rattle.std.proofs.Common.{◌≡◌, ◌∷◌, ◌++◌, flat_map, string_bytes, take}
use Rattle.mencius_clients.specs.ClientJson.{quoted_answer}
use Rattle.mencius_clients.proofs.client_json.push_other_answers.Given as goal

abbrev pub invariant-loop-answer : goal.invariant-loop-answer
invariant-loop-answer l =
    string_bytes l.text
    ≡ string_bytes l.initial.text ++ flat_map (λ x. 44 ∷ quoted_answer x) (take l.answer-index l.answers)
