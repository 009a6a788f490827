use Rattle.mencius_app.proofs.Words.{◌≡◌, ◌++◌, map, string_bytes, take, flat_map}
use Rattle.mencius_app.specs.Check.{count_text}
use Rattle.mencius_app.proofs.checks.push_list_counts.Given as goal

abbrev pub invariant-loop-list : goal.invariant-loop-list
invariant-loop-list l =
    string_bytes l.line ≡ string_bytes l.initial.line
    ++ flat_map count_text (map (λ x. x.items) (take l.list-index l.lists))
