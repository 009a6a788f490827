use Rattle.std.proofs.Common.{◌≡◌, ◌∷◌, ◌++◌, flat_map, string_bytes, take}
use Rattle.mencius_verdict.specs.VerdictJson.{quote_json}
use Rattle.mencius_verdict.proofs.json_fields.push_others.Given as goal

abbrev pub invariant-loop-quote : goal.invariant-loop-quote
invariant-loop-quote l =
    string_bytes l.text
    ≡ string_bytes l.initial.text ++ flat_map (λ q. 44 ∷ quote_json q) (take l.quote-index l.quotes)
