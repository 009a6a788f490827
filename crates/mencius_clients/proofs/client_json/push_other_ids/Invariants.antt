use Rattle.std.proofs.Common.{◌≡◌, ◌∷◌, ◌++◌, flat_map, string_bytes, take}
use Rattle.mencius_clients.specs.ClientJson.{quoted_id}
use Rattle.mencius_clients.proofs.client_json.push_other_ids.Given as goal

abbrev pub invariant-loop-id : goal.invariant-loop-id
invariant-loop-id l =
    string_bytes l.text ≡ string_bytes l.initial.text ++ flat_map (λ x. 44 ∷ quoted_id x) (take l.id-index l.ids)
