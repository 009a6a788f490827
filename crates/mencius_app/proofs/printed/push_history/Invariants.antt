use Rattle.mencius_app.proofs.Words.{◌≡◌, ◌∷◌, ◌++◌, take, string_bytes, flat_map, trace_of, ticket_text}
use Rattle.mencius_app.proofs.printed.push_history.Given as goal

abbrev pub invariant-loop-ticket : goal.invariant-loop-ticket
invariant-loop-ticket l =
    string_bytes l.text ≡ string_bytes l.initial.text
    ++ flat_map (λ t. 32 ∷ ticket_text (trace_of l.cluster) t) (take l.ticket-index l.tickets)
