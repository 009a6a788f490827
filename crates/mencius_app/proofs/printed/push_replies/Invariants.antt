use Rattle.mencius_app.proofs.Words.{◌≡◌, ◌++◌, string_bytes, take, flat_map, trace_of, reply_of, submitted_commands, answer_line}
use Rattle.mencius_app.proofs.printed.push_replies.Given as goal

abbrev pub invariant-loop-ticket : goal.invariant-loop-ticket
invariant-loop-ticket l =
    string_bytes l.text ≡ string_bytes l.initial.text
    ++ flat_map (λ x. answer_line x.0.id (reply_of (trace_of l.cluster) x.0.id))
    (take l.ticket (submitted_commands (trace_of l.cluster)))
