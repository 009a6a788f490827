use Rattle.mencius_app.proofs.Words.{◌≡◌, ℕ, List, arith, rules, subst, get_or_from_slice_get, slice_get_within, Contains, trace_of, history}
use Rattle.mencius_app.proofs.printed.push_server.Goals as goal

pub push_history-requires : goal.push_history-requires
push_history-requires c = λ n t there.
    let x = c.args.cluster.now in
    let w = trace_of x in
    let xs : List ℕ = c.in-Some-history.history.now in
    let tickets : xs ≡ history w c.args.server = search rules in
    c.once.ensures.submitted x.members x.journal w
    (record { some_server = omega (arith, c.requires); replays = c.replays.ensures }) c.args.server t
    (subst (λ (ys : List ℕ). Contains ys t) tickets
    (n, slice_get_within xs n t there, get_or_from_slice_get xs n t t there))
