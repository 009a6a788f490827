-- A step of the cluster maintains the facts that a board relies on.
use Rattle.std.proofs.Common.{◌≡◌, ◌≤◌, List, [], ◌∷◌, ◌++◌, Result, Ok, Err, IfOk, OnErr, refl, sym, subst}
use mathlib.Core.List.{IsPrefix}
use Rattle.mencius_base.specs.declared.event.Event.{Event}
use Rattle.mencius_base.specs.declared.refusal.Refusal.{Refusal}
use Rattle.mencius_base.specs.Members.{Membership}
use Rattle.mencius_model.specs.Next.{replay}
use Rattle.mencius_cluster.specs.declared.cluster.Effect.{Effect}
use Rattle.mencius_model.specs.Replies.{longest_commands}
use Rattle.mencius_cluster.specs.State.{ClusterState, IsStepped, trace_of}
use Rattle.mencius_board.specs.Boards.{IsSteady, longest_of}
use Rattle.mencius_model.proofs.trace.Prefixes.{prefix_self}

-- the facts that a board relies on hold for the cluster after an accepted event
steady_next : (x y : ClusterState) (e : Event) (f : Effect) → IsSteady x
    → IsStepped x y e f → IsSteady y
steady_next x y e f s step = record {
  some_server = subst (λ (m : Membership). 1 ≤ m.count) (sym step.members) s.some_server;
  replays = step.replays;
  grows = s.grows;
}

-- the longest history before an accepted event is a prefix of the longest history after it
longest_grows : (x y : ClusterState) (e : Event) (f : Effect) → IsSteady x
    → IsStepped x y e f → IsPrefix (longest_of x) (longest_of y)
unfolding longest_of
longest_grows x y e f s step =
    let now = subst (λ (m : Membership). replay m y.journal ≡ Ok (trace_of y)) step.members step.replays in
    let all = subst (λ (es : List Event). replay x.members es ≡ Ok (trace_of y)) step.journal now in
    let more = s.grows x.members (x.journal ++ e ∷ []) (trace_of y) (trace_of x)
    (record { some_server = s.some_server; replays = all })
    (record { before = x.journal; after = e ∷ []; splits = refl; replays = s.replays }) in
    subst (λ (m : Membership). IsPrefix (longest_commands x.members (trace_of x)) (longest_commands m (trace_of y)))
    (sym step.members) more

-- after any event, accepted or refused, a board can rely on its cluster, and the longest history has not lost a command
pub answer_grows : (x y : ClusterState) (e : Event) (r : Result Effect Refusal) → IsSteady x
    → IfOk r (IsStepped x y e) → OnErr r (y ≡ x)
    → IsSteady y × IsPrefix (longest_of x) (longest_of y)
answer_grows x y e (Ok f) s step none =
    (steady_next x y e f s step, longest_grows x y e f s step)
answer_grows x y e (Err r) s step none =
    subst (λ (z : ClusterState). IsSteady z × IsPrefix (longest_of x) (longest_of z)) (sym none)
    (s, prefix_self (longest_of x))
