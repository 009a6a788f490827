-- The command that a line of a log submits.
use Rattle.std.proofs.Common.{◌≡◌, ℕ, ◌+◌, List, ◌∷◌, Option, Some, None, slice_get, take, reverse, refl, subst, ap, ◌∙◌}
use Rattle.mencius_base.specs.declared.command.Command.{Command}
use Rattle.mencius_base.specs.declared.command.CommandId.{CommandId}
use Rattle.mencius_log.specs.declared.observation.Observation.{Observation}
use Rattle.mencius_log.specs.declared.observation.Observation.TheVariants.{Submit, Execute, Reply, Lookup, Tell, Settle, Restore}
use Rattle.mencius_judge.specs.Log.{Log, command_of}
use Rattle.mencius_judge.proofs.promises.Logs.{new_command, other_command}
use Rattle.mencius_clients.specs.Configurations.{submitted_by}
use Rattle.mencius_clients.proofs.Explaining.{part_more, whole_at}
use Rattle.mencius_clients.proofs.Later.{command_later}

submits : (o : Option Observation) (c : Command) → submitted_by o ≡ Some c → o ≡ Some (Submit c)
submits None c e = absurd (cc)
submits (Some (Submit d)) c e = let same : d ≡ c = cc (e) in ap (λ x. Some (Submit x)) same
submits (Some (Execute p x)) c e = absurd (cc)
submits (Some (Reply x a)) c e = absurd (cc)
submits (Some (Lookup r key x)) c e = absurd (cc)
submits (Some (Tell r p)) c e = absurd (cc)
submits (Some (Settle p)) c e = absurd (cc)
submits (Some (Restore p q n)) c e = absurd (cc)

-- the first command with an identity
pub command_here : (log : List Observation) (n : ℕ) (id : CommandId) (c : Command)
    → submitted_by (slice_get log n) ≡ Some c → c.id ≡ id → command_of (reverse (take n log)) id ≡ None
    → command_of (reverse log) id ≡ Some c
command_here log n id c e same none =
    let u : Log = reverse (take n log) in
    let whole = whole_at log n (Submit c) (submits (slice_get log n) c e) in
    let new : command_of (Submit c ∷ u) c.id ≡ Some c = new_command u c (ap (command_of u) same ∙ none) in
    ap (λ w. command_of w id) whole.1
    ∙ command_later whole.0 (Submit c ∷ u) id c (subst (λ x. command_of (Submit c ∷ u) x ≡ Some c) same new)

still_none : (u : Log) (o : Observation) (id : CommandId)
    → ((c : Command) → submitted_by (Some o) ≡ Some c → c.id ≡ id → ⊥) → command_of u id ≡ None
    → command_of (o ∷ u) id ≡ None
still_none u (Submit c) id other none = other_command u c id (λ same. other c refl same) ∙ none
still_none u (Execute p x) id other none = none
still_none u (Reply x a) id other none = none
still_none u (Lookup r key x) id other none = none
still_none u (Tell r p) id other none = none
still_none u (Settle p) id other none = none
still_none u (Restore p q n) id other none = none

pub command_further : (log : List Observation) (n : ℕ) (id : CommandId) (o : Observation) → slice_get log n ≡ Some o
    → ((c : Command) → submitted_by (slice_get log n) ≡ Some c → c.id ≡ id → ⊥)
    → command_of (reverse (take n log)) id ≡ None → command_of (reverse (take (n + 1) log)) id ≡ None
command_further log n id o at other none =
    ap (λ w. command_of w id) (part_more log n o at)
    ∙ still_none (reverse (take n log)) o id (λ c e same. other c (ap submitted_by at ∙ e) same) none
