-- The survey of a suspicion gives the cause for which the suspicion is refused.
use Rattle.std.proofs.Common.{◌≡◌, ℕ, ◌<◌, ◌≤◌, true, Some, cond, eqb, filter, sym, ◌∙◌, ap}
use Rattle.std.specs.List.{count_by, list_any}
use Rattle.std.specs.Prelude.{nat_lt}
use Rattle.std.proofs.lemmas.Bool.{ne_eqb}
use Rattle.mencius_base.specs.declared.refusal.Refusal.TheVariants.{NothingToRevoke, RoundsFull}
use Rattle.mencius_base.specs.Members.{Membership, instances}
use Rattle.mencius_base.specs.Outbox.{OutboxState, outbox_full}
use Rattle.mencius_server.specs.declared.tally.Tally.{Tally}
use Rattle.mencius_server.specs.Instances.{InstancesState, instance_slot, is_covered_stored, reach_stored}
use Rattle.mencius_server.specs.Machine.{is_spent_at, is_covered_at, next_round_of, suspect_cause}
use Rattle.mencius_server.specs.State.{ServerState}
use Rattle.mencius_server.specs.Tallies.{IsSurvey, tally_cause}
use Rattle.mencius_server.proofs.suspicions.FirstPhases.{rounds_small, suspect_cause_is}
use Rattle.mencius_server.proofs.invariant.InvariantKept.{open_count, open_rounds, spent_shown}
use Rattle.mencius_base.specs.Limits.{greatest_round, instance_count}

module _ (m : Membership) (p f : ℕ) (x : InstancesState) (now : ServerState) (q : ℕ)
    (shown : record { members = m; id = p; front = f; slots = x.slots } ≡ now) (same : x.members ≡ m)
    (reach : ℕ) (at : reach ≡ reach_stored x q f) (a : Tally) (survey : IsSurvey x q reach a) where
  count_is : a.open_count ≡ count_by (is_covered_at now q) instances
  count_is = survey.open_count ∙ open_count m p f x now q shown same reach at

  spent_is : nat_lt 0 a.spent_count ≡ list_any (is_spent_at now) (filter (is_covered_at now q) instances)
  spent_is = survey.spent_count ∙ spent_shown m p f x now q shown same reach at

  -- The cause of refusal by the server's state is the cause by the survey.
  pub cause_is : (o : OutboxState) → (p ≡ q → ⊥) → suspect_cause now o q ≡ tally_cause a o
  cause_is o other =
      suspect_cause_is now o q (eqb a.open_count 0) (nat_lt 0 a.spent_count)
      (ne_eqb now.id q (λ e. other (ap (λ (s : ServerState). s.id) shown ∙ e)))
      (ap (λ (n : ℕ). eqb n 0) (sym count_is)) (sym spent_is)
      ∙ ap (λ (n : ℕ). cond (eqb a.open_count 0) (Some NothingToRevoke)
      (cond (nat_lt 0 a.spent_count) (Some RoundsFull) (outbox_full o n)))
      (sym count_is)

  pub rounds_left : a.spent_count ≡ 0 → (j : ℕ) → j < instance_count → is_covered_stored x q reach j ≡ true
      → next_round_of x.members (instance_slot x j) ≤ greatest_round
  rounds_left room = open_rounds m p f x now q shown same reach at (rounds_small now q (sym spent_is ∙ ap (nat_lt 0) room))
