use Rattle.std.proofs.Common.{◌≡◌, ℕ, ◌<◌, List, Option, Some, None, set, ⊎_elim, refl, sym, ◌∙◌, ap, subst}
use Rattle.mencius_base.specs.declared.message.Value.TheVariants.{Ticket}
use Rattle.coord_paxos.specs.SlotState.{SlotState}
use Rattle.std.proofs.lemmas.Bool.{cases_eq}
use Rattle.mencius_base.specs.Limits.{instance_count}
use Rattle.mencius_base.specs.Members.{Membership}
use Rattle.mencius_server.specs.Instances.{InstancesState, instance_slot_in, with_instance_slot}
use Rattle.mencius_server.specs.Slots.{stored_at}
use Rattle.mencius_server.specs.Tallies.{IsInstancesInside}
use Rattle.mencius_server.specs.declared.skipped_intervals.Interval.{Interval}
use Rattle.mencius_server.specs.declared.tally.Tally.{Tally}
use Rattle.mencius_server.proofs.stored.StoredInstances.{at_here, at_off, instance_there, seen_stored, some_there, stored_slot, written_quiet, written_shows}
use Rattle.mencius_server.proofs.tallies.OneTally.{IsAlike, alike_same}
use Rattle.mencius_server.proofs.tallies.InstanceTallies.{counts_kept}
use Rattle.mencius_server.proofs.instances.Instances.suggest.Goals as goal

pub at-requires-clause-there : goal.at-requires-clause-there
at-requires-clause-there c =
    some_there _ (sym
    (seen_stored _ _ _ _ c.self.view_is c.args.inst c.requires.small) ∙ c.in_ok-store.ensures.there)

pub suggest-requires-clause-unsaid : goal.suggest-requires-clause-unsaid
suggest-requires-clause-unsaid c =
    subst (λ (s : SlotState). s.proposal ≡ None)
    (stored_slot _ _ _ _ _ c.args.inst _ c.self.view_is c.in_ok-store.ensures.ok c.requires.small c.at.ensures.value)
    c.requires.unsaid

pub suggest-requires-clause-own : goal.suggest-requires-clause-own
suggest-requires-clause-own c =
    subst (λ (s : SlotState). s.trying ≡ 0)
    (stored_slot _ _ _ _ _ c.args.inst _ c.self.view_is c.in_ok-store.ensures.ok c.requires.small c.at.ensures.value)
    c.requires.own

-- A slot counts the same with a proposal as without it.
alike : (m : Membership) (s x : SlotState) (t : ℕ) → x ≡ record s { proposal = Some (Ticket t) } → IsAlike m s x
alike m s x t e = rw e (record { open_count = refl; spent_count = refl })

-- The fields of the instances still fit together after a proposal is written to a slot.
kept : (m : Membership) (slots : List (Option SlotState)) (rs : List (List Interval)) (low i t : ℕ)
    (tallies : List Tally)
    (ends : List ℕ) (x y : SlotState) → i < instance_count → stored_at slots i ≡ Some x → y ≡ record x {
      proposal =
          Some (Ticket t);
    }
    → IsInstancesInside m slots rs low tallies ends → IsInstancesInside m (set slots i (Some y)) rs low tallies ends
kept m slots rs low i t tallies ends x y small there is h =
    counts_kept m slots (set slots i (Some y)) rs rs low low tallies ends
    (written_quiet m slots (set slots i (Some y)) rs i x y there refl low small
    (ap (λ (s : SlotState). s.learned) is) h.sound)
    (λ j l. ⊎_elim
    (λ (at : j ≡ i).
    subst (λ s. IsAlike m s (instance_slot_in m (set slots i (Some y)) rs j))
    (sym (ap (instance_slot_in m slots rs) at ∙ instance_there m slots rs i x there))
    (subst (IsAlike m x) (sym (at_here m slots (set slots i (Some y)) rs i x y there refl j at)) (alike m x y t is)))
    (λ (off : j ≡ i → ⊥).
    alike_same m _ _ (sym (at_off m slots (set slots i (Some y)) rs i x y there refl j off)))
    (cases_eq j i))
    h

pub invariant_of-self : goal.invariant_of-self
invariant_of-self c =
    kept c.self.inside.stored.members c.self.inside.stored.slots c.self.inside.stored.skipped.items
    c.self.inside.learned_below c.args.inst
    c.args.ticket c.self.inside.tallies c.self.inside.learned_intervals c.at.result.now c.suggest.new.self
    c.requires.small c.at.ensures.value
    c.suggest.ensures c.self.invariant

pub returns-clause-ok : goal.returns-clause-ok
returns-clause-ok c =
    written_shows c.self.inside.stored.members c.self.inside.stored.slots
    (set c.self.inside.stored.slots c.args.inst (Some c.suggest.new.self)) c.self.inside.stored.skipped.items
    c.args.inst
    c.at.result.now c.suggest.new.self c.at.ensures.value refl c.store.new.self c.self.view_is
    ∙ ap (λ (x : InstancesState). record x { slots = set x.slots c.args.inst c.suggest.new.self })
    c.in_ok-store.ensures.ok
    ∙ ap (with_instance_slot c.args.self.now c.args.inst) (c.suggest.ensures
    ∙ ap (λ (s : SlotState). record s { proposal = Some (Ticket c.args.ticket) })
    (sym (stored_slot _ _ _ _ _ c.args.inst _ c.self.view_is c.in_ok-store.ensures.ok c.requires.small
    c.at.ensures.value)))
