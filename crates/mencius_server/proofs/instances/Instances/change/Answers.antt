use Rattle.std.proofs.Common.{◌≡◌, ℕ, List, Option, Some, set, cond, eqb, refl, sym, ◌∙◌, ap, subst, false, arith}
use Rattle.std.specs.Prelude.{is_none}
use Rattle.coord_paxos.specs.SlotState.{SlotState}
use Rattle.mencius_server.specs.Changes.{IsSaid, slot_after_change}
use Rattle.mencius_base.specs.Members.{Membership, owner}
use Rattle.mencius_server.specs.Instances.{AreSlotsAndSkips, InstancesState, instance_slot, instance_slot_in, instances_in, with_instance_slot, with_stored}
use Rattle.mencius_server.specs.Slots.{stored_at}
use Rattle.mencius_server.specs.Tallies.{HasCounted, IsInstancesInside, tally_after, tally_of}
use Rattle.mencius_server.specs.declared.tally.Tally.{Tally}
use Rattle.mencius_server.specs.declared.change.Change.{Change}
use Rattle.mencius_server.specs.declared.skipped_intervals.Interval.{Interval}
use Rattle.mencius_server.proofs.stored.StoredInstances.{at_here, at_off, change_learned, instance_there, seen_stored, some_there, stored_slot, written_shows, written_sound, written_sound_from}
use Rattle.mencius_server.proofs.tallies.OneTally.{has_counted}
use Rattle.mencius_server.proofs.tallies.InstanceTallies.{counts_after}
use Rattle.mencius_server.proofs.instances.Instances.change.Goals as goal

pub at-slot-requires-clause-there : goal.at-slot-requires-clause-there
at-slot-requires-clause-there c =
    some_there _ (sym
    (seen_stored _ _ _ _ c.self.view_is c.args.inst c.requires.small) ∙ c.in_ok-store.ensures.there)

pub change-requires-clause-said : goal.change-requires-clause-said
change-requires-clause-said c =
    subst (λ (s : SlotState). IsSaid s.members c.args.change)
    (stored_slot c.self.inside.stored.members c.self.inside.stored.slots c.self.inside.stored.skipped.items
    c.args.self.now
    c.store.new.self c.args.inst c.at-slot.result.now c.self.view_is c.in_ok-store.ensures.ok c.requires.small
    c.at-slot.ensures.value) c.requires.said

-- A learned slot stays learned after a change.
stays : (s x : SlotState) (ch : Change) → x ≡ slot_after_change s ch → is_none s.learned ≡ false
    → is_none x.learned ≡ false
stays s x ch made h = rw made (change_learned s ch h)

-- After the change, callers see the earlier instances with the changed slot.
shows : (m : Membership) (slots : List (Option SlotState)) (rs : List (List Interval)) (i : ℕ)
    (old stored : InstancesState) (s x : SlotState) (ch : Change)
    → stored_at slots i ≡ Some s → instances_in m slots rs ≡ stored → stored ≡ with_stored old i
    → instance_slot old i ≡ s
    → x ≡ slot_after_change s ch
    → instances_in m (set slots i (Some x)) rs ≡ with_instance_slot old i (slot_after_change (instance_slot old i) ch)
shows m slots rs i old stored s x ch there shown ok is made =
    written_shows m slots (set slots i (Some x)) rs i s x there refl stored shown
    ∙ ap (λ (z : InstancesState). record z { slots = set z.slots i x }) ok
    ∙ ap (with_instance_slot old i) (made ∙ ap (λ (y : SlotState). slot_after_change y ch) (sym is))

pub change-requires-clause-counted : goal.change-requires-clause-counted
change-requires-clause-counted c = λ less.
    let m = c.self.inside.stored.members in
    let tally = tally_of c.self.inside.tallies (owner m c.args.inst) in
    subst (λ (s : SlotState). HasCounted m tally s)
    (instance_there m c.self.inside.stored.slots c.self.inside.stored.skipped.items c.args.inst c.at-slot.result.now
    c.at-slot.ensures.value)
    (has_counted m (instance_slot_in m c.self.inside.stored.slots c.self.inside.stored.skipped.items) (owner m
    c.args.inst)
    c.args.inst
    tally refl
    (c.self.invariant.counted (owner m c.args.inst)) less)

-- The fields of the instances still fit together after the slot is written and its owner's tally is updated.
kept : (m : Membership) (slots : List (Option SlotState)) (rs : List (List Interval)) (low next i : ℕ)
    (tallies more : List Tally) (ends : List ℕ) (s x : SlotState) → stored_at slots i ≡ Some s
    → (is_none s.learned ≡ false → is_none x.learned ≡ false)
    → ((q : ℕ) → tally_of more q
    ≡ cond (eqb q (owner m i)) (tally_after m i (tally_of tallies q) s x) (tally_of tallies q))
    → AreSlotsAndSkips m (set slots i (Some x)) rs next → IsInstancesInside m slots rs low tallies ends
    → IsInstancesInside m (set slots i (Some x)) rs next more ends
kept m slots rs low next i tallies more ends s x there stays moves sound h =
    counts_after m slots (set slots i (Some x)) rs low next i tallies more ends s x
    (instance_there m slots rs i s there)
    (at_here m slots (set slots i (Some x)) rs i s x there refl i refl)
    (λ j off. sym (at_off m slots (set slots i (Some x)) rs i s x there refl j off)) stays moves sound h

pub invariant_of-self : goal.invariant_of-self
invariant_of-self c =
    kept c.self.inside.stored.members c.self.inside.stored.slots c.self.inside.stored.skipped.items
    c.self.inside.learned_below _ c.args.inst
    c.self.inside.tallies c.change.new.self c.self.inside.learned_intervals c.at-slot.result.now c.change.new.slot
    c.at-slot.ensures.value
    (stays c.at-slot.result.now c.change.new.slot c.args.change c.change.ensures.slot) c.change.ensures.counted
    (written_sound_from c.self.inside.stored.members c.self.inside.stored.slots
    (set c.self.inside.stored.slots c.args.inst (Some c.change.new.slot)) c.self.inside.stored.skipped.items c.args.inst
    c.at-slot.result.now c.change.new.slot c.at-slot.ensures.value refl
    c.self.inside.learned_below c.learned_from-self-inside.result c.requires.small
    (stays c.at-slot.result.now c.change.new.slot c.args.change c.change.ensures.slot)
    c.learned_from-self-inside.ensures.small
    (λ j low high. c.learned_from-self-inside.ensures.learned j (omega (arith, low, c.if-inst-self.true)) high)
    c.learned_from-self-inside.ensures.least c.self.invariant.sound) c.self.invariant

pub invariant_of-self-else-inst-self : goal.invariant_of-self-else-inst-self
invariant_of-self-else-inst-self c =
    kept c.self.inside.stored.members c.self.inside.stored.slots c.self.inside.stored.skipped.items
    c.self.inside.learned_below _ c.args.inst
    c.self.inside.tallies c.change.new.self c.self.inside.learned_intervals c.at-slot.result.now c.change.new.slot
    c.at-slot.ensures.value
    (stays c.at-slot.result.now c.change.new.slot c.args.change c.change.ensures.slot) c.change.ensures.counted
    (written_sound c.self.inside.stored.members c.self.inside.stored.slots
    (set c.self.inside.stored.slots c.args.inst (Some c.change.new.slot)) c.self.inside.stored.skipped.items c.args.inst
    c.at-slot.result.now c.change.new.slot c.at-slot.ensures.value refl
    c.self.inside.learned_below c.requires.small (stays c.at-slot.result.now c.change.new.slot c.args.change
    c.change.ensures.slot)
    (λ e. c.if-inst-self.false (sym e)) c.self.invariant.sound) c.self.invariant

pub returns-then-inst-self-clause-ok : goal.returns-then-inst-self-clause-ok
returns-then-inst-self-clause-ok c =
    shows _ _ _ _ _ _ _ _ _ c.at-slot.ensures.value c.self.view_is c.in_ok-store.ensures.ok
    (stored_slot c.self.inside.stored.members c.self.inside.stored.slots c.self.inside.stored.skipped.items
    c.args.self.now
    c.store.new.self c.args.inst c.at-slot.result.now c.self.view_is c.in_ok-store.ensures.ok c.requires.small
    c.at-slot.ensures.value) c.change.ensures.slot

pub returns-else-inst-self-clause-ok : goal.returns-else-inst-self-clause-ok
returns-else-inst-self-clause-ok c =
    shows _ _ _ _ _ _ _ _ _ c.at-slot.ensures.value c.self.view_is c.in_ok-store.ensures.ok
    (stored_slot c.self.inside.stored.members c.self.inside.stored.slots c.self.inside.stored.skipped.items
    c.args.self.now
    c.store.new.self c.args.inst c.at-slot.result.now c.self.view_is c.in_ok-store.ensures.ok c.requires.small
    c.at-slot.ensures.value) c.change.ensures.slot
