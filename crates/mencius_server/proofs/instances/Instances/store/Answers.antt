use Rattle.std.proofs.Common.{ℕ, Some, cond, eqb, sym, ◌∙◌, ap}
use Rattle.mencius_server.specs.Instances.{slot_by_skip}
use Rattle.mencius_server.specs.Slots.{stored_at}
use Rattle.mencius_server.proofs.stored.StoredInstances.{none_there, seen_stored, store_same, store_shows, store_sound, stored_already, stored_has}
use Rattle.mencius_server.proofs.tallies.OneTally.{alike_same}
use Rattle.mencius_server.proofs.tallies.InstanceTallies.{counts_kept, unchanged}
use Rattle.mencius_server.proofs.instances.Instances.store.Goals as goal

pub returns-then-has_slot-clause-ok : goal.returns-then-has_slot-clause-ok
returns-then-has_slot-clause-ok c =
    stored_already _ _ _ _ c.args.inst c.self.view_is (sym c.has_slot.ensures ∙ c.if-has_slot.true)

pub returns-then-has_slot-clause-there : goal.returns-then-has_slot-clause-there
returns-then-has_slot-clause-there c =
    seen_stored _ _ _ _ c.self.view_is c.args.inst c.requires ∙ sym c.has_slot.ensures ∙ c.if-has_slot.true

pub invariant_of-self : goal.invariant_of-self
invariant_of-self c = unchanged _ _ _ _ _ _ _ c.in_err-store.ensures.err c.self.invariant

pub invariant_of-self-2 : goal.invariant_of-self-2
invariant_of-self-2 c =
    let gone = none_there (stored_at c.self.inside.stored.slots c.args.inst) c.has_slot.result c.has_slot.ensures
    c.if-has_slot.false in
    let stored =
    λ (j : ℕ). c.in_ok-store.ensures.ok j
    ∙ ap (λ bit. cond (eqb j c.args.inst) (Some (slot_by_skip c.self.inside.stored.members bit))
    (stored_at c.self.inside.stored.slots j))
    c.is_skipped-was_skipped.ensures in
    counts_kept _ _ _ _ _ _ _ _ _
    (store_sound _ _ _ _ _ gone stored c.self.inside.learned_below c.self.invariant.sound)
    (λ j small. alike_same _ _ _
    (sym (store_same c.self.inside.stored.members _ _ c.self.inside.stored.skipped.items _ gone stored j)))
    c.self.invariant

pub returns-clause-ok : goal.returns-clause-ok
returns-clause-ok c =
    let gone = none_there (stored_at c.self.inside.stored.slots c.args.inst) c.has_slot.result c.has_slot.ensures
    c.if-has_slot.false in
    store_shows _ _ _ _ _ gone
    (λ j. c.in_ok-store.ensures.ok j
    ∙ ap (λ bit. cond (eqb j c.args.inst) (Some (slot_by_skip c.self.inside.stored.members bit))
    (stored_at c.self.inside.stored.slots j)) c.is_skipped-was_skipped.ensures) c.args.self.now c.self.view_is

pub returns-clause-there : goal.returns-clause-there
returns-clause-there c =
    stored_has c.self.inside.stored.members _ _ c.self.inside.stored.skipped.items _ c.requires _
    c.in_ok-store.ensures.ok
