use Rattle.std.proofs.Common.{◌≡◌, ◌++◌, ap, arith, false, rules, subst, sym, true, ◌∙◌, ⊎_elim}
use Rattle.std.proofs.lemmas.Bool.{cases_Bool}
use Rattle.mencius_server.specs.Instances.{instance_slot_in}
use Rattle.mencius_server.specs.Tallies.{IsTally, tally_of}
use Rattle.mencius_server.proofs.suspicions.SuspicionBySlots.{phase_count, phase_learned, phase_passes, phase_rounds, phase_intervals, phase_sent, phase_shows, phase_sound, phase_alike, phase_theirs}
use Rattle.mencius_server.proofs.tallies.OneTally.{alike_same, tally_alike, tally_none}
use Rattle.mencius_server.proofs.tallies.InstanceTallies.{counts_put, intervals_kept}
use Rattle.mencius_server.proofs.instances.Instances.begin_open.Goals as goal

pub begin_all-is_last-requires : goal.begin_all-is_last-requires
begin_all-is_last-requires c =
    let fewer = phase_count _ _ _ _ _ c.self.view_is c.self.invariant.sound c.args.interval.now c.requires.members
    c.requires.small c.requires.stored in
    record {
      interval = c.requires.interval;
      small = c.requires.small;
      id = search rules;
      rounds = phase_rounds _ _ _ _ _ c.self.view_is c.self.invariant.sound c.args.interval.now c.requires.members
          c.requires.small c.requires.stored c.requires.rounds;
      room = omega (arith, c.requires.room, fewer);
      learned_intervals = phase_intervals _ _ _ _ _ c.self.view_is c.self.invariant.sound c.args.interval.now
          c.requires.members c.requires.small c.requires.stored _ c.self.invariant.learned_intervals;
    }

-- The server's tally is forgotten if a first phase was in the last round. Otherwise, its instances count as before.
own_tally : (c : goal.After-forget_changed) → IsTally c.self.inside.stored.members
    (instance_slot_in c.self.inside.stored.members c.begin_all-is_last.new.self c.self.inside.stored.skipped.items)
    c.args.interval.now.server (tally_of c.forget_changed.new.self c.args.interval.now.server)
own_tally c =
    let m = c.self.inside.stored.members in
    let rs = c.self.inside.stored.skipped.items in
    let q = c.args.interval.now.server in
    let now = instance_slot_in m c.begin_all-is_last.new.self rs in
    ⊎_elim
    (λ (last : c.begin_all-is_last.result ≡ true). tally_none m now q _ (c.forget_changed.ensures.forgotten last))
    (λ (still : c.begin_all-is_last.result ≡ false).
    subst (IsTally m now q) (sym (c.forget_changed.ensures.kept still))
    (tally_alike m (instance_slot_in m c.self.inside.stored.slots rs) now q (tally_of c.self.inside.tallies q)
    (λ j small own. phase_alike _ _ _ _ _ c.self.view_is c.self.invariant.sound c.args.interval.now
    c.requires.members c.requires.small c.requires.stored c.args.id _
    c.begin_all-is_last.ensures.slots c.requires.rounds (c.begin_all-is_last.ensures.last still) j small)
    (c.self.invariant.counted q)))
    (cases_Bool c.begin_all-is_last.result)

pub invariant_of-self : goal.invariant_of-self
invariant_of-self c =
    intervals_kept _ _ _ _ _ _ _
    (phase_passes _ _ _ _ _ c.self.view_is c.self.invariant.sound c.args.interval.now c.requires.members
    c.requires.small c.requires.stored c.args.id _ c.begin_all-is_last.ensures.slots _ _
    c.begin_all-is_last.ensures.learned_intervals c.self.invariant.learned_intervals)
    (counts_put _ _ _ _ _ _ _ _ _ _ _
    (phase_sound _ _ _ _ _ c.self.view_is c.self.invariant.sound c.args.interval.now c.requires.members
    c.requires.small c.requires.stored c.args.id _ c.begin_all-is_last.ensures.slots)
    (λ j small other. alike_same _ _ _
    (sym (phase_theirs _ _ _ _ _ c.self.view_is c.self.invariant.sound c.args.interval.now c.requires.members
    c.requires.small c.requires.stored c.args.id _ c.begin_all-is_last.ensures.slots
    j small other)))
    (λ j small h. phase_learned _ _ _ _ _ c.self.view_is c.self.invariant.sound c.args.interval.now c.requires.members
    c.requires.small c.requires.stored c.args.id _ c.begin_all-is_last.ensures.slots j small ∙ h)
    (own_tally c) c.forget_changed.ensures.rest c.self.invariant)

pub returns-clause-after : goal.returns-clause-after
returns-clause-after c =
    phase_shows _ _ _ _ _ c.self.view_is c.self.invariant.sound c.args.interval.now c.requires.members
    c.requires.small c.requires.stored c.args.id _ c.begin_all-is_last.ensures.slots

pub returns-clause-sent : goal.returns-clause-sent
returns-clause-sent c =
    c.begin_all-is_last.ensures.sent
    ∙ ap (λ xs. c.args.out.now.messages ++ xs)
    (phase_sent _ _ _ _ _ c.self.view_is c.self.invariant.sound c.args.interval.now c.requires.members
    c.requires.small c.requires.stored c.args.id)
