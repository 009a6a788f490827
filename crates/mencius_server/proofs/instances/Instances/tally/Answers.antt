use Rattle.std.proofs.Common.{◌≡◌, ◌≤◌, arith, ℕ, List, Option, max, ◌⊎◌, cond, refl, sym, subst, ap, ◌∙◌, ⊎_elim}
use Rattle.std.proofs.lemmas.Bool.{eq-eqb, ne_eqb}
use Rattle.coord_paxos.specs.SlotState.{SlotState}
use Rattle.mencius_base.specs.Members.{Membership}
use Rattle.mencius_server.specs.Instances.{instance_slot_in}
use Rattle.mencius_server.specs.Tallies.{IsInstancesInside, IsTally, IsTallyFrom, no_tally, tally_of, tally_sum}
use Rattle.mencius_server.specs.declared.skipped_intervals.Interval.{Interval}
use Rattle.mencius_server.specs.declared.tally.Tally.{Tally}
use Rattle.mencius_server.proofs.tallies.OneTally.{alike_same, tally_few, tally_further, tally_none}
use Rattle.mencius_server.proofs.tallies.InstanceTallies.{counts_put, tally_survey}
use Rattle.mencius_server.proofs.instances.Instances.tally.Goals as goal

-- The count starts from the last tally or from the tally of no instances, and both are right.
started : (m : Membership) (f : ℕ → SlotState) (q : ℕ) (tallies : List Tally) (start : Tally)
    → ((q : ℕ) → IsTally m f q (tally_of tallies q)) → (start ≡ tally_of tallies q) ⊎ (start ≡ no_tally)
    → IsTally m f q start
started m f q tallies start counted either =
    ⊎_elim
    (λ (was : start ≡ tally_of tallies q). subst (IsTally m f q) (sym was) (counted q))
    (λ (none : start ≡ no_tally). tally_none m f q start none)
    either

-- If all instances between the end of a tally and the start of a count are learned, their sum is a tally.
counted_on : (m : Membership) (slots : List (Option SlotState)) (rs : List (List Interval)) (low q first : ℕ)
    (tallies : List Tally) (ends : List ℕ) (start further : Tally) → IsInstancesInside m slots rs low tallies ends
    → (start ≡ tally_of tallies q) ⊎ (start ≡ no_tally)
    → start.stop ≤ first → first ≤ max start.stop low → IsTallyFrom m (instance_slot_in m slots rs) q first further
    → IsTally m (instance_slot_in m slots rs) q (tally_sum start further)
counted_on m slots rs low q first tallies ends start further known was ahead past counted =
    tally_further m (instance_slot_in m slots rs) q first start further ahead
    (λ j after before. known.sound.learned j (omega (arith, after, before, past)))
    (started m (instance_slot_in m slots rs) q tallies start known.counted was) counted

pub returns-then-start-stop-clause-survey : goal.returns-then-start-stop-clause-survey
returns-then-start-stop-clause-survey c =
    let known = instance_slot_in c.self.inside.stored.members c.self.inside.stored.slots
    c.self.inside.stored.skipped.items in
    tally_survey c.self.inside.stored.members c.self.inside.stored.slots c.self.inside.stored.skipped.items
    c.args.self.now c.self.view_is
    c.args.suspected c.args.reach c.up_to-start.result
    (started c.self.inside.stored.members known c.args.suspected c.self.inside.tallies c.up_to-start.result
    c.self.invariant.counted c.up_to-start.ensures.was)
    (c.if-start-stop.true ∙ c.min-stop.ensures)

pub plus-tally-requires-clause-few : goal.plus-tally-requires-clause-few
plus-tally-requires-clause-few c =
    let known = instance_slot_in c.self.inside.stored.members c.self.inside.stored.slots
    c.self.inside.stored.skipped.items in
    (tally_few c.self.inside.stored.members known c.args.suspected _
    (counted_on c.self.inside.stored.members c.self.inside.stored.slots c.self.inside.stored.skipped.items _
    c.args.suspected
    c.min-first.result c.self.inside.tallies c.self.inside.learned_intervals c.up_to-start.result _
    c.self.invariant c.up_to-start.ensures.was
    (omega (arith, c.max.ensures, c.min-first.ensures, c.min-stop.ensures, c.up_to-start.ensures.low))
    (omega (arith, c.max.ensures, c.min-first.ensures)) c.tally_from-further.ensures.counted)).0

pub plus-tally-requires-clause-fewer : goal.plus-tally-requires-clause-fewer
plus-tally-requires-clause-fewer c =
    let known = instance_slot_in c.self.inside.stored.members c.self.inside.stored.slots
    c.self.inside.stored.skipped.items in
    (tally_few c.self.inside.stored.members known c.args.suspected _
    (counted_on c.self.inside.stored.members c.self.inside.stored.slots c.self.inside.stored.skipped.items _
    c.args.suspected
    c.min-first.result c.self.inside.tallies c.self.inside.learned_intervals c.up_to-start.result _
    c.self.invariant c.up_to-start.ensures.was
    (omega (arith, c.max.ensures, c.min-first.ensures, c.min-stop.ensures, c.up_to-start.ensures.low))
    (omega (arith, c.max.ensures, c.min-first.ensures)) c.tally_from-further.ensures.counted)).1

pub invariant_of-self : goal.invariant_of-self
invariant_of-self c =
    let known = instance_slot_in c.self.inside.stored.members c.self.inside.stored.slots
    c.self.inside.stored.skipped.items in
    counts_put c.self.inside.stored.members c.self.inside.stored.slots c.self.inside.stored.slots
    c.self.inside.stored.skipped.items
    c.self.inside.stored.skipped.items c.self.inside.learned_below c.self.inside.learned_below c.self.inside.tallies
    c.put.new.self c.self.inside.learned_intervals c.args.suspected c.self.invariant.sound
    (λ j small other. alike_same c.self.inside.stored.members _ _ refl) (λ j small known. known)
    (subst (IsTally c.self.inside.stored.members known c.args.suspected)
    (sym (c.put.ensures c.args.suspected
    ∙ ap (λ bit. cond bit c.plus-tally.result (tally_of c.self.inside.tallies c.args.suspected))
    (eq-eqb c.args.suspected c.args.suspected refl) ∙ c.plus-tally.ensures))
    (counted_on c.self.inside.stored.members c.self.inside.stored.slots c.self.inside.stored.skipped.items _
    c.args.suspected
    c.min-first.result c.self.inside.tallies c.self.inside.learned_intervals c.up_to-start.result _
    c.self.invariant c.up_to-start.ensures.was
    (omega (arith, c.max.ensures, c.min-first.ensures, c.min-stop.ensures, c.up_to-start.ensures.low))
    (omega (arith, c.max.ensures, c.min-first.ensures)) c.tally_from-further.ensures.counted))
    (λ q other. c.put.ensures q
    ∙ ap (λ bit. cond bit c.plus-tally.result (tally_of c.self.inside.tallies q)) (ne_eqb q c.args.suspected other))
    c.self.invariant

pub returns-clause-survey : goal.returns-clause-survey
returns-clause-survey c =
    let known = instance_slot_in c.self.inside.stored.members c.self.inside.stored.slots
    c.self.inside.stored.skipped.items in
    tally_survey c.self.inside.stored.members c.self.inside.stored.slots c.self.inside.stored.skipped.items
    c.args.self.now c.self.view_is
    c.args.suspected c.args.reach c.plus-tally.result
    (subst (IsTally c.self.inside.stored.members known c.args.suspected) (sym c.plus-tally.ensures)
    (counted_on c.self.inside.stored.members c.self.inside.stored.slots c.self.inside.stored.skipped.items _
    c.args.suspected
    c.min-first.result c.self.inside.tallies c.self.inside.learned_intervals c.up_to-start.result _
    c.self.invariant c.up_to-start.ensures.was
    (omega (arith, c.max.ensures, c.min-first.ensures, c.min-stop.ensures, c.up_to-start.ensures.low))
    (omega (arith, c.max.ensures, c.min-first.ensures)) c.tally_from-further.ensures.counted))
    (ap (λ (x : Tally). x.stop) c.plus-tally.ensures ∙ c.tally_from-further.ensures.stop ∙ c.min-stop.ensures)
