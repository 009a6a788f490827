use Rattle.std.proofs.Common.{◌≡◌, ℕ, List, Option, arith, sym, subst, ◌∙◌}
use Rattle.mencius_base.specs.Members.{Membership}
use Rattle.coord_paxos.specs.SlotState.{SlotState}
use Rattle.mencius_server.specs.Instances.{instance_slot_in}
use Rattle.mencius_server.specs.Slots.{slot_after_skip_in}
use Rattle.mencius_server.specs.Tallies.{IsTally, IsTallyFrom}
use Rattle.mencius_server.specs.declared.skipped_intervals.Interval.{Interval}
use Rattle.mencius_server.specs.declared.tally.Tally.{Tally}
use Rattle.mencius_server.proofs.tallies.SkipTallies.{less_fits, less_none, less_some}
use Rattle.mencius_server.proofs.stored_instances.StoredInstances.tally_after_skip.Goals as goal

-- A tally is still right for an equal membership.
by_same : (m n : Membership) (slots : List (Option SlotState)) (rs : List (List Interval)) (q first : ℕ) (d : Tally)
    → n ≡ m → IsTallyFrom m (instance_slot_in m slots rs) q first d → IsTallyFrom n (instance_slot_in n slots rs) q
    first d
by_same m n slots rs q first d same h = subst (λ k. IsTallyFrom k (instance_slot_in k slots rs) q first d) (sym same) h

pub returns-then-first-stop : goal.returns-then-first-stop
returns-then-first-stop c =
    less_none c.args.interval.now
    (instance_slot_in c.args.interval.now.members c.args.self.now.slots c.args.self.now.skipped.items)
    c.args.tally (omega (arith, c.min-stop.ensures, c.if-first-stop.true)) c.requires.counted

pub without-requires-clause-few : goal.without-requires-clause-few
without-requires-clause-few c =
    (less_fits c.args.interval.now
    (instance_slot_in c.args.interval.now.members c.args.self.now.slots c.args.self.now.skipped.items)
    c.args.tally c.tally_from-newly_skipped.result (omega (arith, c.min-stop.ensures, c.if-first-stop.false))
    (c.tally_from-newly_skipped.ensures.stop ∙ c.min-stop.ensures) (by_same c.args.self.now.members
    c.args.interval.now.members c.args.self.now.slots c.args.self.now.skipped.items c.args.interval.now.server
    c.args.interval.now.first c.tally_from-newly_skipped.result c.requires.members
    c.tally_from-newly_skipped.ensures.counted)
    c.requires.counted).0

pub without-requires-clause-fewer : goal.without-requires-clause-fewer
without-requires-clause-fewer c =
    (less_fits c.args.interval.now
    (instance_slot_in c.args.interval.now.members c.args.self.now.slots c.args.self.now.skipped.items)
    c.args.tally c.tally_from-newly_skipped.result (omega (arith, c.min-stop.ensures, c.if-first-stop.false))
    (c.tally_from-newly_skipped.ensures.stop ∙ c.min-stop.ensures) (by_same c.args.self.now.members
    c.args.interval.now.members c.args.self.now.slots c.args.self.now.skipped.items c.args.interval.now.server
    c.args.interval.now.first c.tally_from-newly_skipped.result c.requires.members
    c.tally_from-newly_skipped.ensures.counted)
    c.requires.counted).1

pub returns : goal.returns
returns c =
    let known = instance_slot_in c.args.interval.now.members c.args.self.now.slots c.args.self.now.skipped.items in
    subst (IsTally c.args.interval.now.members (λ j. slot_after_skip_in c.args.interval.now j (known j))
    c.args.interval.now.server)
    (sym c.without.ensures)
    (less_some c.args.interval.now known c.args.tally c.tally_from-newly_skipped.result
    (omega (arith, c.min-stop.ensures, c.if-first-stop.false))
    (c.tally_from-newly_skipped.ensures.stop ∙ c.min-stop.ensures) (by_same c.args.self.now.members
    c.args.interval.now.members c.args.self.now.slots c.args.self.now.skipped.items c.args.interval.now.server
    c.args.interval.now.first c.tally_from-newly_skipped.result c.requires.members
    c.tally_from-newly_skipped.ensures.counted)
    c.requires.counted)
