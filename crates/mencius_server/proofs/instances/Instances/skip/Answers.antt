use Rattle.std.proofs.Common.{◌≡◌, ℕ, ◌<◌, ◌≤◌, ◌||◌, List, Option, [], ap, arith, cond, get_or, length, min, refl, rules, set, subst, sym, ◌∙◌}
use Rattle.std.specs.List.{count_by}
use Rattle.std.proofs.lemmas.Bool.{eq-eqb, ne_eqb}
use Rattle.std.proofs.lemmas.List.{get_or_default, set-get_or}
use Rattle.mencius_base.proofs.LeastOwned.{first_owned_owner}
use Rattle.mencius_base.specs.Members.{Membership, first_owned, instances, owner}
use Rattle.mencius_server.specs.Intervals.{AreSkippedIntervals, is_between, is_in_any}
use Rattle.mencius_server.specs.declared.skipped_intervals.Interval.{Interval}
use Rattle.coord_paxos.specs.SlotState.{SlotState}
use Rattle.mencius_server.specs.Instances.{InstancesState, IsSorted, instance_slot_in, instances_in, is_newly_skipped_in}
use Rattle.mencius_server.specs.Slots.{slot_after_skip_in}
use Rattle.mencius_server.specs.declared.owned_interval.OwnedInterval.{OwnedInterval}
use Rattle.mencius_server.proofs.stored.SkipStored.{IsAligned, news_is, skip_again, skip_gives, skip_is, skip_shows, skip_sorted, skip_sound, skip_stays, skip_theirs}
use Rattle.mencius_server.specs.Tallies.{IsInstancesInside, IsTally, tally_of}
use Rattle.mencius_server.proofs.tallies.OneTally.{alike_same, sound_learned, tally_alike}
use Rattle.mencius_server.proofs.tallies.InstanceTallies.{counts_put}
use Rattle.mencius_server.proofs.intervals.NewIntervals.{old_news}
use Rattle.mencius_base.specs.Limits.{instance_count}
use Rattle.mencius_server.proofs.instances.Instances.skip.Goals as goal

-- The interval that a Skip gives up.
abbrev skip_interval : Membership → ℕ → ℕ → ℕ → OwnedInterval
skip_interval m q x y = record { members = m; server = q; first = x; stop = y }

-- The list of skipped intervals has an entry for the skipper.
has_intervals : (m : Membership) (slots : List (Option SlotState)) (rs : List (List Interval)) (now : InstancesState)
    (q : ℕ)
    → instances_in m slots rs ≡ now → IsSorted m rs → q < now.members.count → q < length rs
has_intervals m slots rs now q shown sorted member =
    omega (arith, member, ap (λ (s : InstancesState). s.members.count) shown, sorted.count)

-- After the call, the intervals of the skipper cover their earlier instances and the added interval.
then_covered : (m : Membership) (q x y : ℕ) (old new : List Interval) (rs : List (List Interval)) → old ≡ get_or rs q []
    → ((j : ℕ) → j < instance_count → owner m j ≡ q → is_in_any new j ≡ (is_in_any old j || is_between x y j))
    → (j : ℕ) → j < instance_count → owner m j ≡ q
    → is_in_any new j ≡ (is_in_any (get_or rs q []) j || is_between x y j)
then_covered m q x y old new rs same h j small own = h j small own ∙ ap (λ xs. is_in_any xs j || is_between x y j) same

-- The interval begins and ends at the first instances of the skipper at or above the two ends of the Skip. An end above
-- 4,096 counts as 4,096.
abbrev alignment : (m : Membership) (q first stop x y n : ℕ) → n ≡ min stop instance_count
    → first ≤ x → ((i : ℕ) → first ≤ i → owner m i ≡ q → x ≤ i)
    → n ≤ y → ((i : ℕ) → n ≤ i → owner m i ≡ q → y ≤ i) → IsAligned q first stop (skip_interval m q x y)
alignment m q first stop x y n is above least above_stop least_stop = record {
  server = refl;
  above_first = above;
  least_first = least;
  above_stop = omega (arith, is, above_stop);
  least_stop = λ i low own. least_stop i (omega (arith, is, low)) own;
}

pub invariant_of-self-2 : goal.invariant_of-self-2
invariant_of-self-2 c =
    let m = c.self.inside.stored.members in
    let rs = c.self.inside.stored.skipped.items in
    let member = has_intervals m c.self.inside.stored.slots rs c.args.self.now c.args.from c.self.view_is
    c.self.invariant.sound.sorted c.requires.member in
    let same_intervals : c.index_mut-intervals.result.now ≡ get_or rs c.args.from [] =
    c.index_mut-intervals.ensures.value ∙ get_or_default rs c.args.from _ [] member in
    let covered = then_covered m c.args.from _ _ _ _ rs same_intervals c.in_ok-learned.ensures.covers in
    let interval = skip_interval m c.args.from c.first_owned-first.result c.first_owned-stop.result in
    counts_put m c.self.inside.stored.slots c.skip.new.self rs (set rs c.args.from c.skip.new.intervals)
    c.self.inside.learned_below c.learned_from-self-inside.result c.self.inside.tallies c.put.new.self
    c.self.inside.learned_intervals c.args.from
    (skip_sound m interval refl c.self.inside.stored.slots c.skip.new.self rs member c.skip.new.intervals
    covered
    c.in_ok-learned.ensures.slots
    c.self.inside.learned_below c.learned_from-self-inside.result
    (skip_sorted m interval refl c.self.inside.stored.slots c.skip.new.self rs member c.skip.new.intervals
    covered
    c.in_ok-learned.ensures.slots
    c.skip.ensures.skipped c.self.invariant.sound.sorted)
    c.learned_from-self-inside.ensures.small c.learned_from-self-inside.ensures.learned
    c.learned_from-self-inside.ensures.least c.self.invariant.sound)
    (λ j small other. alike_same m _ _ (sym (skip_theirs m interval refl c.self.inside.stored.slots
    c.skip.new.self rs member c.skip.new.intervals covered c.in_ok-learned.ensures.slots j small
    other)))
    (skip_stays m interval refl c.self.inside.stored.slots c.skip.new.self rs member c.skip.new.intervals
    covered
    c.in_ok-learned.ensures.slots)
    (subst (IsTally m (instance_slot_in m c.skip.new.self (set rs c.args.from c.skip.new.intervals))
    c.args.from)
    (sym (c.put.ensures c.args.from
    ∙ ap (λ bit. cond bit c.tally_after_skip-tally.result (tally_of c.self.inside.tallies c.args.from))
    (eq-eqb c.args.from c.args.from refl)))
    (tally_alike m (λ j. slot_after_skip_in interval j (instance_slot_in m c.self.inside.stored.slots rs j))
    (instance_slot_in m c.skip.new.self (set rs c.args.from c.skip.new.intervals)) c.args.from
    c.tally_after_skip-tally.result
    (λ j small own. alike_same m _ _ (sym (skip_gives m interval refl c.self.inside.stored.slots c.skip.new.self
    rs member c.skip.new.intervals covered c.in_ok-learned.ensures.slots j small)))
    c.tally_after_skip-tally.ensures))
    (λ q other. c.put.ensures q
    ∙ ap (λ bit. cond bit c.tally_after_skip-tally.result (tally_of c.self.inside.tallies q))
    (ne_eqb q c.args.from other))
    c.self.invariant

pub returns-clause-after : goal.returns-clause-after
returns-clause-after c =
    let m = c.self.inside.stored.members in
    let rs = c.self.inside.stored.skipped.items in
    let member = has_intervals m c.self.inside.stored.slots rs c.args.self.now c.args.from c.self.view_is
    c.self.invariant.sound.sorted c.requires.member in
    let same_intervals : c.index_mut-intervals.result.now ≡ get_or rs c.args.from [] =
    c.index_mut-intervals.ensures.value ∙ get_or_default rs c.args.from _ [] member in
    let covered = then_covered m c.args.from _ _ _ _ rs same_intervals c.in_ok-learned.ensures.covers in
    let interval = skip_interval m c.args.from c.first_owned-first.result c.first_owned-stop.result in
    skip_shows m interval refl c.self.inside.stored.slots c.skip.new.self rs member c.skip.new.intervals
    covered
    c.in_ok-learned.ensures.slots c.args.self.now c.self.view_is
    ∙ skip_is c.args.from c.args.first c.args.stop interval
    (alignment m c.args.from c.args.first c.args.stop _ _ c.min.result (omega (arith, c.min.ensures))
    c.first_owned-first.ensures.above c.first_owned-first.ensures.least
    c.first_owned-stop.ensures.above c.first_owned-stop.ensures.least)
    c.args.self.now (ap (λ (x : InstancesState). x.members) c.self.view_is)

pub returns-clause-learned : goal.returns-clause-learned
returns-clause-learned c =
    let m = c.self.inside.stored.members in
    let rs = c.self.inside.stored.skipped.items in
    let member = has_intervals m c.self.inside.stored.slots rs c.args.self.now c.args.from c.self.view_is
    c.self.invariant.sound.sorted c.requires.member in
    let same_intervals : c.index_mut-intervals.result.now ≡ get_or rs c.args.from [] =
    c.index_mut-intervals.ensures.value ∙ get_or_default rs c.args.from _ [] member in
    let interval = skip_interval m c.args.from c.first_owned-first.result c.first_owned-stop.result in
    c.in_ok-learned.ensures.learned
    ∙ ap (λ r. count_by (is_newly_skipped_in interval r c.self.inside.stored.slots) instances) same_intervals
    ∙ news_is c.args.from c.args.first c.args.stop interval
    (alignment m c.args.from c.args.first c.args.stop _ _ c.min.result (omega (arith, c.min.ensures))
    c.first_owned-first.ensures.above c.first_owned-first.ensures.least
    c.first_owned-stop.ensures.above c.first_owned-stop.ensures.least)
    c.args.self.now (ap (λ (x : InstancesState). x.members) c.self.view_is)
    m c.self.inside.stored.slots rs c.self.inside.learned_below c.self.view_is c.self.invariant.sound

pub skip-requires : goal.skip-requires
skip-requires c =
    let m = c.self.inside.stored.members in
    let rs = c.self.inside.stored.skipped.items in
    let sorted = c.self.invariant.sound.sorted in
    let member = has_intervals m c.self.inside.stored.slots rs c.args.self.now c.args.from c.self.view_is sorted
    c.requires.member in
    let same_intervals : c.index_mut-intervals.result.now ≡ get_or rs c.args.from [] =
    c.index_mut-intervals.ensures.value ∙ get_or_default rs c.args.from _ [] member in
    record {
      interval = search rules;
      some = search rules;
      skipped = subst (AreSkippedIntervals m c.args.from) (sym same_intervals)
          (sorted.intervals c.args.from (omega (arith, member, sorted.count)));
      end = search rules;
      low = c.first_owned-stop.ensures.least (first_owned m c.args.from instance_count)
          (omega (arith, c.min.ensures))
          (first_owned_owner m c.args.from instance_count (omega (arith, member, sorted.count)));
      learned_where_skipped = λ j s small own passed stored. c.self.invariant.sound.learned_where_skipped j s small
          (ap (λ q. is_in_any (get_or rs q []) j) own ∙ ap (λ xs. is_in_any xs j) (sym same_intervals) ∙ passed) stored;
    }

pub learned_from-self-inside-requires-clause-sorted : goal.learned_from-self-inside-requires-clause-sorted
learned_from-self-inside-requires-clause-sorted c =
    let m = c.self.inside.stored.members in
    let rs = c.self.inside.stored.skipped.items in
    let member = has_intervals m c.self.inside.stored.slots rs c.args.self.now c.args.from c.self.view_is
    c.self.invariant.sound.sorted c.requires.member in
    let same_intervals : c.index_mut-intervals.result.now ≡ get_or rs c.args.from [] =
    c.index_mut-intervals.ensures.value ∙ get_or_default rs c.args.from _ [] member in
    let covered = then_covered m c.args.from _ _ _ _ rs same_intervals c.in_ok-learned.ensures.covers in
    let interval = skip_interval m c.args.from c.first_owned-first.result c.first_owned-stop.result in
    skip_sorted m interval refl c.self.inside.stored.slots c.skip.new.self rs member c.skip.new.intervals
    covered
    c.in_ok-learned.ensures.slots c.skip.ensures.skipped
    c.self.invariant.sound.sorted

-- If the interval was skipped before, the call returns at once and nothing changes.
pub returns-then-past-stop-clause-after : goal.returns-then-past-stop-clause-after
returns-then-past-stop-clause-after c =
    let m = c.self.inside.stored.members in
    let rs = c.self.inside.stored.skipped.items in
    let member = has_intervals m c.self.inside.stored.slots rs c.args.self.now c.args.from c.self.view_is
    c.self.invariant.sound.sorted c.requires.member in
    let same_intervals : c.index.result.now ≡ get_or rs c.args.from [] =
    c.index.ensures ∙ get_or_default rs c.args.from _ [] member in
    let interval = skip_interval m c.args.from c.first_owned-first.result c.first_owned-stop.result in
    skip_again m interval c.self.inside.stored.slots rs c.args.self.now refl c.self.view_is
    (sound_learned m c.self.inside.stored.slots rs c.self.inside.learned_below c.self.invariant.sound)
    (λ j low high. ap (λ xs. is_in_any xs j) (sym same_intervals)
    ∙ c.past.ensures.covered j low (omega (arith, high, c.if-past-stop.true)))
    ∙ skip_is c.args.from c.args.first c.args.stop interval
    (alignment m c.args.from c.args.first c.args.stop _ _ c.min.result (omega (arith, c.min.ensures))
    c.first_owned-first.ensures.above c.first_owned-first.ensures.least
    c.first_owned-stop.ensures.above c.first_owned-stop.ensures.least)
    c.args.self.now (ap (λ (x : InstancesState). x.members) c.self.view_is)

pub returns-then-past-stop-clause-learned : goal.returns-then-past-stop-clause-learned
returns-then-past-stop-clause-learned c =
    let m = c.self.inside.stored.members in
    let rs = c.self.inside.stored.skipped.items in
    let member = has_intervals m c.self.inside.stored.slots rs c.args.self.now c.args.from c.self.view_is
    c.self.invariant.sound.sorted c.requires.member in
    let same_intervals : c.index.result.now ≡ get_or rs c.args.from [] =
    c.index.ensures ∙ get_or_default rs c.args.from _ [] member in
    let interval = skip_interval m c.args.from c.first_owned-first.result c.first_owned-stop.result in
    old_news interval c.index.result.now c.self.inside.stored.slots
    (λ j low high. c.past.ensures.covered j low (omega (arith, high, c.if-past-stop.true)))
    ∙ ap (λ r. count_by (is_newly_skipped_in interval r c.self.inside.stored.slots) instances) same_intervals
    ∙ news_is c.args.from c.args.first c.args.stop interval
    (alignment m c.args.from c.args.first c.args.stop _ _ c.min.result (omega (arith, c.min.ensures))
    c.first_owned-first.ensures.above c.first_owned-first.ensures.least
    c.first_owned-stop.ensures.above c.first_owned-stop.ensures.least)
    c.args.self.now (ap (λ (x : InstancesState). x.members) c.self.view_is)
    m c.self.inside.stored.slots rs c.self.inside.learned_below c.self.view_is c.self.invariant.sound

-- If the call fails, the intervals of the skipper are as they were.
same_after_error : (q : ℕ) (rs : List (List Interval)) (old new : List Interval) → old ≡ get_or rs q [] → new ≡ old
    → set rs q new ≡ rs
same_after_error q rs old new was same = ap (λ xs. set rs q xs) (same ∙ was) ∙ set-get_or rs q []

pub invariant_of-self : goal.invariant_of-self
invariant_of-self c =
    let m = c.self.inside.stored.members in
    let rs = c.self.inside.stored.skipped.items in
    let member = has_intervals m c.self.inside.stored.slots rs c.args.self.now c.args.from c.self.view_is
    c.self.invariant.sound.sorted c.requires.member in
    let same = same_after_error c.args.from rs c.index_mut-intervals.result.now c.skip.new.intervals
    (c.index_mut-intervals.ensures.value ∙ get_or_default rs c.args.from _ [] member)
    c.in_err-learned.ensures.err.0 in
    subst (λ (slots : List (Option SlotState)). IsInstancesInside m slots
    (set rs c.args.from c.skip.new.intervals)
    c.self.inside.learned_below c.self.inside.tallies c.self.inside.learned_intervals)
    (sym c.in_err-learned.ensures.err.1)
    (subst (λ (all : List (List Interval)). IsInstancesInside m c.self.inside.stored.slots all
    c.self.inside.learned_below c.self.inside.tallies c.self.inside.learned_intervals) (sym same) c.self.invariant)
