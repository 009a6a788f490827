use Rattle.std.proofs.Common.{◌≡◌, ◌<◌, ◌≤◌, ℕ, zero, suc, List, [], ◌∷◌, Some, None, arith, rules, sym, subst, ap, ◌∙◌, MatchOption, slice_get, length}
use Rattle.std.proofs.lemmas.List.Sorted.{IsPartitionPoint-from_clause}
use Rattle.std.proofs.lemmas.Option.{slice_get-get_or}
use Rattle.mencius_judge.specs.declared.timeline.Period.{Period}
use Rattle.mencius_judge.specs.Timelines.{AllBefore, IsFirstPeriod}
use Rattle.mencius_judge.proofs.keys.Periods.{at_point, ends_by, parted}
use Rattle.mencius_judge.proofs.timeline.period_after.Goals as goal

past_end : (xs : List Period) (i : ℕ) → length xs ≤ i → slice_get xs i ≡ None
past_end [] i h = search rules
past_end (x ∷ xs) zero h = absurd (omega arith)
past_end (x ∷ xs) (suc i) h = past_end xs i (omega arith)

pub returns-in-Some : goal.returns-in-Some
returns-in-Some c rising =
    let periods = c.args.periods.now in
    let place = c.partition_point-place.result in
    let got = c.in-Some.ensures.lookup in
    let inside : place < length periods = got.3.0 in
    let same : slice_get periods place ≡ Some c.in-Some.period.now = slice_get-get_or periods place c.in-Some.period.now inside ∙ ap Some (sym got.1) in
    subst (λ o. MatchOption o (AllBefore periods c.args.from) (IsFirstPeriod periods c.args.from)) same
    (at_point periods c.args.from place
    (IsPartitionPoint-from_clause (ends_by c.args.from) _ _ c.partition_point-place.ensures.partitioned
    (parted periods c.args.from rising) (λ a r q k. search rules)))

pub returns-in-None : goal.returns-in-None
returns-in-None c rising =
    let periods = c.args.periods.now in
    let place = c.partition_point-place.result in
    let got = c.in-None.ensures.lookup in
    let same : slice_get periods place ≡ None = past_end periods place got.3 in
    subst (λ o. MatchOption o (AllBefore periods c.args.from) (IsFirstPeriod periods c.args.from)) same
    (at_point periods c.args.from place
    (IsPartitionPoint-from_clause (ends_by c.args.from) _ _ c.partition_point-place.ensures.partitioned
    (parted periods c.args.from rising) (λ a r q k. search rules)))
