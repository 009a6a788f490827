use Rattle.std.proofs.Common.{◌≡◌, ℕ, ◌+◌, ◌-◌, ◌<◌, ◌≤◌, cond, List, ◌++◌, length, get_or, take, drop, suc, refl, sym, ◌∙◌, ap, subst, arith, Result, Ok, Err}
use Rattle.std.specs.Prelude.{IsOk, is_ok}
use Rattle.std.proofs.lemmas.List.{get_or_default}
use Rattle.mencius_server.specs.declared.skipped_intervals.Interval.{Interval}
use Rattle.mencius_server.proofs.intervals.RisingIntervals.{joining_ends, joining_more, joining_start}
use Rattle.mencius_server.proofs.skipped_intervals.join.Goals as goal
use Rattle.mencius_server.proofs.skipped_intervals.join.Goals.{then-first-eq0, else-first-eq0, then-loop-intervals-test+else-index-union, else-loop-intervals-test}

abbrev none : Interval
none = record { first = 0; stop = 0 }

pub loop-intervals-init : goal.loop-intervals-init
loop-intervals-init c = record {
  joining = elim c.if-first-eq0.branch [
    | then-first-eq0 way ↦ rw way.at-is
        (joining_start c.args.intervals.now.items c.args.first c.args.stop 0 none c.requires.rising c.requires.some
        (omega arith) (λ n l. absurd (omega arith)) (λ n l past. omega (arith, way.if-first-eq0.true)))
    | else-first-eq0 way ↦
        let items : way.deref.result.now ≡ c.args.intervals.now.items = way.deref.ensures.value in
        let P : List Interval → Type 0 =
        λ xs. (n : ℕ) (d : Interval) → n < way.first_past-at.result → (get_or xs n d).stop ≤ c.args.first - 1 in
        let Q : List Interval → Type 0 =
        λ xs. (n : ℕ) (d : Interval) → way.first_past-at.result ≤ n → n < length xs
        → c.args.first - 1 < (get_or xs n d).stop in
        let before = subst P items way.first_past-at.ensures.before in
        let after = subst Q items way.first_past-at.ensures.after in
        rw way.at-is (joining_start c.args.intervals.now.items c.args.first c.args.stop way.first_past-at.result none
        c.requires.rising c.requires.some
        (omega (arith, way.first_past-at.ensures.within, ap length items))
        (λ n l. omega (arith, before n none l, way.if-first-eq0.false))
        (λ n l past. omega (arith, after n none l past)))
  ];
  room = c.requires.room;
}

pub loop-intervals-preserved : goal.loop-intervals-preserved
loop-intervals-preserved c =
    let inside : c.if-first-eq0.at < length c.loop-intervals.intervals.items =
    omega (arith, c.loop-intervals-test.true, c.len.ensures) in
    let met : c.index.result.now ≡ c.remove-met.result =
    c.index.ensures ∙ get_or_default c.loop-intervals.intervals.items c.if-first-eq0.at _ c.remove-met.result inside
    ∙ sym c.remove-met.ensures.value in
    let low : c.remove-met.result.first ≤ c.loop-intervals.union.stop =
    omega (arith, c.if-index-union.true, ap (λ (r : Interval). r.first) met) in
    record {
      joining = joining_more c.args.intervals.now.items c.loop-intervals.intervals.items c.remove-met.new.self.items
          c.args.first
          c.args.stop c.if-first-eq0.at
          c.loop-intervals.union.first c.loop-intervals.union.stop c.loop-intervals.absorbed _ _ _ c.remove-met.result
          inside
          (sym c.remove-met.ensures.value) low
          (c.remove-met.ensures.by_index.2
          ∙ ap (λ (n : ℕ). take c.if-first-eq0.at c.loop-intervals.intervals.items
          ++ drop n c.loop-intervals.intervals.items) (let e : c.if-first-eq0.at + 1 ≡ suc c.if-first-eq0.at =
          omega arith in e))
          c.min.ensures c.max.ensures refl c.loop-intervals.invariant.joining;
      room = omega (arith, c.remove-met.ensures.len, c.remove-met.ensures.capacity, c.loop-intervals.invariant.room);
    }

inserted : {A E X : Type 0} (r : Result A E) (new old more : List X) → IsOk r → new ≡ cond (is_ok r) more old
    → new ≡ more
inserted (Ok a) new old more h e = e
inserted (Err a) new old more h e = absurd (cc)

pub returns-clause-further : goal.returns-clause-further
returns-clause-further c =
    let new = inserted c.insert.result c.insert.new.self.items c.loop-intervals.intervals.items _
    (c.insert.ensures.succeeds c.loop-intervals.invariant.room) c.insert.ensures.items in
    (joining_ends c.args.intervals.now.items c.loop-intervals.intervals.items c.insert.new.self.items c.args.first
    c.args.stop
    c.if-first-eq0.at
    c.loop-intervals.union.first c.loop-intervals.union.stop c.loop-intervals.absorbed c.loop-intervals.union none refl
    (λ inside. elim c.loop-intervals-test.branch [
      | then-loop-intervals-test+else-index-union way ↦
          omega (
            arith,
            way.if-index-union.false,
            ap (λ (r : Interval). r.first) (way.index.ensures
                ∙ get_or_default c.loop-intervals.intervals.items c.if-first-eq0.at _ none inside),
          )
      | else-loop-intervals-test way ↦ absurd (omega (arith, way.loop-intervals-test.false, c.len.ensures))
    ]) new c.loop-intervals.invariant.joining).1
