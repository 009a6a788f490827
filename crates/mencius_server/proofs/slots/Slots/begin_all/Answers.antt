use Rattle.std.proofs.Common.{◌≡◌, ◌+◌, ◌<◌, ◌≤◌, ℕ, Bool, Option, None, Some, false, true, ◌∙◌, ap, arith, refl, sym, ⊎_elim}
use Rattle.std.specs.Prelude.{is_some}
use Rattle.std.specs.Option.{option_map}
use Rattle.std.proofs.lemmas.Bool.{and_right, cases_lt}
use Rattle.mencius_base.specs.Limits.{instance_count}
use Rattle.mencius_base.specs.Members.{owner}
use Rattle.coord_paxos.specs.SlotState.{SlotState}
use Rattle.mencius_server.specs.Slots.{is_covered_slot, is_in, is_unlearned, slot_after_phase, stored_at}
use Rattle.mencius_server.proofs.suspicions.FirstPhaseLoop.{step_room, step_sent, step_walked, walked_unlearned}
use Rattle.mencius_server.proofs.suspicions.FirstPhases.{phase_each, room_here, room_none, sent_none}
use Rattle.mencius_server.proofs.stored.InstanceGaps.{room_gap, sent_gap, sent_to}
use Rattle.mencius_server.proofs.suspicions.IntervalLeaps.{interval_put, past_above, past_closed, past_near, past_owned}
use Rattle.mencius_server.proofs.stored.IntervalLoops.{along_interval, in_here, out_before, out_past, phase_out, uncovered_between, uncovered_out, unlearned_in, walked_all, walked_start, written_off}
use Rattle.mencius_server.proofs.suspicions.SuspicionReach.{clash}
use Rattle.mencius_server.proofs.slots.Slots.begin_all.Goals.{then-is_last, else-is_last, then-loop-end-test+else-not-is_unlearned, else-loop-end-test}
use Rattle.mencius_server.proofs.slots.Slots.begin_all.Goals as goal
use Rattle.mencius_server.specs.Machine.{is_spent}

pub loop-inst-init : goal.loop-inst-init
loop-inst-init c =
    let before : (j : ℕ) → j < c.args.interval.first → is_covered_slot c.args.interval c.args.self.now j ≡ false =
    λ j low. uncovered_out c.args.interval c.args.self.now j (out_before c.args.interval j low) in
    record {
      own = c.requires.interval.own;
      low = omega arith;
      walked = walked_start _ _ _ (λ j low. phase_out c.args.interval c.args.id j _ (out_before c.args.interval j low));
      sent = sent_gap _ _ _ _ 0 _ (omega arith) (λ j low high. before j high) (sent_none _ _ _);
      room = room_gap _ _ _ 0 _ (omega arith) (λ j low high. before j high) (room_none _ _ _ c.requires.room);
      last = λ still j s low begins. let no = before j low in absurd (cc);
      learned_intervals = λ opens kept closed. kept;
      limit = refl;
    }

pub begin-requires : goal.begin-requires
begin-requires c =
    let inv = c.loop-inst.invariant in
    let here : is_in c.args.interval c.loop-inst.inst ≡ true =
    in_here c.args.interval c.loop-inst.inst inv.own inv.low c.loop-inst-test.true in
    let start = inv.walked.rest c.loop-inst.inst (omega arith) in
    record {
      small = omega (arith, c.requires.small, c.loop-inst-test.true);
      member = c.requires.id;
      rounds = λ s stored unlearned. let was = sym start ∙ stored in
          c.requires.rounds c.loop-inst.inst s
          (unlearned_in c.args.interval c.args.self.now c.loop-inst.inst here ∙ ap is_unlearned was ∙ unlearned) was;
      room = λ unlearned. room_here _ _ _ c.loop-inst.inst c.loop-inst-test.true
          (unlearned_in c.args.interval c.args.self.now c.loop-inst.inst here ∙ ap is_unlearned (sym start)
          ∙ unlearned) inv.room;
    }

pub loop-inst-preserved-in-Some : goal.loop-inst-preserved-in-Some
loop-inst-preserved-in-Some c =
    let inv = c.loop-inst.invariant in
    let a = c.args.interval in
    let i = c.loop-inst.inst in
    let here : is_in a i ≡ true = in_here a i inv.own inv.low c.loop-inst-test.true in
    let start = inv.walked.rest i (omega arith) in
    let ahead = c.next_owned-inst.ensures.above in
    let between = uncovered_between a c.args.self.now i c.next_owned-inst.result inv.own c.next_owned-inst.ensures.least in
    let slots = c.begin.ensures.slots in
    let off = written_off (option_map (slot_after_phase a.members c.args.id)) (stored_at c.loop-inst.self)
    (stored_at c.begin.new.self) i slots in
    record {
      own = c.next_owned-inst.ensures.owned ∙ inv.own;
      low = omega (arith, inv.low, ahead);
      walked = step_walked a c.args.id i _ _ _ _ here ahead between inv.walked slots;
      sent = step_sent a c.args.id i _ _ _ _ here ahead between inv.walked slots _ _ _ c.begin.ensures.pushed.messages inv.sent;
      room = step_room a c.args.id i _ _ _ _ here ahead between inv.walked slots _ _ c.begin.ensures.pushed.room inv.room;
      last = λ still. elim c.if-is_last.branch [
        | then-is_last way ↦ let no : true ≡ false = sym way.if-is_last.true ∙ sym way.is_last-is ∙ still in absurd (cc)
        | else-is_last way ↦
            phase_each (is_covered_slot a c.args.self.now) (stored_at c.loop-inst.self)
            (stored_at c.begin.new.self) (λ (s : SlotState). is_spent a.members s ≡ false)
            i _ between off (inv.last way.if-is_last.false)
            (λ s here_covered. c.begin.ensures.last (c.in-Some.is ∙ ap Some (sym way.is_last-is ∙ still)) s)
      ];
      learned_intervals = inv.learned_intervals;
      limit = c.begin.ensures.pushed.limit ∙ inv.limit;
    }

pub loop-end-preserved : goal.loop-end-preserved
loop-end-preserved c =
    let inv = c.loop-end.invariant in
    let a = c.args.interval in
    let m = a.members in
    let ends = c.loop-inst.learned_intervals in
    let i = c.loop-end.end in
    let past = c.past-end.result in
    let own : owner m c.next_owned.result ≡ owner m i = c.next_owned.ensures.owned in
    let begins = is_covered_slot a c.args.self.now in
    let known = c.loop-inst.invariant.learned_intervals begins c.requires.learned_intervals
    (λ j inside shut. and_right _ _ shut) in
    let here : is_in a i ≡ true =
    in_here a i (inv.own ∙ c.loop-inst.invariant.own) (omega (arith, inv.low, c.loop-inst.invariant.low))
    c.loop-end-test.true in
    let shut : is_unlearned (stored_at c.begin.new.self i) ≡ false =
    sym c.is_unlearned.ensures ∙ c.if-not-is_unlearned.true in
    record {
      own = past_owned m ends i c.next_owned.result past c.past-end.ensures c.next_owned.ensures.above own
          begins known ∙ inv.own;
      low = omega (
        arith,
        inv.low,
        past_above m ends i c.next_owned.result past c.past-end.ensures c.next_owned.ensures.above own,
      );
      near = past_near m ends i c.next_owned.result past c.past-end.ensures c.next_owned.ensures.above own
          begins known
          (omega (arith, c.next_owned.ensures.near, c.requires.small, c.loop-end-test.true));
      passed = λ opens kept closed j from less mine small. ⊎_elim
          (λ (before : j < i). inv.passed opens kept closed j from before mine small)
          (λ (after : i ≤ j). past_closed m ends i c.next_owned.result past c.past-end.ensures
          c.next_owned.ensures.above own opens kept c.next_owned.ensures.least (closed i here shut) j after less
          (mine ∙ sym inv.own) small)
          (cases_lt j i);
    }

-- If the step returns `None`, it started no first phase.
no_phase : (o : Option Bool) (d : Bool) → is_some o ≡ d → o ≡ None → d ≡ false
no_phase o d same none = sym same ∙ ap is_some none

pub loop-inst-preserved : goal.loop-inst-preserved
loop-inst-preserved c =
    let inv = c.loop-inst.invariant in
    let leap = c.loop-end.invariant in
    let a = c.args.interval in
    let m = a.members in
    let i = c.loop-inst.inst in
    let end = c.loop-end.end in
    let old = c.args.self.now in
    let new = c.begin.new.self in
    let here : is_in a i ≡ true = in_here a i inv.own inv.low c.loop-inst-test.true in
    let start = inv.walked.rest i (omega arith) in
    let slots = c.begin.ensures.slots in
    let shut : is_unlearned (stored_at old i) ≡ false =
    ap is_unlearned (sym start) ∙ no_phase c.begin.result _ c.begin.ensures.begun c.in-None.is in
    let unlearned = walked_unlearned a c.args.id (i + 1) old new
    (step_walked a c.args.id i (i + 1) old _ new here (omega arith) (λ j from less. absurd (omega (arith, from, less)))
    inv.walked slots) in
    let along : (j : ℕ) → i ≤ j → j < end → owner m j ≡ owner m i → j < instance_count
    → is_covered_slot a old j ≡ false =
    leap.passed (is_covered_slot a old)
    (inv.learned_intervals (is_covered_slot a old) c.requires.learned_intervals
    (λ j inside closed. and_right _ _ closed))
    (λ j inside closed. and_right _ _ (sym (unlearned j) ∙ closed)) in
    let ahead : i + 1 ≤ end = ⊎_elim
    (λ (less : i < end). omega (arith, less))
    (λ (still : end ≤ i).
    let at : end ≡ i = omega (arith, still, leap.low) in
    absurd (elim c.loop-end-test.branch [
      | then-loop-end-test+else-not-is_unlearned w ↦
          clash _ (sym w.is_unlearned.ensures ∙ w.if-not-is_unlearned.false)
          (ap (λ j. is_unlearned (stored_at new j)) at ∙ unlearned i ∙ shut)
      | else-loop-end-test w ↦ omega (arith, w.loop-end-test.false, at, c.loop-inst-test.true)
    ]))
    (cases_lt i end) in
    let between : (j : ℕ) → i + 1 ≤ j → j < end → is_covered_slot a old j ≡ false =
    λ j from less. along_interval a i end (is_covered_slot a old) (uncovered_out a old) inv.own c.requires.small along j
    (omega (arith, from)) less in
    let off = written_off (option_map (slot_after_phase m c.args.id)) (stored_at c.loop-inst.self) (stored_at new) i
    slots in
    record {
      own = leap.own ∙ inv.own;
      low = omega (arith, inv.low, ahead);
      walked = step_walked a c.args.id i _ _ _ _ here ahead between inv.walked slots;
      sent = step_sent a c.args.id i _ _ _ _ here ahead between inv.walked slots _ _ _ c.begin.ensures.pushed.messages inv.sent;
      room = step_room a c.args.id i _ _ _ _ here ahead between inv.walked slots _ _ c.begin.ensures.pushed.room inv.room;
      last = λ still.
          phase_each (is_covered_slot a old) (stored_at c.loop-inst.self) (stored_at new)
          (λ (s : SlotState). is_spent m s ≡ false) i _ between off (inv.last still)
          (λ s begins stored. absurd (clash _ begins (and_right _ _ shut)));
      learned_intervals = λ opens kept closed.
          let known = inv.learned_intervals opens kept closed in
          interval_put m opens c.loop-inst.learned_intervals c.put.new.self i end c.put.ensures leap.own leap.near
          (leap.passed opens known (λ j inside off. closed j inside (sym (unlearned j) ∙ off))) known;
      limit = c.begin.ensures.pushed.limit ∙ inv.limit;
    }

pub returns-clause-slots : goal.returns-clause-slots
returns-clause-slots c =
    walked_all _ _ _ c.loop-inst.inst
    (λ j past. phase_out c.args.interval c.args.id j _
    (out_past c.args.interval j (omega (arith, past, c.loop-inst-test.false))))
    c.loop-inst.invariant.walked

pub returns-clause-sent : goal.returns-clause-sent
returns-clause-sent c =
    (sent_to _ _ _ _ c.loop-inst.inst c.args.interval.stop
    (λ j low high. absurd (omega (arith, c.loop-inst-test.false)))
    (λ j low high. uncovered_out c.args.interval c.args.self.now j (out_past c.args.interval j low))
    c.loop-inst.invariant.sent).sent
