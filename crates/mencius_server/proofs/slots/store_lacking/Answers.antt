use Rattle.std.proofs.Common.{◌≡◌, ◌∙◌, Bool, true, false, ap, arith, not, refl, sym, ⊎_elim, ◌&&◌}
use Rattle.std.specs.Prelude.{is_none}
use Rattle.std.proofs.lemmas.Bool.{cases_Bool}
use Rattle.mencius_base.specs.Members.{owner}
use Rattle.mencius_server.specs.Intervals.{is_in_any}
use Rattle.mencius_server.specs.Slots.{is_lacking, stored_at}
use Rattle.mencius_server.proofs.suspicions.IntervalLeaps.{past_above, past_closed, past_owned}
use Rattle.mencius_server.proofs.stored.IntervalLoops.{along_interval, filled, lacking_covered, lacking_out, leapt, new_slot_out, out_past, stored_whole, walked_all}
use Rattle.mencius_server.proofs.slots.store_lacking.Goals as goal

-- A bare instance has no slot and lies in no skipped interval.
bare_clear : (none covered bare : Bool) → bare ≡ (none && not covered) → bare ≡ true
    → (covered ≡ false) × (none ≡ true)
bare_clear true true bare is holds = absurd (cc)
bare_clear true false bare is holds = (refl, refl)
bare_clear false covered bare is holds = absurd (cc)

-- An instance that is not bare and lies in no skipped interval has a slot.
bare_stored : (none covered bare : Bool) → bare ≡ (none && not covered) → bare ≡ false → covered ≡ false → none ≡ false
bare_stored true true bare is fails clear = absurd (cc)
bare_stored true false bare is fails clear = sym is ∙ fails
bare_stored false covered bare is fails clear = refl

pub loop-inst-preserved-then-is_bare : goal.loop-inst-preserved-then-is_bare
loop-inst-preserved-then-is_bare c =
    let inv = c.loop-inst.invariant in
    let a = c.args.interval in
    let rs = c.args.skipped.now in
    let i = c.loop-inst.inst in
    let old = c.args.slots.now.items in
    let now = c.loop-inst.slots.items in
    let ahead = c.next_owned-next.ensures.above in
    let bare = bare_clear (is_none (stored_at now i)) (is_in_any rs i) _
    (c.is_bare.ensures ∙ ap (λ xs. is_none (stored_at xs i) && not (is_in_any rs i)) c.deref.ensures.value)
    c.if-is_bare.true in
    record {
      own = c.next_owned-next.ensures.owned ∙ inv.own;
      low = omega (arith, inv.low, ahead);
      len = inv.len;
      walked = rw c.new.ensures (filled a rs old now i inv.walked c.next_owned-next.result inv.own inv.low
          c.loop-inst-test.true ahead c.next_owned-next.ensures.least bare.0 bare.1
          (omega (arith, c.loop-inst-test.true, c.requires.wide, inv.len, c.loop-inst.slots.ok.0)));
    }

pub loop-inst-preserved : goal.loop-inst-preserved
loop-inst-preserved c =
    let inv = c.loop-inst.invariant in
    let a = c.args.interval in
    let m = a.members in
    let rs = c.args.skipped.now in
    let ends = c.args.learned_intervals.now in
    let i = c.loop-inst.inst in
    let next = c.next_owned-next.result in
    let past = c.past-inst.result in
    let old = c.args.slots.now.items in
    let now = c.loop-inst.slots.items in
    let lacks = is_lacking a rs old in
    let owned : owner m next ≡ owner m i = c.next_owned-next.ensures.owned in
    let above = c.next_owned-next.ensures.above in
    let ahead = past_above m ends i next past c.past-inst.ensures above owned in
    let whole : lacks i ≡ false = ⊎_elim
    (λ (covered : is_in_any rs i ≡ true). lacking_covered a rs old i covered)
    (λ (clear : is_in_any rs i ≡ false).
    stored_whole a rs old now i inv.walked
    (bare_stored (is_none (stored_at now i)) _ _
    (c.is_bare.ensures ∙ ap (λ xs. is_none (stored_at xs i) && not (is_in_any rs i)) c.deref.ensures.value)
    c.if-is_bare.false clear))
    (cases_Bool (is_in_any rs i)) in
    let along = along_interval a i past lacks (lacking_out a rs old) inv.own c.requires.small
    (past_closed m ends i next past c.past-inst.ensures above owned lacks c.requires.learned_intervals
    c.next_owned-next.ensures.least whole) in
    record {
      own = past_owned m ends i next past c.past-inst.ensures above owned lacks c.requires.learned_intervals ∙ inv.own;
      low = omega (arith, inv.low, ahead);
      len = inv.len;
      walked = leapt a rs old now i past (omega (arith, ahead)) along inv.walked;
    }

pub returns-clause-stored : goal.returns-clause-stored
returns-clause-stored c =
    walked_all _ _ _ c.loop-inst.inst
    (λ j past. new_slot_out c.args.interval c.args.skipped.now j _
    (out_past c.args.interval j (omega (arith, past, c.loop-inst-test.false))))
    c.loop-inst.invariant.walked
