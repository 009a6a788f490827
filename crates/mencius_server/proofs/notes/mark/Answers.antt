use Rattle.std.proofs.Common.{◌≡◌, ◌<◌, ap, arith, false, length, refl, sym, true, ◌∙◌}
use Rattle.mencius_server.specs.Instances.{instance_slot}
use Rattle.mencius_server.specs.Machine.{is_ticket}
use Rattle.mencius_model.specs.Server.{ticket_of}
use Rattle.mencius_server.proofs.tickets.TicketMarks.{marked_more, marked_start}
use Rattle.mencius_server.proofs.notes.mark.Goals as goal
use Rattle.mencius_server.proofs.notes.mark.Goals.{then-is_of, else-is_of}

pub loop-inst-init : goal.loop-inst-init
loop-inst-init c =
    record {
      len = refl;
      own = c.first_owned-inst.ensures.owned;
      marked = marked_start _ _ _ _ _ _ _ c.first_owned-inst.ensures.least;
    }

pub loop-inst-preserved : goal.loop-inst-preserved
loop-inst-preserved c =
    let here : is_ticket c.args.ticket (ticket_of (instance_slot c.args.instances.now c.loop-inst.inst).proposal)
    ≡ c.is_of.result = sym c.is_of.ensures in
    let inside : c.loop-inst.inst < length c.loop-inst.suggested_again.items = omega arith in
    record {
      len = elim c.if-is_of.branch [
        | then-is_of way ↦ rw way.suggested_again-is (omega arith)
        | else-is_of way ↦ rw way.suggested_again-is (omega arith)
      ];
      own = c.first_owned-inst-in-loop-inst.ensures.owned;
      marked = elim c.if-is_of.branch [
        | then-is_of way ↦
            marked_more _ _ _ _ c.loop-inst.inst _ _ _ c.loop-inst.suggested_again.items _ true c.loop-inst-test.true
            inside
            c.loop-inst.invariant.own
            c.first_owned-inst-in-loop-inst.ensures.least c.first_owned-inst-in-loop-inst.ensures.above (here
            ∙ way.if-is_of.true) (ap (λ list. list.items) way.suggested_again-is) c.loop-inst.invariant.marked
        | else-is_of way ↦
            marked_more _ _ _ _ c.loop-inst.inst _ _ _ c.loop-inst.suggested_again.items _ false c.loop-inst-test.true
            inside
            c.loop-inst.invariant.own
            c.first_owned-inst-in-loop-inst.ensures.least c.first_owned-inst-in-loop-inst.ensures.above (here
            ∙ way.if-is_of.false) (ap (λ list. list.items) way.suggested_again-is) c.loop-inst.invariant.marked
      ];
    }
