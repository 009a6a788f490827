use Rattle.std.proofs.Common.{◌≡◌, ◌∙◌, ap, arith, subst, sym}
use Rattle.mencius_server.specs.Machine.{IsFree}
use Rattle.mencius_server.specs.Notes.{NotesState}
use Rattle.mencius_server.specs.State.{ServerState}
use Rattle.mencius_server.proofs.invariant.InvariantByCall.{place_kept, server_state}
use Rattle.mencius_server.proofs.Server.place.Goals as goal

pub invariant_of-self-2 : goal.invariant_of-self-2
invariant_of-self-2 c =
    let now : ServerState = server_state c.self.inside.members c.self.inside.id c.self.inside.front c.self.inside.instances in
    let front : c.self.inside.front ≡ c.args.self.now.front = ap (λ (s : ServerState). s.front) c.self.view_is in
    let free : IsFree now c.args.inst =
    subst (λ (s : ServerState). IsFree s c.args.inst) (sym c.self.view_is) c.requires in
    place_kept _ _ _ c.self.inside.instances _ c.self.inside.notes _ c.self.invariant c.reserve.new.self c.args.inst
    c.args.ticket c.from.result (c.from.ensures ∙ c.count.ensures.count)
    (omega (arith, c.from.ensures, c.count.ensures.some)) (omega (arith, c.from.ensures, c.count.ensures.few)) free
    c.in_ok-suggest.ensures.ok
    (ap (λ (n : NotesState). n.lost_from) c.reserve.ensures.others)
    (ap (λ (n : NotesState). n.next_ticket) c.reserve.ensures.others) c.reserve.ensures.same
    (ap (λ (n : NotesState). n.free_from) c.reserve.ensures.others)
    (ap (λ (n : NotesState). n.free_from) c.pass_on.ensures.others)
    (ap (λ (n : NotesState). n.lost_from) c.pass_on.ensures.others)
    c.pass_on.ensures.above c.pass_on.ensures.short
    c.pass_on.ensures.marked c.pass_on.ensures.rest
