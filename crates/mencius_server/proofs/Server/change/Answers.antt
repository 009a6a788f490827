use Rattle.std.proofs.Common.{◌≡◌, arith, false, inl, inr, refl, rules, subst, sym, ap, ◌∙◌, min}
use Rattle.mencius_server.specs.Changes.{IsSaid}
use Rattle.mencius_server.specs.State.{ServerState}
use Rattle.mencius_server.proofs.invariant.InvariantByCall.{change_kept}
use Rattle.mencius_server.proofs.Server.change.Goals as goal
use Rattle.mencius_server.proofs.Server.change.Goals.{in-Some-Noop, in_default, in_default-2}
use Rattle.mencius_model.specs.Rules.{is_noop}

pub invariant_of-self-then-owner-self : goal.invariant_of-self-then-owner-self
invariant_of-self-then-owner-self c =
    let said : IsSaid c.self.inside.members c.args.change = subst
    (λ (s : ServerState). IsSaid s.members c.args.change) (sym c.self.view_is) c.requires.said in
    change_kept _ _ _ c.self.inside.instances _ c.self.inside.notes _ c.self.invariant c.args.inst
    (min c.self.inside.notes.lost_from c.args.inst) c.args.change c.requires.small said
    c.in_ok-change.ensures.ok (omega arith) (inl (omega arith)) c.note_lost.ensures

pub invariant_of-self-else-owner-self : goal.invariant_of-self-else-owner-self
invariant_of-self-else-owner-self c =
    let said : IsSaid c.self.inside.members c.args.change = subst
    (λ (s : ServerState). IsSaid s.members c.args.change) (sym c.self.view_is) c.requires.said in
    change_kept _ _ _ c.self.inside.instances _ c.self.inside.notes _ c.self.invariant c.args.inst
    c.self.inside.notes.lost_from c.args.change c.requires.small said
    c.in_ok-change.ensures.ok (omega arith) (inr (λ mine. absurd (c.if-owner-self.false (c.owner.ensures.owner
    ∙ mine)))) refl

pub invariant_of-self-else-is_lost : goal.invariant_of-self-else-is_lost
invariant_of-self-else-is_lost c =
    let said : IsSaid c.self.inside.members c.args.change = subst
    (λ (s : ServerState). IsSaid s.members c.args.change) (sym c.self.view_is) c.requires.said in
    let other_value : is_noop c.learned.result ≡ false = elim c.match-matches.branch [
      | in-Some-Noop way ↦ absurd (let e = way.matches-is in let so = c.if-is_lost.false in cc)
      | in_default way ↦ search rules
      | in_default-2 way ↦ search rules
    ] in
    change_kept _ _ _ c.self.inside.instances _ c.self.inside.notes _ c.self.invariant c.args.inst
    c.self.inside.notes.lost_from c.args.change c.requires.small said
    c.in_ok-change.ensures.ok (omega arith) (inr (λ mine. ap is_noop (sym c.learned.ensures) ∙ other_value)) refl
