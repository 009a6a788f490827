use Rattle.std.proofs.Common.{inl, inr}
use Rattle.mencius_clients.proofs.states.has_many.Goals as goal

pub loop-place-preserved : goal.loop-place-preserved
loop-place-preserved c =
    let h = c.loop-place.invariant in
    let e = c.in_ok-push_at.ensures in (
      e.rising h.0,
      λ d one. elim (e.within d one) [ inl before ↦ h.1 d before | inr there ↦ there ],
    )
