-- The learned values, the number of executed instances and the history of a server only grow.
use Rattle.std.proofs.Common.{◌≡◌, ℕ, ◌≤◌, List, [], ◌∷◌, ◌++◌, sym, ◌∙◌, arith, Some}
use Rattle.mencius_base.specs.declared.message.Value.{Value}
use Rattle.mencius_base.specs.Members.{Membership}
use Rattle.mencius_model.specs.Trace.{Line, Trace}
use Rattle.mencius_model.specs.Instance.{learned_value}
use Rattle.mencius_model.specs.Server.{done}
use Rattle.mencius_model.specs.Executed.{history, IsPrefix}
use Rattle.mencius_model.proofs.rights.LineRights.{IsGrown, IsPast, past_grown}
use Rattle.mencius_model.proofs.trace.AnswersLast.{learned_more}
use Rattle.mencius_model.proofs.histories.Histories.{tickets_prefix, tickets_same, executed_learned}

-- A learned value stays.
learned_past : (ls : List Line) (w : Trace) (p i : ℕ) (z : Value) → learned_value w p i ≡ Some z
    → learned_value (ls ++ w) p i ≡ Some z
learned_past [] w p i z h = h
learned_past (l ∷ ls) w p i z h = learned_more l (ls ++ w) p i z (learned_past ls w p i z h)

-- The number of executed instances does not fall.
done_past : (ls : List Line) (w : Trace) (p : ℕ) → done w p ≤ done (ls ++ w) p
done_past [] w p = omega arith
done_past (l ∷ ls) w p = omega (arith, done_past ls w p)

learned_later : (w end : Trace) → IsPast w end → (p i : ℕ) (z : Value) → learned_value w p i ≡ Some z
    → learned_value end p i ≡ Some z
learned_later w end past p i z h = rw past.is (learned_past past.since w p i z h)

done_later : (w end : Trace) → IsPast w end → (p : ℕ) → done w p ≤ done end p
done_later w end past p = rw past.is (done_past past.since w p)

-- The history of a server only grows.
pub history_grows : (m : Membership) (w end : Trace) → IsPast w end → IsGrown m end → (p : ℕ)
    → IsPrefix (history w p) (history end p)
history_grows m w end past grown p =
    let same =
    tickets_same (learned_value w p) (learned_value end p) (done w p)
    (λ i lt.
    let r = executed_learned m w (past_grown m w end past grown) p i lt in
    r.1 ∙ sym (learned_later w end past p i r.0 r.1)) in
    rw same (tickets_prefix (learned_value end p) (done w p) (done end p) (done_later w end past p))
