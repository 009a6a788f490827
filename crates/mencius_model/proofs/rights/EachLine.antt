-- A property of each line of a trace, and of each line that an event adds to it.
use Rattle.std.proofs.Common.{◌≡◌, Bool, true, false, cond, List, [], ◌∷◌, inl, inr, Ok}
use Rattle.mencius_base.specs.Members.{Membership}
use Rattle.mencius_base.specs.declared.event.Event.{Event}
use Rattle.mencius_model.specs.Trace.{Line, Trace, followed_by}
use Rattle.mencius_model.specs.Next.{head, lines, next}
use Rattle.mencius_model.proofs.rights.EventRights.{next_is}
use Rattle.mencius_model.proofs.trace.Lists.{IsIn}

-- The property holds of each line of the list.
abbrev pub AreAll : (Line → Type 0) → List Line → Type 0
AreAll P [] = Unit {0}
AreAll P (l ∷ ls) = P l × AreAll P ls

-- The property holds of each line of the trace.
abbrev pub HoldsAlong : (Line → Type 0) → Trace → Type 0
HoldsAlong P w = (l : Line) → IsIn l w → P l

module _ (P : Line → Type 0) where
  more_along : (w : Trace) (l : Line) → HoldsAlong P w → P l → HoldsAlong P (l ∷ w)
  more_along w l all h other (inl e) = rw e h
  more_along w l all h other (inr there) = all other there

  followed_along : (ls : List Line) (w : Trace) → HoldsAlong P w → AreAll P ls → HoldsAlong P (followed_by w ls)
  followed_along [] w all h = all
  followed_along (l ∷ ls) w all h = followed_along ls (l ∷ w) (more_along w l all h.0) h.1

  -- If the property holds of each line that an event adds, it still holds along the trace after the event.
  pub next_along : (m : Membership) (w v : Trace) (e : Event) → HoldsAlong P w → next m w e ≡ Ok v → P (head e)
      → AreAll P (lines m w e) → HoldsAlong P v
  next_along m w v e all h first rest =
      rw (next_is m w v e h).is at (followed_along (head e ∷ lines m w e) w all (first, rest))

  -- If the property holds of a line, it holds of each line of a list that contains at most this line.
  pub one_if : (l : Line) (d : Bool) → P l → AreAll P (cond d (l ∷ []) [])
  one_if l true h = (h, tt)
  one_if l false h = tt
