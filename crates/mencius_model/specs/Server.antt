-- The knowledge of a server apart from single instances, as functions of the trace.
use Rattle.std.specs.Prelude.{ℕ, ◌+◌, Bool, false, List, [], ◌∷◌, Option, Some, None, ◌==◌, max, nat_lt, if◌then◌else◌, ◌&&◌, not, option_and_then}
use Rattle.std.specs.List.{list_any, filter, filter_map, find}
use Rattle.mencius_base.specs.Numbers.{ServerId, Inst, TicketNo}
use Rattle.mencius_base.specs.declared.message.Message.TheVariants.{Suggest, Skip}
use Rattle.mencius_base.specs.declared.message.Value.{Value}
use Rattle.mencius_base.specs.declared.message.Value.TheVariants.{Ticket}
use Rattle.mencius_base.specs.Members.{Membership, instances}
use Rattle.mencius_model.specs.Trace.{Line, Executed, Sent, Trace, greatest_by, oldest_by}
use Rattle.mencius_model.specs.Instance.{learned_value}
use Rattle.mencius_model.specs.Rules.{is_covered_from, is_free_from, is_noop, is_open_from, reach_from}

-- The instance that a line moves p's front to, or 0 if the line is neither a Suggest nor a Skip by p.
abbrev pub front_by : Membership → ServerId → Line → Inst
front_by m p (Sent (Suggest from inst ticket)) = if from == p then inst + m.count else 0
front_by m p (Sent (Skip from first stop)) = if from == p then stop else 0
front_by m p _ = 0

-- The front of p is the first own instance after all that it suggested at or skipped. At the start it is p. The next
-- suggestion may be at a later one (`free_instance`), because p may have learned a value at its front.
abbrev pub front : Membership → Trace → ServerId → Inst
front m w p = max p (greatest_by (front_by m p) w)

-- The ticket that p suggests at i by this line, if it suggests one.
abbrev pub suggested_by : ServerId → Inst → Line → Option TicketNo
suggested_by p i (Sent (Suggest from inst ticket)) = if from == p && inst == i then Some ticket else None
suggested_by p i _ = None

-- The ticket that p suggested at i, if it suggested one. If there are several, the first one counts.
abbrev pub suggested_ticket : Trace → ServerId → Inst → Option TicketNo
suggested_ticket w p i = oldest_by (suggested_by p i) w

-- Whether p suggests ticket t at an instance above i by this line.
abbrev pub is_suggested_again_by : ServerId → TicketNo → Inst → Line → Bool
is_suggested_again_by p t i (Sent (Suggest from inst ticket)) = (from == p && ticket == t) && nat_lt i inst
is_suggested_again_by p t i _ = false

-- The ticket that p suggested at i, if it waits. It waits if p learned no-op at i and suggested the ticket at no
-- greater instance.
abbrev pub waiting_at : Trace → ServerId → Inst → Option TicketNo
waiting_at w p i =
    option_and_then
    (λ t.
    if is_noop (learned_value w p i) && not (list_any (is_suggested_again_by p t i) w) then Some t else None)
    (suggested_ticket w p i)

-- The tickets that wait at p, in rising order of the instances at which p learned no-op instead of them.
abbrev pub waiting_tickets : Trace → ServerId → List TicketNo
waiting_tickets w p = filter_map (waiting_at w p) instances

-- The lowest own instance of p that is not below p's front and that p has not learned, if there is one.
abbrev pub free_instance : Membership → Trace → ServerId → Option Inst
free_instance m w p = find (λ i. is_free_from m p (front m w p) i (learned_value w p i)) instances

-- The last instance that a suspicion of q by p may cover, or `None` if the suspicion covers nothing. It depends on the
-- lowest instance of q that p has not learned.
abbrev pub reach : Membership → Trace → ServerId → ServerId → Option Inst
reach m w p q = reach_from m (front m w p) (find (λ i. is_open_from m q i (learned_value w p i)) instances)

-- The instances that a suspicion of q by p covers, in rising order.
abbrev pub covered_instances : Membership → Trace → ServerId → ServerId → List Inst
covered_instances m w p q = filter (λ i. is_covered_from m q (reach m w p q) i (learned_value w p i)) instances

-- 1 if p executes an instance by this line, otherwise 0.
abbrev pub done_by : ServerId → Line → ℕ
done_by p (Executed server) = if server == p then 1 else 0
done_by p _ = 0

-- The number of instances that p executed.
abbrev pub done : Trace → ServerId → ℕ
done [] p = 0
done (l ∷ w) p = done w p + done_by p l

-- The ticket of a value, or `None` if the value is no-op or absent.
abbrev pub ticket_of : Option Value → Option TicketNo
ticket_of (Some (Ticket t)) = Some t
ticket_of _ = None
