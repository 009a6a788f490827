-- Each fact that a trace gives comes from a line, and later lines do not take it back.
use Rattle.std.proofs.Common.{◌≡◌, ℕ, ◌<◌, ◌≤◌, Bool, true, false, cond, ◌&&◌, eqb, [], ◌∷◌, ◌⊎◌, inl, inr, refl, ap, arith, Option, Some, None, eq-eqb, eqb-true, ltb, ltb-false, ltb-true}
use Rattle.std.specs.Prelude.{option_to_list}
use Rattle.std.specs.Option.{option_or}
use Rattle.std.proofs.lemmas.Bool.{and_parts, cases_Bool}
use Rattle.mencius_base.specs.declared.message.Message.{Message}
use Rattle.mencius_base.specs.declared.message.Message.TheVariants.{Suggest, Accepted, Promise, Propose}
use Rattle.mencius_base.specs.declared.message.Value.{Value}
use Rattle.mencius_base.specs.declared.message.Value.TheVariants.{Ticket}
use Rattle.mencius_base.specs.declared.message.Vote.{Vote}
use Rattle.mencius_model.specs.Trace.{Line, Submitted, Heard, Lost, Suspected, Retried, Executed, Sent, Learned, Trace, greatest_by, oldest_by, message_in, sent_messages}
use Rattle.mencius_model.specs.Instance.{promised_ballot, promised_by, proposal, proposal_by, accepted_ballot, accepted_by, greater_ballot, learned_value, learned_by, has_accepted, is_acceptance}
use Rattle.mencius_model.specs.Server.{suggested_by, suggested_ticket}
use Rattle.mencius_model.proofs.trace.Lists.{IsIn, in_append, in_append_left, in_append_right, any_in, in_any}

-- ---- any line

pub greatest_ge : (f : Line → ℕ) (l : Line) (w : Trace) → IsIn l w → f l ≤ greatest_by f w
greatest_ge f l [] h = absurd h
greatest_ge f l (x ∷ w) (inl e) = let so = ap f e in omega (arith, so)
greatest_ge f l (x ∷ w) (inr h) = omega (arith, greatest_ge f l w h)

pub earlier_cases : {A : Type 0} (x y : Option A) (a : A) → option_or x y ≡ Some a → (x ≡ Some a) ⊎ (y ≡ Some a)
earlier_cases None y a h = inr h
earlier_cases (Some x) y a h = inl h

pub oldest_in : {A : Type 0} (f : Line → Option A) (w : Trace) (a : A) → oldest_by f w ≡ Some a
    → (l : Line) × IsIn l w × (f l ≡ Some a)
oldest_in f [] a h = absurd (cc)
oldest_in f (l ∷ w) a h =
    elim (earlier_cases (oldest_by f w) (f l) a h) [
      | inl e ↦ let r = oldest_in f w a e in (r.0, inr r.1, r.2)
      | inr e ↦ (l, inl refl, e)
    ]

pub oldest_more : {A : Type 0} (f : Line → Option A) (l : Line) (w : Trace) (a : A) → oldest_by f w ≡ Some a
    → oldest_by f (l ∷ w) ≡ Some a
oldest_more f l w a h = rw h

pub earlier_none : {A : Type 0} (x y : Option A) → option_or x y ≡ None → (x ≡ None) × (y ≡ None)
earlier_none None y h = (refl, h)
earlier_none (Some x) y h = absurd (cc)

pub earlier_right : {A : Type 0} (x : Option A) → option_or x None ≡ x
earlier_right None = refl
earlier_right (Some x) = refl

pub oldest_none : {A : Type 0} (f : Line → Option A) (l : Line) (w : Trace) → oldest_by f w ≡ None → IsIn l w
    → f l ≡ None
oldest_none f l [] h there = absurd there
oldest_none f l (x ∷ w) h (inl e) = rw e (earlier_none (oldest_by f w) (f x) h).1
oldest_none f l (x ∷ w) h (inr there) = oldest_none f l w (earlier_none (oldest_by f w) (f x) h).0 there

pub in_sent : (x : Message) (w : Trace) → IsIn (Sent x) w → IsIn x (sent_messages w)
in_sent x [] h = h
in_sent x (l ∷ w) (inl e) = in_append_right x (sent_messages w) (option_to_list (message_in l)) (rw (← e) (inl refl))
in_sent x (l ∷ w) (inr h) = in_append_left x (sent_messages w) (option_to_list (message_in l)) (in_sent x w h)

message_line : (x : Message) (l : Line) → IsIn x (option_to_list (message_in l)) → Sent x ≡ l
message_line x (Sent y) (inl e) = ap Sent e
message_line x (Sent y) (inr h) = absurd h
message_line x (Submitted command p) h = absurd h
message_line x (Heard k p) h = absurd h
message_line x (Lost k p) h = absurd h
message_line x (Suspected p q) h = absurd h
message_line x (Retried p) h = absurd h
message_line x (Executed p) h = absurd h
message_line x (Learned p i z) h = absurd h

pub sent_in : (x : Message) (w : Trace) → IsIn x (sent_messages w) → IsIn (Sent x) w
sent_in x [] h = h
sent_in x (l ∷ w) h =
    elim (in_append x (sent_messages w) (option_to_list (message_in l)) h) [
      | inl there ↦ inr (sent_in x w there)
      | inr there ↦ inl (message_line x l there)
    ]

-- ---- tests

pub same : (a : ℕ) → eqb a a ≡ true
same a = eq-eqb a a refl

pub same_two : (x y : ℕ) → (eqb x x && eqb y y) ≡ true
same_two x y = rw (same x) (same y)

if_some : {A : Type 0} (a : Bool) (x y : A) → cond a (Some x) None ≡ Some y → (a ≡ true) × (x ≡ y)
if_some true x y h = (refl, cc)
if_some false x y h = absurd (cc)

both_eq : (x y z n : ℕ) → (eqb x y && eqb z n) ≡ true → (x ≡ y) × (z ≡ n)
both_eq x y z n h = let r = and_parts (eqb x y) (eqb z n) h in (eqb-true x y r.0, eqb-true z n r.1)

-- ---- promises and acceptances

pub promise_within : (w : Trace) (q to i b : ℕ) (o : Option Vote) → IsIn (Sent (Promise q to i b o)) w
    → b ≤ promised_ballot w q i
promise_within w q to i b o h =
    let greatest_by = greatest_ge (promised_by q i) (Sent (Promise q to i b o)) w h in
    rw (same_two q i) at greatest_by

pub acceptance_within : (w : Trace) (q to i b : ℕ) → IsIn (Sent (Accepted q to i b)) w → b ≤ promised_ballot w q i
acceptance_within w q to i b h =
    let greatest_by = greatest_ge (promised_by q i) (Sent (Accepted q to i b)) w h in
    rw (same_two q i) at greatest_by

pub promised_more : (l : Line) (w : Trace) (q i b : ℕ) → b ≤ promised_ballot w q i → b ≤ promised_ballot (l ∷ w) q i
promised_more l w q i b h = omega arith

greater_left : (x : ℕ) (o : Option ℕ) → (a : ℕ) × (greater_ballot (Some x) o ≡ Some a) × (x ≤ a)
greater_left x None = (x, refl, omega arith)
greater_left x (Some y) =
    elim (cases_Bool (ltb x y)) [
      | inl e ↦ (y, rw e, omega (arith, ltb-true x y e))
      | inr e ↦ (x, rw e, omega arith)
    ]

greater_right : (o : Option ℕ) (x : ℕ) → (a : ℕ) × (greater_ballot o (Some x) ≡ Some a) × (x ≤ a)
greater_right None x = (x, refl, omega arith)
greater_right (Some y) x =
    elim (cases_Bool (ltb y x)) [
      | inl e ↦ (x, rw e, omega arith)
      | inr e ↦ (y, rw e, omega (arith, ltb-false y x e))
    ]

greater_cases : (x y : Option ℕ) (a : ℕ) → greater_ballot x y ≡ Some a → (x ≡ Some a) ⊎ (y ≡ Some a)
greater_cases None y a h = inr h
greater_cases (Some x) None a h = inl h
greater_cases (Some x) (Some y) a h =
    elim (cases_Bool (ltb x y)) [
      | inl e ↦ inr (rw e at h)
      | inr e ↦ inl (rw e at h)
    ]

-- If q accepted a ballot at i, the greatest ballot that it accepted there is at least that ballot.
pub accepted_above : (w : Trace) (q to i b : ℕ) → IsIn (Sent (Accepted q to i b)) w
    → (a : ℕ) × (accepted_ballot w q i ≡ Some a) × (b ≤ a)
accepted_above [] q to i b h = absurd h
accepted_above (l ∷ w) q to i b (inl e) =
    let r = greater_right (accepted_ballot w q i) b in
    (r.0, rw (← e, same_two q i) r.1, r.2)
accepted_above (l ∷ w) q to i b (inr h) =
    let r = accepted_above w q to i b h in
    let greatest_by = greater_left r.0 (accepted_by q i l) in
    (greatest_by.0, rw r.1 greatest_by.1, omega (arith, r.2, greatest_by.2))

accepted_line : (q i b : ℕ) (l : Line) → accepted_by q i l ≡ Some b → (to : ℕ) × (Sent (Accepted q to i b) ≡ l)
accepted_line q i b (Sent (Accepted from to inst ballot)) h =
    let r = if_some (eqb from q && eqb inst i) ballot b h in
    let e = both_eq from q inst i r.0 in
    (to, cc)
accepted_line q i b _ h = absurd (cc)

pub accepted_in : (w : Trace) (q i b : ℕ) → accepted_ballot w q i ≡ Some b → (to : ℕ)
    × IsIn (Sent (Accepted q to i b)) w
accepted_in [] q i b h = absurd (cc)
accepted_in (l ∷ w) q i b h =
    elim (greater_cases (accepted_ballot w q i) (accepted_by q i l) b h) [
      | inl e ↦ let r = accepted_in w q i b e in (r.0, inr r.1)
      | inr e ↦ let r = accepted_line q i b l e in (r.0, inl r.1)
    ]

-- ---- proposals

pub proposed_more : (l : Line) (w : Trace) (i b : ℕ) (z : Value) → proposal w i b ≡ Some z
    → proposal (l ∷ w) i b ≡ Some z
proposed_more l w i b z h = oldest_more (proposal_by i b) l w z h

proposal_line : (i b : ℕ) (x : Value) (l : Line) → 0 < b → proposal_by i b l ≡ Some x
    → (p : ℕ) × (Sent (Propose p i b x) ≡ l)
proposal_line i b x (Sent (Propose from inst ballot value)) pos h =
    let r = if_some ((eqb inst i && eqb ballot b) && ltb 0 b) value x h in
    let e = both_eq inst i ballot b (and_parts (eqb inst i && eqb ballot b) (ltb 0 b) r.0).0 in
    (from, cc)
proposal_line i b x (Sent (Suggest from inst ticket)) pos h =
    let r = if_some (eqb inst i && eqb b 0) (Ticket ticket) x h in
    let z : b ≡ 0 = (both_eq inst i b 0 r.0).1 in
    absurd (omega (arith, z))
proposal_line i b x _ pos h = absurd (cc)

-- A value that is proposed above ballot 0 is in a Propose.
pub proposal_in : (w : Trace) (i b : ℕ) (z : Value) → 0 < b → proposal w i b ≡ Some z
    → (p : ℕ) × IsIn (Sent (Propose p i b z)) w
proposal_in w i b z pos h =
    let r = oldest_in (proposal_by i b) w z h in
    let s = proposal_line i b z r.0 pos r.2 in
    (s.0, rw s.1 r.1)

start_line : (i : ℕ) (z : Value) (l : Line) → proposal_by i 0 l ≡ Some z
    → (p : ℕ) × (t : ℕ) × (Sent (Suggest p i t) ≡ l) × (z ≡ Ticket t)
start_line i z (Sent (Suggest from inst ticket)) h =
    let r = if_some (eqb inst i && eqb 0 0) (Ticket ticket) z h in
    let e = both_eq inst i 0 0 r.0 in
    (from, ticket, cc, cc)
start_line i z (Sent (Propose from inst ballot value)) h =
    let r = if_some ((eqb inst i && eqb ballot 0) && ltb 0 0) value z h in
    let e = (and_parts (eqb inst i && eqb ballot 0) (ltb 0 0) r.0).1 in
    absurd (cc)
start_line i z _ h = absurd (cc)

-- A value that is proposed at ballot 0 is a suggested ticket.
pub start_in : (w : Trace) (i : ℕ) (z : Value) → proposal w i 0 ≡ Some z
    → (p : ℕ) × (t : ℕ) × IsIn (Sent (Suggest p i t)) w × (z ≡ Ticket t)
start_in w i z h =
    let r = oldest_in (proposal_by i 0) w z h in
    let s = start_line i z r.0 r.2 in
    (s.0, s.1, rw s.2 r.1, s.3)

-- ---- learned values and suggested tickets

learned_line : (p i : ℕ) (z : Value) (l : Line) → learned_by p i l ≡ Some z → Learned p i z ≡ l
learned_line p i z (Learned server inst value) h =
    let r = if_some (eqb server p && eqb inst i) value z h in
    let e = both_eq server p inst i r.0 in
    cc
learned_line p i z _ h = absurd (cc)

pub learned_in : (w : Trace) (p i : ℕ) (z : Value) → learned_value w p i ≡ Some z → IsIn (Learned p i z) w
learned_in w p i z h = let r = oldest_in (learned_by p i) w z h in rw (learned_line p i z r.0 r.2) r.1

pub learned_more : (l : Line) (w : Trace) (p i : ℕ) (z : Value) → learned_value w p i ≡ Some z
    → learned_value (l ∷ w) p i ≡ Some z
learned_more l w p i z h = oldest_more (learned_by p i) l w z h

suggested_line : (p i t : ℕ) (l : Line) → suggested_by p i l ≡ Some t → Sent (Suggest p i t) ≡ l
suggested_line p i t (Sent (Suggest from inst ticket)) h =
    let r = if_some (eqb from p && eqb inst i) ticket t h in
    let e = both_eq from p inst i r.0 in
    cc
suggested_line p i t _ h = absurd (cc)

pub suggested_in : (w : Trace) (p i t : ℕ) → suggested_ticket w p i ≡ Some t → IsIn (Sent (Suggest p i t)) w
suggested_in w p i t h = let r = oldest_in (suggested_by p i) w t h in rw (suggested_line p i t r.0 r.2) r.1

-- ---- acceptances

pub acceptance_message : (i b q : ℕ) (x : Message) → is_acceptance i b q x ≡ true → (to : ℕ) × (Accepted q to i b ≡ x)
acceptance_message i b q (Accepted from to inst ballot) h =
    let r = and_parts (eqb inst i && eqb ballot b) (eqb from q) h in
    let e = both_eq inst i ballot b r.0 in
    let same = eqb-true from q r.1 in
    (to, cc)
acceptance_message i b q _ h = absurd (cc)

pub acceptance_in : (w : Trace) (i b q : ℕ) → has_accepted w i b q ≡ true
    → (to : ℕ) × IsIn (Sent (Accepted q to i b)) w
acceptance_in w i b q h =
    let r = any_in (is_acceptance i b q) (sent_messages w) h in
    let s = acceptance_message i b q r.0 r.2 in
    (s.0, sent_in (Accepted q s.0 i b) w (rw s.1 r.1))

pub in_acceptance : (w : Trace) (i b q to : ℕ) → IsIn (Sent (Accepted q to i b)) w → has_accepted w i b q ≡ true
in_acceptance w i b q to h =
    in_any (is_acceptance i b q) (Accepted q to i b) (sent_messages w) (in_sent (Accepted q to i b) w h)
    (rw (same q, same i, same b))

pub acceptance_more : (l : Line) (w : Trace) (i b q : ℕ) → has_accepted w i b q ≡ true
    → has_accepted (l ∷ w) i b q ≡ true
acceptance_more l w i b q h =
    let r = acceptance_in w i b q h in
    in_acceptance (l ∷ w) i b q r.0 (inr r.1)
