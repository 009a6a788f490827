-- How each line of a trace changes a slot.
use Rattle.std.proofs.Common.{◌≡◌, ℕ, ◌<◌, ◌≤◌, Bool, List, ◌∷◌, Option, Some, None, max, map, refl, sym, ◌∙◌, ap, arith, eqb}
use Rattle.std.specs.Option.{option_map, option_or}
use Rattle.std.specs.List.{list_any, fold}
use Rattle.mencius_base.specs.Numbers.{ServerId, Inst}
use Rattle.mencius_base.specs.declared.message.Message.{Message}
use Rattle.mencius_base.specs.declared.message.Message.TheVariants.{Suggest, Accepted, Promise, Propose}
use Rattle.mencius_base.specs.declared.message.Value.{Value}
use Rattle.mencius_base.specs.declared.message.Value.TheVariants.{Ticket}
use Rattle.mencius_base.specs.declared.message.Vote.{Vote}
use Rattle.mencius_base.specs.Members.{Membership, numbers_below, owner}
use Rattle.mencius_model.specs.Trace.{Line, Heard, Sent, Learned, Trace, heard_messages, sent_messages}
use Rattle.mencius_model.specs.Instance.{promised_by, promised_ballot, proposal_by, proposal, accepted_by, accepted_ballot, greater_ballot, learned_by, learned_value, tried_by, tried_ballot, reported_vote, promisers, accepters, is_promise, is_acceptance, vote_reported, IsVoted, higher_vote}
use Rattle.mencius_model.proofs.trace.OneMoreLine.{max-zero, option_or-none, greater_ballot-none, greatest_quiet, oldest_quiet, oldest_stays, vote_of_same, accepted_small, greater_above}
use Rattle.std.proofs.lemmas.Bool.{eq-eqb, lt-ltb}
use Rattle.std.specs.Prelude.{slice_get}
use Rattle.coord_paxos.specs.Slot.{with_acceptance, with_promise}
use Rattle.mencius_model.proofs.trace.ServerSets.{heard_more, or-true, set_quiet, set_more, votes_quiet, votes_more}
use Rattle.coord_paxos.specs.SlotState.{SlotState}
use Rattle.coord_paxos.specs.Reached.{if_own, slot_at}
use Rattle.mencius_model.proofs.trace.QuietLines.{IsQuiet, quiet_heard, IsUncounted}
use Rattle.mencius_model.proofs.trace.Parts.{vote_of}

-- two slots with the same parts are equal
same_parts : (m n : Membership) (a b : ℕ) (o d : Option Vote) (e f : Option Value) (g h : ℕ) (x y : Option Vote)
    (z l : Option Value) (xs r s ys : List Bool)
    → m ≡ n → a ≡ b → o ≡ d → e ≡ f → g ≡ h → x ≡ y → z ≡ l → xs ≡ r → s ≡ ys
    → ◌≡◌ {A = SlotState}
    (record {
      members = m;
      promised = a;
      vote = o;
      learned = e;
      trying = g;
      reported = x;
      proposal = z;
      promises = xs;
      accepts = s;
    })
    (record {
      members = n;
      promised = b;
      vote = d;
      learned = f;
      trying = h;
      reported = y;
      proposal = l;
      promises = r;
      accepts = ys;
    })
same_parts m n a b o d e f g h x y z l xs r s ys p1 p2 p3 p4 p5 p6 p7 p8 p9 = rw (p1, p2, p3, p4, p5, p6, p7, p8, p9)

pub same_slot : (s r : SlotState) → s.members ≡ r.members → s.promised ≡ r.promised → s.vote ≡ r.vote
    → s.learned ≡ r.learned
    → s.trying ≡ r.trying → s.reported ≡ r.reported → s.proposal ≡ r.proposal → s.promises ≡ r.promises
    → s.accepts ≡ r.accepts → s ≡ r
same_slot s r = same_parts _ _ _ _ _ _ _ _ _ _ _ _ _ _ _ _ _ _

-- p's slot for i, with its reported vote and its two sets computed from the messages hs
abbrev pub slot_hearing : Membership → Trace → ServerId → Inst → List Message → SlotState
slot_hearing m w p i hs = record (slot_at m w p i) {
  reported = fold higher_vote None (map (vote_reported i (tried_ballot w p i)) hs);
  promises = map (λ (q : ℕ). list_any (is_promise i (tried_ballot w p i) q) hs) (numbers_below m.count);
  accepts = map (λ (q : ℕ). list_any (is_acceptance i (tried_ballot w p i) q) hs) (numbers_below m.count);
}

-- a line that proposes nothing at i, and that is not a Prepare of p there, leaves the slot's proposal and the ballot
-- tried unchanged
slot_at-saying : (m : Membership) (w : Trace) (l : Line) (p i : ℕ) → ((b : ℕ) → proposal_by i b l ≡ None)
    → tried_by p i l ≡ 0
    → slot_at m (l ∷ w) p i ≡ record (slot_hearing m w p i (heard_messages (l ∷ w) p)) {
      promised = max (promised_ballot w p i) (promised_by p i l);
      vote = vote_of w i (greater_ballot (accepted_ballot w p i) (accepted_by p i l));
      learned = option_or (learned_value w p i) (learned_by p i l);
    }
slot_at-saying m w l p i unproposed untried =
    let tried : tried_ballot (l ∷ w) p i ≡ tried_ballot w p i = greatest_quiet (tried_by p i) l w untried in
    let proposals : (b : ℕ) → proposal (l ∷ w) i b ≡ proposal w i b =
    λ b. oldest_quiet (proposal_by i b) l w (unproposed b) in
    same_slot _ _ refl refl
    (vote_of_same (l ∷ w) w i (greater_ballot (accepted_ballot w p i) (accepted_by p i l)) proposals)
    refl
    tried
    (ap (reported_vote (l ∷ w) p i) tried)
    (ap (λ (b : ℕ). if_own m p i b (proposal (l ∷ w) i b)) tried
    ∙ ap (if_own m p i (tried_ballot w p i)) (proposals (tried_ballot w p i)))
    (ap (λ (b : ℕ). map (promisers (l ∷ w) p i b) (numbers_below m.count)) tried)
    (ap (λ (b : ℕ). map (accepters (l ∷ w) p i b) (numbers_below m.count)) tried)

-- a quiet line changes a slot at most by the messages that p heard
pub slot_at-unsaid : (m : Membership) (w : Trace) (l : Line) (p i : ℕ) → IsQuiet p i l
    → slot_at m (l ∷ w) p i ≡ slot_hearing m w p i (heard_messages (l ∷ w) p)
slot_at-unsaid m w l p i quiet =
    slot_at-saying m w l p i quiet.proposed quiet.tried
    ∙ same_slot _ _ refl
    (ap (max (promised_ballot w p i)) quiet.promised ∙ max-zero (promised_ballot w p i))
    (ap (λ (o : Option ℕ). vote_of w i (greater_ballot (accepted_ballot w p i) o)) quiet.accepted
    ∙ ap (vote_of w i) (greater_ballot-none (accepted_ballot w p i)))
    (ap (option_or (learned_value w p i)) quiet.learned ∙ option_or-none (learned_value w p i))
    refl refl refl refl refl

pub slot_at-quiet : (m : Membership) (w : Trace) (l : Line) (p i : ℕ) → IsQuiet p i l → heard_messages (l ∷ w) p
    ≡ heard_messages w p
    → slot_at m (l ∷ w) p i ≡ slot_at m w p i
slot_at-quiet m w l p i quiet deaf = slot_at-unsaid m w l p i quiet ∙ ap (slot_hearing m w p i) deaf

pub slot_at-heard : (m : Membership) (w : Trace) (k p i : ℕ) (x : Message) → slice_get (sent_messages w) k ≡ Some x
    → IsUncounted i (tried_ballot w p i) x → slot_at m (Heard k p ∷ w) p i ≡ slot_at m w p i
slot_at-heard m w k p i x e un =
    slot_at-unsaid m w (Heard k p) p i (quiet_heard k p i) ∙ ap (slot_hearing m w p i) (heard_more w k p x e)
    ∙ same_slot _ _ refl refl refl refl refl
    (votes_quiet (vote_reported i (tried_ballot w p i)) (heard_messages w p) x un.report)
    refl
    (set_quiet (is_promise i (tried_ballot w p i)) (heard_messages w p) x m.count un.promise)
    (set_quiet (is_acceptance i (tried_ballot w p i)) (heard_messages w p) x m.count un.acceptance)

-- when p hears an acceptance at the ballot that it tries, its slot counts the acceptance
pub slot_at-heard_acceptance : (m : Membership) (w : Trace) (k p i from : ℕ)
    → slice_get (sent_messages w) k ≡ Some (Accepted from p i (tried_ballot w p i))
    → slot_at m (Heard k p ∷ w) p i ≡ with_acceptance (slot_at m w p i) from
slot_at-heard_acceptance m w k p i from e =
    slot_at-unsaid m w (Heard k p) p i (quiet_heard k p i) ∙ ap (slot_hearing m w p i) (heard_more w k p _ e)
    ∙ same_slot _ _ refl refl refl refl refl
    (votes_quiet (vote_reported i (tried_ballot w p i)) (heard_messages w p) _ refl)
    refl
    (set_quiet (is_promise i (tried_ballot w p i)) (heard_messages w p) _ m.count (λ q. refl))
    (set_more (is_acceptance i (tried_ballot w p i)) (heard_messages w p) _ m.count from
    (λ q. rw (eq-eqb i i refl, eq-eqb (tried_ballot w p i) (tried_ballot w p i) refl)))

-- when p hears a promise of the ballot that it tries, its slot counts the promise and its vote
pub slot_at-heard_promise : (m : Membership) (w : Trace) (k p i from : ℕ) (o : Option Vote)
    → slice_get (sent_messages w) k ≡ Some (Promise from p i (tried_ballot w p i) o)
    → slot_at m (Heard k p ∷ w) p i ≡ with_promise (slot_at m w p i) from o
slot_at-heard_promise m w k p i from o e =
    slot_at-unsaid m w (Heard k p) p i (quiet_heard k p i) ∙ ap (slot_hearing m w p i) (heard_more w k p _ e)
    ∙ same_slot _ _ refl refl refl refl refl
    (votes_more (vote_reported i (tried_ballot w p i)) (heard_messages w p) _
    ∙ rw (eq-eqb i i refl, eq-eqb (tried_ballot w p i) (tried_ballot w p i) refl))
    refl
    (set_more (is_promise i (tried_ballot w p i)) (heard_messages w p) _ m.count from
    (λ q. rw (eq-eqb i i refl, eq-eqb (tried_ballot w p i) (tried_ballot w p i) refl)))
    (set_quiet (is_acceptance i (tried_ballot w p i)) (heard_messages w p) _ m.count (λ q. refl))

-- after p accepts a value that was proposed at b, b is its promised ballot, and its vote is that value at b
pub slot_at-accepted : (m : Membership) (w : Trace) (p q i b : ℕ) (z : Value) → promised_ballot w p i ≤ b
    → proposal w i b ≡ Some z
    → slot_at m (Sent (Accepted p q i b) ∷ w) p i
    ≡ record (slot_at m w p i) { promised = b; vote = Some (record { ballot = b; value = z }) }
slot_at-accepted m w p q i b z high said =
    let l : Line = Sent (Accepted p q i b) in
    let by : accepted_by p i l ≡ Some b = rw (eq-eqb p p refl, eq-eqb i i refl) in
    let acceptance : accepted_ballot (l ∷ w) p i ≡ Some b =
    rw by (greater_above (accepted_ballot w p i) (promised_ballot w p i) b (accepted_small w p i) high) in
    let promise : promised_by p i l ≡ b = rw (eq-eqb p p refl, eq-eqb i i refl) in
    slot_at-saying m w l p i (λ c. refl) refl
    ∙ same_slot _ _ refl
    (rw promise (omega arith))
    (ap (vote_of w i) acceptance ∙ ap (option_map (λ x. record { ballot = b; value = x })) said)
    (option_or-none (learned_value w p i))
    refl refl refl refl refl

vote_stays : (w : Trace) (l : Line) (i : ℕ) (o : Option ℕ)
    → ((b : ℕ) → o ≡ Some b → (z : Value) × (proposal w i b ≡ Some z)) → vote_of (l ∷ w) i o ≡ vote_of w i o
vote_stays w l i None said = refl
vote_stays w l i (Some b) said =
    ap (option_map (λ x. record { ballot = b; value = x })) (oldest_stays (proposal_by i b) l w _ (said b refl).1 ∙ sym (said b refl).1)

-- a line that may propose a value at i, and is otherwise quiet, changes at most the slot's proposal
pub slot_at-proposing : (m : Membership) (w : Trace) (l : Line) (p i : ℕ) (o : Option Value) → IsVoted w p i
    → promised_by p i l ≡ 0 → accepted_by p i l ≡ None → learned_by p i l ≡ None → tried_by p i l ≡ 0
    → heard_messages (l ∷ w) p ≡ heard_messages w p
    → if_own m p i (tried_ballot w p i) (proposal (l ∷ w) i (tried_ballot w p i)) ≡ o
    → slot_at m (l ∷ w) p i ≡ record (slot_at m w p i) { proposal = o }
slot_at-proposing m w l p i o voted unpromised unaccepted unlearned untried deaf said =
    let tried : tried_ballot (l ∷ w) p i ≡ tried_ballot w p i = greatest_quiet (tried_by p i) l w untried in
    let acceptance : accepted_ballot (l ∷ w) p i ≡ accepted_ballot w p i =
    rw unaccepted (greater_ballot-none (accepted_ballot w p i)) in
    same_slot _ _ refl
    (greatest_quiet (promised_by p i) l w unpromised)
    (ap (vote_of (l ∷ w) i) acceptance ∙ vote_stays w l i (accepted_ballot w p i) voted.proposal)
    (oldest_quiet (learned_by p i) l w unlearned)
    tried
    (ap (reported_vote (l ∷ w) p i) tried
    ∙ ap (λ (hs : List Message). fold higher_vote None (map (vote_reported i (tried_ballot w p i)) hs)) deaf)
    (ap (λ (b : ℕ). if_own m p i b (proposal (l ∷ w) i b)) tried ∙ said)
    (ap (λ (b : ℕ). map (promisers (l ∷ w) p i b) (numbers_below m.count)) tried
    ∙ ap (λ (hs : List Message). map (λ (q : ℕ). list_any (is_promise i (tried_ballot w p i) q) hs) (numbers_below m.count)) deaf)
    (ap (λ (b : ℕ). map (accepters (l ∷ w) p i b) (numbers_below m.count)) tried
    ∙ ap (λ (hs : List Message). map (λ (q : ℕ). list_any (is_acceptance i (tried_ballot w p i) q) hs) (numbers_below m.count)) deaf)

-- after p proposes a value at the ballot that it tries, the value is its proposal
pub slot_at-proposed : (m : Membership) (w : Trace) (p i b : ℕ) (z : Value) → IsVoted w p i → 0 < b
    → b ≡ tried_ballot w p i → proposal w i b ≡ None
    → slot_at m (Sent (Propose p i b z) ∷ w) p i ≡ record (slot_at m w p i) { proposal = Some z }
slot_at-proposed m w p i b z voted tried same unsaid =
    slot_at-proposing m w (Sent (Propose p i b z)) p i (Some z) voted refl refl refl refl refl
    (ap (λ (c : ℕ). if_own m p i c (proposal (Sent (Propose p i b z) ∷ w) i c)) (sym same)
    ∙ rw (unsaid, eq-eqb i i refl, eq-eqb b b refl, lt-ltb 0 b tried, or-true (eqb (owner m i) p)))

-- after the owner suggests a ticket, the ticket is its proposal
pub slot_at-suggested : (m : Membership) (w : Trace) (p i t : ℕ) → IsVoted w p i → owner m i ≡ p → tried_ballot w p i
    ≡ 0
    → proposal w i 0 ≡ None
    → slot_at m (Sent (Suggest p i t) ∷ w) p i ≡ record (slot_at m w p i) { proposal = Some (Ticket t) }
slot_at-suggested m w p i t voted mine untried unsaid =
    slot_at-proposing m w (Sent (Suggest p i t)) p i (Some (Ticket t)) voted refl refl refl refl refl
    (ap (λ (c : ℕ). if_own m p i c (proposal (Sent (Suggest p i t) ∷ w) i c)) untried
    ∙ rw (unsaid, eq-eqb i i refl, eq-eqb (owner m i) p mine))

-- after p promises a ballot, it is p's promised ballot
pub slot_at-promised : (m : Membership) (w : Trace) (p q i b : ℕ) (o : Option Vote) → promised_ballot w p i ≤ b
    → slot_at m (Sent (Promise p q i b o) ∷ w) p i ≡ record (slot_at m w p i) { promised = b }
slot_at-promised m w p q i b o high =
    let l : Line = Sent (Promise p q i b o) in
    let promise : promised_by p i l ≡ b = rw (eq-eqb p p refl, eq-eqb i i refl) in
    slot_at-saying m w l p i (λ c. refl) refl
    ∙ same_slot _ _ refl
    (rw promise (omega arith))
    (ap (vote_of w i) (greater_ballot-none (accepted_ballot w p i)))
    (option_or-none (learned_value w p i))
    refl refl refl refl refl

-- a line that says that p learned a value sets the learned value, unless p learned one before
pub slot_at-learning : (m : Membership) (w : Trace) (p i : ℕ) (z : Value)
    → slot_at m (Learned p i z ∷ w) p i
    ≡ record (slot_at m w p i) { learned = option_or (learned_value w p i) (Some z) }
slot_at-learning m w p i z =
    let l : Line = Learned p i z in
    let by : learned_by p i l ≡ Some z = rw (eq-eqb p p refl, eq-eqb i i refl) in
    slot_at-saying m w l p i (λ c. refl) refl
    ∙ same_slot _ _ refl
    (max-zero (promised_ballot w p i))
    (ap (vote_of w i) (greater_ballot-none (accepted_ballot w p i)))
    (ap (option_or (learned_value w p i)) by)
    refl refl refl refl refl

-- after p learns its first value, that is its learned value
pub slot_at-learned : (m : Membership) (w : Trace) (p i : ℕ) (z : Value) → learned_value w p i ≡ None
    → slot_at m (Learned p i z ∷ w) p i ≡ record (slot_at m w p i) { learned = Some z }
slot_at-learned m w p i z unlearned =
    slot_at-learning m w p i z
    ∙ ap (λ (o : Option Value). record (slot_at m w p i) { learned = option_or o (Some z) }) unlearned
