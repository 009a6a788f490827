-- A suspicion has the effect that the model gives to this event.
use Rattle.std.proofs.Common.{◌≡◌, ℕ, ◌+◌, ◌<◌, Bool, true, false, List, [], ◌∷◌, Option, Some, None, cond, eqb, filter, inl, inr, leb, length, ltb, map, max, refl, sym, ◌∙◌, ap, arith, ◌&&◌, ◌||◌}
use Rattle.std.specs.Prelude.{is_none, slice_get}
use Rattle.std.specs.List.{list_any, fold}
use Rattle.std.specs.Option.{option_map_or}
use Rattle.std.proofs.lemmas.Bool.{cases_lt, eqb-true, le-leb, le-ltb, lt-leb, lt-ltb}
use Rattle.mencius_base.specs.declared.event.Event.TheVariants.{Suspect}
use Rattle.mencius_base.specs.declared.refusal.Refusal.TheVariants.{MessagesFull, NothingToRevoke, RoundsFull, SelfSuspect}
use Rattle.mencius_base.specs.declared.message.Message.{Message}
use Rattle.mencius_base.specs.declared.message.Message.TheVariants.{Prepare}
use Rattle.mencius_base.specs.Members.{Membership, ballot_of, numbers_below, instances, owner}
use Rattle.mencius_base.specs.Outbox.{OutboxState}
use Rattle.mencius_model.specs.Trace.{Line, Suspected, Trace, followed_by, heard_messages, messages_of}
use Rattle.mencius_model.specs.Instance.{accepted_ballot, accepted_by, is_acceptance, is_promise, learned_by, promised_by, proposal, proposal_by, tried_by, tried_ballot, vote_reported, higher_vote}
use Rattle.mencius_model.specs.Server.{front, front_by, covered_instances, reach}
use Rattle.mencius_model.specs.Next.{IsReached, first_cause, next_round, preparation, server_causes}
use Rattle.mencius_model.specs.Rules.{is_covered_from, is_open_from, reach_from}
use Rattle.mencius_model.proofs.trace.NumberLists.{any-map, filter-instances_same, find-instances_same, map-filter-instances_same, map-instances_same}
use Rattle.mencius_model.proofs.trace.OneMoreLine.{greater_ballot-none, greatest_quiet, oldest_quiet, vote_of_same}
use Rattle.mencius_model.proofs.trace.AnswersLast.{same}
use Rattle.mencius_model.proofs.reached.OwnBallots.{next_untried}
use Rattle.coord_paxos.specs.SlotState.{SlotState}
use Rattle.coord_paxos.specs.Fresh.{new_slot}
use Rattle.coord_paxos.specs.Slot.{after_begin}
use Rattle.coord_paxos.specs.Reached.{if_own, slot_at}
use Rattle.coord_paxos.proofs.SlotTrace.{same_slot}
use Rattle.coord_paxos.proofs.SlotLaws.{slot_trying, slot_untried}
use Rattle.mencius_server.specs.State.{ServerState, slot}
use Rattle.mencius_server.specs.Machine.{after_suspect, is_covered_in, is_spent_at, is_covered_at, is_open_at, next_prepare, prepare_for, reach_at, next_round_of, slot_after_suspect, stop_of, suspect_cause, suspect_sent, with_next_phase}
use Rattle.mencius_server.specs.Laws.{SuspectIsEvent}
use Rattle.mencius_server.specs.Reached.{server_at}
use Rattle.mencius_server.proofs.events.HeardSkip.{among, is_instance}
use Rattle.mencius_server.proofs.events.ServerTrace.{slot-server_at}
use Rattle.mencius_base.specs.Limits.{greatest_round, instance_count}
use Rattle.mencius_model.proofs.trace.Parts.{vote_of, is_open, is_covered}

-- A line that changes nothing at instance j of server p, except possibly the tried ballot.
record IsTried (p j : ℕ) (l : Line) : Type 0 where
  promised : promised_by p j l ≡ 0
  proposed : (b : ℕ) → proposal_by j b l ≡ None
  accepted : accepted_by p j l ≡ None
  learned : learned_by p j l ≡ None

trying_same : (m : Membership) (w : Trace) (l : Line) (p j b : ℕ) → IsTried p j l → heard_messages (l ∷ w) p
    ≡ heard_messages w p
    → slot_trying m (l ∷ w) p j b ≡ slot_trying m w p j b
trying_same m w l p j b quiet deaf =
    let proposals : (c : ℕ) → proposal (l ∷ w) j c ≡ proposal w j c =
    λ c. oldest_quiet (proposal_by j c) l w (quiet.proposed c) in
    let acceptance : accepted_ballot (l ∷ w) p j ≡ accepted_ballot w p j =
    rw quiet.accepted (greater_ballot-none (accepted_ballot w p j)) in
    same_slot _ _ refl
    (greatest_quiet (promised_by p j) l w quiet.promised)
    (ap (vote_of (l ∷ w) j) acceptance ∙ vote_of_same (l ∷ w) w j (accepted_ballot w p j) proposals)
    (oldest_quiet (learned_by p j) l w quiet.learned)
    refl
    (ap (λ (hs : List Message). fold higher_vote None (map (vote_reported j b) hs)) deaf)
    (ap (if_own m p j b) (proposals b))
    (ap (λ (hs : List Message). map (λ (q : ℕ). list_any (is_promise j b q) hs) (numbers_below m.count)) deaf)
    (ap (λ (hs : List Message). map (λ (q : ℕ). list_any (is_acceptance j b q) hs) (numbers_below m.count)) deaf)

prepared_same : (m : Membership) (w0 : Trace) (p j b : ℕ) (js : List ℕ) (v : Trace)
    → slot_trying m (followed_by v (map (preparation m w0 p) js)) p j b ≡ slot_trying m v p j b
prepared_same m w0 p j b [] v = refl
prepared_same m w0 p j b (i ∷ js) v =
    prepared_same m w0 p j b js (preparation m w0 p i ∷ v)
    ∙ trying_same m v (preparation m w0 p i) p j b
    (record { promised = refl; proposed = λ c. refl; accepted = refl; learned = refl }) refl

abbrev ballot_for : Membership → Trace → ℕ → ℕ → ℕ
ballot_for m w p j = ballot_of m (next_round m w p j) p

-- A Prepare at instance i changes the tried ballot of i to the greater ballot, and changes no other tried ballot.
tried_cond : (p i j b x : ℕ) (f : ℕ → ℕ) (a : Bool) → eqb i j ≡ a
    → max x (cond (eqb p p && eqb i j) (f i) 0) ≡ cond a (max x (f j)) x
tried_cond p i j b x f true e = rw (same p, e, eqb-true i j e) refl
tried_cond p i j b x f false e = rw (same p, e) (omega arith)

max_twice : (b c : ℕ) → max (max b c) c ≡ max b c
max_twice b c = omega arith

tried_after : (m : Membership) (w0 : Trace) (p j : ℕ) (js : List ℕ) (v : Trace)
    → tried_ballot (followed_by v (map (preparation m w0 p) js)) p j
    ≡ cond (list_any (λ (i : ℕ). eqb i j) js) (max (tried_ballot v p j) (ballot_for m w0 p j)) (tried_ballot v p j)
tried_after m w0 p j [] v = refl
tried_after m w0 p j (i ∷ js) v =
    tried_after m w0 p j js (preparation m w0 p i ∷ v)
    ∙ ap (λ (x : ℕ). cond (list_any (λ (i : ℕ). eqb i j) js) (max x (ballot_for m w0 p j)) x)
    (tried_cond p i j 0 (tried_ballot v p j) (ballot_for m w0 p) (eqb i j) refl)
    ∙ either (eqb i j) (list_any (λ (i : ℕ). eqb i j) js) (tried_ballot v p j) (ballot_for m w0 p j)
  where
    either : (a d : Bool) (x y : ℕ)
        → cond d (max (cond a (max x y) x) y) (cond a (max x y) x) ≡ cond (a || d) (max x y) x
    either true true x y = max_twice x y
    either true false x y = refl
    either false d x y = refl

front_prepared : (m : Membership) (w0 : Trace) (p : ℕ) (js : List ℕ) (v : Trace)
    → front m (followed_by v (map (preparation m w0 p) js)) p ≡ front m v p
front_prepared m w0 p [] v = refl
front_prepared m w0 p (i ∷ js) v =
    front_prepared m w0 p js (preparation m w0 p i ∷ v)
    ∙ ap (max p) (greatest_quiet (front_by m p) (preparation m w0 p i) v refl)

sends_prepared : (m : Membership) (w : Trace) (p : ℕ) (js : List ℕ)
    → map (λ (j : ℕ). Prepare p j (ballot_for m w p j)) js ≡ messages_of (map (preparation m w p) js)
sends_prepared m w p [] = refl
sends_prepared m w p (j ∷ js) =
    ap (λ (ms : List Message). Prepare p j (ballot_for m w p j) ∷ ms) (sends_prepared m w p js)

-- A suspicion covers the same instances by its reach as by the place where the reach stops.
covered_before : (m : Membership) (q j : ℕ) (o : Option ℕ) (s : SlotState)
    → is_covered_in m q (stop_of o) j s ≡ is_covered_from m q o j s.learned
covered_before m q j o s = ap (λ (a : Bool). (eqb (owner m j) q && a) && is_none s.learned) (before o) where
  before : (o : Option ℕ) → ltb j (stop_of o) ≡ option_map_or (leb j) o false
  before None = le-ltb j 0 (omega arith)
  before (Some last) =
      elim (cases_lt last j) [
        | inl above ↦ le-ltb j _ (omega arith) ∙ sym (lt-leb j last above)
        | inr within ↦ lt-ltb j _ (omega arith) ∙ sym (le-leb j last within)
      ]

module _ (m : Membership) (w : Trace) (p q : ℕ) (r : IsReached m w) (member : p < m.count) where
  abbrev covered : List ℕ
  covered = covered_instances m w p q

  abbrev later : Trace
  later = followed_by (Suspected p q ∷ w) (map (preparation m w p) covered)

  above : (j : ℕ) → tried_ballot w p j < ballot_for m w p j
  above j = (next_untried m w r p j member).0

  tried_here : (j : ℕ) → j < instance_count → (a : Bool) → is_covered m w p q j ≡ a
      → tried_ballot later p j ≡ cond a (ballot_for m w p j) (tried_ballot w p j)
  tried_here j small a e =
      let which : list_any (λ (i : ℕ). eqb i j) covered ≡ a =
      among (is_covered m w p q) instances j ∙ ap (λ (d : Bool). is_covered m w p q j && d) (is_instance j small)
      ∙ and-true (is_covered m w p q j) ∙ e in
      tried_after m w p j covered (Suspected p q ∷ w)
      ∙ ap (λ (b : ℕ). cond (list_any (λ (i : ℕ). eqb i j) covered) (max b (ballot_for m w p j)) b)
      (greatest_quiet (tried_by p j) (Suspected p q) w refl)
      ∙ ap (λ (d : Bool). cond d (max (tried_ballot w p j) (ballot_for m w p j)) (tried_ballot w p j)) which
      ∙ ap (λ (b : ℕ). cond a b (tried_ballot w p j)) (greater_one (tried_ballot w p j) (ballot_for m w p j) (above j))
    where
      and-true : (d : Bool) → (d && true) ≡ d
      and-true true = refl
      and-true false = refl

      greater_one : (b x : ℕ) → b < x → max b x ≡ x
      greater_one b x h = omega arith

  slot_same : (j b : ℕ) → slot_trying m later p j b ≡ slot_trying m w p j b
  slot_same j b =
      prepared_same m w p j b covered (Suspected p q ∷ w)
      ∙ trying_same m w (Suspected p q) p j b
      (record { promised = refl; proposed = λ a. refl; accepted = refl; learned = refl }) refl

  slot_after : (j : ℕ) → j < instance_count → (a : Bool) → is_covered m w p q j ≡ a
      → slot_at m later p j ≡ cond a (after_begin (slot_at m w p j) (ballot_for m w p j)) (slot_at m w p j)
  slot_after j small true e =
      slot_same j (tried_ballot later p j) ∙ ap (slot_trying m w p j) (tried_here j small true e)
      ∙ slot_untried m w p j (ballot_for m w p j)
      (next_untried m w r p j member).1
  slot_after j small false e =
      slot_same j (tried_ballot later p j) ∙ ap (slot_trying m w p j) (tried_here j small false e)

  same_state : (xs : List SlotState) → xs ≡ map (slot_at m later p) instances
      → ◌≡◌ {A = ServerState} (record { members = m; id = p; front = front m w p; slots = xs }) (server_at m later p)
  same_state xs e =
      let ahead : front m later p ≡ front m w p =
      front_prepared m w p covered (Suspected p q ∷ w)
      ∙ ap (max p) (greatest_quiet (front_by m p) (Suspected p q) w refl) in
      ap (λ n. record { members = m; id = p; front = n; slots = xs }) (sym ahead)
      ∙ ap (λ ys. record { members = m; id = p; front = front m later p; slots = ys }) e

  reach_same : reach_at (server_at m w p) q ≡ stop_of (reach m w p q)
  reach_same =
      ap (λ (o : Option ℕ). stop_of (reach_from m (front m w p) o))
      (find-instances_same (is_open_at (server_at m w p) q) (is_open m w p q)
      (λ j small. ap (λ (s : SlotState). is_open_from m q j s.learned) (slot-server_at m w p j small)))

  pub covered_same : (j : ℕ) → j < instance_count → is_covered_at (server_at m w p) q j ≡ is_covered m w p q j
  covered_same j small =
      ap (λ (n : ℕ). is_covered_in m q n j (slot (server_at m w p) j)) reach_same
      ∙ ap (λ (s : SlotState). is_covered_in m q (stop_of (reach m w p q)) j s) (slot-server_at m w p j small)
      ∙ covered_before m q j (reach m w p q) (slot_at m w p j)

  suspect_state : after_suspect (server_at m w p) q ≡ server_at m later p
  suspect_state =
      same_state _
      (map-instances_same _ (slot_at m later p) (new_slot m)
      (λ j small. ap (λ (n : ℕ). slot_after_suspect m p q n j (slot (server_at m w p) j)) reach_same
      ∙ ap (slot_after_suspect m p q (stop_of (reach m w p q)) j) (slot-server_at m w p j small)
      ∙ ap (λ (a : Bool). cond a (with_next_phase m p (slot_at m w p j)) (slot_at m w p j))
      (covered_before m q j (reach m w p q) (slot_at m w p j))
      ∙ sym (slot_after j small (is_covered m w p q j) refl)))

  suspect_messages : suspect_sent (server_at m w p) q ≡ messages_of (map (preparation m w p) covered)
  suspect_messages =
      map-filter-instances_same (prepare_for (server_at m w p)) (λ (j : ℕ). Prepare p j (ballot_for m w p j))
      (is_covered_at (server_at m w p) q) (is_covered m w p q)
      (λ j small. ap (next_prepare m p j) (slot-server_at m w p j small))
      covered_same
      ∙ sends_prepared m w p covered

same_causes : (a x b' y c' d d' : Bool) → x ≡ b' → y ≡ c' → d ≡ d'
    → first_cause ((a, SelfSuspect) ∷ (x, NothingToRevoke) ∷ (y, RoundsFull) ∷ (d, MessagesFull) ∷ [])
    ≡ first_cause ((a, SelfSuspect) ∷ (b', NothingToRevoke) ∷ (c', RoundsFull) ∷ (d', MessagesFull) ∷ [])
same_causes a x b' y c' d d' e same equal = rw (e, same, equal)

suspect_causes : (m : Membership) (w : Trace) (p q : ℕ) (s : ServerState) (o : OutboxState) → s ≡ server_at m w p
    → IsReached m w → p < m.count
    → suspect_cause (server_at m w p) o q ≡ first_cause (server_causes m w (Suspect p q) (length o.messages) o.limit)
suspect_causes m w p q s o e r member =
    same_causes (eqb p q) _ _ _ _ _ _
    (ap (λ (xs : List ℕ). is_none (slice_get xs 0))
    (filter-instances_same (is_covered_at (server_at m w p) q) (is_covered m w p q) is_same))
    (any-map (is_spent_at (server_at m w p)) (filter (is_covered_at (server_at m w p) q) instances)
    ∙ ap (list_any (λ (a : Bool). a))
    (map-filter-instances_same (is_spent_at (server_at m w p)) (λ (i : ℕ). ltb greatest_round (next_round m w p i))
    (is_covered_at (server_at m w p) q) (is_covered m w p q)
    (λ j small. ap (λ (x : SlotState). ltb greatest_round (next_round_of m x)) (slot-server_at m w p j small)) is_same)
    ∙ sym (any-map (λ (i : ℕ). ltb greatest_round (next_round m w p i)) (covered_instances m w p q)))
    (ap (λ (ms : List Message). ltb o.limit (length o.messages + length ms)) (suspect_messages m w p q r member))
  where
    is_same : (j : ℕ) → j < instance_count → is_covered_at (server_at m w p) q j ≡ is_covered m w p q j
    is_same j small = covered_same m w p q r member j small

pub suspect_is_event : SuspectIsEvent
suspect_is_event w s q at member = record {
  sent = ap (λ (x : ServerState). suspect_sent x q) at.state ∙ suspect_messages s.members w s.id q at.reached member;
  state = ap (λ (x : ServerState). after_suspect x q) at.state ∙ suspect_state s.members w s.id q at.reached member;
  refusal = λ o. ap (λ (x : ServerState). suspect_cause x o q) at.state
      ∙ suspect_causes s.members w s.id q s o at.state at.reached member;
}
