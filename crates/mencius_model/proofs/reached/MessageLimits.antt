-- Every sent message names servers and instances that exist.
use Rattle.std.proofs.Common.{◌≡◌, ℕ, zero, suc, ◌+◌, ◌-◌, ◌*◌, ◌%◌, ◌<◌, ◌≤◌, max, Bool, true, false, cond, ltb, leb, List, [], ◌∷◌, ◌++◌, Option, Some, None, map, filter, inl, inr, refl, arith, Ok, leb-false, slice_get}
use Rattle.std.specs.Prelude.{IsTrue, is_none}
use Rattle.std.specs.List.{range_with_len}
use Rattle.std.proofs.lemmas.Bool.{le-leb, and_from, cases_Bool, eqb-true, lt-ltb, ltb-true, or_parts}
use Rattle.mencius_base.specs.declared.event.Event.{Event}
use Rattle.mencius_base.specs.declared.event.Event.TheVariants.{Submit, Deliver, Lose, Suspect, Retry, Execute}
use Rattle.mencius_base.specs.declared.message.Answer.{Answer}
use Rattle.mencius_base.specs.declared.message.Answer.TheVariants.{Promise as Promised, Known, Silent}
use Rattle.mencius_base.specs.declared.message.Message.{Message}
use Rattle.mencius_base.specs.declared.message.Message.TheVariants.{Suggest, Skip, Accepted, Prepare, Promise, Propose, Learn}
use Rattle.mencius_base.specs.declared.message.Value.{Value}
use Rattle.mencius_base.specs.declared.message.Value.TheVariants.{Noop}
use Rattle.mencius_base.specs.Members.{Membership, numbers_below, first_owned, instances, round}
use Rattle.mencius_model.specs.Trace.{Line, Heard, Sent, Learned, Trace, sent_messages}
use Rattle.mencius_model.specs.Instance.{learned_value, promised_ballot, tried_ballot, vote}
use Rattle.mencius_model.specs.Server.{free_instance, front, covered_instances, waiting_tickets}
use Rattle.mencius_model.specs.Rules.{answer_lines, decision_lines, prepare_answer_from, proposal_lines, suggestion}
use Rattle.mencius_model.specs.Next.{IsReached, head, lines, next, on_message, preparation, due_decision_at, due_proposal_at}
use Rattle.mencius_base.specs.Message.{is_sent_to, is_for, is_within}
use Rattle.mencius_model.proofs.trace.NumberLists.{find-instances_found}
use Rattle.mencius_model.proofs.rights.EachLine.{AreAll, HoldsAlong, next_along, one_if}
use Rattle.mencius_model.proofs.trace.Lists.{IsIn, get_in}
use Rattle.mencius_model.proofs.trace.AnswersLast.{sent_in}
use Rattle.mencius_model.proofs.rights.EventRights.{NoneHolds, next_is}
use Rattle.mencius_model.proofs.rights.Journals.{reached_along}
use Rattle.mencius_base.specs.Limits.{greatest_front, instance_count, most_servers}
use Rattle.mencius_model.proofs.trace.Parts.{causes, is_newly_skipped, is_free, is_covered, retry_lines, delivery}

abbrev pub IsSmall : Membership → Message → Type 0
IsSmall m (Suggest from inst ticket) = (from < m.count) × (inst < instance_count)
IsSmall m (Skip from first stop) = (from < m.count) × (first < instance_count) × (stop ≤ greatest_front)
IsSmall m (Accepted from to inst ballot) = (from < m.count) × (inst < instance_count)
IsSmall m (Prepare from inst ballot) = (from < m.count) × (inst < instance_count) × (0 < ballot)
IsSmall m (Promise from to inst ballot vote) = (from < m.count) × (inst < instance_count) × (0 < ballot)
IsSmall m (Propose from inst ballot value) = (from < m.count) × (inst < instance_count) × (0 < ballot)
IsSmall m (Learn from inst value) = (from < m.count) × (inst < instance_count)

abbrev IsSmallLine : Membership → Line → Type 0
IsSmallLine m (Sent x) = IsSmall m x
IsSmallLine m _ = Unit {0}

abbrev AreSmall : Membership → List Line → Type 0
AreSmall m ls = AreAll (IsSmallLine m) ls

small_noops : (m : Membership) (p : ℕ) (is : List ℕ) → AreSmall m (map (λ (i : ℕ). Learned p i Noop) is)
small_noops m p [] = tt
small_noops m p (i ∷ is) = (tt, small_noops m p is)

small_suggestion : (m : Membership) (w : Trace) (p t : ℕ) → p < m.count → (o : Option ℕ) → free_instance m w p ≡ o
    → AreSmall m (suggestion p o t)
small_suggestion m w p t member None e = tt
small_suggestion m w p t member (Some i) e = ((member, (find-instances_found (is_free m w p) i e).small), tt)

small_again : (m : Membership) (w : Trace) (p : ℕ) → p < m.count → (o : Option ℕ) → AreSmall m (retry_lines m w p o)
small_again m w p member None = tt
small_again m w p member (Some t) = small_suggestion m w p t member (free_instance m w p) refl

next_above : (a n p : ℕ) → 0 < n → 0 < (a + 1) * n + p
next_above a n p h = omega arith

small_prepared : (m : Membership) (w : Trace) (p : ℕ) (g : ℕ → Bool) → p < m.count → (i n : ℕ)
    → i + n ≤ instance_count
    → AreSmall m (map (preparation m w p) (filter g (range_with_len i n)))
small_prepared m w p g member i zero h = tt
small_prepared m w p g member i (suc n) h =
    let some : 0 < m.count = omega arith in
    let high = next_above (max (round m (tried_ballot w p i)) (round m (promised_ballot w p i))) m.count p some in
    let rest = small_prepared m w p g member (i + 1) n (omega arith) in
    let here : i < instance_count = omega arith in
    elim (cases_Bool (g i)) [
      | inl e ↦ rw e ((member, here, high), rest)
      | inr e ↦ rw e rest
    ]

small_suspects : (m : Membership) (w : Trace) (p q : ℕ) → p < m.count
    → AreSmall m (map (preparation m w p) (covered_instances m w p q))
unfolding numbers_below instances
small_suspects m w p q member = small_prepared m w p (is_covered m w p q) member 0 instance_count (omega arith)

stop_small : (m : Membership) (p i : ℕ) → p < m.count → m.count ≤ most_servers → i < instance_count
    → first_owned m p (i + 1) ≤ greatest_front
stop_small m p i member few small =
    let near : (p + m.count - (i + 1) % m.count) % m.count < m.count = omega arith in
    omega arith

module _ (m : Membership) (few : m.count ≤ most_servers) (w : Trace) (k p : ℕ) (member : p < m.count) where
  small_suggest : (q i : ℕ) → i < instance_count → (a d : Bool) → ltb (front m w p) i ≡ a
      → AreSmall m (cond a (Sent (Skip p (front m w p) (first_owned m p (i + 1))) ∷ []) []
      ++ cond d (Sent (Accepted p q i 0) ∷ []) [])
  small_suggest q i small true true e =
      let ahead = ltb-true (front m w p) i e in
      ((member, omega (arith, ahead), stop_small m p i member few small), ((member, small), tt))
  small_suggest q i small true false e =
      let ahead = ltb-true (front m w p) i e in ((member, omega (arith, ahead), stop_small m p i member few small), tt)
  small_suggest q i small false true e = ((member, small), tt)
  small_suggest q i small false false e = tt

  small_answer : (q i b : ℕ) → i < instance_count → 0 < b → (answer : Answer) → AreSmall m (answer_lines p q i b answer)
  small_answer q i b small pos (Promised vote) = ((member, small, pos), tt)
  small_answer q i b small pos (Known y) = ((member, small), tt)
  small_answer q i b small pos Silent = tt

  small_proposal : (i b : ℕ) → i < instance_count → 0 < b → (o : Option Value) → AreSmall m (proposal_lines p i b o)
  small_proposal i b small pos None = tt
  small_proposal i b small pos (Some y) = ((member, small, pos), tt)

  small_decision : (i : ℕ) → i < instance_count → (o : Option Value) → AreSmall m (decision_lines p i o)
  small_decision i small None = tt
  small_decision i small (Some y) = (tt, ((member, small), tt))

  small_message : (x : Message) → IsSmall m x → AreSmall m (on_message m w (Heard k p ∷ w) p x)
  small_message (Suggest q i t) h = small_suggest q i h.1 (ltb (front m w p) i) (leb (promised_ballot w p i) 0) refl
  small_message (Skip q first stop) h = small_noops m p (filter (is_newly_skipped m w p q first stop) instances)
  small_message (Prepare q i b) h =
      small_answer q i b h.1 h.2 (prepare_answer_from (promised_ballot w p i) (vote w p i) b (learned_value w p i))
  small_message (Promise q to i b y) h =
      small_proposal i b h.1 h.2 (due_proposal_at m w (Heard k p ∷ w) p i b)
  small_message (Propose q i b x) h = one_if (IsSmallLine m) _ (leb (promised_ballot w p i) b) (member, h.1)
  small_message (Accepted q to i b) h = small_decision i h.1 (due_decision_at m w (Heard k p ∷ w) p i b)
  small_message (Learn q i x) h = one_if (IsSmallLine m) _ (is_none (learned_value w p i)) tt

  small_delivery : HoldsAlong (IsSmallLine m) w → (o : Option Message) → slice_get (sent_messages w) k ≡ o
      → AreSmall m (delivery m w (Heard k p ∷ w) p o)
  small_delivery all None e = tt
  small_delivery all (Some x) e = small_message x (all (Sent x) (sent_in x w (get_in (sent_messages w) k x e)))

small_lines : (m : Membership) → m.count ≤ most_servers → (w : Trace) (e : Event) → HoldsAlong (IsSmallLine m) w
    → NoneHolds (causes m w e) → AreSmall m (lines m w e)
small_lines m few w (Submit p command) all h =
    small_suggestion m w p _ (leb-false m.count p h.0) (free_instance m w p) refl
small_lines m few w (Deliver k p) all h =
    small_delivery m few w k p (leb-false m.count p h.0) all (slice_get (sent_messages w) k) refl
small_lines m few w (Lose k p) all h = tt
small_lines m few w (Suspect p q) all h =
    small_suspects m w p q (leb-false m.count p (or_parts (leb m.count p) (leb m.count q) h.0).0)
small_lines m few w (Retry p) all h = small_again m w p (leb-false m.count p h.0) (slice_get (waiting_tickets w p) 0)
small_lines m few w (Execute p) all h = tt

head_small : (m : Membership) (e : Event) → IsSmallLine m (head e)
head_small m (Submit p command) = tt
head_small m (Deliver k p) = tt
head_small m (Lose k p) = tt
head_small m (Suspect p q) = tt
head_small m (Retry p) = tt
head_small m (Execute p) = tt

small_next : (m : Membership) → m.count ≤ most_servers → (w v : Trace) (e : Event) → HoldsAlong (IsSmallLine m) w
    → next m w e ≡ Ok v → HoldsAlong (IsSmallLine m) v
small_next m few w v e all h =
    next_along (IsSmallLine m) m w v e all h (head_small m e) (small_lines m few w e all (next_is m w v e h).allowed)

-- Every sent message is within its limits.
pub sent_small : (m : Membership) → m.count ≤ most_servers → (w : Trace) → IsReached m w → (x : Message)
    → IsIn (Sent x) w → IsSmall m x
sent_small m few w r x h =
    reached_along m (HoldsAlong (IsSmallLine m)) (λ l h. absurd h) (small_next m few) w r (Sent x) h

pub within_small : (m : Membership) (p : ℕ) (x : Message) → p < m.count → IsSmall m x → is_sent_to p x ≡ true
    → is_within m x ≡ true
within_small m p (Suggest from inst ticket) member h e = rw (lt-ltb from m.count h.0, lt-ltb inst instance_count h.1)
within_small m p (Skip from first stop) member h e =
    rw (lt-ltb from m.count h.0, lt-ltb first instance_count h.1, le-leb stop greatest_front h.2)
within_small m p (Accepted from to inst ballot) member h e =
    rw (lt-ltb from m.count h.0, lt-ltb inst instance_count h.1, eqb-true to p e, lt-ltb p m.count member)
within_small m p (Prepare from inst ballot) member h e =
    rw (lt-ltb from m.count h.0, lt-ltb inst instance_count h.1, lt-ltb 0 ballot h.2)
within_small m p (Promise from to inst ballot vote) member h e =
    rw (
      lt-ltb from m.count h.0,
      lt-ltb inst instance_count h.1,
      lt-ltb 0 ballot h.2,
      eqb-true to p e,
      lt-ltb p m.count member,
    )
within_small m p (Propose from inst ballot value) member h e =
    rw (lt-ltb from m.count h.0, lt-ltb inst instance_count h.1, lt-ltb 0 ballot h.2)
within_small m p (Learn from inst value) member h e = rw (lt-ltb from m.count h.0, lt-ltb inst instance_count h.1)

-- `is_for` accepts each sent message for each member that it goes to.
pub sent_addressed : (m : Membership) → m.count ≤ most_servers → (w : Trace) → IsReached m w → (k p : ℕ) (x : Message)
    → p < m.count → slice_get (sent_messages w) k ≡ Some x → is_sent_to p x ≡ true → IsTrue (is_for m p x)
sent_addressed m few w r k p x member h e =
    and_from _ _ (lt-ltb p m.count member)
    (and_from _ _ e
    (within_small m p x member (sent_small m few w r x (sent_in x w (get_in (sent_messages w) k x h))) e))
