-- Each part of the facts about an accepted event is the one that the definitions give.
use Rattle.std.proofs.Common.{◌≡◌, ℕ, ◌-◌, ◌<◌, ◌≤◌, Bool, true, false, List, [], ◌∷◌, ◌++◌, Option, Some, None, map, cond, length, refl, sym, ap, ◌∙◌, append-nil, arith, length-append, leb}
use Rattle.std.specs.Prelude.{IfSome, option_map, nat_lt, nat_le, slice_get}
use Rattle.std.specs.List.{filter}
use Rattle.std.proofs.lemmas.Bool.{leb-false, or_parts}
use Rattle.mencius_base.specs.Limits.{instance_count, most_servers}
use Rattle.mencius_base.specs.Members.{IsMember, Membership, instances}
use Rattle.mencius_base.specs.declared.event.Event.{Event}
use Rattle.mencius_base.specs.declared.event.Event.TheVariants.{Submit, Deliver, Lose, Suspect, Retry, Execute}
use Rattle.mencius_base.specs.declared.message.Answer.{Answer}
use Rattle.mencius_base.specs.declared.message.Answer.TheVariants.{Promise as Promised, Known, Silent}
use Rattle.mencius_base.specs.declared.message.Message.{Message}
use Rattle.mencius_base.specs.declared.message.Message.TheVariants.{Suggest, Skip, Accepted, Prepare, Promise, Propose, Learn}
use Rattle.mencius_base.specs.declared.message.Value.{Value}
use Rattle.mencius_base.specs.declared.message.Value.TheVariants.{Noop, Ticket}
use Rattle.mencius_model.specs.Trace.{Line, Heard, Sent, Learned, Trace, followed_by, messages_of, sent_messages, submitted_commands}
use Rattle.mencius_model.specs.Instance.{learned_value, promised_ballot, vote}
use Rattle.mencius_model.specs.Server.{done, free_instance, front, covered_instances, waiting_tickets}
use Rattle.mencius_model.specs.Rules.{answer_lines, decision_lines, due_decision_from, learning_lines, proposal_lines, suggestion}
use Rattle.mencius_model.specs.Next.{IsReached, due_decision_at, learned_count, lines, preparation, with_event, server_of}
use Rattle.mencius_model.proofs.trace.AnswersLast.{same_two, sent_in}
use Rattle.mencius_model.proofs.events.EventLines.{sent_messages-event}
use Rattle.mencius_model.proofs.rights.EventRights.{NoneHolds}
use Rattle.mencius_model.proofs.trace.Lists.{get_in}
use Rattle.mencius_model.proofs.reached.MessageLimits.{IsSmall, sent_small}
use Rattle.mencius_trace.specs.declared.fact.Fact.{Fact}
use Rattle.mencius_trace.specs.declared.reaction.Reaction.{Reaction}
use Rattle.mencius_trace.specs.Effects.{execution_facts, execution_facts_of, instance_of, is_ignored, learned_facts, notice, notice_of, notices, reaction, sent_fact, sent_facts}
use Rattle.mencius_trace.specs.Before.{execution_in, heard_in, is_awaited, skipped_facts}
use Rattle.mencius_trace.specs.After.{execution_after, learned_after, learned_at, messages_from, notice_after, value_learned}
use Rattle.mencius_trace.proofs.MessageLines.{of_messages_are}
use Rattle.mencius_model.proofs.trace.Parts.{causes, is_newly_skipped, retry_lines, delivery}

-- an accepted event happens at a member
pub server_member : (m : Membership) (w : Trace) (e : Event) → NoneHolds (causes m w e) → IsMember m (server_of e)
server_member m w (Submit p command) h = leb-false m.count p h.0
server_member m w (Deliver k p) h = leb-false m.count p h.0
server_member m w (Lose k p) h = leb-false m.count p h.0
server_member m w (Suspect p q) h = leb-false m.count p (or_parts (leb m.count p) (leb m.count q) h.0).0
server_member m w (Retry p) h = leb-false m.count p h.0
server_member m w (Execute p) h = leb-false m.count p h.0

small_instance : (m : Membership) (x : Message) → IsSmall m x → instance_of x < instance_count
small_instance m (Suggest from inst ticket) h = h.1
small_instance m (Skip from first stop) h = h.1
small_instance m (Accepted from to inst ballot) h = h.1
small_instance m (Prepare from inst ballot) h = h.1
small_instance m (Promise from to inst ballot vote) h = h.1
small_instance m (Propose from inst ballot value) h = h.1
small_instance m (Learn from inst value) h = h.1

-- a delivered message is about an existing instance
pub small_heard : (m : Membership) → m.count ≤ most_servers → (w : Trace) → IsReached m w → (e : Event)
    → IfSome (heard_in w e) (λ x. instance_of x < instance_count)
small_heard m few w r (Deliver k p) = go (slice_get (sent_messages w) k) refl
  where
    go : (o : Option Message) → slice_get (sent_messages w) k ≡ o → IfSome o (λ x. instance_of x < instance_count)
    go None h = tt
    go (Some x) h = small_instance m x (sent_small m few w r x (sent_in x w (get_in (sent_messages w) k x h)))
small_heard m few w r _ = tt

-- ---- the notice

pub notice_same : (m : Membership) (w v : Trace) (e : Event) (h : Reaction)
    → IfSome (heard_in w e) (λ x. instance_of x < instance_count)
    → IfSome (heard_in w e) (λ x. instance_of x < instance_count → h ≡ reaction m w (server_of e) x)
    → notice_after m v (server_of e) (is_ignored (lines m w e)) h (heard_in w e) ≡ notices m w v e
notice_same m w v (Deliver k p) h small taken =
    go (slice_get (sent_messages w) k) (is_ignored (lines m w (Deliver k p))) small taken
  where
    go : (o : Option Message) (s : Bool) → IfSome o (λ x. instance_of x < instance_count)
        → IfSome o (λ x. instance_of x < instance_count → h ≡ reaction m w p x)
        → notice_after m v p s h o ≡ notice_of m w v p s o
    go None s small taken = refl
    go (Some x) s small taken = ap (notice m v p x s) (taken small)
notice_same m w v _ h small taken = refl

-- ---- instances that were learned

-- a message that was sent adds no line about learning
one_if : (a : Bool) (x : Message) → learned_facts (cond a (Sent x ∷ []) []) ≡ []
one_if true x = refl
one_if false x = refl

two_if : (a d : Bool) (x y : Message)
    → learned_facts (cond a (Sent x ∷ []) [] ++ cond d (Sent y ∷ []) []) ≡ []
two_if true d x y = one_if d y
two_if false d x y = one_if d y

answered : (p q i b : ℕ) (answer : Answer) → learned_facts (answer_lines p q i b answer) ≡ []
answered p q i b (Promised vote) = refl
answered p q i b (Known x) = refl
answered p q i b Silent = refl

proposing : (p i b : ℕ) (o : Option Value) → learned_facts (proposal_lines p i b o) ≡ []
proposing p i b None = refl
proposing p i b (Some x) = refl

suggested : (p t : ℕ) (o : Option ℕ) → learned_facts (suggestion p o t) ≡ []
suggested p t None = refl
suggested p t (Some i) = refl

prepared : (m : Membership) (w : Trace) (p : ℕ) (is : List ℕ) → learned_facts (map (preparation m w p) is) ≡ []
prepared m w p [] = refl
prepared m w p (i ∷ is) = prepared m w p is

retried : (m : Membership) (w : Trace) (p : ℕ) (o : Option ℕ) → learned_facts (retry_lines m w p o) ≡ []
retried m w p None = refl
retried m w p (Some t) = suggested p t (free_instance m w p)

-- a value that p has just learned is the learned value in the trace
module _ (w : Trace) (k p i : ℕ) (x : Value) (unlearned : learned_value w p i ≡ None) where
  just : learned_value (Learned p i x ∷ Heard k p ∷ w) p i ≡ Some x
  just = rw (unlearned, same_two p i) refl

  just_sent : (y : Message) → learned_value (Sent y ∷ Learned p i x ∷ Heard k p ∷ w) p i ≡ Some x
  just_sent y = rw (unlearned, same_two p i) refl

undecided : (a majority : Bool) (l o : Option Value) (x : Value)
    → cond a (due_decision_from l o majority) None ≡ Some x → l ≡ None
undecided a majority None o x h = refl
undecided true majority (Some y) o x h = absurd (cc)
undecided false majority (Some y) o x h = absurd (cc)

learned_accepted : (w : Trace) (k p i : ℕ) (o : Option Value) → ((x : Value) → o ≡ Some x → learned_value w p i ≡ None)
    → learned_at (followed_by (Heard k p ∷ w) (decision_lines p i o)) p i (learned_count (decision_lines p i o))
    ≡ learned_facts (decision_lines p i o)
learned_accepted w k p i None h = refl
learned_accepted w k p i (Some x) h =
    ap (value_learned p i) (just_sent w k p i x (h x refl) (Learn p i x))

learned_told : (w : Trace) (k p i : ℕ) (x : Value) (o : Option Value) → learned_value w p i ≡ o
    → learned_at (followed_by (Heard k p ∷ w) (learning_lines p i x o)) p i (learned_count (learning_lines p i x o))
    ≡ learned_facts (learning_lines p i x o)
learned_told w k p i x None h =
    ap (value_learned p i) (just w k p i x h)
learned_told w k p i x (Some y) h = refl

module _ (m : Membership) (w : Trace) (k p : ℕ) (g : List Fact) where
  abbrev on : Option Message → List Line
  on o = delivery m w (Heard k p ∷ w) p o

  abbrev past : Option Message → Trace
  past o = followed_by (Heard k p ∷ w) (on o)

  abbrev AreLearned : Option Message → Type 0
  AreLearned o = learned_after (past o) p g (learned_count (on o)) o ≡ learned_facts (on o)

  heard_told : (o : Option Message) → g ≡ skipped_facts m w p o → AreLearned o
  heard_told None h = refl
  heard_told (Some (Suggest q i t)) h =
      sym (two_if (nat_lt (front m w p) i) (nat_le (promised_ballot w p i) 0) _ _)
  heard_told (Some (Skip q first stop)) h =
      h
  heard_told (Some (Accepted q to i b)) h =
      learned_accepted w k p i (due_decision_at m w (Heard k p ∷ w) p i b)
      (λ x e. undecided _ _ (learned_value w p i) _ x e)
  heard_told (Some (Prepare q i b)) h = sym (answered p q i b _)
  heard_told (Some (Promise q to i b y)) h = sym (proposing p i b _)
  heard_told (Some (Propose q i b x)) h =
      sym (one_if (nat_le (promised_ballot w p i) b) _)
  heard_told (Some (Learn q i x)) h = learned_told w k p i x (learned_value w p i) refl

pub learned_same : (m : Membership) (w : Trace) (e : Event) (g : List Fact)
    → g ≡ skipped_facts m w (server_of e) (heard_in w e)
    → learned_after (with_event m w e) (server_of e) g (learned_count (lines m w e)) (heard_in w e)
    ≡ learned_facts (lines m w e)
learned_same m w (Submit p command) g h =
    sym (suggested p (length (submitted_commands w)) (free_instance m w p))
learned_same m w (Deliver k p) g h = heard_told m w k p g (slice_get (sent_messages w) k) h
learned_same m w (Lose k p) g h = refl
learned_same m w (Suspect p q) g h = sym (prepared m w p (covered_instances m w p q))
learned_same m w (Retry p) g h = sym (retried m w p (slice_get (waiting_tickets w p) 0))
learned_same m w (Execute p) g h = refl

-- ---- messages that were sent, and instances that were executed

pub sent_same : (m : Membership) (w : Trace) (e : Event)
    → messages_from (with_event m w e) (length (sent_messages w))
    (length (sent_messages (with_event m w e)) - length (sent_messages w))
    ≡ sent_facts (length (sent_messages w)) (lines m w e)
sent_same m w e =
    let v = with_event m w e in
    let ms = messages_of (lines m w e) in
    let all = ap length (sent_messages-event m w e) ∙ length-append (sent_messages w) ms in
    let count : length (sent_messages v) - length (sent_messages w) ≡ length ms = omega (arith, all) in
    ap (messages_from v (length (sent_messages w))) count
    ∙ of_messages_are sent_fact (sent_messages v) (sent_messages w) ms (sent_messages-event m w e)

pub execution_same : (w v : Trace) (e : Event)
    → execution_after v (server_of e) (is_awaited w (execution_in w e)) (execution_in w e) ≡ execution_facts w v e
execution_same w v (Execute p) = go (learned_value w p (done w p))
  where
    go : (o : Option Value)
        → execution_after v p (is_awaited w (option_map (λ x. (done w p, x)) o)) (option_map (λ x. (done w p, x)) o)
        ≡ execution_facts_of w v p (done w p) o
    go None = refl
    go (Some Noop) = refl
    go (Some (Ticket t)) = refl
execution_same w v _ = refl
