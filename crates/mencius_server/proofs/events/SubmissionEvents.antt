-- A submission and a retry have the effects that the model gives to these events.
use Rattle.std.proofs.Common.{◌≡◌, ℕ, ◌+◌, ◌<◌, ◌≤◌, List, ◌∷◌, Option, Some, None, leb, eqb, max, refl, sym, ◌∙◌, ap, arith}
use Rattle.std.specs.Prelude.{is_none, ◌&&◌, slice_get}
use Rattle.std.proofs.lemmas.Bool.{and_parts, eq-eqb, eqb-true, leb-true}
use Rattle.mencius_base.specs.declared.command.Command.{Command}
use Rattle.mencius_base.specs.declared.event.Event.TheVariants.{Retry, Submit}
use Rattle.mencius_base.specs.declared.message.Message.TheVariants.{Suggest}
use Rattle.mencius_base.specs.declared.message.Value.TheVariants.{Ticket}
use Rattle.mencius_base.specs.Members.{Membership, owner}
use Rattle.mencius_base.specs.Outbox.{OutboxState}
use Rattle.mencius_model.specs.Trace.{Line, Retried, Sent, Submitted, Trace, followed_by, greatest_by, heard_messages, messages_of}
use Rattle.mencius_model.specs.Instance.{accepted_ballot, proposal, proposal_by, tried_by, tried_ballot, IsVoted}
use Rattle.mencius_model.specs.Server.{free_instance, front, front_by, waiting_tickets}
use Rattle.mencius_model.specs.Next.{lines}
use Rattle.mencius_model.specs.Rules.{suggestion}
use Rattle.mencius_model.proofs.trace.NumberLists.{IsFound, find-instances_found, find-instances_same}
use Rattle.mencius_model.proofs.trace.OneMoreLine.{greater_ballot-none, greatest_quiet, oldest_quiet, oldest_stays}
use Rattle.coord_paxos.specs.SlotState.{SlotState}
use Rattle.coord_paxos.specs.Reached.{slot_at}
use Rattle.mencius_model.proofs.trace.QuietLines.{IsQuiet, quiet_suggest}
use Rattle.coord_paxos.proofs.SlotTrace.{slot_at-quiet, slot_at-suggested}
use Rattle.mencius_server.specs.State.{ServerState, with_slot_and_front}
use Rattle.mencius_server.specs.Machine.{after_retry, after_submit_at, first_waiting, free_at, is_free_at, retry_cause, retry_sent, submit_cause, submit_sent}
use Rattle.mencius_server.specs.Laws.{RetryIsEvent, SubmitIsEvent, WaitingAnswers}
use Rattle.mencius_server.specs.Reached.{IsAt, refusal_of, server_at}
use Rattle.mencius_server.proofs.events.ServerTrace.{server_unchanged, server_written, slot-server_at}
use Rattle.mencius_server.proofs.events.WaitingByTrace.{first_waiting_same}
use Rattle.mencius_model.proofs.reached.ServerFacts.{HasServerFacts, server_facts}
use Rattle.mencius_base.specs.Limits.{instance_count}
use Rattle.mencius_model.proofs.trace.Parts.{is_free, retry_lines}

-- The free instance of a server at a trace is the free instance of that trace.
free-server_at : (m : Membership) (w : Trace) (p : ℕ) → free_at (server_at m w p) ≡ free_instance m w p
free-server_at m w p =
    find-instances_same (is_free_at (server_at m w p)) (is_free m w p)
    (λ j h. ap (λ (s : SlotState). (eqb (owner m j) p && leb (front m w p) j) && is_none s.learned)
    (slot-server_at m w p j h))

-- The first line of an event at p leaves p's slots, heard messages and front as they were.
pub record IsHead (m : Membership) (p : ℕ) (l : Line) : Type 0 where
  pub quiet : (i : ℕ) → IsQuiet p i l
  pub deaf : (w : Trace) → heard_messages (l ∷ w) p ≡ heard_messages w p
  pub still : front_by m p l ≡ 0

head_submitted : (m : Membership) (x : Command) (q p : ℕ) → IsHead m p (Submitted x q)
head_submitted m x q p = record {
  quiet = λ i. record { promised = refl; proposed = λ b. refl; accepted = refl; learned = refl; tried = refl };
  deaf = λ w. refl;
  still = refl;
}

head_retried : (m : Membership) (q p : ℕ) → IsHead m p (Retried q)
head_retried m q p = record {
  quiet = λ i. record { promised = refl; proposed = λ b. refl; accepted = refl; learned = refl; tried = refl };
  deaf = λ w. refl;
  still = refl;
}

suggest_state : (m : Membership) (w : Trace) (l : Line) (p t : ℕ) → IsHead m p l → HasServerFacts m w → (o : Option ℕ)
    → free_instance m w p ≡ o
    → after_submit_at (server_at m w p) t o ≡ server_at m (followed_by (l ∷ w) (suggestion p o t)) p
suggest_state m w l p t first facts None none =
    server_unchanged m w (l ∷ w) p (greatest_still m w l p first)
    (λ j. slot_at-quiet m w l p j (first.quiet j) (first.deaf w))
  where
    greatest_still : (m : Membership) (w : Trace) (l : Line) (p : ℕ) → IsHead m p l → front m (l ∷ w) p ≡ front m w p
    greatest_still m w l p first = ap (max p) (greatest_quiet (front_by m p) l w first.still)
suggest_state m w l p t first facts (Some i) found =
    let place : IsFound (is_free m w p) instance_count i = find-instances_found (is_free m w p) i found in
    let test = and_parts _ _ place.passes in
    let mine : owner m i ≡ p = eqb-true _ _ (and_parts _ _ test.0).0 in
    let ahead : front m w p ≤ i = leb-true _ _ (and_parts _ _ test.0).1 in
    let small : i < instance_count = place.small in
    let quiet : (j : ℕ) → slot_at m (l ∷ w) p j ≡ slot_at m w p j =
    λ j. slot_at-quiet m w l p j (first.quiet j) (first.deaf w) in
    let same : accepted_ballot (l ∷ w) p i ≡ accepted_ballot w p i =
    rw (first.quiet i).accepted (greater_ballot-none (accepted_ballot w p i)) in
    let voted : IsVoted (l ∷ w) p i = record {
      proposal = λ b e. let said =
          facts.voted p i b (sym same ∙ e) in (said.0, oldest_stays (proposal_by i b) l w said.0 said.1);
    } in
    let unsaid : proposal (l ∷ w) i 0 ≡ None =
    oldest_quiet (proposal_by i 0) l w ((first.quiet i).proposed 0) ∙ facts.own_unsaid p i mine ahead in
    let untried : tried_ballot (l ∷ w) p i ≡ 0 =
    greatest_quiet (tried_by p i) l w (first.quiet i).tried ∙ facts.own_untried p i mine in
    let still : greatest_by (front_by m p) (l ∷ w) ≡ greatest_by (front_by m p) w =
    greatest_quiet (front_by m p) l w first.still in
    ap (λ (s : SlotState). with_slot_and_front (server_at m w p) i
    (record s { proposal = Some (Ticket t) }) (i + m.count)) (slot-server_at m w p i small)
    ∙ server_written m w (Sent (Suggest p i t) ∷ l ∷ w) p i (i + m.count) _
    (rw (eq-eqb p p refl)
    (grown_front p (greatest_by (front_by m p) w) (greatest_by (front_by m p) (l ∷ w)) i m.count still ahead))
    (slot_at-suggested m (l ∷ w) p i t voted mine untried unsaid
    ∙ ap (λ (s : SlotState). record s { proposal = Some (Ticket t) }) (quiet i))
    (λ j ne. slot_at-quiet m (l ∷ w) (Sent (Suggest p i t)) p j (quiet_suggest p i t j ne) refl ∙ quiet j)
  where
    grown_front : (p f g i n : ℕ) → g ≡ f → max p f ≤ i → max p (max g (i + n)) ≡ i + n
    grown_front p f g i n e h = omega arith

submit_causes : (w : Trace) (x : Command) (s : ServerState) (o : OutboxState) (y : Option ℕ)
    → free_instance s.members w s.id ≡ y → submit_cause o y ≡ refusal_of w (Submit s.id x) s o
submit_causes w x s o None none = rw none
submit_causes w x s o (Some y) found = rw found

pub submit_is_event : SubmitIsEvent
submit_is_event w s c t at next =
    let same : free_at s ≡ free_instance s.members w s.id = ap free_at at.state ∙ free-server_at s.members w s.id in
    let row : suggestion s.id (free_instance s.members w s.id) t ≡ lines s.members w (Submit s.id c) =
    ap (suggestion s.id (free_instance s.members w s.id)) next in
    record {
      sent = ap (submit_sent s t) same ∙ ap messages_of row;
      state = ap (after_submit_at s t) same
          ∙ ap (λ (x : ServerState). after_submit_at x t (free_instance s.members w s.id)) at.state
          ∙ suggest_state s.members w (Submitted c s.id) s.id t (head_submitted s.members c s.id s.id)
          (server_facts s.members w at.reached) (free_instance s.members w s.id) refl
          ∙ ap (λ (ls : List Line). server_at s.members (followed_by (Submitted c s.id ∷ w) ls) s.id) row;
      refusal = λ o. ap (submit_cause o) same ∙ submit_causes w c s o (free_instance s.members w s.id) refl;
    }

-- ---- a retry

pub first_waiting_at : WaitingAnswers
first_waiting_at w s at = ap first_waiting at.state ∙ first_waiting_same s.members w s.id at.reached

sends_again : (w : Trace) (s : ServerState) → free_at s ≡ free_instance s.members w s.id → (o : Option ℕ)
    → retry_sent s o ≡ messages_of (retry_lines s.members w s.id o)
sends_again w s same None = refl
sends_again w s same (Some t) = ap (submit_sent s t) same

again_state : (w : Trace) (s : ServerState) → IsAt w s → (o : Option ℕ)
    → after_retry s o ≡ server_at s.members (followed_by (Retried s.id ∷ w) (retry_lines s.members w s.id o)) s.id
again_state w s at None =
    at.state ∙ server_unchanged s.members w (Retried s.id ∷ w) s.id
    (ap (max s.id) (greatest_quiet (front_by s.members s.id) (Retried s.id) w refl))
    (λ j. slot_at-quiet s.members w (Retried s.id) s.id j ((head_retried s.members s.id s.id).quiet j) refl)
again_state w s at (Some t) =
    let same : free_at s ≡ free_instance s.members w s.id = ap free_at at.state ∙ free-server_at s.members w s.id in
    ap (after_submit_at s t) same
    ∙ ap (λ (x : ServerState). after_submit_at x t (free_instance s.members w s.id)) at.state
    ∙ suggest_state s.members w (Retried s.id) s.id t (head_retried s.members s.id s.id)
    (server_facts s.members w at.reached) (free_instance s.members w s.id) refl

retry_causes : (w : Trace) (s : ServerState) (o : OutboxState) (x y : Option ℕ) → slice_get (waiting_tickets w s.id) 0
    ≡ x
    → free_at s ≡ y → free_instance s.members w s.id ≡ y
    → retry_cause s o x ≡ refusal_of w (Retry s.id) s o
retry_causes w s o None y none here there = rw none
retry_causes w s o (Some x) None first here there = rw (first, here, there)
retry_causes w s o (Some x) (Some y) first here there = rw (first, here, there)

pub retry_is_event : RetryIsEvent
retry_is_event w s at =
    let same : free_at s ≡ free_instance s.members w s.id = ap free_at at.state ∙ free-server_at s.members w s.id in
    let first = first_waiting_at w s at in
    record {
      sent = ap (retry_sent s) first ∙ sends_again w s same (slice_get (waiting_tickets w s.id) 0);
      state = ap (after_retry s) first ∙ again_state w s at (slice_get (waiting_tickets w s.id) 0);
      refusal = λ o. ap (retry_cause s o) first
          ∙ retry_causes w s o (slice_get (waiting_tickets w s.id) 0) (free_instance s.members w s.id) refl same refl;
    }
