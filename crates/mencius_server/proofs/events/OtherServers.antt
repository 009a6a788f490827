-- An event of one server leaves all other servers as they were.
use Rattle.std.proofs.Common.{◌≡◌, ℕ, ◌<◌, Bool, true, false, List, [], ◌∷◌, Option, None, eqb, ltb, max, refl, sym, ◌∙◌, ap, inl, ◌&&◌}
use Rattle.std.specs.Prelude.{nat_le}
use Rattle.std.proofs.lemmas.Bool.{and_parts, eqb-true, ltb-true, ne_eqb}
use Rattle.mencius_base.specs.declared.event.Event.{Event}
use Rattle.mencius_base.specs.declared.event.Event.TheVariants.{Lose, Execute}
use Rattle.mencius_base.specs.declared.refusal.Refusal.TheVariants.{EventsFull}
use Rattle.mencius_base.specs.declared.message.Message.{Message}
use Rattle.mencius_base.specs.declared.message.Message.TheVariants.{Suggest, Skip, Accepted, Prepare, Promise, Propose, Learn}
use Rattle.mencius_base.specs.declared.message.Value.{Value}
use Rattle.mencius_base.specs.declared.message.Vote.{Vote}
use Rattle.mencius_base.specs.Members.{Membership, most_events, owner}
use Rattle.mencius_model.specs.Trace.{Line, Submitted, Heard, Lost, Suspected, Retried, Executed, Sent, Learned, Trace, events, followed_by}
use Rattle.mencius_model.specs.Instance.{proposal, proposal_by, tried_ballot, IsVoted}
use Rattle.mencius_model.specs.Server.{front_by}
use Rattle.mencius_model.specs.Next.{IsReached, head, lines, refusal_cause, with_event, server_of}
use Rattle.mencius_model.proofs.trace.OneMoreLine.{greatest_quiet, oldest_quiet}
use Rattle.mencius_model.proofs.rights.LineRights.{IsGrown, MaySuggest}
use Rattle.mencius_model.proofs.trace.AnswersLast.{accepted_in}
use Rattle.mencius_model.proofs.paxos.Paxos.{accepted_proposed}
use Rattle.mencius_model.proofs.rights.Journals.{reached_grown}
use Rattle.mencius_model.proofs.reached.Senders.{propose_ballot, tried_owner}
use Rattle.mencius_model.proofs.rights.EventRights.{AllMay, none_holds, step_may}
use Rattle.coord_paxos.specs.Reached.{if_own, slot_at}
use Rattle.mencius_model.proofs.trace.QuietLines.{IsQuiet}
use Rattle.coord_paxos.proofs.SlotTrace.{slot_at-proposing, slot_at-quiet}
use Rattle.mencius_server.specs.Reached.{server_at}
use Rattle.mencius_server.proofs.events.ServerTrace.{server_unchanged}
use Rattle.mencius_model.proofs.events.LineServers.{IsBy, AreBy, lines_by, head_by}
use Rattle.mencius_model.proofs.trace.Parts.{causes}

-- ---- one line of another server

module _ (p q : ℕ) (ne : p ≡ q → ⊥) where
  not_q : (from : ℕ) → from ≡ p → eqb from q ≡ false
  not_q from e = ne_eqb from q (λ h. ne (sym e ∙ h))

  -- Each line of server p is quiet for the slots of server q, unless it is a proposal.
  module _ (m : Membership) (w : Trace) (i : ℕ) where
    skip_quiet : (from first stop : ℕ) → IsQuiet q i (Sent (Skip from first stop))
    skip_quiet from first stop =
        record { promised = refl; proposed = λ b. refl; accepted = refl; learned = refl; tried = refl }

    accepted_quiet : (from to j b : ℕ) → from ≡ p → IsQuiet q i (Sent (Accepted from to j b))
    accepted_quiet from to j b e =
        record {
          promised = rw (not_q from e);
          proposed = λ c. refl;
          accepted = rw (not_q from e);
          learned = refl;
          tried = refl;
        }

    prepare_quiet : (from j b : ℕ) → from ≡ p → IsQuiet q i (Sent (Prepare from j b))
    prepare_quiet from j b e =
        record { promised = refl; proposed = λ c. refl; accepted = refl; learned = refl; tried = rw (not_q from e) }

    promise_quiet : (from to j b : ℕ) (o : Option Vote) → from ≡ p → IsQuiet q i (Sent (Promise from to j b o))
    promise_quiet from to j b o e =
        record { promised = rw (not_q from e); proposed = λ c. refl; accepted = refl; learned = refl; tried = refl }

    learned_quiet : (from j : ℕ) (z : Value) → from ≡ p → IsQuiet q i (Learned from j z)
    learned_quiet from j z e =
        record { promised = refl; proposed = λ c. refl; accepted = refl; learned = rw (not_q from e); tried = refl }

    voted : IsGrown m w → IsVoted w q i
    voted grown =
        record { proposal = λ b e. let r = accepted_in w q i b e in accepted_proposed m w grown q r.0 i b r.1 }

    -- A suggestion of server p changes no proposal at a ballot that server q tries.
    suggest_other : (from j t b : ℕ) → owner m j ≡ p → (a : Bool) → (eqb j i && eqb b 0) ≡ a
        → if_own m q i b (proposal (Sent (Suggest from j t) ∷ w) i b) ≡ if_own m q i b (proposal w i b)
    suggest_other from j t b own true e =
        let r = and_parts (eqb j i) (eqb b 0) e in
        let here = eqb-true j i r.0 in
        let zero = eqb-true b 0 r.1 in
        let theirs : eqb (owner m i) q ≡ false = not_q (owner m i) (ap (owner m) (sym here) ∙ own) in
        rw (zero, theirs)
    suggest_other from j t b own false e =
        ap (if_own m q i b) (oldest_quiet (proposal_by i b) (Sent (Suggest from j t)) w (rw e))

    propose_other : (from j b : ℕ) (z : Value) (c : ℕ) → owner m b ≡ p → (0 < c → owner m c ≡ q) → (a : Bool)
        → ((eqb j i && eqb b c) && ltb 0 c) ≡ a
        → if_own m q i c (proposal (Sent (Propose from j b z) ∷ w) i c) ≡ if_own m q i c (proposal w i c)
    propose_other from j b z c own tried true e =
        let r = and_parts (eqb j i && eqb b c) (ltb 0 c) e in
        let here = eqb-true b c (and_parts (eqb j i) (eqb b c) r.0).1 in
        absurd (ne (sym own ∙ ap (owner m) here ∙ tried (ltb-true 0 c r.1)))
    propose_other from j b z c own tried false e =
        ap (if_own m q i c) (oldest_quiet (proposal_by i c) (Sent (Propose from j b z)) w (rw e))

    sent_other : (x : Message) → IsGrown m (Sent x ∷ w) → IsBy p (Sent x)
        → slot_at m (Sent x ∷ w) q i ≡ slot_at m w q i
    sent_other (Suggest from j t) grown by =
        let may : MaySuggest m w from j t = grown.1 in
        slot_at-proposing m w (Sent (Suggest from j t)) q i
        (if_own m q i (tried_ballot w q i) (proposal w i (tried_ballot w q i))) (voted grown.0) refl refl refl refl refl
        (suggest_other from j t (tried_ballot w q i) (may.own ∙ by) (eqb j i && eqb (tried_ballot w q i) 0) refl)
    sent_other (Skip from first stop) grown by =
        slot_at-quiet m w (Sent (Skip from first stop)) q i (skip_quiet from first stop) refl
    sent_other (Accepted from to j b) grown by =
        slot_at-quiet m w (Sent (Accepted from to j b)) q i (accepted_quiet from to j b by) refl
    sent_other (Prepare from j b) grown by =
        slot_at-quiet m w (Sent (Prepare from j b)) q i (prepare_quiet from j b by) refl
    sent_other (Promise from to j b o) grown by =
        slot_at-quiet m w (Sent (Promise from to j b o)) q i (promise_quiet from to j b o by) refl
    sent_other (Propose from j b z) grown by =
        slot_at-proposing m w (Sent (Propose from j b z)) q i
        (if_own m q i (tried_ballot w q i) (proposal w i (tried_ballot w q i))) (voted grown.0) refl refl refl refl refl
        (propose_other from j b z (tried_ballot w q i)
        ((propose_ballot m (Sent (Propose from j b z) ∷ w) grown from j b z (inl refl)).1
        ∙ by) (tried_owner m w grown.0 q i)
        ((eqb j i && eqb b (tried_ballot w q i)) && ltb 0 (tried_ballot w q i)) refl)
    sent_other (Learn from j z) grown by =
        slot_at-quiet m w (Sent (Learn from j z)) q i
        (record { promised = refl; proposed = λ b. refl; accepted = refl; learned = refl; tried = refl }) refl

    slot_other : (l : Line) → IsGrown m (l ∷ w) → IsBy p l → slot_at m (l ∷ w) q i ≡ slot_at m w q i
    slot_other (Sent x) grown by = sent_other x grown by
    slot_other (Learned from j z) grown by = slot_at-quiet m w (Learned from j z) q i (learned_quiet from j z by) refl
    slot_other (Heard k to) grown by =
        slot_at-quiet m w (Heard k to) q i
        (record {
          promised = refl;
          proposed = λ b. refl;
          accepted = refl;
          learned = refl;
          tried = refl;
        }) (rw (not_q to by))
    slot_other (Submitted command from) grown by =
        slot_at-quiet m w (Submitted command from) q i
        (record { promised = refl; proposed = λ b. refl; accepted = refl; learned = refl; tried = refl }) refl
    slot_other (Lost k to) grown by =
        slot_at-quiet m w (Lost k to) q i
        (record { promised = refl; proposed = λ b. refl; accepted = refl; learned = refl; tried = refl }) refl
    slot_other (Suspected from to) grown by =
        slot_at-quiet m w (Suspected from to) q i
        (record { promised = refl; proposed = λ c. refl; accepted = refl; learned = refl; tried = refl }) refl
    slot_other (Retried from) grown by =
        slot_at-quiet m w (Retried from) q i
        (record { promised = refl; proposed = λ b. refl; accepted = refl; learned = refl; tried = refl }) refl
    slot_other (Executed from) grown by =
        slot_at-quiet m w (Executed from) q i
        (record { promised = refl; proposed = λ b. refl; accepted = refl; learned = refl; tried = refl }) refl

  front_other : (m : Membership) (l : Line) → IsBy p l → front_by m q l ≡ 0
  front_other m (Sent (Suggest from j t)) by = rw (not_q from by)
  front_other m (Sent (Skip from first stop)) by = rw (not_q from by)
  front_other m (Sent (Accepted from to j b)) by = refl
  front_other m (Sent (Prepare from j b)) by = refl
  front_other m (Sent (Promise from to j b o)) by = refl
  front_other m (Sent (Propose from j b z)) by = refl
  front_other m (Sent (Learn from j z)) by = refl
  front_other m (Learned from j z) by = refl
  front_other m (Heard k to) by = refl
  front_other m (Submitted command from) by = refl
  front_other m (Lost k to) by = refl
  front_other m (Suspected from to) by = refl
  front_other m (Retried from) by = refl
  front_other m (Executed from) by = refl

  server_other : (m : Membership) (w : Trace) (l : Line) → IsGrown m (l ∷ w) → IsBy p l
      → server_at m w q ≡ server_at m (l ∷ w) q
  server_other m w l grown by =
      server_unchanged m w (l ∷ w) q (ap (max q) (greatest_quiet (front_by m q) l w (front_other m l by)))
      (λ j. slot_other m w j l grown by)

  servers_other : (m : Membership) (ls : List Line) (w : Trace) → IsGrown m w → AllMay m w ls → AreBy p ls
      → server_at m w q ≡ server_at m (followed_by w ls) q
  servers_other m [] w grown may by = refl
  servers_other m (l ∷ ls) w grown may by =
      server_other m w l (grown, may.0) by.0 ∙ servers_other m ls (l ∷ w) (grown, may.0) may.1 by.1

-- An event that is not refused leaves every server as it was, except the server of the event.
pub others_stay : (m : Membership) (w : Trace) (e : Event) → IsReached m w → refusal_cause m w e ≡ None → (q : ℕ)
    → (server_of e ≡ q → ⊥)
    → server_at m (with_event m w e) q ≡ server_at m w q
others_stay m w e r allowed q ne =
    let grown = reached_grown m w r in
    let none = none_holds ((nat_le most_events (events w), EventsFull) ∷ causes m w e) allowed in
    let may = step_may m w e grown none.1 in
    sym (servers_other (server_of e) q ne m (head e ∷ lines m w e) w grown may (head_by e, lines_by m w e))

-- A loss or an execution leaves every server as it was.
pub loss_stays : (m : Membership) (w : Trace) (k p q : ℕ)
    → server_at m (with_event m w (Lose k p)) q ≡ server_at m w q
loss_stays m w k p q =
    sym (server_unchanged m w (Lost k p ∷ w) q (ap (max q) (greatest_quiet (front_by m q) (Lost k p) w refl))
    (λ j. slot_at-quiet m w (Lost k p) q j
    (record { promised = refl; proposed = λ b. refl; accepted = refl; learned = refl; tried = refl }) refl))

pub execution_stays : (m : Membership) (w : Trace) (p q : ℕ)
    → server_at m (with_event m w (Execute p)) q ≡ server_at m w q
execution_stays m w p q =
    sym (server_unchanged m w (Executed p ∷ w) q (ap (max q) (greatest_quiet (front_by m q) (Executed p) w refl))
    (λ j. slot_at-quiet m w (Executed p) q j
    (record { promised = refl; proposed = λ b. refl; accepted = refl; learned = refl; tried = refl }) refl))
