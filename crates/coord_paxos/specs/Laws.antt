-- A slot follows the trace. Each line that touches a slot changes it as the matching call does, and every other line
-- leaves it unchanged. Each call returns the value that the trace calls for. `Premises.antt` shows that `IsVoted`,
-- which some laws require, holds in every trace that some journal makes.
use Rattle.std.specs.Prelude.{◌≡◌, ◌≢◌, ◌<◌, Bool, false, [], ◌∷◌, Option, Some, None, ◌==◌, ◌&&◌, slice_get, Contains}
use Rattle.mencius_base.specs.Numbers.{ServerId, Inst, BallotNo, TicketNo, MessageNo}
use Rattle.mencius_base.specs.declared.message.Message.{Message}
use Rattle.mencius_base.specs.declared.message.Message.TheVariants.{Suggest, Skip, Accepted, Prepare, Promise, Propose, Learn}
use Rattle.mencius_base.specs.declared.message.Value.{Value}
use Rattle.mencius_base.specs.declared.message.Value.TheVariants.{Ticket}
use Rattle.mencius_base.specs.declared.message.Vote.{Vote}
use Rattle.mencius_base.specs.Members.{Membership, owner}
use Rattle.mencius_model.specs.Trace.{Line, Heard, Sent, Learned, Trace, followed_by, heard_messages, sent_messages}
use Rattle.mencius_model.specs.Instance.{learned_value, promised_ballot, proposal, tried_ballot, vote, IsUntried, IsVoted}
use Rattle.mencius_model.specs.Rules.{decision_lines, prepare_answer_from, proposal_lines, answer_lines, acceptance_lines}
use Rattle.mencius_model.specs.Next.{due_decision_at, due_proposal_at}
use Rattle.coord_paxos.specs.Fresh.{new_slot}
use Rattle.coord_paxos.specs.Slot.{acceptance_answer, after_accept, after_acceptance, after_begin, after_learn, after_prepare, after_promise, prepare_answer, promise_answer}
use Rattle.coord_paxos.specs.Reached.{slot_at}

-- in the empty trace, each slot is a new slot
abbrev pub SlotAtTheStart : Type 0
SlotAtTheStart = (m : Membership) (p : ServerId) (i : Inst) → slot_at m [] p i ≡ new_slot m

-- ---- suggest

-- the owner's first suggestion at its instance becomes its proposal there, if the owner tries no ballot above 0
abbrev pub SlotAfterSuggest : Type 0
SlotAfterSuggest =
    (m : Membership) (w : Trace) (p : ServerId) (i : Inst) (t : TicketNo) → IsVoted w p i → owner m i ≡ p
    → tried_ballot w p i ≡ 0
    → proposal w i 0 ≡ None
    → slot_at m (Sent (Suggest p i t) ∷ w) p i ≡ record (slot_at m w p i) { proposal = Some (Ticket t) }

-- ---- prepare

-- `prepare` returns the reply that the acceptor's rule gives for p's promised ballot, vote and learned value in the
-- trace
abbrev pub PrepareAnswered : Type 0
PrepareAnswered =
    (m : Membership) (w : Trace) (p : ServerId) (i : Inst) (b : BallotNo)
    → prepare_answer (slot_at m w p i) b
    ≡ prepare_answer_from (promised_ballot w p i) (vote w p i) b (learned_value w p i)

-- after p sends its reply to a Prepare of q, if there is one, the slot is the one that `prepare` leaves
abbrev pub SlotAfterPrepare : Type 0
SlotAfterPrepare =
    (m : Membership) (w : Trace) (p q : ServerId) (i : Inst) (b : BallotNo)
    → slot_at m
    (followed_by w
    (answer_lines p q i b (prepare_answer_from (promised_ballot w p i) (vote w p i) b (learned_value w p i)))) p i
    ≡ after_prepare (slot_at m w p i) b

-- ---- accept

-- after p sends its acceptance of the value proposed at b, if it accepts that value, the slot is the one that `accept`
-- leaves
abbrev pub SlotAfterAccept : Type 0
SlotAfterAccept =
    (m : Membership) (w : Trace) (p q : ServerId) (i : Inst) (b : BallotNo) (z : Value) → proposal w i b ≡ Some z
    → slot_at m (followed_by w (acceptance_lines p q i b (promised_ballot w p i))) p i
    ≡ after_accept (slot_at m w p i) b z

-- ---- begin

-- after p sends a Prepare of a ballot above the ballot it tried, the slot is the one that `begin` leaves. Nothing was
-- heard or proposed at that ballot before (`IsUntried`)
abbrev pub SlotAfterBegin : Type 0
SlotAfterBegin =
    (m : Membership) (w : Trace) (p : ServerId) (i : Inst) (b : BallotNo) → tried_ballot w p i < b → IsUntried w p i b
    → slot_at m (Sent (Prepare p i b) ∷ w) p i ≡ after_begin (slot_at m w p i) b

-- ---- add_promise

-- when p hears a promise of a ballot above 0, `add_promise` returns the value that is due after all promises heard,
-- including this one
abbrev pub PromiseAnswered : Type 0
PromiseAnswered =
    (m : Membership) (w : Trace) (k : MessageNo) (p : ServerId) (i : Inst) (q : ServerId) (b : BallotNo)
    (o : Option Vote)
    → slice_get (sent_messages w) k ≡ Some (Promise q p i b o)
    → 0 < b → promise_answer (slot_at m w p i) q b o ≡ due_proposal_at m w (Heard k p ∷ w) p i b

-- a promise of a ballot that p does not try calls for no proposal
abbrev pub IgnoresPromises : Type 0
IgnoresPromises =
    (m : Membership) (w : Trace) (p : ServerId) (i : Inst) (q : ServerId) (b : BallotNo) (o : Option Vote)
    → b ≢ tried_ballot w p i → promise_answer (slot_at m w p i) q b o ≡ None

-- after p hears a promise of a ballot above 0 and proposes the value that is due, if any, its slot is the one that
-- `add_promise` leaves
abbrev pub SlotAfterPromise : Type 0
SlotAfterPromise =
    (m : Membership) (w : Trace) (k : MessageNo) (p : ServerId) (i : Inst) (q : ServerId) (b : BallotNo)
    (o : Option Vote)
    → slice_get (sent_messages w) k ≡ Some (Promise q p i b o)
    → 0 < b → IsVoted w p i
    → slot_at m (followed_by (Heard k p ∷ w) (proposal_lines p i b (promise_answer (slot_at m w p i) q b o))) p i
    ≡ after_promise (slot_at m w p i) q b o

-- ---- add_accept

-- when p hears an acceptance, `add_accept` returns the value that all acceptances heard decide, including this one. If
-- the acceptance is at ballot 0, p must own the instance
abbrev pub AcceptanceAnswered : Type 0
AcceptanceAnswered =
    (m : Membership) (w : Trace) (k : MessageNo) (p : ServerId) (i : Inst) (q : ServerId) (b : BallotNo)
    → slice_get (sent_messages w) k ≡ Some (Accepted q p i b)
    → (b ≡ 0 → owner m i ≡ p) → acceptance_answer (slot_at m w p i) q b ≡ due_decision_at m w (Heard k p ∷ w) p i b

-- an acceptance at a ballot that p does not try decides nothing
abbrev pub IgnoresAcceptances : Type 0
IgnoresAcceptances =
    (m : Membership) (w : Trace) (p : ServerId) (i : Inst) (q : ServerId) (b : BallotNo) → b ≢ tried_ballot w p i
    → acceptance_answer (slot_at m w p i) q b ≡ None

-- after p hears an acceptance and learns the value that is decided, if any, its slot is the one that `add_accept`
-- leaves
abbrev pub SlotAfterAcceptance : Type 0
SlotAfterAcceptance =
    (m : Membership) (w : Trace) (k : MessageNo) (p : ServerId) (i : Inst) (q : ServerId) (b : BallotNo)
    → slice_get (sent_messages w) k ≡ Some (Accepted q p i b)
    → slot_at m (followed_by (Heard k p ∷ w) (decision_lines p i (acceptance_answer (slot_at m w p i) q b))) p i
    ≡ after_acceptance (slot_at m w p i) q b

-- ---- learn

-- after p learns a value, the slot is the one that `learn` leaves
abbrev pub SlotAfterLearn : Type 0
SlotAfterLearn =
    (m : Membership) (w : Trace) (p : ServerId) (i : Inst) (z : Value)
    → slot_at m (Learned p i z ∷ w) p i ≡ after_learn (slot_at m w p i) z

-- ---- every other line

-- whether a line may touch p's slot for i
abbrev pub is_touched_by : ServerId → Inst → Line → Bool
is_touched_by p i (Sent (Suggest from inst ticket)) = inst == i
is_touched_by p i (Sent (Skip from first stop)) = false
is_touched_by p i (Sent (Accepted from to inst ballot)) = from == p && inst == i
is_touched_by p i (Sent (Prepare from inst ballot)) = from == p && inst == i
is_touched_by p i (Sent (Promise from to inst ballot reported)) = from == p && inst == i
is_touched_by p i (Sent (Propose from inst ballot value)) = inst == i
is_touched_by p i (Sent (Learn from inst value)) = false
is_touched_by p i (Learned server inst value) = server == p && inst == i
is_touched_by p i (Heard message server) = server == p
is_touched_by p i _ = false

-- a line that does not touch p's slot for i leaves the slot unchanged
abbrev pub LeavesUntouched : Type 0
LeavesUntouched =
    (m : Membership) (w : Trace) (p : ServerId) (i : Inst) (l : Line) → is_touched_by p i l ≡ false
    → slot_at m (l ∷ w) p i ≡ slot_at m w p i

-- whether a message is a promise of ballot b of i or an acceptance at it. Only these messages count in a slot's sets
abbrev pub is_counted_at : Inst → BallotNo → Message → Bool
is_counted_at i b (Promise from to inst ballot reported) = inst == i && ballot == b
is_counted_at i b (Accepted from to inst ballot) = inst == i && ballot == b
is_counted_at i b _ = false

-- a message that p hears leaves the slot unchanged, unless it is a promise of the ballot that p tries or an acceptance
-- at it
abbrev pub LeavesUncounted : Type 0
LeavesUncounted =
    (m : Membership) (w : Trace) (k : MessageNo) (p : ServerId) (i : Inst) (x : Message)
    → slice_get (sent_messages w) k ≡ Some x
    → is_counted_at i (tried_ballot w p i) x ≡ false
    → slot_at m (Heard k p ∷ w) p i ≡ slot_at m w p i

-- a Propose at a ballot that p does not try leaves the slot unchanged
abbrev pub LeavesProposals : Type 0
LeavesProposals =
    (m : Membership) (w : Trace) (p q : ServerId) (i : Inst) (b : BallotNo) (z : Value) → IsVoted w p i
    → b ≢ tried_ballot w p i
    → slot_at m (Sent (Propose q i b z) ∷ w) p i ≡ slot_at m w p i

-- a Suggest at an instance that p does not own leaves the slot unchanged
abbrev pub LeavesSuggestions : Type 0
LeavesSuggestions =
    (m : Membership) (w : Trace) (p q : ServerId) (i : Inst) (t : TicketNo) → IsVoted w p i → owner m i ≢ p
    → slot_at m (Sent (Suggest q i t) ∷ w) p i ≡ slot_at m w p i

-- ---- repeats

-- a message that p heard before leaves the slot unchanged when p hears it again
abbrev pub LeavesRepeats : Type 0
LeavesRepeats =
    (m : Membership) (w : Trace) (k : MessageNo) (p : ServerId) (i : Inst) (x : Message)
    → slice_get (sent_messages w) k ≡ Some x → Contains (heard_messages w p) x
    → slot_at m (Heard k p ∷ w) p i ≡ slot_at m w p i
