-- The value that each call on a slot returns, and the slot that it leaves. Here q is a server, b a ballot, and x a
-- value or a vote.
use Rattle.std.specs.Prelude.{Bool, true, List, Option, Some, None, if◌then◌else◌, slice_set, nat_le, is_none, ◌==◌}
use Rattle.std.specs.List.{count_by}
use Rattle.mencius_base.specs.Numbers.{ServerId, BallotNo}
use Rattle.mencius_base.specs.declared.message.Answer.{Answer}
use Rattle.mencius_base.specs.declared.message.Answer.TheVariants.{Promise}
use Rattle.mencius_base.specs.declared.message.Value.{Value}
use Rattle.mencius_base.specs.declared.message.Vote.{Vote}
use Rattle.mencius_base.specs.Members.{Membership, majority}
use Rattle.mencius_model.specs.Instance.{higher_vote}
use Rattle.mencius_model.specs.Rules.{due_decision_from, due_proposal_from, prepare_answer_from}
use Rattle.coord_paxos.specs.SlotState.{SlotState}
use Rattle.coord_paxos.specs.Fresh.{no_servers}

-- whether a majority of the servers is in the set, which has one truth value for each server
abbrev pub has_majority : Membership → List Bool → Bool
has_majority m among = nat_le (majority m) (count_by (λ bit. bit) among)

-- the reply to a Prepare of ballot b
abbrev pub prepare_answer : SlotState → BallotNo → Answer
prepare_answer s b = prepare_answer_from s.promised s.vote b s.learned

-- the slot after a reply to a Prepare of ballot b. If the reply is a promise, b is the promised ballot. Any other reply
-- leaves the slot unchanged
abbrev pub after_answer : SlotState → BallotNo → Answer → SlotState
after_answer s b (Promise x) = record s { promised = b }
after_answer s b _ = s

-- the slot after a Prepare of ballot b
abbrev pub after_prepare : SlotState → BallotNo → SlotState
after_prepare s b = after_answer s b (prepare_answer s b)

-- the slot after a proposal of x at ballot b. If b is not below the promised ballot, b is the promised ballot and the
-- vote is x at b. Otherwise the slot is unchanged
abbrev pub after_accept : SlotState → BallotNo → Value → SlotState
after_accept s b x =
    if nat_le s.promised b then record s { promised = b; vote = Some (record { ballot = b; value = x }) } else s

-- the slot at the start of the first phase of ballot b, with nothing reported, proposed or counted
abbrev pub after_begin : SlotState → BallotNo → SlotState
after_begin s b = record s {
  trying = b;
  reported = None;
  proposal = None;
  promises = no_servers s.members;
  accepts = no_servers s.members;
}

-- the slot after it counts q's promise of the ballot tried, which reports the vote x
abbrev pub with_promise : SlotState → ServerId → Option Vote → SlotState
with_promise s q x = record s {
  promises = slice_set s.promises q true;
  reported = higher_vote s.reported x;
}

-- the value to propose once a majority has promised the ballot tried, if nothing is learned or proposed
abbrev pub due_proposal : SlotState → Option Value
due_proposal s = due_proposal_from s.learned s.proposal (has_majority s.members s.promises) s.reported

-- the slot with the proposal recorded, if there is one
abbrev pub with_proposal : SlotState → Option Value → SlotState
with_proposal s None = s
with_proposal s (Some x) = record s { proposal = Some x }

-- the value to propose after q's promise of ballot b, if one is due. Only a promise of the ballot tried counts
abbrev pub promise_answer : SlotState → ServerId → BallotNo → Option Vote → Option Value
promise_answer s q b x = if (b == s.trying) then due_proposal (with_promise s q x) else None

-- the slot after q's promise of ballot b. If a proposal is due, the slot records it. If b is not the ballot tried, the
-- slot is unchanged
abbrev pub after_promise : SlotState → ServerId → BallotNo → Option Vote → SlotState
after_promise s q b x =
    if (b == s.trying) then with_proposal (with_promise s q x) (due_proposal (with_promise s q x)) else s

-- the slot after it counts q's acceptance at the ballot tried
abbrev pub with_acceptance : SlotState → ServerId → SlotState
with_acceptance s q = record s { accepts = slice_set s.accepts q true }

-- the slot's own proposal once a majority has accepted it, if nothing is learned
abbrev pub due_decision : SlotState → Option Value
due_decision s = due_decision_from s.learned s.proposal (has_majority s.members s.accepts)

-- the slot with the value recorded as learned, if there is one
abbrev pub with_learned : SlotState → Option Value → SlotState
with_learned s None = s
with_learned s (Some x) = record s { learned = Some x }

-- the value that is decided after q's acceptance at ballot b, if one is. Only an acceptance at the ballot tried counts
abbrev pub acceptance_answer : SlotState → ServerId → BallotNo → Option Value
acceptance_answer s q b = if (b == s.trying) then due_decision (with_acceptance s q) else None

-- the slot after q's acceptance at ballot b. If a value is decided, the slot learns it. If b is not the ballot tried,
-- the slot is unchanged
abbrev pub after_acceptance : SlotState → ServerId → BallotNo → SlotState
after_acceptance s q b =
    if (b == s.trying) then with_learned (with_acceptance s q) (due_decision (with_acceptance s q)) else s

-- the slot after it learns the value x. A value that it learned before stays
abbrev pub after_learn : SlotState → Value → SlotState
after_learn s x = if is_none s.learned then record s { learned = Some x } else s
