-- The guarantees that the calls of one slot give together.
use Rattle.std.specs.Prelude.{◌≡◌, ◌<◌, ◌≤◌, true, Option, Some, None, Contains}
use Rattle.mencius_base.specs.Numbers.{ServerId, BallotNo}
use Rattle.mencius_base.specs.declared.message.Value.{Value}
use Rattle.mencius_base.specs.declared.message.Vote.{Vote}
use Rattle.coord_paxos.specs.SlotState.{SlotState}
use Rattle.coord_paxos.specs.Slot.{acceptance_answer, after_accept, after_acceptance, after_begin, after_learn, after_prepare, after_promise, prepare_answer, promise_answer, with_promise}
use Rattle.mencius_base.specs.declared.message.Answer.TheVariants.{Promise, Known}

-- ---- the promise

-- a slot only promises a ballot that is greater than its promised ballot
abbrev pub PromisesAbove : Type 0
PromisesAbove = (s : SlotState) (b : BallotNo) (o : Option Vote) → prepare_answer s b ≡ Promise o → s.promised < b

-- once a slot has promised a ballot, a proposal at a lower ballot leaves the slot unchanged
abbrev pub PromiseBinds : Type 0
PromiseBinds =
    (s : SlotState) (b c : BallotNo) (x : Value) (o : Option Vote) → prepare_answer s b ≡ Promise o → c < b
    → after_accept (after_prepare s b) c x ≡ after_prepare s b

-- neither `prepare` nor `accept` lowers the promised ballot
abbrev pub PromiseGrows : Type 0
PromiseGrows =
    (s : SlotState) (b : BallotNo) (z : Value)
    → (s.promised ≤ (after_prepare s b).promised) × (s.promised ≤ (after_accept s b z).promised)

-- ---- a new ballot

-- after `begin`, no server is in the two sets
abbrev pub BeginEmpties : Type 0
BeginEmpties =
    (s : SlotState) (b : BallotNo)
    → (¬ Contains (after_begin s b).promises true) × (¬ Contains (after_begin s b).accepts true)

-- ---- repeats

-- counting the same promise a second time leaves the slot unchanged and calls for no proposal
abbrev pub RepeatedPromiseIgnored : Type 0
RepeatedPromiseIgnored =
    (s : SlotState) (q : ServerId) (b : BallotNo) (o : Option Vote)
    → (after_promise (after_promise s q b o) q b o ≡ after_promise s q b o)
    × (promise_answer (after_promise s q b o) q b o ≡ None)

-- counting the same acceptance a second time leaves the slot unchanged and decides nothing
abbrev pub RepeatedAcceptanceIgnored : Type 0
RepeatedAcceptanceIgnored =
    (s : SlotState) (q : ServerId) (b : BallotNo)
    → (after_acceptance (after_acceptance s q b) q b ≡ after_acceptance s q b)
    × (acceptance_answer (after_acceptance s q b) q b ≡ None)

-- ---- the vote reported

-- a vote leaves the reported vote unchanged if its ballot is equal or smaller
abbrev pub FirstVoteStands : Type 0
FirstVoteStands =
    (s : SlotState) (q : ServerId) (z x : Vote) → s.reported ≡ Some z → x.ballot ≤ z.ballot
    → (with_promise s q (Some x)).reported ≡ Some z

-- a vote with a greater ballot replaces the reported vote
abbrev pub GreaterVoteReplaces : Type 0
GreaterVoteReplaces =
    (s : SlotState) (q : ServerId) (z x : Vote) → s.reported ≡ Some z → z.ballot < x.ballot
    → (with_promise s q (Some x)).reported ≡ Some x

-- ---- proposals

-- `add_promise` returns a value only at the ballot tried, and only if none is proposed or learned. It then records the
-- value as the proposal
abbrev pub ProposesOnce : Type 0
ProposesOnce =
    (s : SlotState) (q : ServerId) (b : BallotNo) (reported : Option Vote) (z : Value)
    → promise_answer s q b reported ≡ Some z
    → (s.proposal ≡ None) × (s.learned ≡ None) × (b ≡ s.trying) × ((after_promise s q b reported).proposal ≡ Some z)

-- z stays the slot's proposal after each of these calls, and `add_promise` returns no value
pub record KeepsProposal (s : SlotState) (z : Value) : Type 0 where
  pub unproposed : (q : ServerId) (b : BallotNo) (reported : Option Vote) → promise_answer s q b reported ≡ None
  pub prepare : (b : BallotNo) → (after_prepare s b).proposal ≡ Some z
  pub accept : (b : BallotNo) (x : Value) → (after_accept s b x).proposal ≡ Some z
  pub add_promise : (q : ServerId) (b : BallotNo) (reported : Option Vote)
      → (after_promise s q b reported).proposal ≡ Some z
  pub add_accept : (q : ServerId) (b : BallotNo) → (after_acceptance s q b).proposal ≡ Some z
  pub learn : (x : Value) → (after_learn s x).proposal ≡ Some z

-- a proposal stays until the next ballot, and no other proposal is due
abbrev pub ProposalStays : Type 0
ProposalStays = (s : SlotState) (z : Value) → s.proposal ≡ Some z → KeepsProposal s z

-- ---- the learned value

-- `add_accept` returns a value only at the ballot tried, and only if none is learned. The value is the slot's own
-- proposal, and the slot learns it
abbrev pub LearnsOwnProposal : Type 0
LearnsOwnProposal =
    (s : SlotState) (q : ServerId) (b : BallotNo) (z : Value) → acceptance_answer s q b ≡ Some z
    → (s.proposal ≡ Some z) × (s.learned ≡ None) × (b ≡ s.trying) × ((after_acceptance s q b).learned ≡ Some z)

-- z stays the learned value after each of these calls. `prepare` returns it, and nothing more is proposed or decided
pub record KeepsLearned (s : SlotState) (z : Value) : Type 0 where
  pub known : (b : BallotNo) → prepare_answer s b ≡ Known z
  pub unproposed : (q : ServerId) (b : BallotNo) (reported : Option Vote) → promise_answer s q b reported ≡ None
  pub undecided : (q : ServerId) (b : BallotNo) → acceptance_answer s q b ≡ None
  pub prepare : (b : BallotNo) → (after_prepare s b).learned ≡ Some z
  pub accept : (b : BallotNo) (x : Value) → (after_accept s b x).learned ≡ Some z
  pub begin : (b : BallotNo) → (after_begin s b).learned ≡ Some z
  pub add_promise : (q : ServerId) (b : BallotNo) (reported : Option Vote)
      → (after_promise s q b reported).learned ≡ Some z
  pub add_accept : (q : ServerId) (b : BallotNo) → (after_acceptance s q b).learned ≡ Some z
  pub learn : (x : Value) → (after_learn s x).learned ≡ Some z

-- a learned value stays, and after it nothing more is proposed or decided
abbrev pub LearnedStays : Type 0
LearnedStays = (s : SlotState) (z : Value) → s.learned ≡ Some z → KeepsLearned s z
