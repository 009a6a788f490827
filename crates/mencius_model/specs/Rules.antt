-- The rules of a server, each as a function of the few facts that it needs. `Next` takes these facts from the trace. A
-- server in memory takes them from its fields.
use Rattle.std.specs.Prelude.{ℕ, ◌+◌, ◌*◌, max, Bool, false, List, [], ◌∷◌, Option, Some, None, nat_lt, nat_le, if◌then◌else◌, ◌&&◌, ◌==◌, is_none, true}
use Rattle.mencius_base.specs.Numbers.{ServerId, Inst, BallotNo, TicketNo}
use Rattle.mencius_base.specs.Members.{Membership, owner, first_owned, round}
use Rattle.mencius_base.specs.declared.message.Answer.{Answer}
use Rattle.mencius_base.specs.declared.message.Answer.TheVariants.{Promise as Promised, Known, Silent}
use Rattle.mencius_base.specs.declared.message.Message.{Message}
use Rattle.mencius_base.specs.declared.message.Message.TheVariants.{Suggest, Skip, Accepted, Promise, Propose, Learn}
use Rattle.mencius_base.specs.declared.message.Value.{Value}
use Rattle.mencius_base.specs.declared.message.Vote.{Vote}
use Rattle.mencius_model.specs.Trace.{Line, Sent, Learned}
use Rattle.std.specs.Option.{option_map_or}
use Rattle.mencius_base.specs.declared.message.Value.TheVariants.{Noop}

-- ---- a ticket

-- Whether p may suggest a ticket at i. It may if p owns i, i is not below p's front, and p has learned nothing at i.
abbrev pub is_free_from : Membership → ServerId → Inst → Inst → Option Value → Bool
is_free_from m p front i learned = (owner m i == p && nat_le front i) && is_none learned

-- The Suggest of ticket t at p's free instance, or no line if p has none.
abbrev pub suggestion : ServerId → Option Inst → TicketNo → List Line
suggestion p None t = []
suggestion p (Some i) t = Sent (Suggest p i t) ∷ []

-- Whether a value is present and is no-op.
abbrev pub is_noop : Option Value → Bool
is_noop (Some Noop) = true
is_noop _ = false

-- ---- a Suggest or a Propose

-- The Skip that p sends when it hears a suggestion at i, if i is above p's front. It covers p's instances from the
-- front to below p's next own instance after i. p sends it even if it does not accept the suggestion.
abbrev pub own_skip_lines : Membership → ServerId → Inst → Inst → List Line
own_skip_lines m p front i = if nat_lt front i then Sent (Skip p front (first_owned m p (i + 1))) ∷ [] else []

-- p accepts the proposal of q at ballot b of i, unless p promised a greater ballot there.
abbrev pub acceptance_lines : ServerId → ServerId → Inst → BallotNo → BallotNo → List Line
acceptance_lines p q i b promised = if nat_le promised b then Sent (Accepted p q i b) ∷ [] else []

-- ---- a Skip

-- Whether the message is a Skip by the owner of i that covers i. A Skip covers the range from `first` up to, but not
-- including, `stop`.
abbrev pub is_skipped_by : Membership → Inst → Message → Bool
is_skipped_by m i (Skip from first stop) = (from == owner m i && nat_le first i) && nat_lt i stop
is_skipped_by m i _ = false

-- ---- a Prepare

-- How a server responds to a Prepare at ballot b. If it has learned a value, it reports that value. Otherwise it
-- promises b and reports its vote, if b is above the ballot that it promised. In all other cases it is silent.
abbrev pub prepare_answer_from : BallotNo → Option Vote → BallotNo → Option Value → Answer
prepare_answer_from promised vote b (Some x) = Known x
prepare_answer_from promised vote b None = if nat_lt promised b then Promised vote else Silent

-- The message that p sends in response to q's Prepare at ballot b of i, if it sends one.
abbrev pub answer_lines : ServerId → ServerId → Inst → BallotNo → Answer → List Line
answer_lines p q i b (Promised vote) = Sent (Promise p q i b vote) ∷ []
answer_lines p q i b (Known x) = Sent (Learn p i x) ∷ []
answer_lines p q i b Silent = []

-- ---- a Promise

-- The value that a server proposes at a ballot once it has heard promises of that ballot from a majority. It is the
-- value of the reported vote with the greatest ballot, or no-op if no vote was reported. The server proposes nothing if
-- it has learned a value, or if a value was already proposed at that ballot.
abbrev pub due_proposal_from : Option Value → Option Value → Bool → Option Vote → Option Value
due_proposal_from learned proposed majority reported =
    if (is_none learned && is_none proposed) && majority then Some (option_map_or (λ x. x.value) reported Noop) else None

-- The Propose of p at ballot b of i, if a value is due.
abbrev pub proposal_lines : ServerId → Inst → BallotNo → Option Value → List Line
proposal_lines p i b None = []
proposal_lines p i b (Some x) = Sent (Propose p i b x) ∷ []

-- ---- an Accepted

-- The value that a server decides at a ballot once it has heard acceptances of that ballot from a majority. It is the
-- value that was proposed there. A server that has already learned a value decides nothing.
abbrev pub due_decision_from : Option Value → Option Value → Bool → Option Value
due_decision_from learned proposed majority = if is_none learned && majority then proposed else None

-- If a value is decided at i, p learns it and sends it to all servers.
abbrev pub decision_lines : ServerId → Inst → Option Value → List Line
decision_lines p i None = []
decision_lines p i (Some x) = Learned p i x ∷ Sent (Learn p i x) ∷ []

-- ---- a Learn

-- p learns the value of a Learn, unless it has learned a value before, because the first value stays.
abbrev pub learning_lines : ServerId → Inst → Value → Option Value → List Line
learning_lines p i x learned = if is_none learned then Learned p i x ∷ [] else []

-- ---- a suspicion

-- Whether q owns i and no value is learned at i.
abbrev pub is_open_from : Membership → ServerId → Inst → Option Value → Bool
is_open_from m q i learned = owner m i == q && is_none learned

-- The last instance that a suspicion may cover, or `None` if it covers nothing. The last argument is the lowest open
-- instance of the suspected server. If it is below front + beta, the result is front + 2 * beta. Otherwise, and if no
-- instance is open, it is `None`. It is twice beta so that, once the covered instances are learned, the next suspicion
-- covers nothing until the front has moved by more than beta.
abbrev pub reach_from : Membership → Inst → Option Inst → Option Inst
reach_from m front None = None
reach_from m front (Some i) = if nat_lt i (front + m.beta) then Some (front + 2 * m.beta) else None

-- Whether a suspicion of q with this reach covers i. It does if q owns i, i is at most the reach, and no value is
-- learned at i.
abbrev pub is_covered_from : Membership → ServerId → Option Inst → Inst → Option Value → Bool
is_covered_from m q reach i learned = (owner m i == q && option_map_or (nat_le i) reach false) && is_none learned

-- One more than the greater of two rounds: that of the ballot that is tried, and that of the ballot that is promised.
abbrev pub next_round_from : Membership → BallotNo → BallotNo → ℕ
next_round_from m tried promised = max (round m tried) (round m promised) + 1
