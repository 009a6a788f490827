-- The lines about what a server knows of each instance.
use Rattle.std.specs.Prelude.{ℕ, Bool, List, [], ◌++◌, ◌||◌, codes, decimal, if◌then◌else◌, is_some, nat_lt, Option, Some, None}
use Rattle.std.specs.List.{flat_map, range_with_len}
use Rattle.mencius_base.specs.Members.{Membership}
use Rattle.mencius_base.specs.Numbers.{ServerId, Inst, BallotNo}
use Rattle.mencius_base.specs.declared.message.Value.{Value}
use Rattle.mencius_base.specs.declared.message.Vote.{Vote}
use Rattle.mencius_server.specs.declared.glance.Glance.{Glance}
use Rattle.mencius_model.specs.Trace.{Trace}
use Rattle.mencius_model.specs.Instance.{vote}
use Rattle.mencius_trace.specs.Facts.{at_instance, value_text, vote_text}
use Rattle.mencius_trace.specs.Effects.{glance}

-- whether a server with this glance and this vote heard or did anything at the instance
abbrev pub is_heard_of : Glance → Option Vote → Bool
is_heard_of g x = nat_lt 0 g.promised || is_some x || nat_lt 0 g.trying || is_some g.proposal || is_some g.learned

-- the text of a value, or `none` without a value
abbrev pub value_or_none : Trace → Option Value → List ℕ
value_or_none w None = codes "none"
value_or_none w (Some x) = value_text w x

-- the knowledge of an acceptor, with the ballot that it promised, and its vote
abbrev pub acceptor_text : Trace → BallotNo → Option Vote → List ℕ
acceptor_text w b x = codes " promised " ++ decimal b ++ vote_text w x

-- the knowledge of a proposer, with the ballot that it tries, and its proposal and the counts of promises and
-- acceptances at that ballot
abbrev pub proposer_text : Trace → Glance → List ℕ
proposer_text w g =
    codes " tries " ++ decimal g.trying ++ codes " promises " ++ decimal g.promise_count ++ codes " proposed "
    ++ value_or_none w g.proposal ++ codes " acceptances " ++ decimal g.acceptance_count

-- the knowledge of a learner, with the value that it learned, if any
abbrev pub learner_text : Trace → Option Value → List ℕ
learner_text w learned = codes " learned " ++ value_or_none w learned

-- the knowledge of a server about an instance, as acceptor, as proposer and as learner
abbrev pub slot_text : Trace → Glance → Option Vote → List ℕ
slot_text w g x = acceptor_text w g.promised x ++ proposer_text w g ++ learner_text w g.learned

-- the line of p for instance i with this glance and this vote, or no text if they contain no knowledge
abbrev pub slot_line : Trace → ServerId → Inst → Glance → Option Vote → List ℕ
slot_line w p i g x =
    if is_heard_of g x then codes "slot " ++ decimal p ++ at_instance i ++ slot_text w g x ++ codes "\n" else []

-- the line of p for instance i, or no text if p knows nothing about the instance
abbrev pub slot_line_at : Membership → Trace → ServerId → Inst → List ℕ
slot_line_at m w p i = slot_line w p i (glance m w p i) (vote w p i)

-- the lines of p for the instances below n that it knows anything about
unfoldable pub slot_lines : Membership → Trace → ServerId → ℕ → List ℕ
slot_lines m w p n = flat_map (slot_line_at m w p) (range_with_len 0 n)
