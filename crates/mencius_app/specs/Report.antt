-- The text of a report, which depends only on the membership and the trace of a cluster.
use Rattle.std.specs.Prelude.{ℕ, List, ◌++◌, codes, decimal, length}
use Rattle.std.specs.List.{flat_map}
use Rattle.mencius_model.specs.Trace.{Trace, events, sent_messages, submitted_commands}
use Rattle.mencius_base.specs.Members.{Membership, numbers_below}
use Rattle.mencius_base.specs.Numbers.{ServerId}
use Rattle.mencius_model.specs.Server.{done, front}
use Rattle.mencius_model.specs.Replies.{reply_of}
use Rattle.mencius_model.specs.Executed.{history}
use Rattle.mencius_trace.specs.Words.{answer_line, tickets_text}

-- the line of a server, with its front, the number of instances that it executed, and its history
abbrev pub server_line : Membership → Trace → ServerId → List ℕ
server_line m w p =
    codes "server " ++ decimal p ++ codes " front " ++ decimal (front m w p) ++ codes " done " ++ decimal (done w p)
    ++ codes " history" ++ tickets_text w (history w p) ++ codes "\n"

-- the report, with a line of counts, then a line for each server, and then a line for each command in the order of
-- submission
unfoldable pub report_text : Membership → Trace → List ℕ
report_text m w =
    codes "servers " ++ decimal m.count ++ codes " messages " ++ decimal (length (sent_messages w)) ++ codes " events "
    ++ decimal (events w) ++ codes "\n"
    ++ flat_map (server_line m w) (numbers_below m.count)
    ++ flat_map (λ x. answer_line x.0.id (reply_of w x.0.id)) (submitted_commands w)
