use Rattle.std.proofs.Common.{◌≡◌, ◌++◌, ℕ, List, arith, rules, sym, ap, subst, ◌∙◌, length, take, get_or}
use Rattle.std.proofs.lemmas.List.{get_or_default}
use Rattle.std.specs.Prelude.{option_to_list, Contains}
use Rattle.mencius_base.specs.declared.command.Command.{Command}
use Rattle.mencius_model.specs.Server.{done}
use Rattle.mencius_model.specs.Executed.{history}
use Rattle.mencius_model.specs.Replies.{command_at, commands_of}
use Rattle.mencius_cluster.specs.State.{trace_of}
use Rattle.mencius_board.specs.Boards.{longest_of}
use Rattle.mencius_board.proofs.LongestCopy.{commands_next, longest_few, take_whole}
use Rattle.mencius_board.proofs.longest.copy_longest.Goals as goal

pub push_command-requires : goal.push_command-requires
push_command-requires c =
    let x = c.args.cluster.now in
    let w = trace_of x in
    let i : ℕ = c.loop-ticket.ticket-index in
    let xs : List ℕ = c.unwrap-tickets.result.now in
    let tickets : xs ≡ history w c.longest-server.result = search rules in
    let there : Contains xs (get_or xs i 0) =
    (i, c.loop-ticket-test.true, get_or_default xs i (get_or xs i 0) 0 c.loop-ticket-test.true) in
    c.once.ensures.submitted x.members x.journal w
    (record { some_server = omega (arith, c.longest-server.ensures.member); replays = c.replays.ensures })
    c.longest-server.result (get_or xs i 0)
    (subst (λ (ys : List ℕ). Contains ys (get_or xs i 0)) tickets there)

pub loop-ticket-preserved : goal.loop-ticket-preserved
loop-ticket-preserved c =
    let w = trace_of c.args.cluster.now in
    let t : ℕ = get_or c.unwrap-tickets.result.now c.loop-ticket.ticket-index 0 in
    c.in_ok-push_command.ensures
    ∙ (ap (λ (xs : List Command). xs ++ option_to_list (command_at w t)) c.loop-ticket.invariant
    ∙ sym (commands_next w c.unwrap-tickets.result.now c.loop-ticket.ticket-index c.loop-ticket-test.true))

pub returns-clause-list : goal.returns-clause-list
unfolding longest_of
returns-clause-list c =
    let x = c.args.cluster.now in
    let w = trace_of x in
    let tickets : c.unwrap-tickets.result.now ≡ history w c.longest-server.result = search rules in
    let all : take c.loop-ticket.ticket-index c.unwrap-tickets.result.now ≡ c.unwrap-tickets.result.now =
    take_whole c.loop-ticket.ticket-index c.unwrap-tickets.result.now c.loop-ticket-test.false in
    c.loop-ticket.invariant ∙ (ap (commands_of w) (all ∙ tickets)
    ∙ ap (λ (s : ℕ). commands_of w (history w s)) c.longest-server.ensures.place)

pub returns-clause-limit : goal.returns-clause-limit
returns-clause-limit c =
    let x = c.args.cluster.now in
    let is : c.loop-ticket.list.items ≡ longest_of x = returns-clause-list c in
    let done_is : c.unwrap-within_limit.result ≡ done (trace_of x) c.longest-server.result = search rules in
    let few = longest_few x c.longest-server.result c.unwrap-within_limit.result c.longest-server.ensures.place done_is in
    let same : length c.loop-ticket.list.items ≡ length (longest_of x) = ap length is in
    omega (arith, few, same, c.unwrap-within_limit.type_inv)
