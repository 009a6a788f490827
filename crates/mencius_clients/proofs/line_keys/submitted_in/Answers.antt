use Rattle.mencius_clients.proofs.FoundCommands.{command_further, command_here}
use Rattle.mencius_clients.proofs.LineCommands.{some_at}
use Rattle.mencius_clients.proofs.line_keys.submitted_in.Goals as goal

pub returns-in-Some : goal.returns-in-Some
returns-in-Some c =
    command_here c.args.lines.now c.loop-line.line c.args.id c.in-Some.command.now c.in-Some.ensures.0 c.in-Some.ensures.1
    c.loop-line.invariant

pub loop-line-preserved : goal.loop-line-preserved
loop-line-preserved c =
    let x = some_at c.args.lines.now c.loop-line.line c.loop-line-test.true in
    command_further c.args.lines.now c.loop-line.line c.args.id x.0 x.1 c.in_default.ensures c.loop-line.invariant
