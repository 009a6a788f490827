use Rattle.clap.specs.Words.{found_of}
use Rattle.mencius_command_line.proofs.CommandLines.{flag_missing, flag_there}
use Rattle.mencius_command_line.proofs.line.has_flag.Goals as goal

pub returns-in-Some : goal.returns-in-Some
returns-in-Some c = flag_there (found_of c.args.options.now) c.args.flag.now c.in-Some.text c.eq.result
    c.in-Some.ensures c.eq.ensures

pub returns-in-None : goal.returns-in-None
returns-in-None c = flag_missing (found_of c.args.options.now) c.args.flag.now c.in-None.ensures
