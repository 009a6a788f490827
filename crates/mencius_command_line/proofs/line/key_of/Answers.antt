use Rattle.std.proofs.Common.{rules, ◌≡◌, ◌∙◌, Some, ap, codes, string_bytes}
use Rattle.clap.specs.Words.{found_of}
use Rattle.clap.proofs.WalkLemmas.{first_value-rows}
use Rattle.mencius_command_line.proofs.line.key_of.Goals as goal

pub returns-in_ok-from_str-in-Some : goal.returns-in_ok-from_str-in-Some
returns-in_ok-from_str-in-Some c =
    let copied : string_bytes c.in_ok-from_str-in-Some.field-0 ≡ c.in-Some.key.now = search rules in
    ap Some copied ∙ c.in-Some.ensures ∙ first_value-rows (found_of c.args.options.now) (codes "lookup")

pub returns-in-None : goal.returns-in-None
returns-in-None c = c.in-None.ensures ∙ first_value-rows (found_of c.args.options.now) (codes "lookup")
