use Rattle.std.proofs.Common.{◌∙◌, ap, true}
use Rattle.clap.specs.Simple.{app_of_fields}
use Rattle.clap.specs.Words.{App}
use Rattle.mencius_command_line.proofs.line.without_tasks.Goals as goal

abbrev with_required_task : App → App
with_required_task a = record a { top = record a.top { subcommand_required = true } }

abbrev with_version : App → App
with_version a = record a { top = record a.top { has_version = true } }

pub returns : goal.returns
returns c =
    ap app_of_fields c.subcommand_required.ensures
    ∙ ap with_required_task (ap app_of_fields c.version.ensures ∙ ap with_version c.new.ensures.app)
