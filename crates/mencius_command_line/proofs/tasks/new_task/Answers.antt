use Rattle.std.proofs.Common.{Bool, ◌∙◌, ap}
use Rattle.clap.specs.Simple.{app_of_fields}
use Rattle.clap.specs.declared.builder.command.Command.{Command}
use Rattle.clap.specs.declared.builder.command.Command.TheOpen.{Command-F}
use Rattle.mencius_command_line.proofs.tasks.new_task.Goals as goal

abbrev has_globals : Command-F Command → Bool
has_globals fields = fields.has_globals

pub returns : goal.returns
returns c = record {
  app = ap app_of_fields c.override_usage.ensures ∙ c.new.ensures.app;
  local = ap has_globals c.override_usage.ensures ∙ c.new.ensures.local;
}
