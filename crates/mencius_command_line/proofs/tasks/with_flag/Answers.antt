use Rattle.std.proofs.Common.{◌∙◌, ap₂}
use Rattle.std.specs.Prelude.{◌||◌}
use Rattle.std.proofs.lemmas.Result.{IfOk-weaker}
use Rattle.clap.specs.Words.{with_rule}
use Rattle.mencius_command_line.proofs.tasks.with_flag.Goals as goal

pub returns : goal.returns
returns c a is_task =
    IfOk-weaker c.arg.result _ _ (λ r added. record {
      app = added.shape c.flag.ensures.local ∙ ap₂ with_rule is_task.app c.flag.ensures.rule;
      local = added.globals ∙ ap₂ (λ x y. x || y) is_task.local c.flag.ensures.local;
    }) c.arg.ensures
