use Rattle.std.proofs.Common.{◌≡◌, ap, ◌∙◌}
use Rattle.std.specs.BTreeMap.{get_by_text}
use Rattle.mencius_base.specs.declared.command.Command.{Command}
use Rattle.mencius_model.specs.KeyMap.{key_of}
use Rattle.mencius_judge.specs.Timelines.{text_of}
use Rattle.mencius_judge.proofs.keys.Changes.{held_now}
use Rattle.mencius_judge.proofs.timelines.Timelines.text_before.Goals as goal

pub returns : goal.returns
returns c cs h =
    let command : Command = c.args.command.now in
    let by_key = c.args.self.now.by_key in
    let key : c.key_of-key.result.now ≡ key_of command.op = c.key_of-key.ensures ∙ ap key_of c.op-op.ensures.op in
    held_now cs command by_key c.in_ok-text.text h (c.in_ok-text.ensures ∙ ap (λ k. text_of (get_by_text by_key k)) key)
