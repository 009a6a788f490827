use Rattle.std.proofs.Common.{◌≡◌, ◌∷◌, [], ◌++◌, Bool, true, false, sym, subst, ap, ◌∙◌}
use Rattle.std.specs.BTreeMap.{get_by_text}
use Rattle.mencius_base.specs.declared.command.Command.{Command}
use Rattle.mencius_model.specs.KeyMap.{key_of}
use Rattle.mencius_judge.specs.Timelines.{AreTimelines, Becomes, text_of}
use Rattle.mencius_judge.proofs.keys.Changes.{IsChange, answer_is, with_change, without_change}
use Rattle.mencius_judge.proofs.timelines.Timelines.execute.Goals as goal
use Rattle.mencius_judge.proofs.timelines.Timelines.execute.Goals.{then-not-is_same_text+in_ok-change, else-not-is_same_text}

not_both : (b : Bool) → b ≡ false → b ≡ true → ⊥
not_both b e f = cc

pub returns : goal.returns
returns c =
    let command : Command = c.args.command.now in
    let by_key = c.args.self.now.by_key in
    let held = c.in_ok-held.held in
    let text = c.in_ok-text.text in
    let key : c.key_of-key.result.now ≡ key_of command.op = c.key_of-key.ensures ∙ ap key_of c.op-op.ensures.op in
    let is : held ≡ text_of (get_by_text by_key (key_of command.op)) =
    c.in_ok-held.ensures ∙ ap (λ k. text_of (get_by_text by_key k)) key in
    let becomes : Becomes held command.op text = subst (λ op. Becomes held op text) c.op-op.ensures.op c.in_ok-text.ensures in
    record {
      reply = λ cs h. answer_is cs command by_key by_key held text h is becomes;
      after = λ cs h size. elim c.if-not-is_same_text.branch [
        | then-not-is_same_text+in_ok-change w ↦
            subst (λ s. AreTimelines (cs ++ command ∷ []) s.by_key) (sym w.self-is)
            (with_change cs command by_key w.change.new.self.by_key held text h is becomes
            (λ same. not_both c.is_same_text.result w.if-not-is_same_text.true (c.is_same_text.ensures.1 same))
            (subst (λ n. IsChange by_key w.change.new.self.by_key (key_of command.op) text n) (sym size)
            (subst (λ k. IsChange by_key w.change.new.self.by_key k text c.args.count) key
            (w.in_ok-change.ensures.own, w.in_ok-change.ensures.others))))
        | else-not-is_same_text w ↦
            subst (λ s. AreTimelines (cs ++ command ∷ []) s.by_key) (sym w.self-is)
            (without_change cs command by_key by_key held text h is becomes (c.is_same_text.ensures.0 w.if-not-is_same_text.false))
      ];
    }
