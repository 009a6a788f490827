use Rattle.std.proofs.Common.{◌-◌, ◌∙◌, ℕ, reverse, ap, subst}
use Rattle.mencius_judge.specs.Counts.{command_count}
use Rattle.mencius_judge.specs.Judged.{HasSeenLog}
use Rattle.mencius_judge.specs.Log.{Log}
use Rattle.mencius_clients.specs.Explained.{heard}
use Rattle.mencius_clients.proofs.Counting.{commands_heard, replies_heard}
use Rattle.mencius_clients.proofs.client_counts.counts_of.Goals as goal

pub returns : goal.returns
returns c h =
    let w : Log = reverse c.args.log.now in
    let are = c.counts-counts.ensures (heard w) (subst (HasSeenLog c.args.judge.now) h.2 h.1.log) in
    let commands = are.commands ∙ commands_heard w in
    let replies = are.replies ∙ replies_heard w in
    record {
      commands = commands;
      replies = replies;
      lost = c.saturating_sub.ensures ∙ ap (λ (n : ℕ). n - c.counts-counts.result.replies) commands
          ∙ ap (λ (n : ℕ). command_count w - n) replies;
      keys = c.in_ok-keys.ensures;
    }
