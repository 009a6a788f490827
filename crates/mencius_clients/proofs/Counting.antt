-- The submissions and replies of a log have the counts of the log.
use Rattle.std.proofs.Common.{◌≡◌, ◌+◌, ℕ, cond, Some, None, [], ◌∷◌, is_some, refl, ap, ◌∙◌}
use Rattle.std.specs.Option.{option_or}
use Rattle.mencius_base.specs.Command.{is_same_id}
use Rattle.mencius_base.specs.declared.command.CommandId.{CommandId}
use Rattle.mencius_log.specs.declared.observation.Observation.TheVariants.{Submit, Execute, Reply, Lookup, Tell, Settle, Restore}
use Rattle.mencius_judge.specs.Counts.{command_count}
use Rattle.mencius_judge.specs.Log.{Log, command_of, reply_count, reply_of}
use Rattle.mencius_clients.specs.Explained.{heard}
use Rattle.mencius_clients.proofs.Explaining.{command_heard}

pub commands_heard : (w : Log) → command_count (heard w) ≡ command_count w
commands_heard [] = refl
commands_heard (Submit c ∷ w) =
    ap (λ o. cond (is_some o) (command_count (heard w)) (command_count (heard w) + 1)) (command_heard w c.id)
    ∙ ap (λ (n : ℕ). cond (is_some (command_of w c.id)) n (n + 1)) (commands_heard w)
commands_heard (Execute p x ∷ w) = commands_heard w
commands_heard (Reply x a ∷ w) = commands_heard w
commands_heard (Lookup r key x ∷ w) = commands_heard w
commands_heard (Tell r p ∷ w) = commands_heard w
commands_heard (Settle p ∷ w) = commands_heard w
commands_heard (Restore p q n ∷ w) = commands_heard w

reply_heard : (w : Log) (id : CommandId) → reply_of (heard w) id ≡ reply_of w id
reply_heard [] id = refl
reply_heard (Submit c ∷ w) id = reply_heard w id
reply_heard (Execute p x ∷ w) id = reply_heard w id
reply_heard (Reply x a ∷ w) id = ap (λ o. option_or o (cond (is_same_id x id) (Some a) None)) (reply_heard w id)
reply_heard (Lookup r key x ∷ w) id = reply_heard w id
reply_heard (Tell r p ∷ w) id = reply_heard w id
reply_heard (Settle p ∷ w) id = reply_heard w id
reply_heard (Restore p q n ∷ w) id = reply_heard w id

pub replies_heard : (w : Log) → reply_count (heard w) ≡ reply_count w
replies_heard [] = refl
replies_heard (Submit c ∷ w) = replies_heard w
replies_heard (Execute p x ∷ w) = replies_heard w
replies_heard (Reply x a ∷ w) =
    ap (λ o. cond (is_some o) (reply_count (heard w)) (reply_count (heard w) + 1)) (reply_heard w x)
    ∙ ap (λ (n : ℕ). cond (is_some (reply_of w x)) n (n + 1)) (replies_heard w)
replies_heard (Lookup r key x ∷ w) = replies_heard w
replies_heard (Tell r p ∷ w) = replies_heard w
replies_heard (Settle p ∷ w) = replies_heard w
replies_heard (Restore p q n ∷ w) = replies_heard w
