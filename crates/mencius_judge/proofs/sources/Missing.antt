-- A command without a submission or a reply has no such line.
use Rattle.std.proofs.Common.{◌≡◌, true, Option, Some, None, is_some, subst}
use Rattle.std.specs.List.{Contains}
use Rattle.mencius_base.specs.declared.command.CommandId.{CommandId}
use Rattle.mencius_log.specs.declared.observation.Observation.TheVariants.{Submit, Reply}
use Rattle.mencius_judge.specs.declared.quote.Quote.{Quote}
use Rattle.mencius_judge.specs.Log.{command_of, reply_of}
use Rattle.mencius_judge.specs.Quotes.{NumberedLog, Replies as IsReplyTo, Submits, log_of}
use Rattle.mencius_judge.proofs.promises.Logs.{command_known, reply_missing}
use Rattle.mencius_judge.proofs.sources.FirstLines.{HasNoLine}
use Rattle.mencius_judge.proofs.sources.Places.{contains_map}

none_known : {X : Type 0} (o : Option X) → o ≡ None → is_some o ≡ true → ⊥
none_known None e known = cc
none_known (Some x) e known = cc

pub no_submission : (lines : NumberedLog) (id : CommandId) → command_of (log_of lines) id ≡ None
    → HasNoLine (Submits id) lines
no_submission lines id none other inside is =
    let there : Contains (log_of lines) (Submit is.0) =
    subst (Contains (log_of lines)) is.1 (contains_map (λ (q : Quote). q.observation) lines other inside) in
    let known : is_some (command_of (log_of lines) id) ≡ true =
    subst (λ (x : CommandId). is_some (command_of (log_of lines) x) ≡ true) is.2
    (command_known (log_of lines) is.0 there) in
    none_known (command_of (log_of lines) id) none known

pub no_reply : (lines : NumberedLog) (id : CommandId) → reply_of (log_of lines) id ≡ None
    → HasNoLine (IsReplyTo id) lines
no_reply lines id none other inside is =
    let there : Contains (log_of lines) (Reply id is.0) =
    subst (Contains (log_of lines)) is.1 (contains_map (λ (q : Quote). q.observation) lines other inside) in
    none_known (reply_of (log_of lines) id) none (reply_missing (log_of lines) id is.0 there)
