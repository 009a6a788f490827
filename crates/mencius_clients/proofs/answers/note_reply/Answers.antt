use Rattle.std.proofs.Common.{◌<◌, Some, subst, arith}
use Rattle.std.specs.BTreeMap.{Updates}
use Rattle.std.specs.Ordering.{nat_cmp}
use Rattle.mencius_judge.specs.Tables.{number_count}
use Rattle.mencius_clients.proofs.ReplyLines.{noted_before, noted_now, same_line}
use Rattle.mencius_clients.proofs.answers.note_reply.Goals as goal

pub returns-then-has_reply : goal.returns-then-has_reply
returns-then-has_reply c h =
    noted_before c.args.log.now c.args.replies.now c.args.line
    (same_line c.args.log.now c.args.replies.now c.args.line c.args.id c.args.answer.now c.requires
    (c.has_reply.ensures.0 c.if-has_reply.true)) h

pub returns : goal.returns
returns c h =
    let small : c.args.id.number < number_count = omega arith in
    noted_now c.args.log.now c.args.replies.now c.put.new.map c.args.line c.args.id c.args.answer.now c.requires small
    (λ known. let there = c.has_reply.ensures.1 known in let gone = c.if-has_reply.false in absurd (cc))
    (subst (λ k. Updates nat_cmp c.args.replies.now c.put.new.map k (Some c.args.line)) c.identity_key.ensures
    c.in_ok-put.ensures) h
