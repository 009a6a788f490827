use Rattle.std.proofs.Common.{◌≡◌, ◌≢◌, ◌<◌, ℕ, IfOk, Result, Ok, Err, Option, Some, None, MatchOption, ap, arith, refl, sym, subst, ◌∙◌}
use Rattle.std.specs.BTreeMap.{Updates, get}
use Rattle.std.specs.Ordering.{nat_cmp}
use Rattle.mencius_base.specs.declared.command.CommandId.{CommandId}
use Rattle.mencius_judge.specs.declared.judge.FirstReply.{FirstReply}
use Rattle.mencius_judge.specs.declared.judge.Judge.{Judge}
use Rattle.mencius_judge.specs.declared.judge.Submission.{Submission}
use Rattle.mencius_log.specs.declared.observation.Answer.{Answer}
use Rattle.mencius_log.specs.declared.observation.Observation.TheVariants.{Reply}
use Rattle.mencius_judge.specs.declared.violation.Violation.{Violation}
use Rattle.mencius_judge.specs.declared.violation.Violation.TheVariants.{OneReply}
use Rattle.mencius_judge.specs.Judged.{HasSeen, IsJudged}
use Rattle.mencius_judge.specs.Quotes.{NumberedLog}
use Rattle.mencius_judge.specs.Tables.{IsNoWrongExecution, identity_key, number_count}
use Rattle.mencius_judge.proofs.acknowledged.ReplyVerdicts.{again_judged, seen_first, wrong_breaks}
use Rattle.mencius_judge.proofs.judge.Judge.reply.Goals as goal

some_matched : {A : Type 0} (P : Type 0) (Q : A → Type 0) (o : Option A) (x : A) → o ≡ Some x → MatchOption o P Q → Q x
some_matched P Q None x e h = absurd (cc)
some_matched P Q (Some y) x e h = let same : y ≡ x = cc in subst Q same h

none_matched : {A : Type 0} (P : Type 0) (Q : A → Type 0) (o : Option A) → o ≡ None → MatchOption o P Q → P
none_matched P Q None e h = h
none_matched P Q (Some y) e h = absurd (cc)

again_kept : {E : Type 0} (j : Judge) (line : ℕ) (id : CommandId) (answer : Answer) (s : Submission) (first : FirstReply)
    → id.number < number_count → get nat_cmp j.submissions (identity_key id) ≡ Some s
    → get nat_cmp j.replies (identity_key id) ≡ Some first → (r : Result (Option Violation) E)
    → IfOk r (λ x. MatchOption x (first.answer ≡ answer)
    (λ v. (v ≡ OneReply id first.answer answer) × (first.answer ≢ answer)))
    → IfOk r (λ x. (n : NumberedLog) → HasSeen j n
    → IsJudged n (record { number = line; observation = Reply id answer }) x j)
again_kept j line id answer s first small there found (Ok x) h = λ n seen.
    again_judged j n seen line id answer small s there first found x h
again_kept j line id answer s first small there found (Err e) h = h

pub returns-in-Some-get : goal.returns-in-Some-get
returns-in-Some-get c =
    let j = c.args.self.now in
    let id = c.args.id in
    let small : id.number < number_count = omega arith in
    let there : get nat_cmp j.submissions (identity_key id) ≡ Some c.in-Some.row.now =
    ap (get nat_cmp j.submissions) (sym c.identity_key-key.ensures) ∙ sym c.in-Some.ensures.value in
    let found : get nat_cmp j.replies (identity_key id) ≡ Some c.in-Some-get.first.now =
    ap (get nat_cmp j.replies) (sym c.identity_key-key.ensures) ∙ sym c.in-Some-get.ensures.value in
    again_kept j c.args.line id c.args.answer.now c.in-Some.row.now c.in-Some-get.first.now small there found
    c.other_reply.result c.other_reply.ensures

pub returns-in-Some-2 : goal.returns-in-Some-2
returns-in-Some-2 c n h =
    let j = c.args.self.now in
    let id = c.args.id in
    let small : id.number < number_count = omega arith in
    let there : get nat_cmp j.submissions (identity_key id) ≡ Some c.in-Some.row.now =
    ap (get nat_cmp j.submissions) (sym c.identity_key-key.ensures) ∙ sym c.in-Some.ensures.value in
    let wrong = some_matched _ _ c.in_ok-violation.field-0 c.in-Some-2.violation c.in-Some-2.is c.in_ok-violation.ensures in
    let found : get nat_cmp j.executions (identity_key id) ≡ Some wrong.0 =
    ap (get nat_cmp j.executions) (sym c.identity_key-key.ensures) ∙ wrong.1 in (
      wrong_breaks j n h c.args.line id c.args.answer.now small c.in-Some.row.now there wrong.0 found c.in-Some-2.violation
          wrong.2 wrong.3,
      h,
    )

pub returns : goal.returns
returns c n h =
    let j = c.args.self.now in
    let id = c.args.id in
    let answer = c.args.answer.now in
    let small : id.number < number_count = omega arith in
    let there : get nat_cmp j.submissions (identity_key id) ≡ Some c.in-Some.row.now =
    ap (get nat_cmp j.submissions) (sym c.identity_key-key.ensures) ∙ sym c.in-Some.ensures.value in
    let none : get nat_cmp j.replies (identity_key id) ≡ None =
    ap (get nat_cmp j.replies) (sym c.identity_key-key.ensures) ∙ sym c.in_default-get.ensures.value in
    let r : FirstReply = record { answer = c.in_ok-copy_of_answer.field-0; line = c.args.line } in
    let right : IsNoWrongExecution j.executions (identity_key id) c.in-Some.row.now.command.op answer =
    subst (λ key. IsNoWrongExecution j.executions key c.in-Some.row.now.command.op answer) c.identity_key-key.ensures
    (none_matched _ _ c.in_ok-violation.field-0 c.in_default-2.is c.in_ok-violation.ensures) in
    let updates : Updates nat_cmp j.replies c.put.new.map (identity_key id) (Some r) =
    subst (λ key. Updates nat_cmp j.replies c.put.new.map key (Some r)) c.identity_key-key.ensures c.in_ok-put.ensures in
    seen_first j n h c.args.line id answer small c.in-Some.row.now there none right c.acknowledge.new.acknowledged c.put.new.map r
    c.in_ok-self.field-0 c.in_ok-acknowledge.ensures updates c.in_ok-copy_of_answer.ensures refl c.in_ok-self.ensures
