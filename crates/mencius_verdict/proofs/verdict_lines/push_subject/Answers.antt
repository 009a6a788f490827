use Rattle.std.proofs.Common.{◌≡◌, ◌++◌, ap, append_assoc, codes, string_bytes, ◌∙◌}
use Rattle.std.proofs.lemmas.Result.{on_ok_weaker}
use Rattle.mencius_verdict.specs.VerdictLines.{reader_text}
use Rattle.mencius_verdict.proofs.verdict_lines.push_subject.Goals as goal

pub returns-in-OneReply : goal.returns-in-OneReply
returns-in-OneReply c = rw c.in-OneReply.is c.push_named-in-OneReply.ensures

pub returns-in-RightReply : goal.returns-in-RightReply
returns-in-RightReply c = rw c.in-RightReply.is c.push_named-in-RightReply.ensures

pub returns-in_ok-push_str-in-RightLookup : goal.returns-in_ok-push_str-in-RightLookup
returns-in_ok-push_str-in-RightLookup c =
    let old = string_bytes c.args.text.now in
    let name = codes "RightLookup" in
    let reader = reader_text c.in-RightLookup.reader c.in-RightLookup.key in
    let named : string_bytes c.push_str.new.self ≡ old ++ name = c.in_ok-push_str-in-RightLookup.ensures.bytes in
    rw c.in-RightLookup.is (on_ok_weaker c.push_reader.result
    (λ h. h ∙ ap (λ xs. xs ++ reader) named ∙ append_assoc old name reader) c.push_reader.ensures)

pub returns-in-Settled : goal.returns-in-Settled
returns-in-Settled c = rw c.in-Settled.is c.write.ensures.bytes
