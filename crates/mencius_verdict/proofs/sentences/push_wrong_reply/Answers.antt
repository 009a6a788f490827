use Rattle.std.proofs.Common.{arith, string_bytes}
use Rattle.mencius_verdict.proofs.GrownTexts.{last_char, last_piece, with_piece}
use Rattle.mencius_verdict.proofs.sentences.push_wrong_reply.Goals as goal

pub returns-in_ok-push_gives-in-Held : goal.returns-in_ok-push_gives-in-Held
returns-in_ok-push_gives-in-Held c =
    rw c.in-Held.is
    (with_piece _ (string_bytes c.args.text.now) _ _ _ _ c.in_ok-push_about-in-Held.ensures
    (with_piece _ (string_bytes c.push_about.new.text) _ _ _ _ c.in_ok-push_held-in-Held.ensures
    (with_piece _ (string_bytes c.push_held.new.text) _ _ _ _ c.in_ok-push_gives-in-Held.ensures
    (last_char c.push.result (string_bytes c.push_gives.new.text) _ _ _ (c.push.ensures.ascii (omega arith))
    c.push.ensures.bytes))))

pub returns-in_ok-push_gives-in-Done : goal.returns-in_ok-push_gives-in-Done
returns-in_ok-push_gives-in-Done c =
    rw c.in-Done.is
    (with_piece _ (string_bytes c.args.text.now) _ _ _ _ c.in_ok-push_about-in-Done.ensures
    (with_piece _ (string_bytes c.push_about-in-Done.new.text) _ _ _ _ c.in_ok-push_gives-in-Done.ensures
    (last_piece c.push_str.result (string_bytes c.push_gives-in-Done.new.text) _ _ c.push_str.ensures.bytes)))

pub returns-in_ok-push_gives-in-Failed : goal.returns-in_ok-push_gives-in-Failed
returns-in_ok-push_gives-in-Failed c =
    rw c.in-Failed.is
    (with_piece _ (string_bytes c.args.text.now) _ _ _ _ c.in_ok-push_about-in-Failed.ensures
    (with_piece _ (string_bytes c.push_about-in-Failed.new.text) _ _ _ _ c.in_ok-push_gives-in-Failed.ensures
    (last_piece c.push_str-in-Failed.result (string_bytes c.push_gives-in-Failed.new.text) _ _
    c.push_str-in-Failed.ensures.bytes)))
