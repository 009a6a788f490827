use Rattle.std.proofs.lemmas.Result.{on_ok_weaker}
use Rattle.mencius_clients.proofs.KeyParts.{about_more}
use Rattle.mencius_clients.proofs.key_lines.KeyLines.push_about.Goals as goal

pub returns : goal.returns
returns c =
    on_ok_weaker c.note.result
    (λ noted w h. about_more c.args.key.now w c.args.observation.now c.args.self.now c.note.new.self c.args.lines.now.items
    c.push_if.new.lines.items c.is_about-is_about.result (c.is_about-is_about.ensures w h.tracks) c.in_ok-push_if.ensures h (noted w h.tracks))
    c.note.ensures.tracks
