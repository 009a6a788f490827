use Rattle.std.proofs.Common.{◌∷◌, subst, sym}
use Rattle.std.proofs.lemmas.Result.{on_ok_weaker}
use Rattle.mencius_clients.specs.KeyLines.{Tracks}
use Rattle.mencius_clients.proofs.key_lines.KeyLines.note.Goals as goal

pub returns-in-Reply-clause-tracks : goal.returns-in-Reply-clause-tracks
returns-in-Reply-clause-tracks c =
    on_ok_weaker c.note_reply.result
    (λ noted w h. subst (λ o. Tracks c.args.key.now (o ∷ w) c.note_reply.new.self) (sym c.in-Reply.is)
    (noted c.args.key.now w c.in-Reply.answer h))
    c.note_reply.ensures.tracks
