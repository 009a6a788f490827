use Rattle.mencius_app.proofs.Words.{codes, ◌++◌, subst, WritesFront}
use Rattle.mencius_app.proofs.texts.JoinedTexts.{front_behind}
use Rattle.mencius_app.proofs.ending.write_words.Goals as goal

pub returns-clause-front : goal.returns-clause-front
returns-clause-front g c =
    subst (λ first. WritesFront (g.E.Sink.state c.args.errors.now).bytes
    (g.E.Sink.state c.write_both-done.new.errors).bytes (first ++ (c.args.words.now ++ codes "\n")))
    c.as_bytes.ensures.value
    (front_behind _ _ _ _ _ c.in_ok-write_all.ensures.whole c.write_both-done.ensures.front)
