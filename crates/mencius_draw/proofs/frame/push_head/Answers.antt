use Rattle.mencius_draw.proofs.LastCalls.{last_ok}
use Rattle.mencius_draw.proofs.frame.push_head.Goals as goal

pub returns : goal.returns
returns c =
    last_ok c.push_paper.result c.push_paper.ensures (λ last. record {
      run = λ tags es h.
          last.run _ _ (c.in_ok-push_definitions.ensures.run _ _ (c.in_ok-push_words-3.ensures.run _ _ (c.in_ok-push_style.ensures.run _ _ (c.in_ok-push_words-2.ensures.run _ _ (c.in_ok-push_title.ensures.run _ _ (c.in_ok-push_words.ensures.run _ _ h))))));
    })
