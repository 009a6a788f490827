use Rattle.mencius_draw.proofs.LastCalls.{last_ok}
use Rattle.mencius_draw.proofs.marks.push_sent.Goals as goal

pub returns : goal.returns
returns c =
    last_ok c.push_words.result c.push_words.ensures (λ last. record {
      run = λ tags es h.
          last.run _ _ (c.in_ok-push_end.ensures.run _ _ (c.in_ok-push_sent_box.ensures.run _ _ (c.in_ok-push_tick.ensures.run _ _ (c.in_ok-push_sent_group.ensures.run _ _ h))));
    })
