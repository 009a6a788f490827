use Rattle.mencius_draw.proofs.LastCalls.{last_ok}
use Rattle.mencius_draw.proofs.frame.push_key.Goals as goal

pub returns : goal.returns
returns c =
    last_ok c.push_words-2.result c.push_words-2.ensures (λ last. record {
      run = λ tags es h.
          last.run _ _ (c.in_ok-push_end.ensures.run _ _ (c.in_ok-push_entries.ensures.run _ _ (c.in_ok-push_words.ensures.run _ _ (c.in_ok-push_card.ensures.run _ _ h))));
    })
