use Rattle.mencius_draw.proofs.LastCalls.{last_ok}
use Rattle.mencius_draw.proofs.feet.push_foot_at.Goals as goal

pub returns : goal.returns
returns c =
    last_ok c.push_words.result c.push_words.ensures (λ last. record {
      run = λ tags es h.
          last.run _ _ (c.in_ok-push_end.ensures.run _ _ (c.in_ok-push_leaf-2.ensures.run _ _ (c.in_ok-push_lines.ensures.run _ _ (c.in_ok-push_leaf.ensures.run _ _ (c.in_ok-push_card.ensures.run _ _ h)))));
    })
