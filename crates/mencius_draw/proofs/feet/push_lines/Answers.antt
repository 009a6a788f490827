use Rattle.mencius_draw.proofs.LastCalls.{last_ok}
use Rattle.mencius_draw.proofs.feet.push_lines.Goals as goal

pub returns : goal.returns
returns c =
    last_ok c.push_unheard.result c.push_unheard.ensures (λ last. record {
      run = λ tags es h.
          last.run _ _ (c.in_ok-push_waiting.ensures.run _ _ (c.in_ok-push_history.ensures.run _ _ (c.in_ok-push_progress.ensures.run _ _ h)));
    })
