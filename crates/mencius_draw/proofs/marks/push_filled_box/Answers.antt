use Rattle.mencius_draw.proofs.LastCalls.{last_ok}
use Rattle.mencius_draw.proofs.marks.push_filled_box.Goals as goal

pub returns : goal.returns
returns c =
    last_ok c.push_label.result c.push_label.ensures (λ last. record {
      run = λ tags es h.
          last.run _ _ (c.in_ok-push_box_around.ensures.run _ _ h);
    })
