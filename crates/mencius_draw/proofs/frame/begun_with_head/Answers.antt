use Rattle.mencius_draw.proofs.frame.begun_with_head.Goals as goal

pub returns : goal.returns
returns c = c.in_ok-push_head.ensures.run _ _ c.in_ok-text.ensures
