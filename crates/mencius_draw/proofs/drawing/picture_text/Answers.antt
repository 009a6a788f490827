use Rattle.mencius_draw.proofs.drawing.picture_text.Goals as goal

pub returns : goal.returns
returns c = (_, c.in_ok-push_str.ensures.bytes, c.in_ok-text.ensures)
