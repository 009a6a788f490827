use Rattle.mencius_draw.proofs.Escapes.{all_harmless}
use Rattle.mencius_draw.proofs.laws.texts_stay_texts.Goals as goal

pub returns : goal.returns
returns c = all_harmless
