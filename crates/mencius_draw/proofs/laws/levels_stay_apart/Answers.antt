use Rattle.mencius_draw.proofs.Rising.{all_apart}
use Rattle.mencius_draw.proofs.laws.levels_stay_apart.Goals as goal

pub returns : goal.returns
returns c = all_apart
