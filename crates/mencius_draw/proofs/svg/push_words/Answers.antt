use Rattle.mencius_draw.proofs.Escapes.{all_harmless}
use Rattle.mencius_draw.proofs.LastCalls.{last_ok}
use Rattle.mencius_draw.proofs.Passes.{same}
use Rattle.mencius_draw.specs.Svg.{words}
use Rattle.mencius_draw.proofs.svg.push_words.Goals as goal

pub returns : goal.returns
returns c =
    last_ok c.push_plain.result c.push_plain.ensures (λ last. record {
      run = λ tags es h.
          same last (words _ (all_harmless _) h);
    })
