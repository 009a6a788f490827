use Rattle.std.proofs.Common.{inl, refl}
use Rattle.mencius_draw.proofs.LastCalls.{last_str}
use Rattle.mencius_draw.proofs.Passes.{same}
use Rattle.mencius_draw.specs.Svg.{constant}
use Rattle.mencius_draw.proofs.svg.push_entries.Goals as goal

pub returns : goal.returns
returns c =
    last_str c.push_str.result _ _ _ c.push_str.ensures.bytes (λ last. record {
      run = λ tags es h.
          same last (constant _ (inl refl) h);
    })
