use Rattle.std.proofs.Common.{◌∷◌, List, ℕ, string_bytes, subst, sym}
use Rattle.mencius_draw.specs.Svg.{IsText}
use Rattle.mencius_draw.proofs.LastCalls.{last_ok}
use Rattle.mencius_draw.proofs.svg.push_element.Goals as goal

pub returns : goal.returns
returns c =
    last_ok c.push_end.result c.push_end.ensures (λ last. record {
      run = λ tags es h.
          last.run _ _ (subst (λ (name : List ℕ). IsText (string_bytes c.push_words.new.text) (name ∷ tags) es)
          (sym c.name.ensures) (c.in_ok-push_words.ensures.run _ _ (c.in_ok-push_start.ensures.run _ _ h)));
    })
