use Rattle.std.proofs.Common.{◌++◌, flat_map, string_bytes, sym, ap, ◌∙◌, map-id}
use Rattle.std.proofs.lemmas.Iterator.{YieldsList-from_chars, YieldsList-from_take}
use Rattle.std.proofs.lemmas.Iterator.Consumers.{YieldsList-end}
use Rattle.mencius_format.specs.Shown.{most_shown, shown_char}
use Rattle.mencius_format.proofs.shown_text.push_front.Goals as goal

pub returns : goal.returns
returns c =
    let road = YieldsList-from_take most_shown (YieldsList-from_chars c.args.text.now c.utf8.text cc) cc in
    let end = YieldsList-end road c.loop-c.yielded _ c.loop-c.yielded_by _ _ c.in-None.is c.next.ensures.steps in
    c.loop-c.invariant
    ∙ ap (λ cs. string_bytes c.args.words.now ++ flat_map shown_char cs) (sym (map-id c.loop-c.yielded) ∙ end.0)
