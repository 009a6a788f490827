use Rattle.std.specs.Prelude.{◌≡◌, ◌≤◌, length, option_map, string_bytes}
use Rattle.std.proofs.Common.{arith, rules, subst}
use Rattle.mencius_model.specs.Executed.{IsPrefix}
use Rattle.mencius_model.specs.KeyMap.{value_at}
use Rattle.mencius_model.proofs.trace.Prefixes.{shorter_begins}
use Rattle.mencius_board.specs.Marks.{MarkState}
use Rattle.mencius_board.proofs.reader.Reader.lookup.Goals as goal

pub invariant_of-self-2 : goal.invariant_of-self-2
invariant_of-self-2 c =
    let is : c.in_ok-found.found.count ≡ length c.in_ok-found.found.mark.log = search rules in (is, search rules)

pub returns-clause-grows : goal.returns-clause-grows
returns-clause-grows c =
    let is : c.in_ok-found.found.count ≡ length c.in_ok-found.found.mark.log = search rules in
    let few : c.self.inside.count ≤ c.in_ok-found.found.count = search rules in
    subst (λ (s : MarkState). IsPrefix s.log c.in_ok-found.found.mark.log) c.self.view_is
    (shorter_begins _ _ c.compare.ensures (omega (arith, is, few, c.self.invariant.0)))

pub returns-clause-text : goal.returns-clause-text
returns-clause-text c =
    let is : option_map string_bytes c.in_ok-found.found.text
    ≡ value_at c.args.key.now c.in_ok-found.found.mark.log = search rules in
    is
