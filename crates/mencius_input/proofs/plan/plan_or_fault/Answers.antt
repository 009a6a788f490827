use Rattle.std.proofs.Common.{◌≡◌, length, map, rules}
use Rattle.std.proofs.lemmas.List.{length-map}
use Rattle.mencius_input.specs.FieldsOf.{is_field_within, is_number_within}
use Rattle.mencius_input.proofs.plan.plan_or_fault.Goals as goal

pub returns : goal.returns
unfolding is_field_within is_number_within
returns c =
    let lists = c.args.commands.items in
    let same : length (map (λ l. l.items) lists) ≡ length lists = length-map lists (λ l. l.items) in
    search rules
