use Rattle.std.proofs.Common.{◌==◌, ◌∙◌, ◌+◌, ap, ap₂, rules}
use Rattle.mencius_json.specs.Stops.{characters_in}
use Rattle.mencius_json.proofs.Columns.{characters_within, place_by_lines}
use Rattle.mencius_json.proofs.Counts.{within_all}
use Rattle.mencius_json.proofs.stops.line_and_column.Goals as goal

pub overflow_add-result : goal.overflow_add-result
overflow_add-result c = let most = within_all (λ byte. byte == 10) c.args.front.now in search (rules, most)

pub overflow_add-result-2 : goal.overflow_add-result-2
overflow_add-result-2 c =
    let is = c.characters_in.ensures ∙ ap characters_in c.split_at.ensures.back in
    let most = characters_within c.args.front.now c.last_line_start.result in
    search (rules, is, most)

pub returns : goal.returns
returns c =
    let start = c.last_line_start in
    let characters = c.characters_in.ensures ∙ ap characters_in c.split_at.ensures.back in
    ap₂ (λ a b. (a, b)) (ap (λ k. 1 + k) c.count_of-feeds.ensures) (ap (λ k. 1 + k) characters)
    ∙ place_by_lines c.args.front.now start.result start.ensures.within start.ensures.last start.ensures.line
