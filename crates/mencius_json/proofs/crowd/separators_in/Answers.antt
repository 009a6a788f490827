use Rattle.std.proofs.Common.{rules}
use Rattle.mencius_json.proofs.Counts.{either_within}
use Rattle.mencius_json.proofs.crowd.separators_in.Goals as goal

pub overflow_add-result : goal.overflow_add-result
overflow_add-result c =
    let within = either_within c.args.bytes.now c.count_of.result c.count_of-2.result c.count_of.ensures c.count_of-2.ensures in
    search (rules, within)
