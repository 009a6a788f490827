use Rattle.std.proofs.Common.{rules}
use Rattle.mencius_input.proofs.fields.next_scenario.Goals as goal

pub returns-in_err-fields-clause-err : goal.returns-in_err-fields-clause-err
returns-in_err-fields-clause-err c = search rules

pub returns-then-fields-clause-ok : goal.returns-then-fields-clause-ok
returns-then-fields-clause-ok c = search rules

pub returns-else-fields-clause-ok : goal.returns-else-fields-clause-ok
returns-else-fields-clause-ok c = search rules
