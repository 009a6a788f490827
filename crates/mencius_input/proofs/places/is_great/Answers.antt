use Rattle.std.proofs.Common.{rules}
use Rattle.serde_json.specs.Find.{as_number}
use Rattle.serde_json.specs.View.{number_view, view}
use Rattle.mencius_input.proofs.mistakes.FaultPlaces.{great}
use Rattle.mencius_input.proofs.places.is_great.Goals as goal

pub returns-in-None-as_u64 : goal.returns-in-None-as_u64
returns-in-None-as_u64 c =
    great (as_number (view c.args.value.now)) (number_view c.in-Some.number.now) c.unwrap_or.result
    (search rules) (search rules) (search rules)
