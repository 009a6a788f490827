use Rattle.mencius_json.proofs.TokenKinds.{no_array}
use Rattle.mencius_json.proofs.value.is_begin_array.Goals as goal

pub returns-in_default : goal.returns-in_default
returns-in_default c = no_array c.args.token c.in_default.not-BeginArray
