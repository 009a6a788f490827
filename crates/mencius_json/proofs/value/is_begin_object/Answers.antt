use Rattle.mencius_json.proofs.TokenKinds.{no_object}
use Rattle.mencius_json.proofs.value.is_begin_object.Goals as goal

pub returns-in_default : goal.returns-in_default
returns-in_default c = no_object c.args.token c.in_default.not-BeginObject
