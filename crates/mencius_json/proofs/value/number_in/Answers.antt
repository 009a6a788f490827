use Rattle.std.proofs.Common.{sym, ap}
use Rattle.json.specs.Reads.{token_of}
use Rattle.json.specs.declared.token.Token.{Token}
use Rattle.mencius_json.specs.Next.{number_text}
use Rattle.mencius_json.proofs.TokenKinds.{no_number}
use Rattle.mencius_json.proofs.value.number_in.Goals as goal

pub returns-in-Number : goal.returns-in-Number
returns-in-Number c = ap (λ (symbol : Token). number_text (token_of symbol)) (sym c.in-Number.is)

pub returns-in_default : goal.returns-in_default
returns-in_default c = no_number c.args.token c.in_default.not-Number
