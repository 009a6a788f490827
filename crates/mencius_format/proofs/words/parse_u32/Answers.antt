use Rattle.std.proofs.Common.{sym, ◌∙◌}
use Rattle.mencius_format.proofs.NumberWords.{past_limit}
use Rattle.mencius_format.proofs.words.parse_u32.Goals as goal

pub returns-in-Err : goal.returns-in-Err
returns-in-Err c =
    sym (past_limit 32 c.args.word.now c.in-Err.field-0 c.in-Err.ensures.value.0 (sym c.is_number.ensures
    ∙ c.if-not-is_number.false))
