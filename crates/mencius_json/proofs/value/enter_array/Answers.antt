use Rattle.std.proofs.Common.{◌≡◌, ◌∷◌, [], sym, ap, ◌∙◌, arith}
use Rattle.json.specs.Reads.{token_of}
use Rattle.mencius_json.specs.Next.{next_value}
use Rattle.mencius_json.proofs.FirstTokens.{array_first, passed_first, passed_no_array}
use Rattle.mencius_json.proofs.NextValues.{err_anyway, next_none}
use Rattle.mencius_json.proofs.value.enter_array.Goals as goal

pub returns-in_err-token-clause-err : goal.returns-in_err-token-clause-err
returns-in_err-token-clause-err c =
    let empty : c.args.reader.now ≡ [] = grind arith in
    err_anyway _ (ap (next_value c.args.depth) empty ∙ next_none c.args.depth)

pub returns-then-is_begin_array-clause-ok : goal.returns-then-is_begin_array-clause-ok
returns-then-is_begin_array-clause-ok c =
    let first : c.args.reader.now ≡ token_of c.in_ok-token.token ∷ c.next.new.self = grind arith in
    array_first c.args.depth (token_of c.in_ok-token.token) c.next.new.self c.args.reader.now first c.requires
    (sym c.is_begin_array.ensures ∙ c.if-is_begin_array.true)

pub returns-clause-ok : goal.returns-clause-ok
returns-clause-ok c =
    let first : c.args.reader.now ≡ token_of c.in_ok-token.token ∷ c.next.new.self = grind arith in
    let done = c.in_ok-pass_from.ensures.ok in (
      done.0,
      passed_first c.args.depth (token_of c.in_ok-token.token) c.next.new.self c.args.reader.now first done.0 _ done.1,
      passed_no_array c.args.depth (token_of c.in_ok-token.token) c.next.new.self c.args.reader.now first done.0 _
          done.1 (sym c.is_begin_array.ensures ∙ c.if-is_begin_array.false),
    )
