use Rattle.std.proofs.Common.{◌≡◌, ◌∷◌, [], sym, ap, ◌∙◌, arith}
use Rattle.json.specs.Reads.{token_of}
use Rattle.mencius_json.specs.Next.{next_value}
use Rattle.mencius_json.proofs.FirstTokens.{object_first, passed_first, passed_no_object}
use Rattle.mencius_json.proofs.NextValues.{err_anyway, next_none}
use Rattle.mencius_json.proofs.value.enter_object.Goals as goal

pub returns-in_err-token-clause-err : goal.returns-in_err-token-clause-err
returns-in_err-token-clause-err c =
    let empty : c.args.reader.now ≡ [] = grind arith in
    err_anyway _ (ap (next_value c.args.depth) empty ∙ next_none c.args.depth)

pub returns-then-is_begin_object-clause-ok : goal.returns-then-is_begin_object-clause-ok
returns-then-is_begin_object-clause-ok c =
    let first : c.args.reader.now ≡ token_of c.in_ok-token.token ∷ c.next.new.self = grind arith in
    object_first c.args.depth (token_of c.in_ok-token.token) c.next.new.self c.args.reader.now first c.requires
    (sym c.is_begin_object.ensures ∙ c.if-is_begin_object.true)

pub returns-clause-ok : goal.returns-clause-ok
returns-clause-ok c =
    let first : c.args.reader.now ≡ token_of c.in_ok-token.token ∷ c.next.new.self = grind arith in
    let done = c.in_ok-pass_from.ensures.ok in (
      done.0,
      passed_first c.args.depth (token_of c.in_ok-token.token) c.next.new.self c.args.reader.now first done.0 _ done.1,
      passed_no_object c.args.depth (token_of c.in_ok-token.token) c.next.new.self c.args.reader.now first done.0 _
          done.1 (sym c.is_begin_object.ensures ∙ c.if-is_begin_object.false),
    )
