use Rattle.std.proofs.Common.{◌≡◌, ◌∷◌, [], ap, ◌∙◌, arith}
use Rattle.json.specs.Reads.{token_of}
use Rattle.mencius_json.specs.Next.{next_value}
use Rattle.mencius_json.proofs.FirstTokens.{no_whole_first, passed_first, passed_no_number, whole_first}
use Rattle.mencius_json.proofs.NextValues.{err_anyway, next_none}
use Rattle.mencius_json.proofs.value.next_whole.Goals as goal

pub returns-in_err-token-clause-err : goal.returns-in_err-token-clause-err
returns-in_err-token-clause-err c =
    let empty : c.args.reader.now ≡ [] = grind arith in
    err_anyway _ (ap (next_value c.args.depth) empty ∙ next_none c.args.depth)

pub returns-in-Some-whole_number-clause-ok : goal.returns-in-Some-whole_number-clause-ok
returns-in-Some-whole_number-clause-ok c =
    let first : c.args.reader.now ≡ token_of c.in_ok-token.token ∷ c.next.new.self = grind arith in
    whole_first c.args.depth (token_of c.in_ok-token.token) c.next.new.self c.args.reader.now first
    c.in-Some.text.now c.in-Some-whole_number.whole c.in-Some.ensures c.in-Some-whole_number.ensures

pub returns-in-None-whole_number-clause-err : goal.returns-in-None-whole_number-clause-err
returns-in-None-whole_number-clause-err c =
    let first : c.args.reader.now ≡ token_of c.in_ok-token.token ∷ c.next.new.self = grind arith in
    no_whole_first c.args.depth (token_of c.in_ok-token.token) c.next.new.self c.args.reader.now first
    c.in-Some.text.now c.in-Some.ensures c.in-None-whole_number.ensures

pub returns-in_ok-pass_from-in-None-clause-ok : goal.returns-in_ok-pass_from-in-None-clause-ok
returns-in_ok-pass_from-in-None-clause-ok c =
    let first : c.args.reader.now ≡ token_of c.in_ok-token.token ∷ c.next.new.self = grind arith in
    let done = c.in_ok-pass_from-in-None.ensures.ok in (
      done.0,
      passed_first c.args.depth (token_of c.in_ok-token.token) c.next.new.self c.args.reader.now first done.0 _ done.1,
      passed_no_number c.args.depth (token_of c.in_ok-token.token) c.next.new.self c.args.reader.now first done.0 _
          done.1 c.in-None.ensures,
    )
