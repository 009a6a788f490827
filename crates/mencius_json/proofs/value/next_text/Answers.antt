use Rattle.std.proofs.Common.{◌≡◌, ◌∷◌, [], refl, sym, ap, ◌∙◌, arith}
use Rattle.json.specs.Reads.{token_of}
use Rattle.serde_json.specs.Data.{string}
use Rattle.mencius_json.specs.Next.{next_value}
use Rattle.mencius_json.proofs.FirstTokens.{passed_first, passed_no_text, text_first}
use Rattle.mencius_json.proofs.NextValues.{err_anyway, next_none}
use Rattle.mencius_json.proofs.value.next_text.Goals as goal

pub returns-in_err-token-clause-err : goal.returns-in_err-token-clause-err
returns-in_err-token-clause-err c =
    let empty : c.args.reader.now ≡ [] = grind arith in
    err_anyway _ (ap (next_value c.args.depth) empty ∙ next_none c.args.depth)

pub returns-in-Some-clause-ok : goal.returns-in-Some-clause-ok
returns-in-Some-clause-ok c =
    let first : c.args.reader.now ≡ token_of c.in_ok-token.token ∷ c.next.new.self = grind arith in (
      string c.in-Some.text.now,
      text_first c.args.depth (token_of c.in_ok-token.token) c.next.new.self c.args.reader.now first
          c.in-Some.text.now c.in-Some.ensures,
      refl,
    )

pub returns-in_ok-pass_from-in-None-clause-ok : goal.returns-in_ok-pass_from-in-None-clause-ok
returns-in_ok-pass_from-in-None-clause-ok c =
    let first : c.args.reader.now ≡ token_of c.in_ok-token.token ∷ c.next.new.self = grind arith in
    let done = c.in_ok-pass_from-in-None.ensures.ok in (
      done.0,
      passed_first c.args.depth (token_of c.in_ok-token.token) c.next.new.self c.args.reader.now first done.0 _ done.1,
      sym (passed_no_text c.args.depth (token_of c.in_ok-token.token) c.next.new.self c.args.reader.now first done.0 _
          done.1 c.in-None.ensures),
    )
