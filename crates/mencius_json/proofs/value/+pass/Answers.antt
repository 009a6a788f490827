use Rattle.std.proofs.Common.{◌≡◌, ◌∷◌, [], Some, None, ap, ◌∙◌, arith}
use Rattle.json.specs.Json.{after_end_array, parse_map, read_key}
use Rattle.json.specs.Reads.{token_of}
use Rattle.json.proofs.Grammar.{read_key-shorter}
use Rattle.serde_json.specs.Data.{array, object, no_members, number}
use Rattle.mencius_json.specs.Next.{next_value}
use Rattle.mencius_json.proofs.NextValues.{array_too_deep, err_anyway, object_too_deep, errs_whole, oks_whole, opened_array, opened_object, items_close, items_further, items_stop, members_close, members_further, members_no_name, members_start, members_stop, next_counted, next_none, next_plain, next_uncounted, next_unfit}
use Rattle.mencius_json.proofs.value.+pass.Goals as goal

pub pass-returns-in_err-token-clause-err : goal.pass-returns-in_err-token-clause-err
pass-returns-in_err-token-clause-err t c =
    let empty : c.args.reader.now ≡ [] = grind arith in
    err_anyway _ (ap (next_value c.args.depth) empty ∙ next_none c.args.depth)

pub pass_from-returns-then-depth-eq0-clause-err : goal.pass_from-returns-then-depth-eq0-clause-err
pass_from-returns-then-depth-eq0-clause-err t c =
    ap (λ kind. next_value c.args.depth (token_of kind ∷ c.args.reader.now)) c.in-BeginArray.is
    ∙ array_too_deep c.args.depth c.args.reader.now (omega arith)

pub pass_from-returns-then-depth-eq0-2-clause-err : goal.pass_from-returns-then-depth-eq0-2-clause-err
pass_from-returns-then-depth-eq0-2-clause-err t c =
    ap (λ kind. next_value c.args.depth (token_of kind ∷ c.args.reader.now)) c.in-BeginObject.is
    ∙ object_too_deep c.args.depth c.args.reader.now (omega arith)

pub pass_from-returns-in-String-clause-ok : goal.pass_from-returns-in-String-clause-ok
pass_from-returns-in-String-clause-ok t c = next_plain c.args.depth c.args.token c.args.reader.now c.in-String.is

pub pass_from-returns-in-Some-clause-ok : goal.pass_from-returns-in-Some-clause-ok
pass_from-returns-in-Some-clause-ok t c =
    let n = next_counted c.args.depth c.in-Number.text.now c.args.reader.now c.in-Some.field-0 c.in-Some.ensures in
    (number n.0, ap (λ kind. next_value c.args.depth (token_of kind ∷ c.args.reader.now)) c.in-Number.is ∙ n.1)

pub pass_from-returns-in-None-clause-err : goal.pass_from-returns-in-None-clause-err
pass_from-returns-in-None-clause-err t c =
    ap (λ kind. next_value c.args.depth (token_of kind ∷ c.args.reader.now)) c.in-Number.is
    ∙ next_uncounted c.args.depth c.in-Number.text.now c.args.reader.now c.in-None.ensures

pub pass_from-returns-in-EndObject-clause-err : goal.pass_from-returns-in-EndObject-clause-err
pass_from-returns-in-EndObject-clause-err t c =
    next_unfit c.args.depth c.args.token c.args.reader.now c.in-EndObject.is

pub pass_from-returns-else-depth-eq0-clause-ok : goal.pass_from-returns-else-depth-eq0-clause-ok
pass_from-returns-else-depth-eq0-clause-ok t c =
    oks_whole _ array _ _ _
    (ap (λ kind. next_value c.args.depth (token_of kind ∷ c.args.reader.now)) c.in-BeginArray.is
    ∙ opened_array c.args.depth c.args.reader.now (omega arith)) c.pass_items.ensures.ok

pub pass_from-returns-else-depth-eq0-clause-err : goal.pass_from-returns-else-depth-eq0-clause-err
pass_from-returns-else-depth-eq0-clause-err t c =
    errs_whole _ _ _
    (λ none. ap (λ kind. next_value c.args.depth (token_of kind ∷ c.args.reader.now)) c.in-BeginArray.is
    ∙ opened_array c.args.depth c.args.reader.now (omega arith) ∙ ap (parse_map array) none) c.pass_items.ensures.err

pub pass_from-returns-else-depth-eq0-2-clause-ok : goal.pass_from-returns-else-depth-eq0-2-clause-ok
pass_from-returns-else-depth-eq0-2-clause-ok t c =
    oks_whole _ object _ _ _
    (ap (λ kind. next_value c.args.depth (token_of kind ∷ c.args.reader.now)) c.in-BeginObject.is
    ∙ opened_object c.args.depth c.args.reader.now (omega arith)) c.pass_members.ensures.ok

pub pass_from-returns-else-depth-eq0-2-clause-err : goal.pass_from-returns-else-depth-eq0-2-clause-err
pass_from-returns-else-depth-eq0-2-clause-err t c =
    errs_whole _ _ _
    (λ none. ap (λ kind. next_value c.args.depth (token_of kind ∷ c.args.reader.now)) c.in-BeginObject.is
    ∙ opened_object c.args.depth c.args.reader.now (omega arith) ∙ ap (parse_map object) none)
    c.pass_members.ensures.err

pub pass_items-items-preserved : goal.pass_items-items-preserved
pass_items-items-preserved t c =
    let l = c.items in
    let going : (after_end_array l.reader ≡ None) × (c.take_end_array.new.self ≡ l.reader) = grind arith in
    let done = c.in_ok-pass.ensures in (
      _,
      items_further _ _ l.reader l.invariant.0 l.invariant.1 _ done.ok.0 going.0 (rw (← going.1) done.shorter)
          (rw (← going.1) done.ok.1),
    )

pub pass_items-returns-in_err-pass-clause-err : goal.pass_items-returns-in_err-pass-clause-err
pass_items-returns-in_err-pass-clause-err t c =
    let l = c.items in
    let going : (after_end_array l.reader ≡ None) × (c.take_end_array.new.self ≡ l.reader) = grind arith in
    err_anyway _ (items_stop _ _ l.reader l.invariant.0 l.invariant.1 going.0 (rw (← going.1) c.in_err-pass.ensures.err))

pub pass_items-returns-clause-ok : goal.pass_items-returns-clause-ok
pass_items-returns-clause-ok t c =
    let l = c.items in
    (_, items_close _ _ l.reader l.invariant.0 l.invariant.1 c.take_end_array.new.self (grind arith))

pub pass_members-members-init : goal.pass_members-members-init
pass_members-members-init t c = (no_members, members_start _ _)

pub pass_members-returns-in_err-next_key-clause-err : goal.pass_members-returns-in_err-next_key-clause-err
pass_members-returns-in_err-next_key-clause-err t c =
    let l = c.members in
    err_anyway _ (members_no_name _ _ l.reader l.invariant.0 l.invariant.1 c.in_err-next_key.ensures.value)

pub pass_members-members-preserved : goal.pass_members-members-preserved
pass_members-members-preserved t c =
    let l = c.members in
    let key = c.in-Some.field-0.now in
    let s = c.next_key.new.self in
    let named : read_key l.reader ≡ Some (Some key, s) = grind arith in
    let done = c.in_ok-pass.ensures in (
      _,
      members_further _ _ l.reader l.invariant.0 l.invariant.1 key s _ done.ok.0 named
          (read_key-shorter l.reader (Some key) s named) done.shorter done.ok.1,
    )

pub pass_members-returns-in_err-pass-clause-err : goal.pass_members-returns-in_err-pass-clause-err
pass_members-returns-in_err-pass-clause-err t c =
    let l = c.members in
    let key = c.in-Some.field-0.now in
    let s = c.next_key.new.self in
    let named : read_key l.reader ≡ Some (Some key, s) = grind arith in
    err_anyway _ (members_stop _ _ l.reader l.invariant.0 l.invariant.1 key s named c.in_err-pass.ensures.err)

pub pass_members-returns-clause-ok : goal.pass_members-returns-clause-ok
pass_members-returns-clause-ok t c =
    let l = c.members in
    (_, members_close _ _ l.reader l.invariant.0 l.invariant.1 c.next_key.new.self (grind arith))
