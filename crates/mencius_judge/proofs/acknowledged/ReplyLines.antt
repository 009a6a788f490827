-- The replies of a judge stay right after a reply.
use Rattle.std.proofs.Common.{◌≡◌, ◌≢◌, ℕ, zero, suc, ◌<◌, Bool, true, false, cond, List, [], ◌∷◌, ◌++◌, Option, Some, None, is_some, option_map, slice_get, refl, sym, subst, ap, ◌∙◌, ⊎_elim}
use Rattle.std.specs.Option.{option_or}
use Rattle.std.specs.Ordering.{nat_cmp}
use Rattle.std.specs.BTreeMap.{Updates, get}
use Rattle.mencius_base.specs.Command.{is_same_id}
use Rattle.mencius_base.specs.declared.command.CommandId.{CommandId}
use Rattle.mencius_judge.specs.declared.judge.FirstReply.{FirstReply}
use Rattle.mencius_log.specs.declared.observation.Answer.{Answer}
use Rattle.mencius_log.specs.declared.observation.Observation.TheVariants.{Reply}
use Rattle.mencius_judge.specs.Log.{Log, acknowledged, is_failed, reply_of}
use Rattle.mencius_judge.specs.Promises.{AreOneReply}
use Rattle.mencius_judge.specs.Tables.{AreReplies, Replies, identity_key, number_count}
use Rattle.mencius_judge.proofs.acknowledged.FirstReplies.{acknowledged_again, acknowledged_new}
use Rattle.mencius_judge.proofs.promises.Identities.{get_here, get_there, id_cases, other_id, same_id}

-- a reply to another command does not change the first reply to this one
reply_elsewhere : (x : CommandId) (a : Answer) (id : CommandId) → x ≢ id → (o : Option Answer)
    → option_or o (cond (is_same_id x id) (Some a) None) ≡ o
reply_elsewhere x a id ne None = ap (λ d. cond d (Some a) None) (other_id x id ne)
reply_elsewhere x a id ne (Some y) = refl

-- each identity of the list has a small number
abbrev AreSmall : List CommandId → Type 0
AreSmall ids = (n : ℕ) (id : CommandId) → slice_get ids n ≡ Some id → id.number < number_count

small_more : (xs : List CommandId) (x : CommandId) → x.number < number_count → AreSmall xs → AreSmall (xs ++ x ∷ [])
small_more [] x small each zero id e =
    let same : x ≡ id = cc in subst (λ (y : CommandId). y.number < number_count) same small
small_more [] x small each (suc n) id e = absurd (cc)
small_more (z ∷ xs) x small each zero id e = each zero id e
small_more (z ∷ xs) x small each (suc n) id e = small_more xs x small (λ m y g. each (suc m) y g) n id e

small_after : (xs : List CommandId) (x : CommandId) (failed : Bool) → x.number < number_count → AreSmall xs
    → AreSmall (cond failed xs (xs ++ x ∷ []))
small_after xs x true small each = each
small_after xs x false small each = small_more xs x small each

-- the first reply to a command adds a row, and adds the command unless it is `failed`
pub table_reply : (w : Log) (x : CommandId) (a : Answer) (replies new : Replies) (ids : List CommandId) (r : FirstReply)
    → AreOneReply w → AreReplies w replies ids → x.number < number_count → reply_of w x ≡ None → r.answer ≡ a
    → Updates nat_cmp replies new (identity_key x) (Some r)
    → AreReplies (Reply x a ∷ w) new (cond (is_failed a) ids (ids ++ x ∷ []))
table_reply w x a replies new ids r one h small none answer updates = record {
  first = λ id less. ⊎_elim
      (λ (eq : x ≡ id). subst (λ (y : CommandId). option_map (λ (z : FirstReply). z.answer) (get nat_cmp new (identity_key y))
      ≡ reply_of (Reply x a ∷ w) y) eq
      (ap (option_map (λ (z : FirstReply). z.answer)) (get_here replies new x r updates) ∙ ap Some answer ∙ sym here))
      (λ (ne : x ≢ id).
      ap (option_map (λ (z : FirstReply). z.answer)) (get_there replies new x id r updates small less ne)
      ∙ h.first id less ∙ sym (reply_elsewhere x a id ne (reply_of w id)))
      (id_cases x id);
  order = ap (λ ys. cond (is_failed a) ys (ys ++ x ∷ [])) h.order ∙ sym (acknowledged_new w x a one none);
  small = subst AreSmall (sym (acknowledged_new w x a one none)) (small_after (acknowledged w) x (is_failed a) small h.small);
}
  where
    here : reply_of (Reply x a ∷ w) x ≡ Some a
    here =
        ap (λ o. option_or o (cond (is_same_id x x) (Some a) None)) none
        ∙ ap (λ d. cond d (Some a) None) (same_id x)

-- the same reply again changes nothing
pub table_again : (w : Log) (x : CommandId) (a : Answer) (replies : Replies) (ids : List CommandId) → AreOneReply w
    → AreReplies w replies ids → reply_of w x ≡ Some a → AreReplies (Reply x a ∷ w) replies ids
table_again w x a replies ids one h found = record {
  first = λ id less. h.first id less ∙ sym (kept id);
  order = h.order ∙ sym (acknowledged_again w x a one found);
  small = subst AreSmall (sym (acknowledged_again w x a one found)) h.small;
}
  where
    stays : (o : Option Answer) (other : Option Answer) → is_some o ≡ true → option_or o other ≡ o
    stays None other e = absurd (cc)
    stays (Some y) other e = refl

    kept : (id : CommandId) → reply_of (Reply x a ∷ w) id ≡ reply_of w id
    kept id = ⊎_elim
        (λ (eq : x ≡ id). stays (reply_of w id) (cond (is_same_id x id) (Some a) None)
        (ap (λ (y : CommandId). is_some (reply_of w y)) (sym eq) ∙ ap is_some found))
        (λ (ne : x ≢ id). reply_elsewhere x a id ne (reply_of w id))
        (id_cases x id)
