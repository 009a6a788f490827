-- If all replies to a command are the same, the acknowledged commands are those whose first reply is not `failed`.
use Rattle.std.proofs.Common.{◌≡◌, ◌+◌, ◌&&◌, ◌||◌, Bool, true, false, cond, not, List, [], ◌∷◌, ◌++◌, Option, Some, None, is_some, refl, sym, ap, ◌∙◌}
use Rattle.std.specs.Option.{option_or}
use Rattle.mencius_base.specs.Command.{is_same_id}
use Rattle.mencius_base.specs.declared.command.CommandId.{CommandId}
use Rattle.mencius_log.specs.declared.observation.Answer.{Answer}
use Rattle.mencius_log.specs.declared.observation.Observation.{Observation}
use Rattle.mencius_log.specs.declared.observation.Observation.TheVariants.{Submit, Execute, Reply, Lookup, Tell, Settle, Restore}
use Rattle.mencius_judge.specs.Log.{Log, acknowledged, has_id, is_failed, reply_count, reply_of}
use Rattle.mencius_judge.specs.Promises.{AreOneReply}
use Rattle.mencius_judge.proofs.promises.Identities.{has-append, same_id_eq}
use Rattle.mencius_judge.proofs.promises.Logs.{contains_here, contains_later, reply_found}

-- there is a reply, and it is not `failed`
abbrev pub is_acknowledged : Option Answer → Bool
is_acknowledged None = false
is_acknowledged (Some x) = not (is_failed x)

-- the identities after a reply. `failed` adds nothing, nor does a reply to a command that is there
abbrev pub one_more_reply : List CommandId → CommandId → Bool → List CommandId
one_more_reply ids x failed = cond (failed || has_id ids x) ids (ids ++ x ∷ [])

pub one_earlier : (w : Log) (o : Observation) → AreOneReply (o ∷ w) → AreOneReply w
one_earlier w o h id x y first second =
    h id x y (contains_later o w (Reply id x) first) (contains_later o w (Reply id y) second)

has_one_more_reply : (ids : List CommandId) (x id : CommandId) (failed : Bool)
    → has_id (one_more_reply ids x failed) id ≡ (has_id ids id || (is_same_id x id && not failed))
has_one_more_reply ids x id true = last (has_id ids id) (is_same_id x id)
  where
    last : (a d : Bool) → a ≡ (a || (d && false))
    last true d = refl
    last false true = refl
    last false false = refl
has_one_more_reply ids x id false = by_tests (has_id ids x) refl (is_same_id x id) refl
  where
    by_tests : (a : Bool) → has_id ids x ≡ a → (d : Bool) → is_same_id x id ≡ d
        → has_id (cond a ids (ids ++ x ∷ [])) id ≡ (has_id ids id || (d && true))
    by_tests true there true same =
        let inside : has_id ids id ≡ true = ap (has_id ids) (sym (same_id_eq x id same)) ∙ there in
        more (has_id ids id) inside
      where
        more : (d : Bool) → d ≡ true → d ≡ (d || true)
        more true e = refl
        more false e = absurd (cc)
    by_tests true there false same = last (has_id ids id)
      where
        last : (a : Bool) → a ≡ (a || false)
        last true = refl
        last false = refl
    by_tests false there d same = has-append ids x id ∙ ap (λ t. t || has_id ids id) same ∙ swap d (has_id ids id)
      where
        swap : (d a : Bool) → (d || a) ≡ (a || (d && true))
        swap true true = refl
        swap true false = refl
        swap false true = refl
        swap false false = refl

pub acknowledged_is : (w : Log) (id : CommandId) → AreOneReply w
    → has_id (acknowledged w) id ≡ is_acknowledged (reply_of w id)
acknowledged_is [] id h = refl
acknowledged_is (Submit c ∷ w) id h = acknowledged_is w id (one_earlier w (Submit c) h)
acknowledged_is (Execute p x ∷ w) id h = acknowledged_is w id (one_earlier w (Execute p x) h)
acknowledged_is (Lookup r key text ∷ w) id h = acknowledged_is w id (one_earlier w (Lookup r key text) h)
acknowledged_is (Tell r p ∷ w) id h = acknowledged_is w id (one_earlier w (Tell r p) h)
acknowledged_is (Settle p ∷ w) id h = acknowledged_is w id (one_earlier w (Settle p) h)
acknowledged_is (Restore p q n ∷ w) id h = acknowledged_is w id (one_earlier w (Restore p q n) h)
acknowledged_is (Reply x a ∷ w) id h =
    has_one_more_reply (acknowledged w) x id (is_failed a)
    ∙ ap (λ d. d || (is_same_id x id && not (is_failed a))) (acknowledged_is w id (one_earlier w (Reply x a) h))
    ∙ by_first (reply_of w id) refl (is_same_id x id) refl
  where
    by_first : (o : Option Answer) → reply_of w id ≡ o → (d : Bool) → is_same_id x id ≡ d
        → (is_acknowledged o || (d && not (is_failed a))) ≡ is_acknowledged (option_or o (cond d (Some a) None))
    by_first None e true same = refl
    by_first None e false same = refl
    by_first (Some y) e false same = last (not (is_failed y))
      where
        last : (t : Bool) → (t || false) ≡ t
        last true = refl
        last false = refl
    by_first (Some y) e true same =
        let ids : x ≡ id = same_id_eq x id same in
        let one : y ≡ a =
        h id y a (contains_later (Reply x a) w (Reply id y) (reply_found w id y e))
        (contains_here (Reply x a) w (Reply id a) (ap (λ (z : CommandId). Reply z a) ids)) in
        ap (λ (z : Answer). not (is_failed y) || not (is_failed z)) (sym one) ∙ twice (not (is_failed y))
      where
        twice : (t : Bool) → (t || t) ≡ t
        twice true = refl
        twice false = refl

-- ---- what a reply adds

pub acknowledged_new : (w : Log) (x : CommandId) (a : Answer) → AreOneReply w → reply_of w x ≡ None
    → acknowledged (Reply x a ∷ w) ≡ cond (is_failed a) (acknowledged w) (acknowledged w ++ x ∷ [])
acknowledged_new w x a h none =
    let absent : has_id (acknowledged w) x ≡ false = acknowledged_is w x h ∙ ap is_acknowledged none in
    ap (λ d. cond (is_failed a || d) (acknowledged w) (acknowledged w ++ x ∷ [])) absent
    ∙ ap (λ d. cond d (acknowledged w) (acknowledged w ++ x ∷ [])) (last (is_failed a))
  where
    last : (d : Bool) → (d || false) ≡ d
    last true = refl
    last false = refl

pub acknowledged_again : (w : Log) (x : CommandId) (a : Answer) → AreOneReply w → reply_of w x ≡ Some a
    → acknowledged (Reply x a ∷ w) ≡ acknowledged w
acknowledged_again w x a h found =
    let there : has_id (acknowledged w) x ≡ not (is_failed a) = acknowledged_is w x h ∙ ap is_acknowledged found in
    ap (λ d. cond (is_failed a || d) (acknowledged w) (acknowledged w ++ x ∷ [])) there
    ∙ ap (λ d. cond d (acknowledged w) (acknowledged w ++ x ∷ [])) (either (is_failed a))
  where
    either : (d : Bool) → (d || not d) ≡ true
    either true = refl
    either false = refl

pub replied_new : (w : Log) (x : CommandId) (a : Answer) → reply_of w x ≡ None
    → reply_count (Reply x a ∷ w) ≡ reply_count w + 1
replied_new w x a none = ap (λ o. cond (is_some o) (reply_count w) (reply_count w + 1)) none

pub replied_again : (w : Log) (x : CommandId) (a : Answer) → is_some (reply_of w x) ≡ true
    → reply_count (Reply x a ∷ w) ≡ reply_count w
replied_again w x a there = ap (λ d. cond d (reply_count w) (reply_count w + 1)) there
