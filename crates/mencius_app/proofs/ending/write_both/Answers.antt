use Rattle.mencius_app.proofs.Words.{◌<◌, ◌++◌, ◌^◌, ap₂, subst, WritesFront}
use Rattle.mencius_app.proofs.texts.JoinedTexts.{failed_behind, front_behind, on_err_also}
use Rattle.mencius_app.proofs.ending.write_both.Goals as goal

pub returns-clause-front : goal.returns-clause-front
returns-clause-front g c =
    subst (WritesFront _ _) (ap₂ (λ xs ys. xs ++ ys) c.as_bytes.ensures.value c.as_bytes-2.ensures.value)
    (front_behind _ _ _ _ _ c.in_ok-write_all.ensures.whole c.write_all-done.ensures.front)

pub returns-clause-failed : goal.returns-clause-failed
returns-clause-failed g c =
    on_err_also c.write_all-done.result _ _ (failed_behind _ _ _ c.in_ok-write_all.ensures.counted
    (subst (λ n. n < 2 ^ 64) c.failures-within_limit.ensures c.failures-within_limit.type_inv)) c.write_all-done.ensures.failed
