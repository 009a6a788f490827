-- A right snapshot breaks no promise.
use Rattle.std.proofs.Common.{◌≡◌, ◌≢◌, ◌≤◌, ℕ, [], ◌∷◌, ◌++◌, length, sym, subst, ⊎_elim}
use Rattle.std.proofs.lemmas.Bool.{cases_eq}
use Rattle.mencius_base.specs.Numbers.{ServerId}
use Rattle.mencius_model.specs.Executed.{IsPrefix}
use Rattle.mencius_model.proofs.trace.Prefixes.{prefix_self, take_begins}
use Rattle.mencius_log.specs.declared.observation.Observation.TheVariants.{Restore}
use Rattle.mencius_judge.specs.Log.{Log, history}
use Rattle.mencius_judge.specs.Promises.{KeepsAll}
use Rattle.mencius_judge.proofs.observations.HistorySteps.{not_taken_over, taken_over}
use Rattle.mencius_judge.proofs.observations.Quiet.{one_quiet, quiet_reply, replies_quiet}
use Rattle.mencius_judge.proofs.promises.Kept.{comparable_earlier, longer_split, still_there}

module _ (w : Log) (p q : ServerId) (count : ℕ) where
  -- each history is then a prefix of a history before
  prefix_of_another : (r : ServerId) → (s : ServerId) × IsPrefix (history (Restore p q count ∷ w) r) (history w s)
  prefix_of_another r = ⊎_elim
      (λ (e : p ≡ r). subst (λ (t : ServerId). (s : ServerId) × IsPrefix (history (Restore p q count ∷ w) t) (history w s)) e
      (q, subst (λ ids. IsPrefix ids (history w q)) (sym (taken_over w p q count)) (take_begins count (history w q))))
      (λ (ne : p ≢ r). (r, subst (λ ids. IsPrefix ids (history w r)) (sym (not_taken_over w p q count r ne)) (prefix_self (history w r))))
      (cases_eq p r)

  pub snapshot_kept : history w p ≡ [] → count ≤ length (history w q) → KeepsAll w → KeepsAll (Restore p q count ∷ w)
  snapshot_kept empty enough h = record {
    one_command = one_quiet w (Restore p q count) tt h.one_command;
    submitted = h.submitted;
    once = λ r n m id e f.
        let at = prefix_of_another r in
        h.once at.0 n m id (still_there _ _ n id at.1 e) (still_there _ _ m id at.1 f);
    same_order = λ r t.
        let at = prefix_of_another r in
        let also = prefix_of_another t in
        comparable_earlier _ _ _ _ at.1 also.1 (h.same_order at.0 also.0);
    real_time = λ r front back id x e inside.
        let at = prefix_of_another r in
        h.real_time at.0 front (back ++ at.1.0) id x (longer_split _ _ front back id at.1 e) inside;
    one_reply = replies_quiet w (Restore p q count) tt h.one_reply;
    right_reply = λ r front back id c x e is there.
        let at = prefix_of_another r in
        h.right_reply at.0 front (back ++ at.1.0) id c x (longer_split _ _ front back id at.1 e) is
        (quiet_reply w (Restore p q count) tt id x there);
    right_lookup = h.right_lookup;
    settled = h.settled;
    restored = (empty, enough, h.restored);
  }
