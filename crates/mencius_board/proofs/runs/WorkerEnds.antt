-- The ends of all workers give choosers that have taken all turns, or a fault that a run can have.
use Rattle.std.specs.Prelude.{MatchResult, IfOk, IfErr}
use Rattle.std.proofs.Common.{◌≡◌, ℕ, suc, ◌+◌, ◌<◌, List, [], ◌∷◌, ◌++◌, Result, Ok, Err, length, get_or}
use Rattle.std.proofs.Common.{length-append, refl, sym, ◌∙◌, subst, inl, inr, arith, add-zero, zero-add}
use Rattle.mencius_board.specs.declared.fault.BoardFault.{BoardFault}
use Rattle.mencius_choices.specs.Choices.{ChooserState, HasTurned, ProgressState, chooser_at, first_chooser}
use Rattle.mencius_board.specs.Faults.{IsRunFault}
use Rattle.mencius_base.specs.Plan.{PlanState}
use Rattle.mencius_board.specs.Workers.{EndState, HaveEnded, HaveFailed, HaveTurned, IsWorkerEnd, TakesTurns, choosers_behind, choosers_or_fault}
use Rattle.mencius_board.proofs.logs.ListSteps.{more_of}

-- each of these ends belongs to the worker whose number is n plus the place of the end in the list
abbrev EndFrom : PlanState → ℕ → List EndState → Type 0
EndFrom plan n ends = (m : ℕ) (d : EndState) → m < length ends → IsWorkerEnd plan (n + m) (get_or ends m d)

abbrev IsTurnedBy : PlanState → ℕ → ChooserState → Type 0
IsTurnedBy plan seat chooser =
    HasTurned chooser plan seat plan.turns × TakesTurns seat plan.turns (first_chooser plan seat) chooser

end_first : (plan : PlanState) (n : ℕ) (end : EndState) (rest : List EndState) → EndFrom plan n (end ∷ rest)
    → IsWorkerEnd plan n end
end_first plan n end rest h = subst (λ (m : ℕ). IsWorkerEnd plan m end) (add-zero n) (h 0 end (omega arith))

end_rest : (plan : PlanState) (n m : ℕ) (end : EndState) (rest : List EndState) → m ≡ n + 1
    → EndFrom plan n (end ∷ rest) → EndFrom plan m rest
end_rest plan n m end rest e h l d below =
    let at : n + suc l ≡ m + l = omega (arith, e) in
    subst (λ (o : ℕ). IsWorkerEnd plan o (get_or rest l d)) at (h (suc l) d (omega arith))

has_turned : (plan : PlanState) (seat : ℕ) (d : ProgressState) → IsWorkerEnd plan seat (Ok d)
    → IsTurnedBy plan seat (chooser_at plan d)
has_turned plan seat d (inl h) = (record { plan = refl; drawing = h.0 }, h.1)
has_turned plan seat d (inr e) = absurd (cc)

run_fault : (plan : PlanState) (seat : ℕ) (f : BoardFault) → IsWorkerEnd plan seat (Err f) → IsRunFault plan.turns f
run_fault plan seat f (inl (inl memory)) = inl memory
run_fault plan seat f (inl (inr shown)) = inr (inr (shown.0, shown.2))
run_fault plan seat f (inr e) = inr (inl (cc))

settled_fault : (plan : PlanState) (done : List ChooserState) (n : ℕ) (ends : List EndState) (f : BoardFault)
    → choosers_behind plan done ends ≡ Err f → EndFrom plan n ends → IsRunFault plan.turns f
settled_fault plan done n [] f e h = absurd (cc)
settled_fault plan done n (Err g ∷ rest) f e h =
    let same : g ≡ f = cc in subst (IsRunFault plan.turns) same (run_fault plan n g (end_first plan n (Err g) rest h))
settled_fault plan done n (Ok d ∷ rest) f e h =
    settled_fault plan (done ++ chooser_at plan d ∷ []) (n + 1) rest f e (end_rest plan n (n + 1) (Ok d) rest refl h)

settled_turned : (plan : PlanState) (done : List ChooserState) (ends : List EndState) (x : List ChooserState)
    → choosers_behind plan done ends ≡ Ok x → EndFrom plan (length done) ends
    → ((m : ℕ) (y : ChooserState) → m < length done → IsTurnedBy plan m (get_or done m y))
    → (length x ≡ length done + length ends)
    × ((m : ℕ) (y : ChooserState) → m < length x → IsTurnedBy plan m (get_or x m y))
settled_turned plan done [] x e h turned =
    let same : done ≡ x = cc in (
      subst (λ (xs : List ChooserState). length xs ≡ length done + 0) same (omega arith),
      subst (λ (xs : List ChooserState). (m : ℕ) (y : ChooserState) → m < length xs
          → IsTurnedBy plan m (get_or xs m y)) same turned,
    )
settled_turned plan done (Err g ∷ rest) x e h turned = absurd (cc)
settled_turned plan done (Ok d ∷ rest) x e h turned =
    let more : List ChooserState = done ++ chooser_at plan d ∷ [] in
    let one : length more ≡ length done + 1 = length-append done (chooser_at plan d ∷ []) in
    let is : IsTurnedBy plan (length done) (chooser_at plan d) =
    has_turned plan (length done) d (end_first plan (length done) (Ok d) rest h) in
    let all = settled_turned plan more rest x e (end_rest plan (length done) (length more) (Ok d) rest one h)
    (λ m y below. more_of (IsTurnedBy plan) m done (chooser_at plan d) y turned is (omega (arith, below, one))) in
    (omega (arith, all.0, one), all.1)

ends_from : (plan : PlanState) (n : ℕ) (ends : List EndState) → length ends ≡ n → HaveEnded ends plan n
    → EndFrom plan 0 ends
ends_from plan n ends len h m d below =
    subst (λ (o : ℕ). IsWorkerEnd plan o (get_or ends m d)) (sym (zero-add m)) (h m d (omega (arith, len, below)))

-- the result of a run is the choosers after all turns, or a fault that a run can have
pub come_to : {V : Type 0} (plan : PlanState) (ends : List EndState) (items : V → List ChooserState) (many : V → ℕ)
    (r : Result V BoardFault) → ((x : V) → many x ≡ length (items x)) → length ends ≡ plan.workers
    → HaveEnded ends plan plan.workers
    → MatchResult r (λ x. choosers_or_fault plan ends ≡ Ok (items x)) (λ fault. choosers_or_fault plan ends ≡ Err fault)
    → IfOk r (λ x. many x ≡ plan.workers) × IfOk r (λ x. HaveTurned (items x) plan) × IfErr r (HaveFailed plan)
    × IfErr r (IsRunFault plan.turns)
come_to plan ends items many (Ok x) counts len h e =
    let from : EndFrom plan 0 ends = ends_from plan plan.workers ends len h in
    let all = settled_turned plan [] ends (items x) e from (λ m y below. absurd (omega (arith, below))) in
    let as_many : length (items x) ≡ plan.workers = omega (arith, all.0, len) in
    (counts x ∙ as_many, (λ m y below. all.1 m y (omega (arith, as_many, below))), tt, tt)
come_to plan ends items many (Err f) counts len h e =
    (tt, tt, inr (ends, len, h, e), settled_fault plan [] 0 ends f e (ends_from plan plan.workers ends len h))
