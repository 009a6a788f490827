-- Lists that loops build from the front. What is built so far, and what is left, make the whole list.
use Rattle.std.proofs.Common.{◌≡◌, ℕ, zero, suc, ◌+◌, ◌<◌, ◌≤◌, max, List, [], ◌∷◌, ◌++◌, Option, Some, None, length, drop, get_or, slice_get, add-one, arith, refl, sym, ap, ◌∙◌, append_assoc, append-nil}
use Rattle.std.proofs.Math.Seq.{drop-cons}
use Rattle.mencius_base.specs.declared.command.Command.{Command}
use Rattle.mencius_base.specs.declared.command.CommandId.{CommandId}
use Rattle.mencius_log.specs.declared.observation.Observation.{Observation}
use Rattle.mencius_clients.specs.declared.key_search.KeySearch.{KeySearch}
use Rattle.mencius_clients.specs.declared.steps.Step.{Step}
use Rattle.mencius_clients.specs.declared.timed_command.TimedCommand.{TimedCommand}
use Rattle.mencius_clients.specs.Configurations.{submitted_by}
use Rattle.mencius_clients.specs.KeyOrders.{after_step, gathered, lines_back, lines_of, step_of, timed_lines, timed_one}
use Rattle.mencius_clients.specs.Locality.{ids_of}

rest_at : {A : Type 0} (xs : List A) (i : ℕ) (d : A) → i < length xs → drop i xs ≡ get_or xs i d ∷ drop (i + 1) xs
rest_at xs i d less = drop-cons xs i d less ∙ ap (λ n. get_or xs i d ∷ drop n xs) (sym (add-one i))

pub rest_none : {A : Type 0} (xs : List A) (i : ℕ) → length xs ≤ i → drop i xs ≡ []
rest_none [] zero h = refl
rest_none [] (suc i) h = refl
rest_none (x ∷ xs) zero h = absurd (omega (arith, h))
rest_none (x ∷ xs) (suc i) h = rest_none xs i (omega (arith, h))

pub ids_step : (done all : List CommandId) (cs : List TimedCommand) (i : ℕ) (d : TimedCommand) → i < length cs
    → done ++ ids_of (drop i cs) ≡ all → (done ++ (get_or cs i d).id ∷ []) ++ ids_of (drop (i + 1) cs) ≡ all
ids_step done all cs i d less e =
    append_assoc done ((get_or cs i d).id ∷ []) (ids_of (drop (i + 1) cs))
    ∙ sym (ap (λ ds. done ++ ids_of ds) (rest_at cs i d less)) ∙ e

timed_more : (o : Option Command) (moment : ℕ) (rest : List TimedCommand)
    → timed_one o moment [] ++ rest ≡ timed_one o moment rest
timed_more None moment rest = refl
timed_more (Some c) moment rest = refl

pub timed_step : (log : List Observation) (done all : List TimedCommand) (moment : ℕ) (lines : List ℕ) (i : ℕ)
    → i < length lines → done ++ timed_lines log moment (drop i lines) ≡ all
    → (done ++ timed_one (submitted_by (slice_get log (get_or lines i 0))) (max moment (get_or lines i 0)) [])
    ++ timed_lines log (max moment (get_or lines i 0)) (drop (i + 1) lines) ≡ all
timed_step log done all moment lines i less e =
    let line : ℕ = get_or lines i 0 in
    let rest : List TimedCommand = timed_lines log (max moment line) (drop (i + 1) lines) in
    append_assoc done (timed_one (submitted_by (slice_get log line)) (max moment line) []) rest
    ∙ ap (λ cs. done ++ cs) (timed_more (submitted_by (slice_get log line)) (max moment line) rest)
    ∙ sym (ap (λ ls. done ++ timed_lines log moment ls) (rest_at lines i 0 less)) ∙ e

pub back_step : (trail : List Step) (done all : List ℕ) (most left next : ℕ) (step : Step) → most ≡ suc left
    → step_of trail next ≡ Some step → done ++ lines_back trail most next ≡ all
    → (done ++ step.line ∷ []) ++ lines_back trail left step.before ≡ all
back_step trail done all most left next step is at e =
    append_assoc done (step.line ∷ []) (lines_back trail left step.before)
    ∙ sym (ap (λ n. done ++ lines_back trail n next) is
    ∙ ap (λ o. done ++ after_step o (λ s. s.line ∷ lines_back trail left s.before)) at)
    ∙ e

pub back_ends : (trail : List Step) (done all : List ℕ) (most next : ℕ) → step_of trail next ≡ None
    → done ++ lines_back trail most next ≡ all → done ≡ all
back_ends trail done all zero next at e = sym (append-nil done) ∙ e
back_ends trail done all (suc most) next at e =
    sym (append-nil done)
    ∙ sym (ap (λ o. done ++ after_step o (λ s. s.line ∷ lines_back trail most s.before)) at) ∙ e

pub gathered_step : (log : List Observation) (trail : List Step) (done new all : List TimedCommand) (s : KeySearch)
    (rest left : List KeySearch) → left ≡ s ∷ rest → new ≡ done ++ timed_lines log 0 (lines_of trail s)
    → done ++ gathered log trail left ≡ all → new ++ gathered log trail rest ≡ all
gathered_step log trail done new all s rest left is more e =
    ap (λ cs. cs ++ gathered log trail rest) more
    ∙ append_assoc done (timed_lines log 0 (lines_of trail s)) (gathered log trail rest)
    ∙ sym (ap (λ l. done ++ gathered log trail l) is) ∙ e
