-- The observations about a key are found from the first line of a log to a later one, and some answers fit after them.
use Rattle.std.proofs.Common.{◌≡◌, ℕ, Bool, true, false, List, [], ◌∷◌, ◌++◌, Some, reverse, slice_get, take, refl, sym, subst, ap, ◌∙◌}
use Rattle.std.specs.Prelude.{IsTrue, if◌then◌else◌}
use Rattle.std.specs.List.{All}
use Rattle.std.proofs.lemmas.List.{reverse-append}
use Rattle.std.proofs.lemmas.List.Elements.{All-push, All-weaker}
use Rattle.mencius_base.specs.declared.command.CommandId.{CommandId}
use Rattle.mencius_log.specs.declared.observation.Answer.{Answer}
use Rattle.mencius_log.specs.declared.observation.Observation.{Observation}
use Rattle.mencius_log.specs.declared.observation.Observation.TheVariants.{Reply}
use Rattle.mencius_judge.specs.Log.{Log}
use Rattle.mencius_clients.specs.declared.key_lines.KeyLines.{KeyLines}
use Rattle.mencius_clients.specs.Explained.{IsLinearizable}
use Rattle.mencius_clients.specs.FittingAnswers.{AllFit, Fits, HasAbout, about_key}
use Rattle.mencius_clients.specs.KeyLines.{Tracks, is_about}

-- ---- observations about a key

about_next : (key : List ℕ) (w : Log) (o : Observation) (lines : List Observation) (is : Bool) → is ≡ is_about key w o
    → reverse lines ≡ about_key key w → reverse (if is then lines ++ o ∷ [] else lines) ≡ about_key key (o ∷ w)
about_next key w o lines true says are =
    subst (λ (b : Bool). reverse (lines ++ o ∷ []) ≡ (if b then o ∷ about_key key w else about_key key w)) says
    (reverse-append lines (o ∷ []) ∙ ap (λ x. o ∷ x) are)
about_next key w o lines false says are =
    subst (λ (b : Bool). reverse lines ≡ (if b then o ∷ about_key key w else about_key key w)) says are

pub about_more : (key : List ℕ) (w : Log) (o : Observation) (old new : KeyLines) (lines more : List Observation) (is : Bool)
    → is ≡ is_about key w o → more ≡ (if is then lines ++ o ∷ [] else lines) → HasAbout key w old lines
    → Tracks key (o ∷ w) new → HasAbout key (o ∷ w) new more
about_more key w o old new lines more is says grown h tracks =
    record { tracks = tracks; are = ap reverse grown ∙ about_next key w o lines is says h.are }

-- ---- answers that fit

pub fit_more : (w : Log) (id : CommandId) (answer : Answer) (old new : List Answer) (fits : Bool)
    → (IsTrue fits → IsLinearizable (Reply id answer ∷ w)) → new ≡ (if fits then old ++ answer ∷ [] else old)
    → AllFit w id old → AllFit w id new
fit_more w id answer old new true has grown all =
    subst (λ (as' : List Answer). AllFit w id as') (sym grown)
    (All-push (λ (a : Answer). IsLinearizable (Reply id a ∷ w)) old answer all (has refl))
fit_more w id answer old new false has grown all = subst (λ (as' : List Answer). AllFit w id as') (sym grown) all

pub fit_at : (key : List ℕ) (log : List Observation) (line : ℕ) (id : CommandId) (found : Answer) (w : Log)
    → slice_get log line ≡ Some (Reply id found) → w ≡ about_key key (reverse (take line log)) → (answers : List Answer)
    → AllFit w id answers → (o : Observation) → slice_get log line ≡ Some o
    → All (Fits (about_key key (reverse (take line log))) o) answers
fit_at key log line id found w at same answers all o here =
    All-weaker (λ (a : Answer). IsLinearizable (Reply id a ∷ w)) (Fits (about_key key (reverse (take line log))) o)
    (λ a has. record {
      id = id;
      found = found;
      is = cc (at, here);
      has = subst (λ (v : Log). IsLinearizable (Reply id a ∷ v)) same has;
    })
    answers all
