-- A log line by line, and an order as the executions of a server.
use Rattle.std.proofs.Common.{◌≡◌, inl, inr, ℕ, zero, suc, ◌+◌, ◌<◌, cond, List, [], ◌∷◌, ◌++◌, Option, Some, None, length, slice_get, get_or, take, reverse, refl, sym, subst, ap, ◌∙◌, append_assoc}
use Rattle.std.specs.List.{Contains}
use Rattle.std.proofs.lemmas.List.{reverse-append}
use Rattle.std.proofs.lemmas.Option.{slice_get-get_or}
use Rattle.mencius_base.specs.Command.{is_same_id}
use Rattle.mencius_base.specs.declared.command.CommandId.{CommandId}
use Rattle.std.specs.Option.{option_or}
use Rattle.mencius_log.specs.declared.observation.Observation.{Observation}
use Rattle.mencius_log.specs.declared.observation.Observation.TheVariants.{Submit, Execute, Reply, Lookup, Tell, Settle, Restore}
use Rattle.mencius_judge.specs.declared.judge.Judge.{Judge}
use Rattle.mencius_log.specs.declared.observation.Answer.{Answer}
use Rattle.mencius_judge.specs.declared.violation.Violation.{Violation}
use Rattle.mencius_judge.specs.Judged.{Breaks, HasSeen, IsJudged}
use Rattle.mencius_judge.specs.Quotes.{NumberedLog}
use Rattle.std.specs.Prelude.{IfSome, MatchOption}
use Rattle.mencius_judge.specs.Log.{Log, command_of}
use Rattle.mencius_judge.proofs.promises.Logs.{contains_cons, contains_here, contains_later, contains_none}
use Rattle.mencius_judge.proofs.observations.HistorySteps.{more_taken}
use Rattle.mencius_clients.specs.declared.outcome.Outcome.{Outcome}
use Rattle.mencius_clients.specs.declared.outcome.Outcome.TheVariants.{Goes}
use Rattle.mencius_clients.specs.declared.outcome.Outcome.TheVariants as outcome
use Rattle.mencius_clients.specs.declared.explanation.Explanation.{Explanation}
use Rattle.mencius_clients.specs.declared.search.Search.{Search}
use Rattle.mencius_clients.specs.Explained.{HasHeard, IsBroken, IsEnd, IsExplanation, IsLinearizable, heard}
use Rattle.mencius_clients.specs.ManyStates.{ComesAfterMany}
use Rattle.mencius_clients.specs.Searched.{HasSearched, IsAfter}
use Rattle.mencius_clients.proofs.Halving.{between_end}

pub split_log : {A : Type 0} (xs : List A) (n : ℕ) (x : A) → slice_get xs n ≡ Some x → (back : List A) × (xs ≡ take n xs ++ x ∷ back)
split_log [] n x e = absurd (cc)
split_log (y ∷ xs) zero x e = let same : y ≡ x = cc in (xs, ap (λ z. z ∷ xs) same)
split_log (y ∷ xs) (suc n) x e = let r = split_log xs n x e in (r.0, ap (λ zs. y ∷ zs) r.1)

-- the log from its end, about a line
pub whole_at : (log : List Observation) (line : ℕ) (o : Observation) → slice_get log line ≡ Some o
    → (later : Log) × (reverse log ≡ later ++ o ∷ reverse (take line log))
whole_at log line o e =
    let r = split_log log line o e in (
      reverse r.0,
      ap reverse r.1 ∙ reverse-append (take line log) (o ∷ r.0)
          ∙ ap (λ xs. xs ++ reverse (take line log)) (reverse-append (o ∷ []) r.0)
          ∙ append_assoc (reverse r.0) (o ∷ []) (reverse (take line log)),
    )

pub part_more : {A : Type 0} (log : List A) (line : ℕ) (o : A) → slice_get log line ≡ Some o
    → reverse (take (line + 1) log) ≡ o ∷ reverse (take line log)
part_more log line o e = ap reverse (more_taken log line o e) ∙ reverse-append (take line log) (o ∷ [])

pub get_at : {A : Type 0} (xs : List A) (n : ℕ) (x : A) → n < length xs → x ≡ get_or xs n x → slice_get xs n ≡ Some x
get_at xs n x less is = slice_get-get_or xs n x less ∙ ap Some (sym is)

-- the verdict of a search that ends at this line is right
pub ended_right : (log : List Observation) (line : ℕ) (o : Observation) (u later : Log) (s : Search) (ended : Outcome)
    (found : Option Explanation) → slice_get log line ≡ Some o → reverse log ≡ later ++ o ∷ u
    → u ≡ reverse (take line log) → IsEnd ended line found
    → IsAfter (reverse log) (o ∷ u) log s ended → (most : ℕ) → line < length log → IsLinearizable (reverse (take line log))
    → (ended ≡ outcome.Configurations → ComesAfterMany u o most) → IfSome found (IsExplanation log most)
ended_right log line o u later s Goes found at whole first is h most less before many =
    subst (λ f. IfSome f (IsExplanation log most)) (sym is) tt
ended_right log line o u later s outcome.Unexplained found at whole first is h most less before many =
    subst (λ f. IfSome f (IsExplanation log most)) (sym is) (between_end log line less before h)
ended_right log line o u later s outcome.Waiting found at whole first is h most less before many =
    subst (λ f. IfSome f (IsExplanation log most)) (sym is)
    record { later = later; o = o; earlier = u; splits = record { whole = whole; there = at; first = first }; many = h }
ended_right log line o u later s outcome.Configurations found at whole first is h most less before many =
    subst (λ f. IfSome f (IsExplanation log most)) (sym is)
    (o, at, subst (λ (v : Log). ComesAfterMany v o most) first (many refl))

pub went_on : (w u : Log) (log : List Observation) (s : Search) (outcome : Outcome) (line : ℕ) (found : Option Explanation)
    → IsEnd outcome line found → found ≡ None → IsAfter w u log s outcome → HasSearched w u log s
went_on w u log s Goes line found is none h = h
went_on w u log s outcome.Unexplained line found is none h = absurd (cc (is, none))
went_on w u log s outcome.Waiting line found is none h = absurd (cc (is, none))
went_on w u log s outcome.Configurations line found is none h = absurd (cc (is, none))

-- ---- an order that a judge takes as the executions of a server

pub command_heard : (w : Log) (id : CommandId) → command_of (heard w) id ≡ command_of w id
command_heard [] id = refl
command_heard (Submit c ∷ w) id =
    ap (λ o. option_or o (cond (is_same_id c.id id) (Some c) None)) (command_heard w id)
command_heard (Execute p x ∷ w) id = command_heard w id
command_heard (Reply x text ∷ w) id = command_heard w id
command_heard (Lookup r key x ∷ w) id = command_heard w id
command_heard (Tell r p ∷ w) id = command_heard w id
command_heard (Settle p ∷ w) id = command_heard w id
command_heard (Restore p q n ∷ w) id = command_heard w id

pub reply_still : (w : Log) (id : CommandId) (x : Answer) → Contains w (Reply id x) → Contains (heard w) (Reply id x)
reply_still [] id x h = absurd (contains_none (Reply id x) h)
reply_still (Submit c ∷ w) id x h =
    elim (contains_cons (Submit c) w (Reply id x) h) [
      | inl e ↦ absurd (cc)
      | inr there ↦ contains_later (Submit c) (heard w) (Reply id x) (reply_still w id x there)
    ]
reply_still (Execute p y ∷ w) id x h =
    elim (contains_cons (Execute p y) w (Reply id x) h) [ inl e ↦ absurd (cc) | inr there ↦ reply_still w id x there ]
reply_still (Reply y z ∷ w) id x h =
    elim (contains_cons (Reply y z) w (Reply id x) h) [
      | inl e ↦ contains_here (Reply y z) (heard w) (Reply id x) e
      | inr there ↦ contains_later (Reply y z) (heard w) (Reply id x) (reply_still w id x there)
    ]
reply_still (Lookup r key y ∷ w) id x h =
    elim (contains_cons (Lookup r key y) w (Reply id x) h) [ inl e ↦ absurd (cc) | inr there ↦ reply_still w id x there ]
reply_still (Tell r p ∷ w) id x h =
    elim (contains_cons (Tell r p) w (Reply id x) h) [ inl e ↦ absurd (cc) | inr there ↦ reply_still w id x there ]
reply_still (Settle p ∷ w) id x h =
    elim (contains_cons (Settle p) w (Reply id x) h) [ inl e ↦ absurd (cc) | inr there ↦ reply_still w id x there ]
reply_still (Restore p q n ∷ w) id x h =
    elim (contains_cons (Restore p q n) w (Reply id x) h) [ inl e ↦ absurd (cc) | inr there ↦ reply_still w id x there ]

-- the judge takes one observation more, or the observation breaks a promise
pub heard_one : (j new : Judge) (w : Log) (o : Observation) (x : Option Violation) → HasHeard j w
    → ((n : NumberedLog) → HasSeen j n → IsJudged n (record { number = 0; observation = o }) x new)
    → MatchOption x (HasHeard new (o ∷ w)) (λ v. Breaks w o v)
heard_one j new w o None h judged =
    (record { number = 0; observation = o } ∷ h.0, judged h.0 h.1, ap (λ v. o ∷ v) h.2)
heard_one j new w o (Some v) h judged = subst (λ l. Breaks l o v) h.2 (judged h.0 h.1).0

pub none_found : (o : Option Violation) (P : Type 0) (Q : Violation → Type 0) → o ≡ None → MatchOption o P Q → P
none_found None P Q e h = h
none_found (Some v) P Q e h = absurd (cc)

pub some_found : (o : Option Violation) (v : Violation) (P : Type 0) (Q : Violation → Type 0) → o ≡ Some v
    → MatchOption o P Q → Q v
some_found o v P Q e h = subst (λ x. MatchOption x P Q) e h

-- a line that breaks a promise
pub broken_at : (log : List Observation) (line : ℕ) (o : Observation) (v : Violation) → slice_get log line ≡ Some o
    → Breaks (heard (reverse (take line log))) o v → IsBroken log line v
broken_at log line o v at breaks =
    let whole = whole_at log line o at in record {
      later = whole.0;
      o = o;
      earlier = reverse (take line log);
      splits = record { whole = whole.1; there = at; first = refl };
      breaks = breaks;
    }
