-- A verdict by places in a log is right for the bytes of the log.
use Rattle.std.proofs.Common.{◌≡◌, ◌<◌, ◌+◌, ℕ, List, ◌∷◌, Some, length, slice_get, take, reverse, refl, sym, subst, ap, ◌∙◌}
use Rattle.std.specs.List.{All}
use Rattle.std.proofs.lemmas.Option.{slice_get_within}
use Rattle.mencius_base.specs.declared.command.CommandId.{CommandId}
use Rattle.mencius_log.specs.declared.observation.Answer.{Answer}
use Rattle.mencius_log.specs.declared.observation.Observation.{Observation}
use Rattle.mencius_judge.specs.declared.violation.Violation.{Violation}
use Rattle.mencius_judge.specs.Judged.{Breaks}
use Rattle.mencius_judge.specs.Linearization.{IsLinearization}
use Rattle.mencius_judge.specs.Log.{Log}
use Rattle.mencius_judge.specs.declared.quote.Quote.{Quote}
use Rattle.mencius_judge.specs.Quotes.{NumberedLog, log_of}
use Rattle.mencius_clients.specs.declared.client_counts.ClientCounts.{ClientCounts}
use Rattle.mencius_clients.specs.declared.client_log.ClientLog.{ClientLog}
use Rattle.mencius_clients.specs.declared.client_verdict.GiveUp.{GiveUp}
use Rattle.mencius_clients.specs.declared.client_verdict.GiveUp.TheVariants.{Waiting, Configurations}
use Rattle.mencius_clients.specs.ClientCounts.{AreClientCounts}
use Rattle.mencius_clients.specs.ClientVerdicts.{HasCommandAt, IsBrokenAt, IsFirstWithout, IsGivenUp, IsKeyAt, IsLinearizedBy, IsOfKey, IsUndecidedAt, IsUnjudged}
use Rattle.mencius_clients.specs.Explained.{AreManyWaiting, IsBroken, IsLinearizable, ComesAfterManyAt, IsManyAt, heard, most_waiting}
use Rattle.mencius_clients.specs.FirstLines.{IsFoundLine}
use Rattle.mencius_clients.specs.FittingAnswers.{Fits, about_key}
use Rattle.mencius_clients.specs.KeyLines.{lines_about}
use Rattle.mencius_clients.specs.ManyStates.{ComesAfterMany}
use Rattle.mencius_clients.specs.ReadLogs.{IsLogOf, IsNumbered, numbers_of}
use Rattle.mencius_clients.proofs.Explaining.{part_more}
use Rattle.mencius_clients.proofs.LineCommands.{found_reply, some_at}
use Rattle.mencius_clients.proofs.LineNumbers.{line_at}

-- ---- places within the log

pub broken_within : (log : List Observation) (line : ℕ) (v : Violation) → IsBroken log line v → line < length log
broken_within log line v h = slice_get_within log line h.o h.splits.there

pub command_within : (log : List Observation) (line : ℕ) → HasCommandAt log line → line < length log
command_within log line h = slice_get_within log line h.0 h.1

-- ---- verdicts on the whole log

pub counted : (log : ClientLog) (counts : ClientCounts) → AreClientCounts (reverse log.observations.items) counts
    → (bytes : List ℕ) → (h : IsLogOf bytes log) → AreClientCounts (log_of h.numbered) counts
counted log counts are bytes h = subst (λ w. AreClientCounts w counts) h.observations are

pub unjudged_right : (log : ClientLog) (counts : ClientCounts) → AreClientCounts (reverse log.observations.items) counts
    → counts.replies ≡ 0 → (bytes : List ℕ) → IsLogOf bytes log → IsUnjudged bytes counts
unjudged_right log counts are none bytes h = record {
  log = h.numbered;
  read = (h.lines, h.are, h.say);
  counted = counted log counts are bytes h;
  unreplied = none;
}

pub linearized_right : (log : ClientLog) (counts : ClientCounts) (order : List CommandId)
    → AreClientCounts (reverse log.observations.items) counts → 0 < counts.replies
    → IsLinearization (reverse log.observations.items) order → (bytes : List ℕ) → IsLogOf bytes log
    → IsLinearizedBy bytes counts order
linearized_right log counts order are some linearizes bytes h = record {
  log = h.numbered;
  read = (h.lines, h.are, h.say);
  counted = counted log counts are bytes h;
  replied = some;
  linearizes = subst (λ w. IsLinearization w order) h.observations linearizes;
}

-- ---- verdicts at a line

pub broken_right : (log : ClientLog) (line : ℕ) (v : Violation) (number : ℕ) → IsNumbered log
    → IsBroken log.observations.items line v → slice_get log.numbers.items line ≡ Some number
    → (bytes : List ℕ) → IsLogOf bytes log → IsBrokenAt bytes number v
broken_right log line v number same h here bytes is =
    let at = line_at bytes log is same line h.o number h.splits.there here in
    record {
      o = h.o;
      earlier = at.0;
      at = at.1;
      breaks = subst (λ (w : Log). Breaks (heard w) h.o v) (h.splits.first ∙ sym at.2) h.breaks;
    }

pub first_right : (log : ClientLog) (line : ℕ) (number : ℕ) (key : List ℕ) → IsNumbered log
    → IsFoundLine log.observations.items line → IsKeyAt log.observations.items line key
    → slice_get log.numbers.items line ≡ Some number → (quotes : List Quote)
    → ((n : NumberedLog) → log_of n ≡ reverse (take (line + 1) log.observations.items)
    → numbers_of n ≡ reverse (take (line + 1) log.numbers.items) → quotes ≡ reverse (lines_about key n))
    → (fitting : List Answer) → ((o : Observation) → slice_get log.observations.items line ≡ Some o
    → All (Fits (about_key key (reverse (take line log.observations.items))) o) fitting)
    → (bytes : List ℕ) → IsLogOf bytes log → IsFirstWithout bytes number key quotes fitting
first_right log line number key same h of_key here quotes are fitting fit bytes is =
    let lines = log.observations.items in
    let x = some_at lines line h.0 in
    let at = line_at bytes log is same line x.0 number x.1 here in
    record {
      o = x.0;
      earlier = at.0;
      at = at.1;
      reply = found_reply lines line h x.0 x.1;
      of_key = subst (λ (w : Log). IsOfKey w x.0 key) (sym at.2) (of_key x.0 x.1);
      has = subst IsLinearizable (sym at.2) h.1;
      lacks = λ lin. h.2 (subst IsLinearizable (ap (λ w. x.0 ∷ w) at.2 ∙ sym (part_more lines line x.0 x.1)) lin);
      quotes_are = are (record { number = number; observation = x.0 } ∷ at.0)
          (ap (λ w. x.0 ∷ w) at.2 ∙ sym (part_more lines line x.0 x.1))
          (ap (λ ns. number ∷ ns) at.3 ∙ sym (part_more log.numbers.items line number here));
      fit = subst (λ (w : Log). All (Fits (about_key key w) x.0) fitting) (sym at.2) (fit x.0 x.1);
    }

pub undecided_right : (log : ClientLog) (line number : ℕ) (key : List ℕ) (cause : GiveUp) → IsNumbered log
    → HasCommandAt log.observations.items line → IsKeyAt log.observations.items line key
    → slice_get log.numbers.items line ≡ Some number → (bytes : List ℕ) (most : ℕ) → IsLogOf bytes log
    → ((o : Observation) → slice_get log.observations.items line ≡ Some o
    → IsGivenUp (reverse (take line log.observations.items)) o most cause)
    → IsUndecidedAt bytes most number key cause
undecided_right log line number key cause same there of_key here bytes most is given_up =
    let at = line_at bytes log is same line there.0 number there.1 here in
    record {
      o = there.0;
      earlier = at.0;
      at = at.1;
      of_key = subst (λ (w : Log). IsOfKey w there.0 key) (sym at.2) (of_key there.0 there.1);
      given_up = subst (λ (w : Log). IsGivenUp w there.0 most cause) (sym at.2) (given_up there.0 there.1);
    }

-- ---- the reasons why a search was given up

pub many_given_up : (log : List Observation) (line : ℕ) → IsManyAt log line → (most : ℕ) (o : Observation)
    → slice_get log line ≡ Some o → IsGivenUp (reverse (take line log)) o most (Waiting (most_waiting + 1))
many_given_up log line h most o at =
    let same : h.o ≡ o = cc (at, h.splits.there) in
    let lines : h.o ∷ h.earlier ≡ o ∷ reverse (take line log) =
    ap (λ x. x ∷ h.earlier) same ∙ ap (λ w. o ∷ w) h.splits.first in
    (refl, subst AreManyWaiting lines h.many)

pub states_given_up : (log : List Observation) (line most : ℕ) → ComesAfterManyAt log line most → (o : Observation)
    → slice_get log line ≡ Some o → IsGivenUp (reverse (take line log)) o most (Configurations most)
states_given_up log line most h o at =
    let same : h.0 ≡ o = cc (at, h.1) in
    (refl, subst (λ (x : Observation). ComesAfterMany (reverse (take line log)) x most) same h.2)
