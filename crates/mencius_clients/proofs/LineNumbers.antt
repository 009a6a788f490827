-- The line of the bytes at a place of a log.
use Rattle.std.proofs.Common.{◌≡◌, ℕ, zero, suc, ◌+◌, List, [], ◌∷◌, ◌++◌, Option, Some, None, Result, Ok, Err, length, slice_get, take, reverse, arith, refl, sym, subst, ap, ◌∙◌, append_assoc, append-nil}
use Rattle.std.proofs.lemmas.List.{length-append, length-reverse, reverse-append}
use Rattle.mencius_io.specs.declared.fault.IoFault.{IoFault}
use Rattle.mencius_log.specs.declared.observation.Observation.{Observation}
use Rattle.mencius_judge.specs.declared.quote.Quote.{Quote}
use Rattle.mencius_log.specs.Lines.{IsInLine, line_said}
use Rattle.mencius_judge.specs.Log.{Log}
use Rattle.mencius_judge.specs.LogReader.{AddsLine, Say, bytes_of}
use Rattle.mencius_judge.specs.Quotes.{NumberedLog, log_of}
use Rattle.mencius_judge.proofs.lines.QuotedLines.{bytes_from}
use Rattle.mencius_clients.specs.declared.client_log.ClientLog.{ClientLog}
use Rattle.mencius_clients.specs.ClientVerdicts.{IsLineAt}
use Rattle.mencius_clients.specs.ReadLogs.{IsLogOf, IsNumbered, numbers_of}
use Rattle.mencius_clients.proofs.Explaining.{split_log}

-- ---- a numbered log splits at a line

record IsNumberedAt (numbered : NumberedLog) (o : Observation) (n : ℕ) (w : Log) (ns : List ℕ) : Type 0 where
  later : NumberedLog
  own : Quote
  earlier : NumberedLog
  are : numbered ≡ later ++ own ∷ earlier
  number : own.number ≡ n
  says : own.observation ≡ o
  rest : log_of earlier ≡ w
  numbers : numbers_of earlier ≡ ns

nothing : {A : Type 0} (xs : List A) (x : A) (ys : List A) → [] ≡ xs ++ x ∷ ys → ⊥
nothing [] x ys e = cc
nothing (y ∷ xs) x ys e = cc

one_later : (q : Quote) (numbered : NumberedLog) (o : Observation) (n : ℕ) (w : Log) (ns : List ℕ)
    → IsNumberedAt numbered o n w ns → IsNumberedAt (q ∷ numbered) o n w ns
one_later q numbered o n w ns h = record {
  later = q ∷ h.later;
  own = h.own;
  earlier = h.earlier;
  are = ap (λ qs. q ∷ qs) h.are;
  number = h.number;
  says = h.says;
  rest = h.rest;
  numbers = h.numbers;
}

numbered_at : (numbered : NumberedLog) (later : Log) (o : Observation) (w : Log) (laters : List ℕ) (n : ℕ) (ns : List ℕ)
    → log_of numbered ≡ later ++ o ∷ w → numbers_of numbered ≡ laters ++ n ∷ ns → length later ≡ length laters
    → IsNumberedAt numbered o n w ns
numbered_at [] later o w laters n ns e f same = absurd (nothing later o w e)
numbered_at (q ∷ qs) [] o w [] n ns e f same =
    record { later = []; own = q; earlier = qs; are = refl; number = cc (f); says = cc (e); rest = cc (e); numbers = cc (f) }
numbered_at (q ∷ qs) [] o w (m ∷ laters) n ns e f same = absurd (omega (arith, same))
numbered_at (q ∷ qs) (x ∷ later) o w [] n ns e f same = absurd (omega (arith, same))
numbered_at (q ∷ qs) (x ∷ later) o w (m ∷ laters) n ns e f same =
    one_later q qs o n w ns (numbered_at qs later o w laters n ns (cc (e)) (cc (f)) (omega (arith, same)))

-- ---- the lines split too

record IsSaidAt (lines : List (List ℕ)) (own : Quote) (log : NumberedLog) : Type 0 where
  later : List (List ℕ)
  line : List ℕ
  earlier : List (List ℕ)
  are : lines ≡ later ++ line ∷ earlier
  in_line : IsInLine line
  say : Say earlier log
  place : own.number ≡ length earlier + 1
  said : line_said line ≡ Ok (Some own.observation)

said_later : (line : List ℕ) (lines : List (List ℕ)) (own : Quote) (log : NumberedLog) → IsSaidAt lines own log
    → IsSaidAt (line ∷ lines) own log
said_later line lines own log h = record {
  later = line ∷ h.later;
  line = h.line;
  earlier = h.earlier;
  are = ap (λ xs. line ∷ xs) h.are;
  in_line = h.in_line;
  say = h.say;
  place = h.place;
  said = h.said;
}

said_at : (lines : List (List ℕ)) (numbered : NumberedLog) → Say lines numbered → (later : NumberedLog) (own : Quote)
    (log : NumberedLog) → numbered ≡ later ++ own ∷ log → IsSaidAt lines own log
said_at [] numbered say later own log e = absurd (nothing later own log (sym say ∙ e))
said_at (line ∷ lines) numbered say later own log e =
    by_said (line_said line) refl say.3
    (λ before f. said_later line lines own log (said_at lines say.1 say.2 before own log f))
  where
    by_later : (o : Observation) → line_said line ≡ Ok (Some o) → (before : NumberedLog)
        → record { number = length lines + 1; observation = o } ∷ say.1 ≡ before ++ own ∷ log
        → ((front : NumberedLog) → say.1 ≡ front ++ own ∷ log → IsSaidAt (line ∷ lines) own log)
        → IsSaidAt (line ∷ lines) own log
    by_later o is [] f further =
        let mine : Quote = record { number = length lines + 1; observation = o } in
        let head : mine ≡ own = cc (f) in
        let tail : say.1 ≡ log = cc (f) in
        record {
          later = [];
          line = line;
          earlier = lines;
          are = refl;
          in_line = say.0;
          say = subst (Say lines) tail say.2;
          place = ap (λ (q : Quote). q.number) (sym head);
          said = is ∙ ap (λ (q : Quote). Ok (Some q.observation)) head;
        }
    by_later o is (x ∷ before) f further = further before (cc (f))

    by_said : (r : Result (Option Observation) IoFault) → line_said line ≡ r
        → AddsLine r (length lines + 1) say.1 numbered
        → ((front : NumberedLog) → say.1 ≡ front ++ own ∷ log → IsSaidAt (line ∷ lines) own log)
        → IsSaidAt (line ∷ lines) own log
    by_said (Err fault) is adds further = absurd adds
    by_said (Ok None) is adds further = further later (sym adds ∙ e)
    by_said (Ok (Some o)) is adds further = by_later o is later (sym adds ∙ e) further

-- ---- places from the end

taken_length : {A : Type 0} (xs : List A) (n : ℕ) (x : A) → slice_get xs n ≡ Some x → length (take n xs) ≡ n
taken_length [] n x e = absurd (cc)
taken_length (y ∷ xs) zero x e = refl
taken_length (y ∷ xs) (suc n) x e = ap suc (taken_length xs n x e)

pub reversed_at : {A : Type 0} (xs : List A) (n : ℕ) (x : A) → slice_get xs n ≡ Some x
    → (later : List A) × (reverse xs ≡ later ++ x ∷ reverse (take n xs)) × (length later + (n + 1) ≡ length xs)
reversed_at xs n x e =
    let r = split_log xs n x e in
    let size = ap length r.1 ∙ length-append (take n xs) (x ∷ r.0) in
    let taken = taken_length xs n x e in
    let turned = length-reverse r.0 in (
      reverse r.0,
      ap reverse r.1 ∙ reverse-append (take n xs) (x ∷ r.0)
          ∙ ap (λ ys. ys ++ reverse (take n xs)) (reverse-append (x ∷ []) r.0)
          ∙ append_assoc (reverse r.0) (x ∷ []) (reverse (take n xs)),
      omega (arith, size, taken, turned),
    )

-- the line of the bytes at a place of the log
pub line_at : (bytes : List ℕ) (log : ClientLog) → IsLogOf bytes log → IsNumbered log → (line : ℕ) (o : Observation)
    (number : ℕ) → slice_get log.observations.items line ≡ Some o → slice_get log.numbers.items line ≡ Some number
    → (earlier : NumberedLog) × IsLineAt bytes number o earlier
    × (log_of earlier ≡ reverse (take line log.observations.items))
    × (numbers_of earlier ≡ reverse (take line log.numbers.items))
line_at bytes log h same line o number at here =
    let a = reversed_at log.observations.items line o at in
    let b = reversed_at log.numbers.items line number here in
    let e : log_of h.numbered ≡ a.0 ++ o ∷ reverse (take line log.observations.items) = sym h.observations ∙ a.1 in
    let f : numbers_of h.numbered ≡ b.0 ++ number ∷ reverse (take line log.numbers.items) = sym h.numbers ∙ b.1 in
    let sizes : length a.0 ≡ length b.0 = omega (arith, a.2, b.2, same) in
    let q = numbered_at h.numbered a.0 o _ b.0 number _ e f sizes in
    let s = said_at h.lines h.numbered h.say q.later q.own q.earlier q.are in
    let r = bytes_from s.later s.line s.earlier [] in (
      q.earlier,
      record {
        lines = s.earlier;
        line = s.line;
        rest = r.0;
        are = h.are ∙ sym (append-nil (bytes_of h.lines)) ∙ ap (λ ls. bytes_of ls ++ []) s.are ∙ r.1;
        say = s.say;
        in_line = s.in_line;
        said = s.said ∙ ap (λ x. Ok (Some x)) q.says;
        place = sym q.number ∙ s.place;
      },
      q.rest,
      q.numbers,
    )
