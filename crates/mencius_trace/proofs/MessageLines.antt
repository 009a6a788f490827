-- A loop over message numbers adds the facts about the messages from a number on.
use Rattle.std.proofs.Common.{◌≡◌, ℕ, suc, ◌+◌, ◌-◌, ◌<◌, ◌≤◌, inl, inr, List, [], ◌∷◌, ◌++◌, Some, length, refl, sym, ap, subst, ◌∙◌, append-nil, append_assoc, arith, length-append}
use Rattle.std.specs.Prelude.{slice_get}
use Rattle.std.specs.List.{enumerate_from, flat_map, range_with_len}
use Rattle.std.proofs.lemmas.Bool.{cases_lt}
use Rattle.std.proofs.lemmas.Grind.{flat_map-append}
use Rattle.mencius_base.specs.declared.message.Message.{Message}
use Rattle.mencius_model.specs.Trace.{Trace, sent_messages}
use Rattle.mencius_trace.specs.declared.fact.Fact.{Fact}
use Rattle.mencius_trace.specs.After.{messages_from, of_message, of_messages}
use Rattle.mencius_trace.specs.Effects.{sent_fact}
use Rattle.mencius_trace.proofs.TextLoops.{range_last}

-- `now` is `before` and the facts about the messages from number `first` up to, but not including, n
pub record IsSentTo (v : Trace) (first end n : ℕ) (before now : List Fact) : Type 0 where
  pub still : end < first → n ≡ first
  pub text : now ≡ before ++ messages_from v first (n - first)

pub messages_start : (v : Trace) (first end : ℕ) (before : List Fact) → IsSentTo v first end first before before
messages_start v first end before =
    let none : first - first ≡ 0 = omega arith in
    record {
      still = λ h. refl;
      text = sym (ap (λ n. before ++ messages_from v first n) none ∙ append-nil before);
    }

-- adding the fact about message n takes the list one message further
pub messages_further : (v : Trace) (first end n : ℕ) (before old new : List Fact) → first ≤ n → n < end
    → IsSentTo v first end n before old → new ≡ old ++ of_message sent_fact n (slice_get (sent_messages v) n)
    → IsSentTo v first end (n + 1) before new
messages_further v first end n before old new low high had got =
    let on : n + 1 - first ≡ suc (n - first) = omega (arith, low) in
    let line = λ (k : ℕ). of_message sent_fact k (slice_get (sent_messages v) k) in
    let range = range_last first (n - first) n (omega (arith, low)) in
    record {
      still = λ h. omega (arith, h, low, high);
      text = got ∙ ap (λ text. text ++ line n) had.text
          ∙ append_assoc before (messages_from v first (n - first)) (line n)
          ∙ ap (λ text. before ++ text)
          (sym (ap (messages_from v first) on ∙ ap (flat_map line) range
          ∙ flat_map-append line (range_with_len first (n - first)) (n ∷ [])
          ∙ ap (λ text. messages_from v first (n - first) ++ text) (append-nil (line n))));
    }

get_here : (xs ys : List Message) (x : Message) → slice_get (xs ++ x ∷ ys) (length xs) ≡ Some x
get_here [] ys x = refl
get_here (y ∷ xs) ys x = get_here xs ys x

-- the lists of the messages from a place on are the lists of the rest of the messages
pub of_messages_are : {A : Type 0} (f : ℕ × Message → List A) (xs before ms : List Message) → xs ≡ before ++ ms
    → of_messages f xs (length before) (length ms) ≡ flat_map f (enumerate_from (length before) ms)
of_messages_are f xs before [] e = refl
of_messages_are f xs before (x ∷ ms) e =
    let here : slice_get xs (length before) ≡ Some x =
    ap (λ ys. slice_get ys (length before)) e ∙ get_here before ms x in
    let next : length (before ++ x ∷ []) ≡ length before + 1 = length-append before (x ∷ []) in
    let rest = of_messages_are f xs (before ++ x ∷ []) ms (e ∙ sym (append_assoc before (x ∷ []) ms)) in
    ap (λ o. of_message f (length before) o ++ of_messages f xs (length before + 1) (length ms)) here
    ∙ ap (λ text. f (length before, x) ++ text)
    (subst (λ k. of_messages f xs k (length ms) ≡ flat_map f (enumerate_from k ms)) next rest)

-- at the end of the loop, the list has the facts about all messages from number `first` on
pub messages_whole : (v : Trace) (first end n : ℕ) (before now : List Fact) → first ≤ n
    → (first ≤ end → n ≤ end) → end ≤ n → end ≡ length (sent_messages v) → IsSentTo v first end n before now
    → now ≡ before ++ messages_from v first (length (sent_messages v) - first)
messages_whole v first end n before now low high past is had =
    had.text ∙ ap (λ count. before ++ messages_from v first count) (elim (cases_lt end first) [
      | inl none ↦ let at = had.still none in omega (arith, none, at, is)
      | inr some ↦ let at = high some in omega (arith, at, past, is)
    ])
