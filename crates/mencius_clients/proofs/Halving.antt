-- The first line with which a log has no linearization is between two counts of lines.
use Rattle.std.proofs.Common.{Global, Vec, ◌≡◌, ◌<◌, ◌+◌, ℕ, zero, suc, List, [], ◌∷◌, ◌++◌, Some, slice_get, length, take, drop, reverse, arith, refl, sym, subst, ap, ◌∙◌, append_assoc}
use Rattle.std.proofs.lemmas.List.{reverse-append, take-append-drop, take_all}
use Rattle.std.specs.List.{Contains}
use Rattle.mencius_base.specs.declared.command.CommandId.{CommandId}
use Rattle.mencius_log.specs.declared.observation.Answer.{Answer}
use Rattle.mencius_log.specs.declared.observation.Observation.{Observation}
use Rattle.mencius_log.specs.declared.observation.Observation.TheVariants.{Reply}
use Rattle.mencius_judge.specs.Log.{Log}
use Rattle.mencius_judge.specs.Promises.{AreOneReply}
use Rattle.mencius_clients.specs.declared.explanation.Cause.{Cause}
use Rattle.mencius_clients.specs.declared.explanation.Cause.TheVariants.{Waiting, Configurations}
use Rattle.mencius_clients.specs.declared.explanation.Explanation.{Explanation}
use Rattle.mencius_clients.specs.declared.explanation.Explanation.TheVariants.{Explained, Unexplained, Undecided}
use Rattle.mencius_clients.specs.Explained.{IsBetween, IsCause, IsExplanation, IsLinearizable, IsLinearizableTo, IsSplitAt}
use Rattle.mencius_clients.specs.ManyStates.{ComesAfterMany}
use Rattle.mencius_clients.specs.FirstLines.{IsFoundLine}
use Rattle.mencius_clients.proofs.Later.{contains_end}

pub between_end : (log : List Observation) (line : ℕ) → line < length log → IsLinearizable (reverse (take line log))
    → (IsLinearizable (reverse log) → ⊥) → IsBetween log line (length log)
between_end log line less has none = record {
  rising = less;
  within = omega arith;
  has = has;
  lacks = λ h. none (subst (λ l. IsLinearizable (reverse l)) (take_all (length log) log (omega arith)) h);
}

pub low_raised : (log : List Observation) (low high count : ℕ) → IsBetween log low high → count < high
    → IsLinearizableTo log count → IsBetween log count high
low_raised log low high count h less has = record { rising = less; within = h.within; has = has; lacks = h.lacks }

pub high_lowered : (log : List Observation) (low high count : ℕ) → IsBetween log low high → low < count → count < high
    → (IsLinearizableTo log count → ⊥) → IsBetween log low count
high_lowered log low high count h more less lacks = record {
  rising = more;
  within = let most = h.within in omega (arith, less, most);
  has = h.has;
  lacks = lacks;
}

pub first_found : (log : List Observation) (low high : ℕ) → IsBetween log low high → high ≡ low + 1
    → IsFoundLine log low
first_found log low high h e = (
  let most = h.within in omega (arith, most, e),
  h.has,
  subst (λ n. IsLinearizableTo log n → ⊥) e h.lacks,
)

-- ---- what is true of the first lines of a log is true of the log

still_there : {A : Type 0} (xs : List A) (n k : ℕ) (x : A) → slice_get (take n xs) k ≡ Some x → slice_get xs k ≡ Some x
still_there [] zero k x e = absurd (cc)
still_there [] (suc n) k x e = absurd (cc)
still_there (y ∷ xs) zero k x e = absurd (cc)
still_there (y ∷ xs) (suc n) zero x e = e
still_there (y ∷ xs) (suc n) (suc k) x e = still_there xs n k x e

take_first : {A : Type 0} (xs : List A) (n k : ℕ) (x : A) → slice_get (take n xs) k ≡ Some x → take k (take n xs) ≡ take k xs
take_first [] zero k x e = absurd (cc)
take_first [] (suc n) k x e = absurd (cc)
take_first (y ∷ xs) zero k x e = absurd (cc)
take_first (y ∷ xs) (suc n) zero x e = refl
take_first (y ∷ xs) (suc n) (suc k) x e = ap (λ ys. y ∷ ys) (take_first xs n k x e)

splits_whole : (log : List Observation) (count line : ℕ) (later : Log) (o : Observation) (earlier : Log)
    → IsSplitAt (take count log) line later o earlier
    → IsSplitAt log line (reverse (drop count log) ++ later) o earlier
splits_whole log count line later o earlier h = record {
  whole = ap reverse (sym (take-append-drop count log)) ∙ reverse-append (take count log) (drop count log)
      ∙ ap (λ xs. reverse (drop count log) ++ xs) h.whole
      ∙ sym (append_assoc (reverse (drop count log)) later (o ∷ earlier));
  there = still_there log count line o h.there;
  first = h.first ∙ ap reverse (take_first log count line o h.there);
}

pub cause_whole : (log : List Observation) (count most : ℕ) (cause : Cause) → IsCause (take count log) most cause
    → IsCause log most cause
cause_whole log count most (Waiting line) h = record {
  later = reverse (drop count log) ++ h.later;
  o = h.o;
  earlier = h.earlier;
  splits = splits_whole log count line h.later h.o h.earlier h.splits;
  many = h.many;
}
cause_whole log count most (Configurations line) h = (
  h.0,
  still_there log count line h.0 h.1,
  subst (λ lines. ComesAfterMany (reverse lines) h.0 most) (take_first log count line h.0 h.1) h.2,
)

pub cause_of : (log : List Observation) (count most : ℕ) (e : Explanation) (cause : Cause) → e ≡ Undecided cause
    → IsExplanation (take count log) most e → IsCause log most cause
cause_of log count most e cause is h = cause_whole log count most cause (subst (IsExplanation (take count log) most) is h)

pub one_reply_first : (log : List Observation) (count : ℕ) → AreOneReply (reverse log) → AreOneReply (reverse (take count log))
one_reply_first log count one id x y a b = one id x y (still id x a) (still id y b)
  where
    still : (i : CommandId) (z : Answer) → Contains (reverse (take count log)) (Reply i z) → Contains (reverse log) (Reply i z)
    still i z h =
        subst (λ (l : Log). Contains l (Reply i z))
        (sym (ap reverse (sym (take-append-drop count log)) ∙ reverse-append (take count log) (drop count log)))
        (contains_end (reverse (drop count log)) (reverse (take count log)) (Reply i z) h)

-- ---- what an explanation says of the first lines

pub has_of : (log : List Observation) (count most : ℕ) (e : Explanation) (order : Vec CommandId Global) → e ≡ Explained order
    → IsExplanation (take count log) most e → IsLinearizableTo log count
has_of log count most e order is h = (order.items, subst (IsExplanation (take count log) most) is h)

pub lacks_of : (log : List Observation) (count most : ℕ) (e : Explanation) (line : ℕ) → e ≡ Unexplained line
    → IsExplanation (take count log) most e → IsLinearizableTo log count → ⊥
lacks_of log count most e line is h has =
    let between : IsBetween (take count log) line (length (take count log)) =
    subst (IsExplanation (take count log) most) is h in
    between.lacks (subst (λ l. IsLinearizable (reverse l))
    (sym (take_all (length (take count log)) (take count log) (omega arith))) has)
