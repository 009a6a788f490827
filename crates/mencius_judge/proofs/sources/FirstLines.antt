-- The first line with a property, in a log with a further line.
use Rattle.std.proofs.Common.{◌≡◌, ◌⊎◌, inl, inr, [], ◌∷◌, ◌++◌, refl, sym, subst, ap, ◌∙◌}
use Rattle.std.specs.List.{Contains}
use Rattle.mencius_log.specs.declared.observation.Observation.{Observation}
use Rattle.mencius_judge.specs.declared.quote.Quote.{Quote}
use Rattle.mencius_judge.specs.Quotes.{IsFirstLine, NumberedLog}
use Rattle.mencius_judge.proofs.sources.Places.{contains_middle, not_empty, same_head, same_tail}

-- no line of these passes the test
abbrev pub HasNoLine : (Observation → Type 0) → NumberedLog → Type 0
HasNoLine P lines = (other : Quote) → Contains lines other → P other.observation → ⊥

-- the line is this one, and no line of the others passes the test, or it is the first one of the others
abbrev pub IsLineOf : (Observation → Type 0) → Quote → NumberedLog → Quote → Type 0
IsLineOf P line lines q = ((q ≡ line) × HasNoLine P lines) ⊎ IsFirstLine P lines q

module _ (P : Observation → Type 0) (line : Quote) (lines : NumberedLog) where
  -- a first line stays the first one
  pub line_later : (q : Quote) → IsFirstLine P lines q → IsFirstLine P (line ∷ lines) q
  line_later q h = record {
    later = line ∷ h.later;
    earlier = h.earlier;
    are = ap (λ (xs : NumberedLog). line ∷ xs) h.are;
    passes = h.passes;
    first = h.first;
  }

  pub line_here : P line.observation → HasNoLine P lines → IsFirstLine P (line ∷ lines) line
  line_here passes none = record { later = []; earlier = lines; are = refl; passes = passes; first = none }

  pub line_split : (q : Quote) → IsFirstLine P (line ∷ lines) q
      → ((q ≡ line) × HasNoLine P lines) ⊎ IsFirstLine P lines q
  line_split q h = by_later h.later h.are
    where
      by_later : (later : NumberedLog) → line ∷ lines ≡ later ++ q ∷ h.earlier → IsLineOf P line lines q
      by_later [] e = inl (sym (same_head e), subst (HasNoLine P) (sym (same_tail e)) h.first)
      by_later (x ∷ later) e = inr (record {
        later = later;
        earlier = h.earlier;
        are = same_tail e;
        passes = h.passes;
        first = h.first;
      })

module _ (P : Observation → Type 0) where
  pub line_contained : (lines : NumberedLog) (q : Quote) → IsFirstLine P lines q → Contains lines q
  line_contained lines q h =
      subst (λ (xs : NumberedLog). Contains xs q) (sym h.are) (contains_middle h.later q h.earlier)

  -- there is at most one first line
  pub line_unique : (lines : NumberedLog) (a c : Quote) → IsFirstLine P lines a → IsFirstLine P lines c → a ≡ c
  line_unique [] a c h k = absurd (empty h.later h.are)
    where
      empty : (later : NumberedLog) → [] ≡ later ++ a ∷ h.earlier → ⊥
      empty [] e = not_empty e
      empty (x ∷ later) e = not_empty e
  line_unique (line ∷ lines) a c h k =
      by_cases (λ f g. line_unique lines a c f g) (line_split P line lines a h) (line_split P line lines c k)
    where
      by_cases : (IsFirstLine P lines a → IsFirstLine P lines c → a ≡ c) → IsLineOf P line lines a
          → IsLineOf P line lines c
          → a ≡ c
      by_cases before (inl f) (inl g) = f.0 ∙ sym g.0
      by_cases before (inl f) (inr g) = absurd (f.1 c (line_contained lines c g) g.passes)
      by_cases before (inr f) (inl g) = absurd (g.1 a (line_contained lines a f) f.passes)
      by_cases before (inr f) (inr g) = before f g
