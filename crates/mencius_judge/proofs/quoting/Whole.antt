-- The violating line and then its reasons are the quotes of a violation.
use Rattle.std.proofs.Common.{◌≡◌, inl, inr, List, [], ◌∷◌, refl, ⊎_elim}
use Rattle.std.specs.List.{Contains}
use Rattle.mencius_judge.specs.declared.quote.Quote.{Quote}
use Rattle.mencius_judge.specs.declared.violation.Violation.{Violation}
use Rattle.mencius_judge.specs.Added.{Adds, AreInOrder, HaveAlso, Inserts}
use Rattle.mencius_judge.specs.Quotes.{AreNumbered, AreQuotes, IsReason, NumberedLog}
use Rattle.mencius_judge.proofs.promises.Logs.{contains_here, contains_none}
use Rattle.mencius_judge.proofs.sources.Places.{none_some}

no_quotes : (lines : NumberedLog) → AreInOrder lines []
no_quotes lines = record {
  within = λ quote found. absurd (contains_none quote found);
  rising = λ n m a b less e f. absurd (none_some e);
}

module _ (line : Quote) (n : NumberedLog) (x : Violation) (own : List Quote) (inserts : Inserts line [] own)
    (numbered : AreNumbered (line ∷ n)) where
  first : AreInOrder (line ∷ n) own × HaveAlso (λ (other : Quote). other ≡ line) [] own
  first = inserts (line ∷ n) (contains_here line n line refl) numbered (no_quotes (line ∷ n))

  -- the first step quotes the violating line, and no other
  pub own_there : Contains own line
  own_there = first.1.added line refl

  pub are_quotes : (quotes : List Quote) → Adds (line ∷ n) (IsReason (line ∷ n) x) own quotes
      → AreQuotes line n x quotes
  are_quotes quotes adds =
      let r = adds numbered first.0 in
      record {
        sound = λ quote found. ⊎_elim
            (λ (was : Contains own quote). inl (only_own quote was))
            (λ (reason : IsReason (line ∷ n) x quote). inr reason)
            (r.1.sound quote found);
        own = r.1.kept line own_there;
        complete = r.1.added;
        rising = r.0.rising;
      }
    where
      only_own : (quote : Quote) → Contains own quote → quote ≡ line
      only_own quote found = ⊎_elim (λ (was : Contains [] quote). absurd (contains_none quote was))
          (λ (is : quote ≡ line). is) (first.1.sound quote found)
