-- The effect of another heard message on a set of servers and on the highest vote.
use Rattle.std.proofs.Common.{◌≡◌, ℕ, Bool, true, false, List, [], ◌∷◌, ◌++◌, Option, Some, None, map, set, refl, sym, ◌∙◌, ap, eqb, ◌||◌}
use Rattle.std.specs.Prelude.{slice_get}
use Rattle.std.specs.List.{list_any, fold}
use Rattle.std.proofs.lemmas.List.{map-append}
use Rattle.std.proofs.lemmas.List.Folds.{list_any-append}
use Rattle.std.proofs.lemmas.List.Sums.{fold-append}
use Rattle.std.proofs.lemmas.Bool.{eq-eqb, ne_eqb}
use Rattle.mencius_base.specs.declared.message.Message.{Message}
use Rattle.mencius_base.specs.declared.message.Vote.{Vote}
use Rattle.mencius_base.specs.Members.{numbers_below}
use Rattle.mencius_model.specs.Trace.{Heard, Trace, heard_messages, sent_messages}
use Rattle.mencius_model.specs.Instance.{higher_vote}
use Rattle.mencius_model.proofs.trace.NumberLists.{map-below_same, map-below_set}

pub heard_more : (w : Trace) (k p : ℕ) (x : Message) → slice_get (sent_messages w) k ≡ Some x
    → heard_messages (Heard k p ∷ w) p ≡ heard_messages w p ++ x ∷ []
heard_more w k p x e = rw (eq-eqb p p refl, e)

or-false : (a : Bool) → (a || false) ≡ a
or-false true = refl
or-false false = refl

pub or-true : (a : Bool) → (a || true) ≡ true
or-true true = refl
or-true false = refl

pub any_more : (test : Message → Bool) (hs : List Message) (x : Message)
    → list_any test (hs ++ x ∷ []) ≡ (list_any test hs || test x)
any_more test hs x = list_any-append test hs (x ∷ []) ∙ ap (λ (d : Bool). list_any test hs || d) (or-false (test x))

-- A message that counts for no server leaves the set as it is.
pub set_quiet : (test : ℕ → Message → Bool) (hs : List Message) (x : Message) (n : ℕ) → ((q : ℕ) → test q x ≡ false)
    → map (λ (q : ℕ). list_any (test q) (hs ++ x ∷ [])) (numbers_below n) ≡ map (λ (q : ℕ). list_any (test q) hs) (numbers_below n)
set_quiet test hs x n e =
    map-below_same _ _ n false
    (λ q h. any_more (test q) hs x ∙ ap (λ (d : Bool). list_any (test q) hs || d) (e q)
    ∙ or-false (list_any (test q) hs))

-- A message that counts for one server adds that server to the set.
pub set_more : (test : ℕ → Message → Bool) (hs : List Message) (x : Message) (n from : ℕ)
    → ((q : ℕ) → test q x ≡ eqb from q)
    → map (λ (q : ℕ). list_any (test q) (hs ++ x ∷ [])) (numbers_below n)
    ≡ set (map (λ (q : ℕ). list_any (test q) hs) (numbers_below n)) from true
set_more test hs x n from e =
    sym (map-below_set (λ (q : ℕ). list_any (test q) hs) (λ (q : ℕ). list_any (test q) (hs ++ x ∷ [])) n from true false
    (any_more (test from) hs x ∙ ap (λ (a : Bool). list_any (test from) hs || a) (e from ∙ eq-eqb from from refl)
    ∙ or-true (list_any (test from) hs))
    (λ other h ne. sym (any_more (test other) hs x
    ∙ ap (λ (a : Bool). list_any (test other) hs || a) (e other ∙ ne_eqb from other (λ same. ne (sym same)))
    ∙ or-false (list_any (test other) hs))))

higher_vote-none : (o : Option Vote) → higher_vote o None ≡ o
higher_vote-none None = refl
higher_vote-none (Some o) = refl

pub votes_more : (report : Message → Option Vote) (hs : List Message) (x : Message)
    → fold higher_vote None (map report (hs ++ x ∷ [])) ≡ higher_vote (fold higher_vote None (map report hs)) (report x)
votes_more report hs x =
    ap (fold higher_vote None) (map-append report hs (x ∷ [])) ∙ fold-append higher_vote None (map report hs) (report x ∷ [])

pub votes_quiet : (report : Message → Option Vote) (hs : List Message) (x : Message) → report x ≡ None
    → fold higher_vote None (map report (hs ++ x ∷ [])) ≡ fold higher_vote None (map report hs)
votes_quiet report hs x e =
    votes_more report hs x ∙ ap (higher_vote (fold higher_vote None (map report hs))) e
    ∙ higher_vote-none (fold higher_vote None (map report hs))
