-- The effect of another line on the facts that a trace gives.
use Rattle.std.proofs.Common.{◌≡◌, ℕ, ◌<◌, ◌≤◌, Bool, true, false, [], ◌∷◌, Option, Some, None, max, refl, ap, arith, cond, ltb, eqb, ◌&&◌, ⊎_elim}
use Rattle.std.specs.Option.{option_map, option_or}
use Rattle.std.proofs.lemmas.Bool.{cases_lt, lt-ltb, le-ltb}
use Rattle.mencius_base.specs.declared.message.Message.TheVariants.{Suggest, Skip, Accepted, Prepare, Promise, Propose, Learn}
use Rattle.mencius_model.specs.Trace.{Line, Submitted, Heard, Lost, Suspected, Retried, Executed, Sent, Learned, Trace, greatest_by, oldest_by}
use Rattle.mencius_model.specs.Instance.{promised_by, promised_ballot, proposal, accepted_by, accepted_ballot, greater_ballot, vote}
use Rattle.mencius_model.proofs.trace.Parts.{vote_of}

pub max-zero : (n : ℕ) → max n 0 ≡ n
max-zero n = omega arith

pub option_or-none : {A : Type 0} (x : Option A) → option_or x None ≡ x
option_or-none None = refl
option_or-none (Some x) = refl

pub greater_ballot-none : (x : Option ℕ) → greater_ballot x None ≡ x
greater_ballot-none None = refl
greater_ballot-none (Some x) = refl

-- A line does not change the result if the function gives 0 or `None` for it.
pub greatest_quiet : (f : Line → ℕ) (l : Line) (w : Trace) → f l ≡ 0 → greatest_by f (l ∷ w) ≡ greatest_by f w
greatest_quiet f l w e = rw e (max-zero (greatest_by f w))

pub oldest_quiet : {A : Type 0} (f : Line → Option A) (l : Line) (w : Trace) → f l ≡ None
    → oldest_by f (l ∷ w) ≡ oldest_by f w
oldest_quiet f l w e = rw e (option_or-none (oldest_by f w))

-- The first value that was given stays.
pub oldest_stays : {A : Type 0} (f : Line → Option A) (l : Line) (w : Trace) (x : A) → oldest_by f w ≡ Some x
    → oldest_by f (l ∷ w) ≡ Some x
oldest_stays f l w x e = rw e

pub vote_of_same : (v w : Trace) (i : ℕ) (o : Option ℕ) → ((b : ℕ) → proposal v i b ≡ proposal w i b)
    → vote_of v i o ≡ vote_of w i o
vote_of_same v w i None e = refl
vote_of_same v w i (Some b) e = ap (option_map (λ x. record { ballot = b; value = x })) (e b)

-- The number is absent or at most n.
abbrev pub IsAtMost : Option ℕ → ℕ → Type 0
IsAtMost None n = Unit {0}
IsAtMost (Some b) n = b ≤ n

IsAtMost-cond : (a : Bool) (b : ℕ) → IsAtMost (cond a (Some b) None) (cond a b 0)
IsAtMost-cond true b = omega arith
IsAtMost-cond false b = tt

IsAtMost-greater : (x y : Option ℕ) (n m : ℕ) → IsAtMost x n → IsAtMost y m → IsAtMost (greater_ballot x y) (max n m)
IsAtMost-greater None None n m bounded also = tt
IsAtMost-greater None (Some b) n m bounded also = omega arith
IsAtMost-greater (Some a) None n m bounded also = omega arith
IsAtMost-greater (Some a) (Some b) n m bounded also = either (ltb a b) a b n m bounded also
  where
    either : (d : Bool) (a b n m : ℕ) → a ≤ n → b ≤ m → IsAtMost (cond d (Some b) (Some a)) (max n m)
    either true a b n m below within = omega arith
    either false a b n m below within = omega arith

accepted_by-small : (p i : ℕ) (l : Line) → IsAtMost (accepted_by p i l) (promised_by p i l)
accepted_by-small p i (Sent (Accepted from to inst ballot)) = IsAtMost-cond (eqb from p && eqb inst i) ballot
accepted_by-small p i (Sent (Suggest from inst ticket)) = tt
accepted_by-small p i (Sent (Skip from first stop)) = tt
accepted_by-small p i (Sent (Prepare from inst ballot)) = tt
accepted_by-small p i (Sent (Promise from to inst ballot vote)) = tt
accepted_by-small p i (Sent (Propose from inst ballot value)) = tt
accepted_by-small p i (Sent (Learn from inst value)) = tt
accepted_by-small p i (Submitted command server) = tt
accepted_by-small p i (Heard message server) = tt
accepted_by-small p i (Lost message server) = tt
accepted_by-small p i (Suspected server suspected) = tt
accepted_by-small p i (Retried server) = tt
accepted_by-small p i (Executed server) = tt
accepted_by-small p i (Learned server inst value) = tt

-- The greatest ballot that p accepted at i is at most the ballot that p promised there.
pub accepted_small : (w : Trace) (p i : ℕ) → IsAtMost (accepted_ballot w p i) (promised_ballot w p i)
accepted_small [] p i = tt
accepted_small (l ∷ w) p i = IsAtMost-greater _ _ _ _ (accepted_small w p i) (accepted_by-small p i l)

pub greater_above : (o : Option ℕ) (n b : ℕ) → IsAtMost o n → n ≤ b → greater_ballot o (Some b) ≡ Some b
greater_above None n b bounded below = refl
greater_above (Some a) n b bounded below =
    ⊎_elim
    (λ (e : a < b). rw (lt-ltb a b e))
    (λ (e : b ≤ a). let same : a ≡ b = omega arith in rw (le-ltb a b e, same))
    (cases_lt a b)
