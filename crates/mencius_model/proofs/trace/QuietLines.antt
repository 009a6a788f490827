-- Lines that contain nothing about a server's slot for an instance.
use Rattle.std.proofs.Common.{◌≡◌, ℕ, Bool, true, false, Option, None, refl, sym, eqb, ◌&&◌}
use Rattle.mencius_base.specs.Numbers.{ServerId, Inst, BallotNo}
use Rattle.mencius_base.specs.declared.message.Message.{Message}
use Rattle.mencius_base.specs.declared.message.Message.TheVariants.{Suggest, Skip, Accepted, Promise, Propose, Learn}
use Rattle.mencius_base.specs.declared.message.Value.{Value}
use Rattle.mencius_base.specs.declared.message.Vote.{Vote}
use Rattle.mencius_model.specs.Trace.{Line, Heard, Sent, Learned}
use Rattle.mencius_model.specs.Instance.{promised_by, proposal_by, accepted_by, learned_by, tried_by, is_promise, is_acceptance, vote_reported}
use Rattle.std.proofs.lemmas.Bool.{ne_eqb}

-- The line contains no promise, acceptance, Prepare or learning of p at i, and no proposal at i.
pub record IsQuiet (p : ServerId) (i : Inst) (l : Line) : Type 0 where
  pub promised : promised_by p i l ≡ 0
  pub proposed : (b : BallotNo) → proposal_by i b l ≡ None
  pub accepted : accepted_by p i l ≡ None
  pub learned : learned_by p i l ≡ None
  pub tried : tried_by p i l ≡ 0

pub quiet_heard : (k p i : ℕ) → IsQuiet p i (Heard k p)
quiet_heard k p i = record { promised = refl; proposed = λ b. refl; accepted = refl; learned = refl; tried = refl }

-- The message is not a promise or an acceptance of ballot b of i, and it reports no vote there.
pub record IsUncounted (i : Inst) (b : BallotNo) (x : Message) : Type 0 where
  pub promise : (q : ServerId) → is_promise i b q x ≡ false
  pub acceptance : (q : ServerId) → is_acceptance i b q x ≡ false
  pub report : vote_reported i b x ≡ None

-- A line of p about one instance is quiet for all other instances.
both-false : (a : Bool) → (a && false) ≡ false
both-false true = refl
both-false false = refl

pub quiet_accepted : (p q i b j : ℕ) → (j ≡ i → ⊥) → IsQuiet p j (Sent (Accepted p q i b))
quiet_accepted p q i b j ne =
    let other : (eqb p p && eqb i j) ≡ false = rw (ne_eqb i j (λ e. ne (sym e))) (both-false (eqb p p)) in
    record { promised = rw other; proposed = λ c. refl; accepted = rw other; learned = refl; tried = refl }

pub quiet_promise : (p q i b j : ℕ) (o : Option Vote) → (j ≡ i → ⊥) → IsQuiet p j (Sent (Promise p q i b o))
quiet_promise p q i b j o ne =
    let other : (eqb p p && eqb i j) ≡ false = rw (ne_eqb i j (λ e. ne (sym e))) (both-false (eqb p p)) in
    record { promised = rw other; proposed = λ c. refl; accepted = refl; learned = refl; tried = refl }

pub quiet_propose : (p i b j : ℕ) (z : Value) → (j ≡ i → ⊥) → IsQuiet p j (Sent (Propose p i b z))
quiet_propose p i b j z ne =
    let other : eqb i j ≡ false = ne_eqb i j (λ e. ne (sym e)) in
    record { promised = refl; proposed = λ c. rw other; accepted = refl; learned = refl; tried = refl }

pub quiet_suggest : (p i t j : ℕ) → (j ≡ i → ⊥) → IsQuiet p j (Sent (Suggest p i t))
quiet_suggest p i t j ne =
    let other : eqb i j ≡ false = ne_eqb i j (λ e. ne (sym e)) in
    record { promised = refl; proposed = λ c. rw other; accepted = refl; learned = refl; tried = refl }

pub quiet_learned : (p i j : ℕ) (z : Value) → (j ≡ i → ⊥) → IsQuiet p j (Learned p i z)
quiet_learned p i j z ne =
    let other : (eqb p p && eqb i j) ≡ false = rw (ne_eqb i j (λ e. ne (sym e))) (both-false (eqb p p)) in
    record { promised = refl; proposed = λ c. refl; accepted = refl; learned = rw other; tried = refl }

pub quiet_skip : (p q first stop i : ℕ) → IsQuiet p i (Sent (Skip q first stop))
quiet_skip p q first stop i =
    record { promised = refl; proposed = λ c. refl; accepted = refl; learned = refl; tried = refl }

pub quiet_learn : (p q i j : ℕ) (z : Value) → IsQuiet p j (Sent (Learn q i z))
quiet_learn p q i j z = record { promised = refl; proposed = λ c. refl; accepted = refl; learned = refl; tried = refl }
