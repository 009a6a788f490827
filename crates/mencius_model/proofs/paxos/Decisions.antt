-- Decisions last, each learned value is decided, and two decided values of one instance are equal.
use Rattle.std.proofs.Common.{◌≡◌, ℕ, ◌<◌, ◌≤◌, true, ◌&&◌, List, [], ◌∷◌, ◌++◌, inl, inr, refl, sym, ◌∙◌, Some, eqb, leb, ltb, eqb-true, leb-true, ltb-true}
use Rattle.std.proofs.lemmas.Bool.{cases_order, and_parts}
use Rattle.mencius_base.specs.Numbers.{ServerId, Inst}
use Rattle.mencius_base.specs.declared.message.Message.{Message}
use Rattle.mencius_base.specs.declared.message.Message.TheVariants.{Skip, Learn}
use Rattle.mencius_base.specs.declared.message.Value.{Value}
use Rattle.mencius_base.specs.declared.message.Value.TheVariants.{Noop}
use Rattle.mencius_base.specs.Members.{Membership, owner}
use Rattle.mencius_model.specs.Trace.{Line, Sent, Learned, Trace, sent_messages}
use Rattle.mencius_model.specs.Instance.{proposal, learned_value, has_accepted}
use Rattle.mencius_model.specs.Decided.{IsSkipped, IsDecided}
use Rattle.mencius_model.specs.Rules.{is_skipped_by}
use Rattle.mencius_model.proofs.trace.Lists.{IsIn, any_in, in_any, majority_more}
use Rattle.mencius_model.proofs.rights.LineRights.{IsGrown, MayLearn}
use Rattle.mencius_model.proofs.trace.AnswersLast.{proposed_more, acceptance_more, sent_in, in_sent, start_in, learned_in}
use Rattle.mencius_model.proofs.paxos.Paxos.{chosen_above, origin}
use Rattle.mencius_model.proofs.reached.Suggesters.{skip_free}

-- The owner of i sent a Skip that covers i.
pub record SkipOf (m : Membership) (w : Trace) (i : Inst) : Type 0 where
  pub first : Inst
  pub stop : Inst
  pub skip : IsIn (Sent (Skip (owner m i) first stop)) w
  pub from : first ≤ i
  pub to : i < stop

-- Each message that gives i up is a Skip by the owner of i that covers i.
skip_message : (m : Membership) (w : Trace) (i : ℕ) (x : Message) → IsIn (Sent x) w → is_skipped_by m i x ≡ true
    → SkipOf m w i
skip_message m w i (Skip from first stop) h e =
    let r = and_parts (eqb from (owner m i) && leb first i) (ltb i stop) e in
    let s = and_parts (eqb from (owner m i)) (leb first i) r.0 in
    let same = eqb-true from (owner m i) s.0 in
    record { first = first; stop = stop; skip = rw same at h; from = leb-true first i s.1; to = ltb-true i stop r.1 }
skip_message m w i _ h e = absurd (cc)

-- If i is skipped, the owner of i sent a Skip that covers i.
skip_of : (m : Membership) (w : Trace) (i : ℕ) → IsSkipped m w i → SkipOf m w i
skip_of m w i h =
    let r = any_in (is_skipped_by m i) (sent_messages w) h in
    skip_message m w i r.0 (sent_in r.0 w r.1) r.2

-- A skipped instance stays skipped after another line.
skipped_more : (m : Membership) (l : Line) (w : Trace) (i : ℕ) → IsSkipped m w i → IsSkipped m (l ∷ w) i
skipped_more m l w i h =
    let r = any_in (is_skipped_by m i) (sent_messages w) h in
    in_any (is_skipped_by m i) r.0 (sent_messages (l ∷ w)) (in_sent r.0 (l ∷ w) (inr (sent_in r.0 w r.1))) r.2

-- A decided value stays decided after another line.
pub decided_more : (m : Membership) (l : Line) (w : Trace) (i : ℕ) (z : Value) → IsDecided m w i z
    → IsDecided m (l ∷ w) i z
decided_more m l w i z (inl left) =
    inl (
      left.0,
      proposed_more l w i left.0 z left.1,
      majority_more m (has_accepted w i left.0) (has_accepted (l ∷ w) i left.0) (acceptance_more l w i left.0) left.2,
    )
decided_more m l w i z (inr s) = inr (skipped_more m l w i s.0, s.1)

-- A decided value stays decided after any number of lines.
pub decided_past : (m : Membership) (ls : List Line) (w : Trace) (i : ℕ) (z : Value) → IsDecided m w i z
    → IsDecided m (ls ++ w) i z
decided_past m [] w i z h = h
decided_past m (l ∷ ls) w i z h = decided_more m l (ls ++ w) i z (decided_past m ls w i z h)

-- If i is skipped, every proposal at i is no-op.
pub skipped_noop : (m : Membership) (w : Trace) → 1 ≤ m.count → IsGrown m w → (i b : ℕ) (x : Value)
    → IsSkipped m w i → proposal w i b ≡ Some x → x ≡ Noop
skipped_noop m w few grown i b x h e =
    elim (origin m w grown i b x e) [
      | inl n ↦ n
      | inr s ↦
          let r = start_in w i x s in
          let so = skip_of m w i h in
          absurd (skip_free m w few grown (owner m i) so.first so.stop r.0 i r.1 refl so.from so.to so.skip r.2)
    ]

-- In one trace, two decided values of an instance are equal.
pub agreement : (m : Membership) (w : Trace) → 1 ≤ m.count → IsGrown m w → (i : ℕ) (z x : Value)
    → IsDecided m w i z → IsDecided m w i x → z ≡ x
agreement m w few grown i z x (inl left) (inl d) =
    elim (cases_order left.0 d.0) [
      | inl e ↦ let one = left.1 in let other = rw (← e) at d.1 in cc
      | inr o ↦ elim o [
        | inl lt ↦ sym (chosen_above m w grown i left.0 z left.1 left.2 d.0 x lt d.1)
        | inr gt ↦ chosen_above m w grown i d.0 x d.1 d.2 left.0 z gt left.1
      ]
    ]
agreement m w few grown i z x (inl left) (inr s) = skipped_noop m w few grown i left.0 z s.0 left.1 ∙ sym s.1
agreement m w few grown i z x (inr s) (inl left) = s.1 ∙ sym (skipped_noop m w few grown i left.0 x s.0 left.1)
agreement m w few grown i z x (inr s) (inr r) = s.1 ∙ sym r.1

-- Each value that a server learned is decided, and so is each value in a Learn message.
pub record AreDecided (m : Membership) (w : Trace) : Type 0 where
  pub lines : (p : ServerId) (i : Inst) (z : Value) → IsIn (Learned p i z) w → IsDecided m w i z
  pub messages : (p : ServerId) (i : Inst) (z : Value) → IsIn (Sent (Learn p i z)) w → IsDecided m w i z

pub all_decided : (m : Membership) (w : Trace) → IsGrown m w → AreDecided m w
all_decided m [] grown = record { lines = λ p i x h. absurd h; messages = λ p i x h. absurd h }
all_decided m (l ∷ w) grown =
    let before = all_decided m w grown.0 in
    record {
      lines =
          λ p i x h. elim h [
            | inl e ↦
                let may : MayLearn m w i x = rw (← e) at grown.1 in
                decided_more m l w i x (elim may [ inl d ↦ d | inr there ↦ before.messages there.0 i x there.1 ])
            | inr there ↦ decided_more m l w i x (before.lines p i x there)
          ];
      messages =
          λ p i x h. elim h [
            | inl e ↦
                let may : IsIn (Learned p i x) w = rw (← e) at grown.1 in
                decided_more m l w i x (before.lines p i x may)
            | inr there ↦ decided_more m l w i x (before.messages p i x there)
          ];
    }

-- Every learned value is decided.
pub learned_decided : (m : Membership) (w : Trace) → IsGrown m w → (p i : ℕ) (z : Value) → learned_value w p i ≡ Some z
    → IsDecided m w i z
learned_decided m w grown p i z h = (all_decided m w grown).lines p i z (learned_in w p i z h)
