-- The six facts that agreement rests on, which hold in every reached trace.
use Rattle.std.proofs.Common.{◌≡◌, ℕ, ◌<◌, ◌≤◌, true, List, [], ◌∷◌, ◌++◌, inl, inr, refl, arith, Option, Some}
use Rattle.mencius_base.specs.declared.message.Message.TheVariants.{Suggest, Skip, Accepted, Promise, Propose}
use Rattle.mencius_base.specs.declared.message.Value.{Value}
use Rattle.mencius_base.specs.declared.message.Value.TheVariants.{Noop}
use Rattle.mencius_base.specs.declared.message.Vote.{Vote}
use Rattle.mencius_base.specs.Members.{Membership, owner}
use Rattle.mencius_model.specs.Trace.{Line, Sent, Trace}
use Rattle.mencius_model.specs.Instance.{proposal, are_majority, has_accepted}
use Rattle.mencius_model.specs.Next.{IsReached}
use Rattle.mencius_model.specs.Decided.{IsSkipped, IsDecided}
use Rattle.mencius_model.proofs.trace.Lists.{IsIn}
use Rattle.mencius_model.proofs.rights.LineRights.{IsGrown, MayAccept, MayPropose, in_past, right_at}
use Rattle.mencius_model.proofs.trace.AnswersLast.{promise_within}
use Rattle.mencius_model.proofs.rights.Journals.{reached_grown}
use Rattle.mencius_model.proofs.paxos.Paxos as paxos
use Rattle.mencius_model.proofs.reached.Suggesters as owners
use Rattle.mencius_model.proofs.paxos.Decisions as decisions
use Rattle.mencius_model.proofs.paxos.Tickets as tickets

-- Each ballot that a server accepts after a promise is at least the promised ballot.
later_acceptance : (m : Membership) (newer : List Line) (older : Trace) (q to i b : ℕ) (o : Option Vote)
    → IsGrown m (newer ++ Sent (Promise q to i b o) ∷ older)
    → (c t : ℕ) → IsIn (Sent (Accepted q t i c)) newer → b ≤ c
later_acceptance m [] older q to i b o grown c t h = absurd h
later_acceptance m (l ∷ newer) older q to i b o grown c t (inl e) =
    let w = newer ++ Sent (Promise q to i b o) ∷ older in
    let may : MayAccept w q t i c = rw (← e) at grown.1 in
    let covered = promise_within w q to i b o
    (in_past (Sent (Promise q to i b o)) newer (Sent (Promise q to i b o) ∷ older) (inl refl)) in
    omega (arith, may.free, covered)
later_acceptance m (l ∷ newer) older q to i b o grown c t (inr h) =
    later_acceptance m newer older q to i b o grown.0 c t h

module _ (m : Membership) (few : 1 ≤ m.count) (w : Trace) (r : IsReached m w) where
  grown : IsGrown m w
  grown = reached_grown m w r

  -- 1. After a server promises a ballot, it accepts nothing below that ballot.
  pub no_acceptance_below_promise : (newer : List Line) (older : Trace) (q to i b : ℕ) (o : Option Vote)
      → w ≡ newer ++ Sent (Promise q to i b o) ∷ older
      → (c t : ℕ) → IsIn (Sent (Accepted q t i c)) newer → b ≤ c
  no_acceptance_below_promise newer older q to i b o e c t h =
      later_acceptance m newer older q to i b o (rw e at grown) c t h

  -- 2. Before a value is proposed, a majority has promised its ballot. The value is the value of the greatest vote that
  -- promises of the ballot reported, or no-op if they reported none.
  pub proposal_by_majority : (newer : List Line) (older : Trace) (p i b : ℕ) (o : Value)
      → w ≡ newer ++ Sent (Propose p i b o) ∷ older → MayPropose m older p i b o
  proposal_by_majority newer older p i b o e = right_at m newer (Sent (Propose p i b o)) older (rw e at grown)

  -- 3. An instance has at most one suggestion.
  pub one_suggestion : (p q i t u : ℕ) → IsIn (Sent (Suggest p i t)) w → IsIn (Sent (Suggest q i u)) w
      → (p ≡ q) × (t ≡ u)
  one_suggestion p q i t u h inside = owners.suggest_once m w few grown p q i t u h inside

  -- 3. An instance has no suggestion if its owner skipped it.
  pub no_suggestion_where_skipped : (first stop q i t : ℕ) → first ≤ i → i < stop
      → IsIn (Sent (Skip (owner m i) first stop)) w → IsIn (Sent (Suggest q i t)) w → ⊥
  no_suggestion_where_skipped first stop q i t from to h inside =
      owners.skip_free m w few grown (owner m i) first stop q i t refl from to h inside

  -- 4. If a value is chosen at a ballot, every proposal at a greater ballot has that value.
  pub chosen_is_proposed_above : (i c b : ℕ) (o x : Value) → proposal w i c ≡ Some o
      → are_majority m (has_accepted w i c) ≡ true → c < b → proposal w i b ≡ Some x → x ≡ o
  chosen_is_proposed_above i c b o x start chosen lt h = paxos.chosen_above m w grown i c o start chosen b x lt h

  -- 4. If the owner skipped an instance, every proposal there is no-op.
  pub skipped_is_proposed_noop : (i b : ℕ) (x : Value) → IsSkipped m w i → proposal w i b ≡ Some x → x ≡ Noop
  skipped_is_proposed_noop i b x s h = decisions.skipped_noop m w few grown i b x s h

  -- 5. Each value that was learned is decided, and so is each value in a Learn message.
  pub learned_is_decided : decisions.AreDecided m w
  learned_is_decided = decisions.all_decided m w grown

  -- 6. If a ticket was suggested twice, it lost the first time, because no-op is decided at the lower instance.
  pub suggested_twice_lost_first : (p q i j t : ℕ) → i < j → IsIn (Sent (Suggest p i t)) w
      → IsIn (Sent (Suggest q j t)) w → IsDecided m w i Noop
  suggested_twice_lost_first p q i j t lt h inside = tickets.suggested_twice m w few grown p q i j t lt h inside
