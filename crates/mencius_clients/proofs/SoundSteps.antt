-- Steps that a search adds to its trail.
use Rattle.std.proofs.lemmas.Option.{slice_get-get_or}
use Rattle.std.proofs.Common.{◌≡◌, ◌⊎◌, inl, inr, ℕ, zero, suc, ◌<◌, ◌≤◌, ◌==◌, get_or, true, false, List, [], ◌∷◌, ◌++◌, Option, Some, None, length, slice_get, arith, refl, sym, subst, ap, ◌∙◌, length-append}
use Rattle.mencius_base.specs.declared.command.Command.{Command}
use Rattle.mencius_log.specs.declared.observation.Observation.{Observation}
use Rattle.mencius_clients.specs.declared.configuration.Configuration.{Configuration}
use Rattle.mencius_clients.specs.declared.slot_set.SlotSet.{SlotSet}
use Rattle.mencius_clients.specs.declared.steps.Step.{Step}
use Rattle.mencius_clients.specs.Configurations.{AreRead, Calls, HasLess, HasRead, IsLess, IsLonger, IsOneOf, IsRead, IsReadOn, has_slot, submitted_by, text_at, waiting}
use Rattle.mencius_clients.specs.OrdersSoFar.{AreReachable, AreSoundlySettled, AreWithin, Follows, IsLongerTrail, IsReachable, IsSoundEffect, IsSoundStep, IsSoundlyFreed, numbered, trail_with}
use Rattle.mencius_clients.proofs.Lacking.{get_front}

pub trail_same : (trail : List Step) → IsLongerTrail trail trail
trail_same trail n s e = e

pub trail_more : (old mid new : List Step) → IsLongerTrail old mid → IsLongerTrail mid new → IsLongerTrail old new
trail_more old mid new h g n s e = g n s (h n s e)

pub trail_pushed : (trail : List Step) (step : Step) → IsLongerTrail trail (trail ++ step ∷ [])
trail_pushed trail step n s e = get_front trail (step ∷ []) n s e

last_there : {A : Type 0} (xs : List A) (y : A) → slice_get (xs ++ y ∷ []) (length xs) ≡ Some y
last_there [] y = refl
last_there (z ∷ xs) y = last_there xs y

pub get_within : {A : Type 0} (xs : List A) (n : ℕ) (y : A) → slice_get xs n ≡ Some y → n < length xs
get_within [] n y e = absurd (cc)
get_within (z ∷ xs) zero y e = omega arith
get_within (z ∷ xs) (suc n) y e = let less = get_within xs n y e in omega arith

-- the last item of a longer list, or an item of the list
pub last_or : {A : Type 0} (xs : List A) (y : A) (n : ℕ) (x : A) → slice_get (xs ++ y ∷ []) n ≡ Some x
    → (slice_get xs n ≡ Some x) ⊎ ((n ≡ length xs) × (x ≡ y))
last_or [] y zero x e = inr (refl, cc)
last_or [] y (suc n) x e = absurd (cc)
last_or (z ∷ xs) y zero x e = inl e
last_or (z ∷ xs) y (suc n) x e =
    elim (last_or xs y n x e) [ inl h ↦ inl h | inr h ↦ inr (ap suc h.0, h.1) ]

pub one_of_more : (xs : List Configuration) (y d : Configuration) → IsOneOf (xs ++ y ∷ []) d → IsOneOf xs d ⊎ (d ≡ y)
one_of_more xs y d one =
    elim (last_or xs y one.0 d one.1) [ inl before ↦ inl (one.0, before) | inr last ↦ inr last.1 ]

-- a longer trail has no fewer steps
pub longer_length : (old new : List Step) → IsLongerTrail old new → length old ≤ length new
longer_length [] new h = omega arith
longer_length (z ∷ xs) new h =
    let last : Step = get_or (z ∷ xs) (length xs) z in
    let at : slice_get (z ∷ xs) (length xs) ≡ Some last = slice_get-get_or (z ∷ xs) (length xs) z (omega arith) in
    let less = get_within new (length xs) last (h (length xs) last at) in omega (arith, less)

pub within_later : (old new : List Step) (cs : List Configuration) → IsLongerTrail old new → AreWithin cs old
    → AreWithin cs new
within_later old new cs longer h c one =
    let less = h c one in let more = longer_length old new longer in omega (arith, less, more)

pub with_longer : (trail : List Step) (step : Option Step) → IsLongerTrail trail (trail_with trail step)
with_longer trail None = trail_same trail
with_longer trail (Some step) = trail_pushed trail step

module _ (log : List Observation) (slots : List (Option ℕ)) where
  step_later : (old new : List Step) (c d : Configuration) → IsLongerTrail old new → IsSoundStep log slots old c d
      → IsSoundStep log slots new c d
  step_later old new c d longer s = record {
    slot = s.slot;
    line = s.line;
    command = s.command;
    waits = s.waits;
    submits = s.submits;
    was = s.was;
    here = s.here;
    elsewhere = s.elsewhere;
    text = s.text;
    right = s.right;
    number = s.number;
    last = s.last;
    there = longer s.number (record { line = s.line; before = c.trail }) s.there;
    older = s.older;
  }

  follows_later : (old new : List Step) (c d : Configuration) (es : List Configuration) → IsLongerTrail old new
      → Follows log slots old c es d → Follows log slots new c es d
  follows_later old new c d [] longer h = h
  follows_later old new c d (e ∷ es) longer h =
      (step_later old new c e longer h.0, follows_later old new e d es longer h.1)

  -- a longer trail keeps what is reachable
  pub reachable_later : (old new : List Step) (cs : List Configuration) (d : Configuration) → IsLongerTrail old new
      → IsReachable log slots old cs d → IsReachable log slots new cs d
  reachable_later old new cs d longer r = (r.0, r.1, r.2, follows_later old new r.0 d r.2 longer r.3)

  pub settled_later : (old new : List Step) (cs next : List Configuration) (slot : ℕ) → IsLongerTrail old new
      → AreSoundlySettled log slots old cs slot next → AreSoundlySettled log slots new cs slot next
  settled_later old new cs next slot longer h d one =
      let r = h d one in (r.0, reachable_later old new cs r.0 longer r.1, r.2)

  -- each configuration is reachable by no step
  pub reachable_at_once : (trail : List Step) (cs : List Configuration) (c : Configuration) → IsOneOf cs c
      → IsReachable log slots trail cs c
  reachable_at_once trail cs c one = (c, one, [], refl)

  within : (trail : List Step) (c d : Configuration) (es : List Configuration) → c.trail ≤ length trail
      → Follows log slots trail c es d → d.trail ≤ length trail
  within trail c d [] less h = subst (λ (x : Configuration). x.trail ≤ length trail) h less
  within trail c d (e ∷ es) less h =
      let last = h.0.last in
      let there = get_within trail h.0.number (record { line = h.0.line; before = c.trail }) h.0.there in
      within trail e d es (omega arith) h.1

  pub reachable_within : (trail : List Step) (cs : List Configuration) (d : Configuration) → AreWithin cs trail
      → IsReachable log slots trail cs d → d.trail ≤ length trail
  reachable_within trail cs d h r = within trail r.0 d r.2 (h r.0 r.1) r.3

  followed_by : (trail : List Step) (c d x : Configuration) (es : List Configuration) → Follows log slots trail c es d
      → IsSoundStep log slots trail d x → Follows log slots trail c (es ++ x ∷ []) x
  followed_by trail c d x [] h s =
      (subst (λ (y : Configuration). IsSoundStep log slots trail y x) (sym h) s, refl)
  followed_by trail c d x (e ∷ es) h s = (h.0, followed_by trail e d x es h.1 s)

  -- one step more, which is added to the trail. `next` has the data of `x` and the number of the step
  pub reachable_step : (cs : List Configuration) (trail more : List Step) (from x next : Configuration) (slot line : ℕ)
      (command : Command) → slice_get slots slot ≡ Some (Some line) → submitted_by (slice_get log line) ≡ Some command
      → has_slot from.done slot ≡ false → IsSoundEffect log slot command from x
      → more ≡ trail ++ record { line = line; before = from.trail } ∷ []
      → next.done ≡ x.done → next.text ≡ x.text → next.trail ≡ length more
      → AreWithin cs trail → IsReachable log slots trail cs from → IsReachable log slots more cs next
  reachable_step cs trail more from x next slot line command waits submits was taken grows done text number small r =
      let step : Step = record { line = line; before = from.trail } in
      let longer : IsLongerTrail trail more = subst (IsLongerTrail trail) (sym grows) (trail_pushed trail step) in
      let size = ap length grows in
      let sum = length-append trail (step ∷ []) in
      let bound = reachable_within trail cs from small r in
      let s : IsSoundStep log slots more from next = record {
        slot = slot;
        line = line;
        command = command;
        waits = waits;
        submits = submits;
        was = was;
        here = ap (λ b. has_slot b slot) done ∙ taken.here;
        elsewhere = λ t ne. ap (λ b. has_slot b t) done ∙ taken.elsewhere t ne;
        text = ap (text_at log) text ∙ taken.text;
        right = taken.right;
        number = length trail;
        last = omega arith;
        there = ap (λ xs. slice_get xs (length trail)) grows ∙ last_there trail step;
        older = bound;
      } in
      (r.0, r.1, r.2 ++ next ∷ [], followed_by more r.0 from next r.2 (follows_later trail more r.0 from r.2 longer r.3) s)

  pub all_later : (cs work : List Configuration) (old new : List Step) → IsLongerTrail old new
      → AreReachable log slots old cs work → AreReachable log slots new cs work
  all_later cs work old new longer h d one = reachable_later old new cs d longer (h d one)

  -- one configuration more
  pub reachable_more : (cs work new : List Configuration) (old trail : List Step) (x : Configuration)
      → new ≡ work ++ x ∷ [] → IsLongerTrail old trail → IsReachable log slots trail cs x
      → AreReachable log slots old cs work → AreReachable log slots trail cs new
  reachable_more cs work new old trail x is longer r h d one =
      elim (one_of_more work x d (one.0, sym (ap (λ xs. slice_get xs one.0) is) ∙ one.1)) [
        | inl before ↦ reachable_later old trail cs d longer (h d before)
        | inr last ↦ subst (IsReachable log slots trail cs) (sym last) r
      ]

-- ---- another number of the last step

-- two configurations that differ only in the number of the last step
abbrev pub IsRenumbered : Configuration → Configuration → Type 0
IsRenumbered c d = (c.done ≡ d.done) × (c.text ≡ d.text) × (c.unseen ≡ d.unseen)

pub renumbered : (c : Configuration) (step : Option Step) (number : ℕ) → IsRenumbered (numbered c step number) c
renumbered c None number = (refl, refl, refl)
renumbered c (Some step) number = (refl, refl, refl)

module _ (log : List Observation) (calls : Calls) where
  read_again : (slot : ℕ) (b c d e : Configuration) → IsRenumbered b c → IsRenumbered d e → IsRead log calls slot b d
      → IsRead log calls slot c e
  read_again slot b c d e same equal r = record {
    command = r.command;
    waits = r.waits;
    answered = r.answered;
    reads = r.reads;
    here = subst (λ x. has_slot x slot ≡ true) equal.0 r.here;
    elsewhere = λ t ne. sym (ap (λ x. has_slot x t) equal.0) ∙ r.elsewhere t ne ∙ ap (λ x. has_slot x t) same.0;
    text = sym (ap (text_at log) equal.1) ∙ r.text ∙ ap (text_at log) same.1;
    seen = sym equal.2 ∙ r.seen;
  }

  reads_again : (slots : List ℕ) (b c d : Configuration) → IsRenumbered b c → AreRead log calls slots b d
      → (e : Configuration) × AreRead log calls slots c e × IsRenumbered d e
  reads_again [] b c d same h = (c, refl, subst (λ (x : Configuration). IsRenumbered x c) h same)
  reads_again (slot ∷ slots) b c d same h =
      let r = reads_again slots b c h.0 same h.1 in
      (d, (r.0, r.1, read_again slot h.0 r.0 d d r.2 (refl, refl, refl) h.2), (refl, refl, refl))

  less_again : (cs : List Configuration) (d e : Configuration) → IsRenumbered d e → HasLess log calls cs d
      → HasLess log calls cs e
  less_again cs d e same h = (
    h.0,
    h.1,
    subst (IsLess log calls h.0.done) same.0 h.2,
    h.3 ∙ ap (text_at log) same.1,
    λ unseen. sym same.2 ∙ h.4 unseen,
  )

  pub has_read_again : (cs : List Configuration) (b c : Configuration) → IsRenumbered b c → HasRead log calls cs b
      → HasRead log calls cs c
  has_read_again cs b c same h =
      let r = reads_again h.1.0 b c h.0 same h.1.1 in (r.0, (h.1.0, r.1), less_again cs h.0 r.0 r.2 h.2)

  less_same : (s : SlotSet) → IsLess log calls s s
  less_same s = record { same = λ t f e acked. refl; within = λ t e. e }

  -- the last configuration stands for itself
  pub last_read : (work new : List Configuration) (c x : Configuration) → new ≡ work ++ x ∷ [] → IsReadOn log calls c x
      → HasRead log calls new c
  last_read work new c x is reads = (
    x,
    reads,
    (
      x,
      (length work, ap (λ xs. slice_get xs (length work)) is ∙ last_there work x),
      less_same x.done,
      refl,
      λ unseen. unseen,
    ),
  )

pub more_longer : (work new : List Configuration) (x : Configuration) → new ≡ work ++ x ∷ [] → IsLonger work new
more_longer work new x is n d there = ap (λ xs. slice_get xs n) is ∙ get_front work (x ∷ []) n d there

pub slot_at : (slots : List (Option ℕ)) (t line : ℕ) (none : Option ℕ) → t < length slots
    → get_or slots t none ≡ Some line → slice_get slots t ≡ Some (Some line)
slot_at slots t line none less e = slice_get-get_or slots t none less ∙ ap Some e

-- what holds after the reads of some slots
abbrev pub SoRead : List Observation → List (Option ℕ) → Configuration → List Step → List Step → Configuration → Type 0
SoRead log slots from old trail new =
    IsReadOn log (waiting log slots) from new × IsLongerTrail old trail
    × ((cs : List Configuration) → AreWithin cs old → IsReachable log slots old cs from
    → IsReachable log slots trail cs new)

-- what holds after the steps of some slots
abbrev pub SoStepped : List Observation → List (Option ℕ) → Configuration → List Step → List Step → List Configuration
    → List Configuration → Type 0
SoStepped log slots from old trail first work =
    IsLongerTrail old trail
    × ((cs : List Configuration) → AreWithin cs old → IsReachable log slots old cs from
    → AreReachable log slots old cs first → AreReachable log slots trail cs work)

-- what holds after some configurations have begun
abbrev pub SoBegun : List Observation → List (Option ℕ) → List Configuration → List Step → List Step → List Configuration
    → Type 0
SoBegun log slots cs old trail work =
    IsLongerTrail old trail × (AreWithin cs old → AreReachable log slots trail cs work)

-- what holds after the first `count` configurations of `work`
abbrev pub SoSettled : List Observation → List (Option ℕ) → List Configuration → ℕ → List Step → List Step
    → List Configuration → List Configuration → Type 0
SoSettled log slots cs slot old trail work next =
    IsLongerTrail old trail
    × (AreWithin cs old → AreReachable log slots trail cs work × AreSoundlySettled log slots trail cs slot next)

pub first_one : (cs : List Configuration) → (length cs == 0) ≡ false → (c : Configuration) × IsOneOf cs c
first_one [] e = absurd (cc)
first_one (c ∷ cs) e = (c, (0, refl))

pub none_one : (cs : List Configuration) (d : Configuration) → cs ≡ [] → IsOneOf cs d → {P : Type 0} → P
none_one cs d none one =
    let e : slice_get [] one.0 ≡ Some d = sym (ap (λ xs. slice_get xs one.0) none) ∙ one.1 in absurd (cc)

-- another configuration of `work` is free
pub freed_more : (log : List Observation) (slots : List (Option ℕ)) (trail : List Step) (cs work next more : List Configuration)
    (slot : ℕ) (from : Configuration) → IsOneOf work from
    → ((d : Configuration) → IsOneOf more d → IsOneOf next d ⊎ IsSoundlyFreed slot from d)
    → AreReachable log slots trail cs work → AreSoundlySettled log slots trail cs slot next
    → AreSoundlySettled log slots trail cs slot more
freed_more log slots trail cs work next more slot from one either reached h d there =
    elim (either d there) [ inl before ↦ h d before | inr freed ↦ (from, reached from one, freed) ]
