-- Lists of configurations that grow while one command after another takes effect.
use Rattle.std.proofs.Common.{◌≡◌, ◌≢◌, ◌⊎◌, inl, inr, ℕ, zero, suc, ◌+◌, ◌<◌, ◌≤◌, Bool, false, true, List, [], ◌∷◌, ◌++◌, Option, Some, None, OnOk, Result, Ok, Err, get_or, length, slice_get, arith, refl, sym, subst, ap, ◌∙◌, ⊎_elim}
use Rattle.std.proofs.lemmas.Bool.{cases_eq, cases_lt}
use Rattle.std.proofs.lemmas.Option.{slice_get-get_or, slice_get_past, slice_get_within}
use Rattle.std.specs.Prelude.{MatchBool}
use Rattle.std.proofs.Math.ListN.{set}
use Rattle.mencius_base.specs.Command.{is_same_id}
use Rattle.mencius_base.specs.declared.command.Command.{Command}
use Rattle.mencius_base.specs.declared.command.CommandId.{CommandId}
use Rattle.mencius_log.specs.declared.observation.Observation.{Observation}
use Rattle.mencius_judge.proofs.observations.OrderSteps.{item_here}
use Rattle.mencius_judge.proofs.promises.Identities.{same_id, same_id_eq}
use Rattle.mencius_clients.proofs.Fewer.{less_freed}
use Rattle.mencius_clients.specs.declared.configuration.Configuration.{Configuration}
use Rattle.mencius_clients.specs.declared.slot_set.SlotSet.{SlotSet}
use Rattle.mencius_clients.specs.Configurations.{AllFollow, AreLost, AreSettled, Calls, FollowsAt, HasLess, GivesWay, HasRead, HasStep, IsBarred, IsFreed, IsLonger, IsOneOf, IsPlaced, IsRead, IsReadOn, IsSettled, IsUnacknowledged, become, is_cas, text_at, IsStep, IsWaitingAt, command_at, has_slot, submitted_by, waiting}

pub on_ok : {X E : Type 0} {P Q : Type 0} (r : Result X E) → (P → Q) → OnOk r P → OnOk r Q
on_ok (Ok x) f h = f h
on_ok (Err e) f h = h

pub waits_at : (log : List Observation) (slots : List (Option ℕ)) (slot line : ℕ) (d : Option ℕ) → slot < length slots
    → get_or slots slot d ≡ Some line → waiting log slots slot ≡ submitted_by (slice_get log line)
waits_at log slots slot line d less is = ap (command_at log) (slice_get-get_or slots slot d less ∙ ap Some is)

pub less_longer : (log : List Observation) (calls : Calls) (old new : List Configuration) (c : Configuration)
    → IsLonger old new → HasLess log calls old c → HasLess log calls new c
less_longer log calls old new c longer h = (h.0, (h.1.0, longer h.1.0 h.0 h.1.1), h.2, h.3, h.4)

pub read_longer : (log : List Observation) (calls : Calls) (old new : List Configuration) (c : Configuration)
    → IsLonger old new → HasRead log calls old c → HasRead log calls new c
read_longer log calls old new c longer h = (h.0, h.1, less_longer log calls old new h.0 longer h.2)

pub followed : (log : List Observation) (slots : List (Option ℕ)) (cs : List Configuration) (c next : Configuration)
    (slot : ℕ) (d : Command) → waiting log slots slot ≡ Some d → IsStep log (waiting log slots) slot d c next
    → HasRead log (waiting log slots) cs next → FollowsAt log slots cs c slot
followed log slots cs c next slot d at step stands f there free =
    let one : d ≡ f = cc (at, there) in
    inr record {
      place = slot;
      like = f;
      waits = there;
      free = free;
      equal = refl;
      which = inl refl;
      next = next;
      step = subst (λ (g : Command). IsStep log (waiting log slots) slot g c next) one step;
      stands = stands;
    }

pub barred : (log : List Observation) (slots : List (Option ℕ)) (cs : List Configuration) (c : Configuration)
    (slot : ℕ) (d : Command) → waiting log slots slot ≡ Some d → IsBarred log d c → FollowsAt log slots cs c slot
barred log slots cs c slot d at h f there free =
    let one : d ≡ f = cc (at, there) in
    inl (subst (λ (g : Command). IsBarred log g c) one h)

pub follows_more : (log : List Observation) (slots : List (Option ℕ)) (old new : List Configuration) (c : Configuration)
    (slot : ℕ) → IsLonger old new → FollowsAt log slots old c slot → FollowsAt log slots new c slot
follows_more log slots old new c slot longer h d at free =
    ⊎_elim
    (λ (r : IsBarred log d c). inl r)
    (λ (r : HasStep log (waiting log slots) old slot d c).
    inr record {
      place = r.place;
      like = r.like;
      waits = r.waits;
      free = r.free;
      equal = r.equal;
      which = r.which;
      next = r.next;
      step = r.step;
      stands = read_longer log (waiting log slots) old new r.next longer r.stands;
    })
    (h d at free)

-- an equal command in another slot takes the place of a command that never gets a reply other than `failed`
pub given_way : (log : List Observation) (slots : List (Option ℕ)) (cs : List Configuration) (c : Configuration) (slot : ℕ)
    (lost : SlotSet) → AreLost log (waiting log slots) lost → (way : GivesWay log slots lost c slot)
    → FollowsAt log slots cs c way.twin → FollowsAt log slots cs c slot
given_way log slots cs c slot lost gone way h d at free = elim (h way.other way.there way.free) [
  | inl barred ↦ elim barred [
    | inl refuted ↦ absurd (none_there refuted.0)
    | inr passed ↦ inl (inr (
      none_here,
      elim (passed.1) [
        | inl same ↦ inl (ap (become (text_at log c.text)) (sym alike) ∙ same)
        | inr blind ↦ inr (blind.0, ap is_cas (sym alike) ∙ blind.1)
      ],
    ))
  ]
  | inr r ↦ inr record {
    place = r.place;
    like = r.like;
    waits = r.waits;
    free = r.free;
    equal = r.equal ∙ alike;
    which = inr (none_here, none_like r);
    next = r.next;
    step = r.step;
    stands = r.stands;
  }
]
  where
    one : way.command ≡ d
    one = cc (way.here, at)

    alike : way.other.op ≡ d.op
    alike = way.equal ∙ ap (λ (g : Command). g.op) one

    none_here : IsUnacknowledged log d.id
    none_here = gone slot d at way.lost

    none_there : IsUnacknowledged log way.other.id
    none_there = gone way.twin way.other way.there way.lost_too

    none_like : (r : HasStep log (waiting log slots) cs way.twin way.other c) → IsUnacknowledged log r.like.id
    none_like r = elim (r.which) [
      | inl same ↦
          let its : way.other ≡ r.like = cc (way.there, r.waits, same) in
          subst (λ (g : Command). IsUnacknowledged log g.id) its none_there
      | inr both ↦ both.1
    ]

-- the commands in the first so many slots were followed
pub record HaveFollowed (log : List Observation) (slots : List (Option ℕ)) (old work : List Configuration)
    (c : Configuration) (count : ℕ) : Type 0 where
  pub longer : IsLonger old work
  pub each : (t : ℕ) → t < count → FollowsAt log slots work c t

pub followed_more : (log : List Observation) (slots : List (Option ℕ)) (old work new : List Configuration)
    (c : Configuration) (count : ℕ) → HaveFollowed log slots old work c count → IsLonger work new
    → FollowsAt log slots new c count → HaveFollowed log slots old new c (count + 1)
followed_more log slots old work new c count h longer here = record {
  longer = λ n d e. longer n d (h.longer n d e);
  each = λ t less. ⊎_elim
      (λ (e : t ≡ count). subst (FollowsAt log slots new c) (sym e) here)
      (λ (e : t < count). follows_more log slots work new c t longer (h.each t e))
      (either t count less);
}
  where
    either : (t k : ℕ) → t < k + 1 → (t ≡ k) ⊎ (t < k)
    either t k less = grind arith

-- a slot past the last one has no command
pub followed_all : (log : List Observation) (slots : List (Option ℕ)) (old work : List Configuration)
    (c : Configuration) (count : ℕ) → HaveFollowed log slots old work c count → length slots ≤ count
    → AllFollow log slots work c
followed_all log slots old work c count h all t =
    elim (cases_lt t (length slots)) [
      | inl less ↦ h.each t (omega arith)
      | inr more ↦ λ d at free.
          let none : waiting log slots t ≡ None = ap (command_at log) (slice_get_past slots t more) in absurd (cc)
    ]

-- ---- one configuration after another

pub settled_longer : (log : List Observation) (slots : List (Option ℕ)) (cs work new next : List Configuration)
    (slot count : ℕ) (c : Configuration) → AreSettled log slots cs slot count work next → slice_get work count ≡ Some c
    → has_slot c.done slot ≡ false → IsLonger work new → AllFollow log slots new c
    → AreSettled log slots cs slot (count + 1) new next
settled_longer log slots cs work new next slot count c h at open_yet longer all = record {
  begins = λ d one. read_longer log (waiting log slots) work new d longer (h.begins d one);
  closed = λ n d less there free. elim (place n d less there) [
    | inl last ↦ subst (AllFollow log slots new) last all
    | inr before ↦ λ t. follows_more log slots work new d t longer (h.closed n d before.0 before.1 free t)
  ];
  freed = λ n d less there taken. elim (place n d less there) [
    | inl last ↦ let no : has_slot d.done slot ≡ false = subst (λ (e : Configuration). has_slot e.done slot ≡ false) last open_yet in absurd (cc)
    | inr before ↦ h.freed n d before.0 before.1 taken
  ];
}
  where
    -- it is the one at the place, or stands before it
    place : (n : ℕ) (d : Configuration) → n < count + 1 → slice_get new n ≡ Some d
        → (c ≡ d) ⊎ ((n < count) × (slice_get work n ≡ Some d))
    place n d less there = elim (cases_eq n count) [
      | inl same ↦
          let now : slice_get new n ≡ Some c = ap (slice_get new) same ∙ longer count c at in
          inl (cc)
      | inr ne ↦
          let before : n < count = omega arith in
          let within = slice_get_within work count c at in
          let old = slice_get-get_or work n c (omega arith) in
          let now = longer n (get_or work n c) old in
          inr (before, old ∙ sym now ∙ there)
    ]

pub settled_freed : (log : List Observation) (slots : List (Option ℕ)) (cs work next more : List Configuration)
    (slot count : ℕ) (c : Configuration) → AreSettled log slots cs slot count work next → slice_get work count ≡ Some c
    → has_slot c.done slot ≡ true
    → IsLonger next more → ((d : Configuration) × IsOneOf more d × IsFreed log (waiting log slots) slot c d)
    → AreSettled log slots cs slot (count + 1) work more
settled_freed log slots cs work next more slot count c h at done longer freed = record {
  begins = h.begins;
  closed = λ n e less there free. elim (cases_eq n count) [
    | inl same ↦
        let one : c ≡ e = cc (at, there, same) in
        let is_done : has_slot e.done slot ≡ true = subst (λ (f : Configuration). has_slot f.done slot ≡ true) one done in
        absurd (cc)
    | inr ne ↦ h.closed n e (omega arith) there free
  ];
  freed = λ n e less there taken. elim (cases_eq n count) [
    | inl same ↦
        let one : c ≡ e = cc (at, there, same) in
        (freed.0, freed.1, subst (λ (f : Configuration). IsFreed log (waiting log slots) slot f freed.0) one freed.2)
    | inr ne ↦
        let old = h.freed n e (omega arith) there taken in
        (old.0, (old.1.0, longer old.1.0 old.0 old.1.1), old.2)
  ];
}

pub settled_all : (log : List Observation) (slots : List (Option ℕ)) (cs work next : List Configuration)
    (slot count : ℕ) → AreSettled log slots cs slot count work next → length work ≤ count
    → IsSettled log slots cs slot next
settled_all log slots cs work next slot count h all = record {
  work = work;
  begins = h.begins;
  closed = λ c one. h.closed one.0 c (let within = slice_get_within work one.0 c one.1 in omega arith) one.1;
  freed = λ c one. h.freed one.0 c (let within = slice_get_within work one.0 c one.1 in omega arith) one.1;
}

pub settled_none : (log : List Observation) (slots : List (Option ℕ)) (cs work : List Configuration) (slot : ℕ)
    → ((c : Configuration) → IsOneOf cs c → HasRead log (waiting log slots) work c) → AreSettled log slots cs slot 0 work []
settled_none log slots cs work slot begins = record {
  begins = begins;
  closed = λ n c less. absurd (omega (arith, less));
  freed = λ n c less. absurd (omega (arith, less));
}

-- ---- reads

-- each of the first so many configurations has one that stands for it after some reads
pub record HaveRead (log : List Observation) (calls : Calls) (cs work : List Configuration) (count : ℕ) : Type 0 where
  pub each : (n : ℕ) (c : Configuration) → n < count → slice_get cs n ≡ Some c → HasRead log calls work c

pub read_none : (log : List Observation) (calls : Calls) (cs work : List Configuration) → HaveRead log calls cs work 0
read_none log calls cs work = record { each = λ n c less. absurd (omega (arith, less)) }

pub read_more : (log : List Observation) (calls : Calls) (cs work new : List Configuration) (c : Configuration) (count : ℕ)
    → HaveRead log calls cs work count → slice_get cs count ≡ Some c → IsLonger work new → HasRead log calls new c
    → HaveRead log calls cs new (count + 1)
read_more log calls cs work new c count h at longer here = record {
  each = λ n d less there. ⊎_elim
      (λ (e : n ≡ count).
      let one : c ≡ d = cc (at, there, e) in
      subst (HasRead log calls new) one here)
      (λ (e : n < count). read_longer log calls work new d longer (h.each n d e there))
      (either n count less);
}
  where
    either : (n k : ℕ) → n < k + 1 → (n ≡ k) ⊎ (n < k)
    either n k less = grind arith

pub read_all : (log : List Observation) (calls : Calls) (cs work : List Configuration) (count : ℕ)
    → HaveRead log calls cs work count → length cs ≤ count → (c : Configuration) → IsOneOf cs c → HasRead log calls work c
read_all log calls cs work count h all c one =
    h.each one.0 c (let within = slice_get_within cs one.0 c one.1 in omega arith) one.1

pub read_step : (log : List Observation) (calls : Calls) (from b d : Configuration) (slot : ℕ) → IsReadOn log calls from b
    → (b ≡ d) ⊎ IsRead log calls slot b d → IsReadOn log calls from d
read_step log calls from b d slot h (inl same) = subst (IsReadOn log calls from) same h
read_step log calls from b d slot h (inr read) = (slot ∷ h.0, (b, h.1, read))

-- ---- fewer configurations

pub settled_best : (log : List Observation) (slots : List (Option ℕ)) (cs next best : List Configuration) (slot : ℕ)
    → IsSettled log slots cs slot next → ((d : Configuration) → IsOneOf next d → HasLess log (waiting log slots) best d)
    → IsSettled log slots cs slot best
settled_best log slots cs next best slot h covers = record {
  work = h.work;
  begins = h.begins;
  closed = h.closed;
  freed = λ c one taken.
      let old = h.freed c one taken in
      let good = covers old.0 old.1 in
      (good.0, good.1, less_freed log (waiting log slots) slot c old.0 good.0 old.2 good.2 good.3 good.4);
}

-- ---- slots

pub waits_if : (b : Bool) (log : List Observation) (slots : List (Option ℕ)) (id : CommandId) (t : ℕ) (c : Command)
    → waiting log slots t ≡ Some c → b ≡ is_same_id c.id id
    → MatchBool b (IsWaitingAt log slots id t) (IsWaitingAt log slots id t → ⊥)
waits_if true log slots id t c at same = (c, at, same_id_eq c.id id (sym same))
waits_if false log slots id t c at same = λ h.
    let one : c ≡ h.0 = cc (at, h.1) in
    let ids : c.id ≡ id = ap (λ (d : Command). d.id) one ∙ h.2 in
    let yes : is_same_id c.id id ≡ true = subst (λ (x : CommandId). is_same_id c.id x ≡ true) ids (same_id c.id) in
    absurd (cc)

pub waits_within : (log : List Observation) (slots : List (Option ℕ)) (id : CommandId) (count : ℕ) → length slots ≤ count
    → ((t : ℕ) → t < count → IsWaitingAt log slots id t → ⊥) → (t : ℕ) → IsWaitingAt log slots id t → ⊥
waits_within log slots id count all h t it =
    elim (cases_lt t count) [
      | inl less ↦ h t less it
      | inr more ↦
          let none : waiting log slots t ≡ None = ap (command_at log) (slice_get_past slots t (omega arith)) in
          let some = it.1 in cc
    ]

pub set_here : {A : Type 0} (xs : List A) (i : ℕ) (v : A) → i < length xs → slice_get (set xs i v) i ≡ Some v
set_here [] i v less = absurd (omega (arith, less))
set_here (x ∷ xs) zero v less = refl
set_here (x ∷ xs) (suc i) v less = set_here xs i v (omega (arith, less))

pub set_there : {A : Type 0} (xs : List A) (i : ℕ) (v : A) (t : ℕ) → t ≢ i → slice_get (set xs i v) t ≡ slice_get xs t
set_there [] i v t ne = refl
set_there (x ∷ xs) zero v zero ne = absurd (ne refl)
set_there (x ∷ xs) zero v (suc t) ne = refl
set_there (x ∷ xs) (suc i) v zero ne = refl
set_there (x ∷ xs) (suc i) v (suc t) ne = set_there xs i v t (λ e. ne (ap suc e))

get_other : {A : Type 0} (xs : List A) (y : A) (t : ℕ) → t ≢ length xs → slice_get (xs ++ y ∷ []) t ≡ slice_get xs t
get_other [] y zero ne = absurd (ne refl)
get_other [] y (suc t) ne = refl
get_other (x ∷ xs) y zero ne = refl
get_other (x ∷ xs) y (suc t) ne = get_other xs y t (λ e. ne (ap suc e))

-- a line in a new slot behind the others
pub placed_last : (log : List Observation) (old new : List (Option ℕ)) (line : ℕ) → new ≡ old ++ Some line ∷ []
    → IsPlaced log old new line
placed_last log old new line is = record {
  slot = length old;
  free = ap (command_at log) (slice_get_past old (length old) (omega arith));
  here = ap (λ xs. slice_get xs (length old)) is ∙ item_here old [] (Some line);
  elsewhere = λ t ne. ap (λ xs. slice_get xs t) is ∙ get_other old (Some line) t ne;
}
