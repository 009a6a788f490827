-- Commands sorted by their moments. The commands that pass a test keep their order if their moments do not fall.
use Rattle.std.proofs.Common.{◌≡◌, inl, inr, ◌≤◌, leb, Bool, true, false, cond, List, [], ◌∷◌, ◌++◌, arith, refl, sym, subst, ap, ◌∙◌}
use Rattle.std.specs.List.{All, filter}
use Rattle.std.proofs.lemmas.Bool.{cases_Bool, le-leb, leb-false, leb-true}
use Rattle.std.proofs.lemmas.List.Elements.{All-cons, All-nil}
use Rattle.std.proofs.lemmas.List.Kept.{AllPairs-cons}
use Rattle.mencius_base.specs.declared.command.CommandId.{CommandId}
use Rattle.mencius_clients.specs.declared.timed_command.TimedCommand.{TimedCommand}
use Rattle.mencius_clients.specs.Locality.{AreRising, ids_of}
use Rattle.mencius_clients.specs.KeyOrders.{insert, sorted}

-- ---- lists of commands

abbrev pub Each : (TimedCommand → Type 0) → List TimedCommand → Type 0
Each P [] = Unit {0}
Each P (c ∷ cs) = P c × Each P cs

pub each_all : (P : TimedCommand → Type 0) (cs : List TimedCommand) → Each P cs → All P cs
each_all P [] h = All-nil P
each_all P (c ∷ cs) h = All-cons P c cs h.0 (each_all P cs h.1)

pub each_more : (P Q : TimedCommand → Type 0) (cs : List TimedCommand) → ((c : TimedCommand) → P c → Q c) → Each P cs
    → Each Q cs
each_more P Q [] f h = tt
each_more P Q (c ∷ cs) f h = (f c h.0, each_more P Q cs f h.1)

pub each_append : (P : TimedCommand → Type 0) (cs ds : List TimedCommand) → Each P cs → Each P ds → Each P (cs ++ ds)
each_append P [] ds h g = g
each_append P (c ∷ cs) ds h g = (h.0, each_append P cs ds h.1 g)

each_filter : (P : TimedCommand → Type 0) (q : TimedCommand → Bool) (cs : List TimedCommand) → Each P cs
    → Each P (filter q cs)
each_filter P q [] h = tt
each_filter P q (c ∷ cs) h =
    let rest = each_filter P q cs h.1 in
    elim (cases_Bool (q c)) [
      | inl e ↦ subst (λ d. Each P (cond d (c ∷ filter q cs) (filter q cs))) (sym e) (h.0, rest)
      | inr e ↦ subst (λ d. Each P (cond d (c ∷ filter q cs) (filter q cs))) (sym e) rest
    ]

pub filter_all : (q : TimedCommand → Bool) (cs : List TimedCommand) → Each (λ c. q c ≡ true) cs → filter q cs ≡ cs
filter_all q [] h = refl
filter_all q (c ∷ cs) h =
    ap (λ d. cond d (c ∷ filter q cs) (filter q cs)) h.0 ∙ ap (λ ds. c ∷ ds) (filter_all q cs h.1)

pub filter_none : (q : TimedCommand → Bool) (cs : List TimedCommand) → Each (λ c. q c ≡ false) cs → filter q cs ≡ []
filter_none q [] h = refl
filter_none q (c ∷ cs) h = ap (λ d. cond d (c ∷ filter q cs) (filter q cs)) h.0 ∙ filter_none q cs h.1

pub filter_ids : (p : CommandId → Bool) (cs : List TimedCommand) → filter p (ids_of cs) ≡ ids_of (filter (λ c. p c.id) cs)
filter_ids p [] = refl
filter_ids p (c ∷ cs) =
    elim (cases_Bool (p c.id)) [
      | inl e ↦
          ap (λ d. cond d (c.id ∷ filter p (ids_of cs)) (filter p (ids_of cs))) e
          ∙ ap (λ ids. c.id ∷ ids) (filter_ids p cs)
          ∙ sym (ap (λ d. ids_of (cond d (c ∷ filter (λ a. p a.id) cs) (filter (λ a. p a.id) cs))) e)
      | inr e ↦
          ap (λ d. cond d (c.id ∷ filter p (ids_of cs)) (filter p (ids_of cs))) e
          ∙ filter_ids p cs
          ∙ sym (ap (λ d. ids_of (cond d (c ∷ filter (λ a. p a.id) cs) (filter (λ a. p a.id) cs))) e)
    ]

-- ---- sorting

-- no later command has an earlier moment
abbrev pub IsFirst : TimedCommand → List TimedCommand → Type 0
IsFirst c cs = Each (λ d. c.moment ≤ d.moment) cs

abbrev pub IsSorted : List TimedCommand → Type 0
IsSorted [] = Unit {0}
IsSorted (c ∷ cs) = IsFirst c cs × IsSorted cs

pub sorted_rising : (cs : List TimedCommand) → IsSorted cs → AreRising cs
sorted_rising [] h = λ i j d first second. absurd (omega (arith, second))
sorted_rising (c ∷ cs) h =
    AllPairs-cons (λ (a b : TimedCommand). a.moment ≤ b.moment) c cs
    (each_all (λ d. c.moment ≤ d.moment) cs h.0) (sorted_rising cs h.1)

insert_each : (P : TimedCommand → Type 0) (c : TimedCommand) (ds : List TimedCommand) → P c → Each P ds → Each P (insert c ds)
insert_each P c [] h g = (h, tt)
insert_each P c (d ∷ ds) h g =
    elim (cases_Bool (leb c.moment d.moment)) [
      | inl e ↦ subst (λ b. Each P (cond b (c ∷ d ∷ ds) (d ∷ insert c ds))) (sym e) (h, g)
      | inr e ↦
          subst (λ b. Each P (cond b (c ∷ d ∷ ds) (d ∷ insert c ds))) (sym e) (g.0, insert_each P c ds h g.1)
    ]

pub sorted_each : (P : TimedCommand → Type 0) (cs : List TimedCommand) → Each P cs → Each P (sorted cs)
sorted_each P [] h = tt
sorted_each P (c ∷ cs) h = insert_each P c (sorted cs) h.0 (sorted_each P cs h.1)

first_later : (c d : TimedCommand) (ds : List TimedCommand) → c.moment ≤ d.moment → IsFirst d ds → IsFirst c ds
first_later c d ds less h =
    each_more (λ x. d.moment ≤ x.moment) (λ x. c.moment ≤ x.moment) ds (λ x g. omega (arith, less, g)) h

insert_sorted : (c : TimedCommand) (ds : List TimedCommand) → IsSorted ds → IsSorted (insert c ds)
insert_sorted c [] h = (tt, tt)
insert_sorted c (d ∷ ds) h =
    elim (cases_Bool (leb c.moment d.moment)) [
      | inl e ↦
          let less = leb-true c.moment d.moment e in
          subst (λ b. IsSorted (cond b (c ∷ d ∷ ds) (d ∷ insert c ds))) (sym e)
          ((less, first_later c d ds less h.0), h)
      | inr e ↦
          let more : d.moment ≤ c.moment = omega (arith, leb-false c.moment d.moment e) in
          subst (λ b. IsSorted (cond b (c ∷ d ∷ ds) (d ∷ insert c ds))) (sym e)
          (insert_each (λ x. d.moment ≤ x.moment) c ds more h.0, insert_sorted c ds h.1)
    ]

pub sorted_sorted : (cs : List TimedCommand) → IsSorted (sorted cs)
sorted_sorted [] = tt
sorted_sorted (c ∷ cs) = insert_sorted c (sorted cs) (sorted_sorted cs)

-- a first command is inserted in front
insert_first : (c : TimedCommand) (ds : List TimedCommand) → IsFirst c ds → insert c ds ≡ c ∷ ds
insert_first c [] h = refl
insert_first c (d ∷ ds) h = ap (λ b. cond b (c ∷ d ∷ ds) (d ∷ insert c ds)) (le-leb c.moment d.moment h.0)

same_sorted : (cs : List TimedCommand) → IsSorted cs → sorted cs ≡ cs
same_sorted [] h = refl
same_sorted (c ∷ cs) h = ap (insert c) (same_sorted cs h.1) ∙ insert_first c cs h.0

module _ (q : TimedCommand → Bool) where
  insert_dropped : (c : TimedCommand) (ds : List TimedCommand) → q c ≡ false → filter q (insert c ds) ≡ filter q ds
  insert_dropped c [] h = ap (λ b. cond b (c ∷ []) []) h
  insert_dropped c (d ∷ ds) h =
      elim (cases_Bool (leb c.moment d.moment)) [
        | inl e ↦
            ap (λ b. filter q (cond b (c ∷ d ∷ ds) (d ∷ insert c ds))) e
            ∙ ap (λ b. cond b (c ∷ filter q (d ∷ ds)) (filter q (d ∷ ds))) h
        | inr e ↦
            ap (λ b. filter q (cond b (c ∷ d ∷ ds) (d ∷ insert c ds))) e
            ∙ ap (λ xs. cond (q d) (d ∷ xs) xs) (insert_dropped c ds h)
      ]

  insert_kept : (c : TimedCommand) (ds : List TimedCommand) → q c ≡ true → IsSorted ds
      → filter q (insert c ds) ≡ insert c (filter q ds)
  insert_kept c [] h s = ap (λ b. cond b (c ∷ []) []) h
  insert_kept c (d ∷ ds) h s =
      elim (cases_Bool (leb c.moment d.moment)) [
        | inl e ↦
            let less = leb-true c.moment d.moment e in
            ap (λ b. filter q (cond b (c ∷ d ∷ ds) (d ∷ insert c ds))) e
            ∙ ap (λ b. cond b (c ∷ filter q (d ∷ ds)) (filter q (d ∷ ds))) h
            ∙ sym (insert_first c (filter q (d ∷ ds))
            (each_filter (λ x. c.moment ≤ x.moment) q (d ∷ ds) (less, first_later c d ds less s.0)))
        | inr e ↦
            ap (λ b. filter q (cond b (c ∷ d ∷ ds) (d ∷ insert c ds))) e
            ∙ ap (λ xs. cond (q d) (d ∷ xs) xs) (insert_kept c ds h s.1)
            ∙ elim (cases_Bool (q d)) [
              | inl own ↦
                  ap (λ b. cond b (d ∷ insert c (filter q ds)) (insert c (filter q ds))) own
                  ∙ sym (ap (λ b. insert c (cond b (d ∷ filter q ds) (filter q ds))) own
                  ∙ ap (λ b. cond b (c ∷ d ∷ filter q ds) (d ∷ insert c (filter q ds))) e)
              | inr other ↦
                  ap (λ b. cond b (d ∷ insert c (filter q ds)) (insert c (filter q ds))) other
                  ∙ sym (ap (λ b. insert c (cond b (d ∷ filter q ds) (filter q ds))) other)
            ]
      ]

  filter_sorted : (cs : List TimedCommand) → filter q (sorted cs) ≡ sorted (filter q cs)
  filter_sorted [] = refl
  filter_sorted (c ∷ cs) =
      elim (cases_Bool (q c)) [
        | inl e ↦
            insert_kept c (sorted cs) e (sorted_sorted cs) ∙ ap (insert c) (filter_sorted cs)
            ∙ sym (ap (λ b. sorted (cond b (c ∷ filter q cs) (filter q cs))) e)
        | inr e ↦
            insert_dropped c (sorted cs) e ∙ filter_sorted cs
            ∙ sym (ap (λ b. sorted (cond b (c ∷ filter q cs) (filter q cs))) e)
      ]

  pub kept_order : (cs : List TimedCommand) → IsSorted (filter q cs) → filter q (sorted cs) ≡ filter q cs
  kept_order cs h = filter_sorted cs ∙ same_sorted (filter q cs) h
