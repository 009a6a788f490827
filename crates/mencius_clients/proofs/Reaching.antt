-- How far an order is reached once a command has its reply, by the steps of the waiting commands.
use Rattle.std.proofs.Common.{◌≡◌, ◌≢◌, ◌⊎◌, inl, inr, ℕ, true, false, List, [], ◌∷◌, ◌++◌, ◌||◌, Option, Some, None, is_some, refl, sym, subst, ap, ◌∙◌, ⊎_elim, append_assoc}
use Rattle.std.specs.List.{Contains}
use Rattle.std.proofs.lemmas.Bool.{cases_Bool, cases_eq, or_cases, or_left, or_right}
use Rattle.mencius_base.specs.Command.{is_same_id}
use Rattle.mencius_base.specs.declared.command.Command.{Command}
use Rattle.mencius_base.specs.declared.command.CommandId.{CommandId}
use Rattle.mencius_model.specs.KeyMap.{key_of, value_at, is_read}
use Rattle.mencius_log.specs.declared.observation.Answer.{Answer}
use Rattle.mencius_log.specs.declared.observation.Answer.TheVariants.{Failed}
use Rattle.mencius_log.specs.declared.observation.Observation.{Observation}
use Rattle.mencius_log.specs.declared.observation.Observation.TheVariants.{Reply}
use Rattle.mencius_judge.specs.Answers.{IsRight, is_without_effect}
use Rattle.mencius_judge.specs.Linearization.{IsLinearization}
use Rattle.mencius_judge.specs.Log.{Log, acknowledged, acknowledged_before, command_of, commands_of, has_id, is_failed}
use Rattle.mencius_judge.proofs.keys.Changes.{key_cases}
use Rattle.mencius_judge.proofs.observations.OrderSteps.{split_at}
use Rattle.mencius_judge.proofs.promises.Identities.{has-append, other_id, same_id, same_id_eq}
use Rattle.mencius_judge.proofs.promises.Logs.{command_found, commands-append, known}
use Rattle.mencius_clients.specs.declared.configuration.Configuration.{Configuration}
use Rattle.mencius_clients.specs.Configurations.{AreRead, HasRead, HasStep, IsAcknowledged, IsBarred, IsIdle, IsLess, IsOneOf, IsRead, IsStep, IsUnacknowledged, become, has_slot, is_cas, text_at}
use Rattle.mencius_clients.specs.Reached.{AreWaiting, IsCurrent, IsLostAt, IsReached, Renaming, is_same_text, overwritten, sees}
use Rattle.mencius_clients.proofs.Later.{acknowledged_found, acknowledged_later, acknowledged_now, acknowledged_there, before_later, command_later}
use Rattle.mencius_clients.proofs.Lacking.{has_back, has_either, has_front, has_item, lacks, lacks_back, lacks_both}
use Rattle.mencius_clients.proofs.Renamings.{renamed_is, swapped, swapped_at, swapped_names, swapped_third}
use Rattle.mencius_clients.proofs.Unseen.{at_cas, at_other, at_same, at_seen, at_write, is_same, overwritten_more, same_texts, sees_early, sees_later, sees_lost}
use Rattle.mencius_clients.proofs.Values.{blind, effectless, read_same, value_elsewhere, value_there}
use Rattle.mencius_judge.proofs.acknowledged.OpenReplies.{is_true}

some_same : (a : Option Command) (b : Option Command) → is_some a ≡ true → ((c : Command) → a ≡ Some c → b ≡ Some c) → a ≡ b
some_same None b h f = absurd (cc)
some_same (Some c) b h f = sym (f c refl)

pub none_if : {A : Type 0} (o : Option A) → (is_some o ≡ true → ⊥) → o ≡ None
none_if None h = refl
none_if (Some x) h = absurd (h refl)

same_rest : (front xs ys : List CommandId) → front ++ xs ≡ front ++ ys → xs ≡ ys
same_rest [] xs ys e = e
same_rest (x ∷ front) xs ys e = same_rest front xs ys (cc)

-- ---- what the configuration has of the key's text

module _ (w : Log) (log : List Observation) (early : List CommandId) (key : List ℕ) (held : Option (List ℕ)) where
  -- nothing changes
  moved : (next : Option (List ℕ)) (rest back : List CommandId) (c : Configuration) → next ≡ held
      → overwritten w early key held rest ≡ overwritten w early key held back → IsCurrent w log early key held rest c
      → IsCurrent w log early key next back c
  moved next rest back c same fates (inl current) =
      inl (current.0 ∙ sym same, λ unseen. ap (λ v. overwritten w early key v back) same ∙ sym fates ∙ current.1 unseen)
  moved next rest back c same fates (inr stale_now) =
      inr (stale_now.0, ap (λ v. overwritten w early key v back) same ∙ sym fates ∙ stale_now.1)

  -- what someone sees is there
  fresh : (rest : List CommandId) (c : Configuration) → overwritten w early key held rest ≡ false → IsCurrent w log early key held rest c
      → text_at log c.text ≡ held
  fresh rest c seen (inl current) = current.0
  fresh rest c seen (inr stale_now) = absurd (cc (stale_now.1, seen))

  -- what no one sees was not written unseen
  stale : (rest : List CommandId) (c : Configuration) → overwritten w early key held rest ≡ true → IsCurrent w log early key held rest c
      → c.unseen ≡ false
  stale rest c gone (inl current) = ⊎_elim
      (λ (e : c.unseen ≡ true). let seen = current.1 e in absurd (cc (seen, gone)))
      (λ (e : c.unseen ≡ false). e)
      (cases_Bool (c.unseen))
  stale rest c gone (inr stale_now) = stale_now.0

module _ (w u later : Log) (id : CommandId) (answer : Answer) (counts : is_failed answer ≡ false)
    (whole : w ≡ later ++ Reply id answer ∷ u) (order : List CommandId) (lin : IsLinearization w order) where
  -- each command before it in the order was called by now
  called_by_now : (front back : List CommandId) (x : CommandId) → order ≡ front ++ x ∷ back → has_id front id ≡ false
      → is_some (command_of u x) ≡ true
  called_by_now front back x e none =
      ⊎_elim (λ (h : is_some (command_of u x) ≡ true). h)
      (λ (h : is_some (command_of u x) ≡ false).
      let new : command_of u x ≡ None = none_if (command_of u x) (λ g. cc) in
      let there : is_some (command_of w x) ≡ true = lin.submitted x (has_item order front back x e) in
      let before = before_later later (Reply id answer ∷ u) x id (acknowledged_now u id answer counts) new
      (subst (λ (l : Log). is_some (command_of l x) ≡ true) whole there) in
      let stands : has_id front id ≡ true = lin.real_time front back x id e
      (subst (λ (l : Log). has_id (acknowledged_before l x) id ≡ true) (sym whole) before) in absurd (cc))
      (cases_Bool (is_some (command_of u x)))

  module _ (log : List Observation) (key : List ℕ) (calls : ℕ → Option Command) (slot : ℕ) (command : Command)
      (waits : calls slot ≡ Some command) (its : command.id ≡ id) (waiting : AreWaiting log u key calls)
      (seen : (x : CommandId) (y : Answer) → Contains log (Reply x y) → Contains w (Reply x y))
      (known_too : (x : CommandId) (y : Answer) → Contains w (Reply x y) → Contains log (Reply x y))
      (work : List Configuration)
      (closed : (c : Configuration) → IsOneOf work c → has_slot c.done slot ≡ false
      → (t : ℕ) (d : Command) → calls t ≡ Some d → has_slot c.done t ≡ false
      → IsBarred log d c ⊎ HasStep log calls work t d c) where
    abbrev Reached : List CommandId → Configuration → Type 0
    Reached front c = IsReached w u log key calls order front c

    abbrev value : List CommandId → Option (List ℕ)
    value front = value_at key (commands_of w front)

    -- it is answered in the whole log
    id_answered : has_id (acknowledged w) id ≡ true
    id_answered = subst (λ (l : Log). has_id (acknowledged l) id ≡ true) (sym whole)
        (acknowledged_later later (Reply id answer ∷ u) id (acknowledged_now u id answer counts))

    -- ---- the front and one command more

    grown : (early front : List CommandId) (x y : CommandId)
        → has_id (early ++ (front ++ x ∷ [])) y ≡ (is_same_id x y || has_id (early ++ front) y)
    grown early front x y =
        ap (λ xs. has_id xs y) (sym (append_assoc early front (x ∷ []))) ∙ has-append (early ++ front) x y

    also : (early front : List CommandId) (x y : CommandId) → has_id (early ++ front) y ≡ true
        → has_id (early ++ (front ++ x ∷ [])) y ≡ true
    also early front x y h = grown early front x y ∙ or_right (is_same_id x y) (has_id (early ++ front) y) h

    apart : (early front : List CommandId) (x y : CommandId) → x ≢ y
        → has_id (early ++ (front ++ x ∷ [])) y ≡ has_id (early ++ front) y
    apart early front x y ne = grown early front x y ∙ ap (λ b. b || has_id (early ++ front) y) (other_id x y ne)

    -- a read that took effect before is there already
    there_before : (early front : List CommandId) (x y : CommandId) → has_id early x ≡ true
        → has_id (early ++ (front ++ x ∷ [])) y ≡ has_id (early ++ front) y
    there_before early front x y known_early = ⊎_elim
        (λ (there : has_id (early ++ front) y ≡ true). also early front x y there ∙ sym there)
        (λ (none : has_id (early ++ front) y ≡ false). apart early front x y (λ same.
        let there : has_id early y ≡ true = subst (λ (z : CommandId). has_id early z ≡ true) same known_early in
        let both = has_front early front y there in absurd (cc)))
        (cases_Bool (has_id (early ++ front) y))

    longer : (front back : List CommandId) (x : CommandId) (d : Command) (c e : Configuration) → (h : Reached front c)
        → order ≡ front ++ x ∷ back → has_id front id ≡ false → command_of w x ≡ Some d
        → ((t : ℕ) (f : Command) → calls t ≡ Some f → has_id (acknowledged w) f.id ≡ true
        → has_slot e.done t ≡ has_id (h.early ++ (front ++ x ∷ [])) f.id)
        → (names : Renaming w calls)
        → ((t : ℕ) (g f : Command) → IsLostAt w calls t g → has_slot e.done t ≡ true → calls (names.renamed t) ≡ Some f
        → has_id (h.early ++ (front ++ x ∷ [])) f.id ≡ true)
        → ((t : ℕ) → calls t ≡ None → has_slot e.done t ≡ false)
        → IsCurrent w log h.early key (value (front ++ x ∷ [])) back e
        → Reached (front ++ x ∷ []) e
    longer front back x d c e h splits none is taken names within free current = record {
      rest = back;
      splits = splits ∙ sym (append_assoc front (x ∷ []) back);
      early = h.early;
      reads = h.reads;
      called = λ y f has there own.
          elim (or_cases (is_same_id x y) (has_id front y) (sym (has-append front x y) ∙ has)) [
            | inl e ↦
                subst (λ (z : CommandId). is_some (command_of u z) ≡ true) (same_id_eq x y e)
                (called_by_now front back x splits none)
            | inr before ↦ h.called y f before there own
          ];
      returned = λ y f replied there own. also h.early front x y (h.returned y f replied there own);
      taken = taken;
      names = names;
      within = within;
      free = free;
      current = current;
    }

    -- the rest begins with the command
    rest_is : (front back : List CommandId) (x : CommandId) (c : Configuration) → (h : Reached front c)
        → order ≡ front ++ x ∷ back → IsCurrent w log h.early key (value front) (x ∷ back) c
    rest_is front back x c h splits =
        subst (λ rest. IsCurrent w log h.early key (value front) rest c) (same_rest front h.rest (x ∷ back) (sym h.splits ∙ splits))
        h.current

    -- a command that the configuration passes over. The configuration has all commands that have a reply
    skipped : (front back : List CommandId) (x : CommandId) (d : Command) (c : Configuration) → (h : Reached front c)
        → order ≡ front ++ x ∷ back → has_id front id ≡ false → command_of w x ≡ Some d
        → ((t : ℕ) (f : Command) → calls t ≡ Some f → has_id (acknowledged w) f.id ≡ true
        → has_id (h.early ++ (front ++ x ∷ [])) f.id ≡ has_id (h.early ++ front) f.id)
        → IsCurrent w log h.early key (value (front ++ x ∷ [])) back c → Reached (front ++ x ∷ []) c
    skipped front back x d c h splits none is same current =
        longer front back x d c c h splits none is
        (λ t f at there_is. h.taken t f at there_is ∙ sym (same t f at there_is))
        h.names (λ t g f at bit names. also h.early front x f.id (h.within t g f at bit names))
        h.free current

    -- a command of another key
    passed : (front back : List CommandId) (x : CommandId) (d : Command) (c : Configuration) → Reached front c
        → order ≡ front ++ x ∷ back → has_id front id ≡ false → command_of w x ≡ Some d → key_of d.op ≢ key
        → Reached (front ++ x ∷ []) c
    passed front back x d c h splits none is other =
        skipped front back x d c h splits none is
        (λ t f e there_is. apart h.early front x f.id (λ same.
        let there : command_of w f.id ≡ Some f =
        subst (λ (l : Log). command_of l f.id ≡ Some f) (sym whole)
        (command_later later (Reply id answer ∷ u) f.id f (waiting.called t f e)) in
        let one : d ≡ f = cc (is, there, same) in
        other (ap (λ (g : Command). key_of g.op) one ∙ waiting.of_key t f e)))
        (moved w log h.early key (value front) (value (front ++ x ∷ [])) (x ∷ back) back c
        (ap (value_at key) (commands-append w front x d is) ∙ value_elsewhere (commands_of w front) d key other)
        (at_other w h.early key (value front) x back d is other)
        (rest_is front back x c h splits))

    -- what the log says of a command that has a reply
    said : (x : CommandId) → has_id (acknowledged w) x ≡ true → IsAcknowledged log x
    said x there_is =
        let y = acknowledged_found w x there_is in (y.0, known_too x y.0 y.1, y.2)

    heard : (x : CommandId) → IsAcknowledged log x → has_id (acknowledged w) x ≡ true
    heard x there = acknowledged_there w x there.0 (seen x there.0 there.1) there.2

    unheard : (x : CommandId) → IsUnacknowledged log x → has_id (acknowledged w) x ≡ false
    unheard x none = ⊎_elim
        (λ (there : has_id (acknowledged w) x ≡ true). absurd (none (said x there)))
        (λ (gone : has_id (acknowledged w) x ≡ false). gone)
        (cases_Bool (has_id (acknowledged w) x))

    -- an acknowledged command of the key, by its step
    stepped : (front back : List CommandId) (x : CommandId) (d : Command) (c e : Configuration) (t : ℕ)
        → (h : Reached front c) → order ≡ front ++ x ∷ back → has_id front id ≡ false → command_of w x ≡ Some d
        → d.id ≡ x → has_id (acknowledged w) x ≡ true → calls t ≡ Some d → IsStep log calls t d c e
        → IsCurrent w log h.early key (value (front ++ x ∷ [])) back e → Reached (front ++ x ∷ []) e
    stepped front back x d c e t h splits none is ids replied at step current =
        longer front back x d c e h splits none is
        (λ s f there there_is.
        let y = said f.id there_is in
        ⊎_elim
        (λ (same : s ≡ t).
        let one : d ≡ f = cc (at, there, same) in
        ap (has_slot e.done) same
        ∙ step.here (subst (λ (g : Command). IsAcknowledged log g.id) (sym one) y)
        ∙ sym (here s f there same))
        (λ (ne : s ≢ t).
        step.elsewhere s f ne there y ∙ h.taken s f there there_is ∙ sym (apart h.early front x f.id (other s f there ne)))
        (cases_eq s t))
        h.names (λ s g f there bit names.
        also h.early front x f.id (h.within s g f there (step.within s (not_here s g there) bit) names))
        (λ s there. ⊎_elim
        (λ (bit : has_slot e.done s ≡ true).
        let was = step.within s (λ (same : s ≡ t). absurd (cc (at, there, same))) bit in
        let gone = h.free s there in absurd (cc))
        (λ (none_there : has_slot e.done s ≡ false). none_there)
        (cases_Bool (has_slot e.done s)))
        current
      where
        here : (s : ℕ) (f : Command) → calls s ≡ Some f → s ≡ t → has_id (h.early ++ (front ++ x ∷ [])) f.id ≡ true
        here s f there same =
            let one : d ≡ f = cc (at, there, same) in
            grown h.early front x f.id ∙ or_left (is_same_id x f.id) (has_id (h.early ++ front) f.id)
            (subst (λ (y : CommandId). is_same_id x y ≡ true) (sym ids ∙ ap (λ (g : Command). g.id) one) (same_id x))

        other : (s : ℕ) (f : Command) → calls s ≡ Some f → s ≢ t → x ≢ f.id
        other s f there ne same = ne (waiting.apart s t f d there at (sym (ids ∙ same)))

        not_here : (s : ℕ) (g : Command) → IsLostAt w calls s g → s ≢ t
        not_here s g lost same =
            let one : d ≡ g = cc (at, lost.0, same) in
            let gone : has_id (acknowledged w) x ≡ false =
            subst (λ (y : CommandId). has_id (acknowledged w) y ≡ false) (sym (ap (λ (a : Command). a.id) one) ∙ ids) lost.1 in
            absurd (cc)

    -- a command that is never acknowledged, by the step of an equal one. The slots of the two change names
    stepped_alike : (front back : List CommandId) (x : CommandId) (d : Command) (c e : Configuration) (t s origin : ℕ)
        (f g : Command) → (h : Reached front c) → order ≡ front ++ x ∷ back → has_id front id ≡ false
        → command_of w x ≡ Some d → d.id ≡ x → has_id (acknowledged w) x ≡ false → calls t ≡ Some d
        → origin ≡ h.names.origin t → IsLostAt w calls s f → IsLostAt w calls origin g → f.op ≡ g.op
        → has_slot c.done origin ≡ false → IsStep log calls s f c e
        → IsCurrent w log h.early key (value (front ++ x ∷ [])) back e → Reached (front ++ x ∷ []) e
    stepped_alike front back x d c e t s origin f g h splits none is ids lost at from first second equal unset step current =
        longer front back x d c e h splits none is
        (λ r a there there_is.
        step.elsewhere r a (not_here r a there there_is) there (said a.id there_is) ∙ h.taken r a there there_is
        ∙ sym (apart h.early front x a.id (other a there_is)))
        (swapped_names s origin w calls h.names f g first second equal)
        (λ r a b there bit named. elim (cases_eq r s) [
          | inl same ↦
              let one : b ≡ d = cc (
                sym named,
                ap calls (named_is r ∙ ap h.names.renamed (swapped_at s origin r same)
                    ∙ ap h.names.renamed from ∙ h.names.forward t) ∙ at,
              ) in
              now b (ap (λ (y : Command). y.id) one ∙ ids)
          | inr ne ↦ elim (cases_eq r origin) [
            | inl same ↦
                let was : has_slot c.done r ≡ true = step.within r ne bit in
                let gone : has_slot c.done r ≡ false = ap (has_slot c.done) same ∙ unset in absurd (cc)
            | inr far ↦
                also h.early front x b.id (h.within r a b there (step.within r ne bit)
                (ap calls (sym (named_is r ∙ ap h.names.renamed (swapped_third s origin r ne far))) ∙ named))
          ]
        ])
        (λ r there. ⊎_elim
        (λ (bit : has_slot e.done r ≡ true).
        let was = step.within r (λ (same : r ≡ s). let filled = first.0 in absurd (cc)) bit in
        let gone = h.free r there in absurd (cc))
        (λ (none_there : has_slot e.done r ≡ false). none_there)
        (cases_Bool (has_slot e.done r)))
        current
      where
        named_is : (r : ℕ) → (swapped_names s origin w calls h.names f g first second equal).renamed r
            ≡ h.names.renamed (swapped s origin r)
        named_is r = renamed_is s origin w calls h.names f g first second equal r

        not_here : (r : ℕ) (a : Command) → calls r ≡ Some a → has_id (acknowledged w) a.id ≡ true → r ≢ s
        not_here r a there there_is same =
            let one : f ≡ a = cc (first.0, there, same) in
            let gone : has_id (acknowledged w) a.id ≡ false =
            subst (λ (y : Command). has_id (acknowledged w) y.id ≡ false) one first.1 in absurd (cc)

        other : (a : Command) → has_id (acknowledged w) a.id ≡ true → x ≢ a.id
        other a there_is same =
            let gone : has_id (acknowledged w) a.id ≡ false =
            subst (λ (y : CommandId). has_id (acknowledged w) y ≡ false) same lost in absurd (cc)

        now : (b : Command) → b.id ≡ x → has_id (h.early ++ (front ++ x ∷ [])) b.id ≡ true
        now b same =
            grown h.early front x b.id ∙ or_left (is_same_id x b.id) (has_id (h.early ++ front) b.id)
            (subst (λ (y : CommandId). is_same_id x y ≡ true) (sym same) (same_id x))

    -- ---- configurations that stand for others

    -- after one read more
    reached_read : (front : List CommandId) (c d : Configuration) (t : ℕ) → Reached front c → IsRead log calls t c d
        → Reached front d
    reached_read front c d t h read = record {
      rest = h.rest;
      splits = h.splits;
      early = read.command.id ∷ h.early;
      reads = λ x has. elim (or_cases (is_same_id read.command.id x) (has_id h.early x) has) [
        | inl e ↦
            subst (λ (y : CommandId). (f : Command) × (command_of u y ≡ Some f) × (is_read f.op ≡ true)
            × (has_id (acknowledged w) y ≡ true)) (same_id_eq read.command.id x e)
            (read.command, waiting.called t read.command read.waits, read.reads, replied)
        | inr before ↦ h.reads x before
      ];
      called = h.called;
      returned = λ x f there is own.
          or_right (is_same_id read.command.id x) (has_id (h.early ++ front) x) (h.returned x f there is own);
      taken = λ s f at there. ⊎_elim
          (λ (same : s ≡ t). ap (has_slot d.done) same ∙ read.here ∙ sym (now s f at same))
          (λ (ne : s ≢ t). read.elsewhere s ne ∙ h.taken s f at there
          ∙ sym (ap (λ b. b || has_id (h.early ++ front) f.id) (other_id read.command.id f.id (other s f at ne))))
          (cases_eq s t);
      names = h.names;
      within = λ s g f at bit names. or_right (is_same_id read.command.id f.id) (has_id (h.early ++ front) f.id)
          (h.within s g f at (sym (read.elsewhere s (not_here s g at)) ∙ bit) names);
      free = λ s none. read.elsewhere s (λ (same : s ≡ t). absurd (filled s none same)) ∙ h.free s none;
      current = still (value front) h.rest h.current;
    }
      where
        replied : has_id (acknowledged w) read.command.id ≡ true
        replied = heard read.command.id read.answered

        not_here : (s : ℕ) (g : Command) → IsLostAt w calls s g → s ≢ t
        not_here s g lost same =
            let one : read.command ≡ g = cc (read.waits, lost.0, same) in
            let gone : has_id (acknowledged w) read.command.id ≡ false =
            subst (λ (a : Command). has_id (acknowledged w) a.id ≡ false) (sym one) lost.1 in absurd (cc (gone, replied))

        now : (s : ℕ) (f : Command) → calls s ≡ Some f → s ≡ t
            → (is_same_id read.command.id f.id || has_id (h.early ++ front) f.id) ≡ true
        now s f at same =
            let one : read.command ≡ f = cc (read.waits, at, same) in
            or_left (is_same_id read.command.id f.id) (has_id (h.early ++ front) f.id)
            (subst (λ (g : Command). is_same_id read.command.id g.id ≡ true) one (same_id read.command.id))

        other : (s : ℕ) (f : Command) → calls s ≡ Some f → s ≢ t → read.command.id ≢ f.id
        other s f at ne same = ne (waiting.apart s t f read.command at read.waits (sym same))

        filled : (s : ℕ) → calls s ≡ None → s ≡ t → ⊥
        filled s none same = let at = read.waits in cc

        still : (held : Option (List ℕ)) (rest : List CommandId) → IsCurrent w log h.early key held rest c
            → IsCurrent w log (read.command.id ∷ h.early) key held rest d
        still held rest (inl current) = inl (read.text ∙ current.0, λ unseen. let no_one = read.seen in absurd (cc))
        still held rest (inr stale_now) =
            inr (read.seen, overwritten_more w key h.early read.command.id held rest stale_now.1)

    reached_on : (slots : List ℕ) (front : List CommandId) (c d : Configuration) → Reached front c
        → AreRead log calls slots c d → Reached front d
    reached_on [] front c d h same = subst (Reached front) same h
    reached_on (t ∷ slots) front c d h more =
        reached_read front more.0 d t (reached_on slots front c more.0 h more.1) more.2

    -- with fewer commands that have no reply
    reached_less : (front : List CommandId) (c e : Configuration) → Reached front c → IsLess log calls e.done c.done
        → text_at log e.text ≡ text_at log c.text → (e.unseen ≡ true → c.unseen ≡ true) → Reached front e
    reached_less front c e h less text unseen = record {
      rest = h.rest;
      splits = h.splits;
      early = h.early;
      reads = h.reads;
      called = h.called;
      returned = h.returned;
      taken = λ t f at there. less.same t f at (said f.id there) ∙ h.taken t f at there;
      names = h.names;
      within = λ t g f at bit names. h.within t g f at (less.within t bit) names;
      free = λ t none. ⊎_elim
          (λ (bit : has_slot e.done t ≡ true). let was = less.within t bit in let gone = h.free t none in absurd (cc))
          (λ (no_bit : has_slot e.done t ≡ false). no_bit)
          (cases_Bool (has_slot e.done t));
      current = still (value front) h.rest h.current;
    }
      where
        still : (held : Option (List ℕ)) (rest : List CommandId) → IsCurrent w log h.early key held rest c
            → IsCurrent w log h.early key held rest e
        still held rest (inl current) = inl (text ∙ current.0, λ u. current.1 (unseen u))
        still held rest (inr stale_now) = inr (
          ⊎_elim
              (λ (bit : e.unseen ≡ true). let was = unseen bit in let gone = stale_now.0 in absurd (cc))
              (λ (no_bit : e.unseen ≡ false). no_bit)
              (cases_Bool e.unseen),
          stale_now.1,
        )

    abbrev Further : List CommandId → Type 0
    Further front = (e : Configuration) × IsOneOf work e × Reached front e

    arrived : (front : List CommandId) (c : Configuration) → Reached front c → HasRead log calls work c → Further front
    arrived front c h stands =
        let r = reached_on stands.1.0 front c stands.0 h stands.1.1 in
        let e = stands.2 in
        (e.0, e.1, reached_less front stands.0 e.0 r e.2 e.3 e.4)

    -- the command at the end of the front. It waits in a slot, and changes the text of the key
    module _ (front back : List CommandId) (x : CommandId) (d : Command) (c : Configuration) (one_of : IsOneOf work c)
        (h : Reached front c) (splits : order ≡ front ++ x ∷ back) (none_yet : has_id (h.early ++ front) id ≡ false)
        (is : command_of w x ≡ Some d) (own : key_of d.op ≡ key) where
      none : has_id front id ≡ false
      none = lacks_back h.early front id none_yet

      ids : d.id ≡ x
      ids = (command_found w x d is).1

      absent : has_id front x ≡ false
      absent = lacks order front [] back x lin.once splits

      away : has_id h.early x ≡ false → has_id (h.early ++ front) x ≡ false
      away not_early = lacks_both h.early front x not_early absent

      next_value : value (front ++ x ∷ []) ≡ become (value front) d.op
      next_value = ap (value_at key) (commands-append w front x d is) ∙ value_there (commands_of w front) d key own

      now : command_of u x ≡ Some d
      now =
          some_same (command_of u x) (command_of w x) (called_by_now front back x splits none)
          (λ f e. subst (λ (l : Log). command_of l x ≡ Some f) (sym whole)
          (command_later later (Reply id answer ∷ u) x f e)) ∙ is

      place : has_id h.early x ≡ false → ((t : ℕ) × (calls t ≡ Some d)) ⊎ IsIdle log d
      place not_early =
          waiting.all x d now own (⊎_elim
          (λ (replied : has_id (acknowledged u) x ≡ true).
          let has = h.returned x d replied is own in let gone = away not_early in absurd (cc))
          (λ (open_yet : has_id (acknowledged u) x ≡ false). open_yet)
          (cases_Bool (has_id (acknowledged u) x)))

      answered_bit : has_id h.early x ≡ false → has_id (acknowledged w) x ≡ true → (t : ℕ) → calls t ≡ Some d
          → has_slot c.done t ≡ false
      answered_bit not_early there_is t at =
          h.taken t d at (ap (has_id (acknowledged w)) ids ∙ there_is) ∙ ap (has_id (h.early ++ front)) ids ∙ away not_early

      lost_bit : has_id h.early x ≡ false → (t s : ℕ) (g : Command) → calls t ≡ Some d → IsLostAt w calls s g
          → h.names.renamed s ≡ t → has_slot c.done s ≡ false
      lost_bit not_early t s g at gone_at named = ⊎_elim
          (λ (there_is : has_slot c.done s ≡ true).
          let has : has_id (h.early ++ front) x ≡ true =
          ap (has_id (h.early ++ front)) (sym ids) ∙ h.within s g d gone_at there_is (ap calls named ∙ at) in
          let gone = away not_early in absurd (cc (has, gone)))
          (λ (no_bit : has_slot c.done s ≡ false). no_bit)
          (cases_Bool (has_slot c.done s))

      -- each of its replies is right for the text that the key holds there
      right : (y : Answer) → Contains log (Reply d.id y) → IsRight d.op (value front) y
      right y there = subst (λ k. IsRight d.op (value_at k (commands_of w front)) y) own
          (lin.answers front back x d y splits is
          (subst (λ (z : CommandId). Contains w (Reply z y)) ids (seen d.id y there)))

      -- an idle command changes nothing
      idle_same : IsIdle log d → become (value front) d.op ≡ value front
      idle_same idle = elim (idle.1) [
        | inl read ↦ read_same (value front) d.op read
        | inr failed ↦ effectless (value front) d.op (is_true (is_without_effect d.op (value front)) (right Failed failed))
      ]

      here : has_slot c.done slot ≡ false
      here =
          h.taken slot command waits (ap (λ (y : CommandId). has_id (acknowledged w) y) its ∙ id_answered)
          ∙ ap (has_id (h.early ++ front)) its ∙ none_yet

      current : IsCurrent w log h.early key (value front) (x ∷ back) c
      current = rest_is front back x c h splits

      -- it is a read that took effect before
      early_skip : has_id h.early x ≡ true → Further (front ++ x ∷ [])
      early_skip early =
          let read = h.reads x early in
          let one : read.0 ≡ d = cc (read.1, now) in
          let same : become (value front) d.op ≡ value front =
          read_same (value front) d.op (subst (λ (f : Command). is_read f.op ≡ true) one read.2) in (
            c,
            one_of,
            skipped front back x d c h splits none is (λ t f at there_is. there_before h.early front x f.id early)
                (moved w log h.early key (value front) (value (front ++ x ∷ [])) (x ∷ back) back c (next_value ∙ same)
                (at_same w h.early key (value front) x back d is own (sees_early w h.early x early)
                (subst (λ o. is_same_text o (value front) ≡ true) (sym same) (is_same (value front)))) current),
          )

      -- it is acknowledged
      answered_at : has_id h.early x ≡ false → (t : ℕ) → calls t ≡ Some d → has_id (acknowledged w) x ≡ true
          → Further (front ++ x ∷ [])
      answered_at not_early t at there_is =
          let there : IsAcknowledged log d.id = subst (IsAcknowledged log) (sym ids) (said x there_is) in
          let text : text_at log c.text ≡ value front =
          fresh w log h.early key (value front) (x ∷ back) c
          (at_seen w h.early key (value front) x back d is own (sees_later w h.early x not_early ∙ there_is)) current in
          elim (closed c one_of here t d at (answered_bit not_early there_is t at)) [
            | inl barred ↦ elim barred [
              | inl refuted ↦
                  absurd (refuted.1.2 (subst (λ held. IsRight d.op held refuted.1.0) (sym text) (right refuted.1.0 refuted.1.1)))
              | inr passed_over ↦ absurd (passed_over.0 there)
            ]
            | inr r ↦ elim (r.which) [
              | inl same ↦
                  let one : r.like ≡ d = cc (r.waits, at, same) in
                  let step : IsStep log calls t d c r.next =
                  subst (λ (f : Command). IsStep log calls t f c r.next) one
                  (subst (λ (s : ℕ). IsStep log calls s r.like c r.next) same r.step) in
                  arrived (front ++ x ∷ []) r.next
                  (stepped front back x d c r.next t h splits none is ids there_is at step
                  (inl (
                    step.text ∙ ap (λ o. become o d.op) text ∙ sym next_value,
                    λ unseen. let no_one = step.seen there in absurd (cc),
                  ))) r.stands
              | inr lost ↦ absurd (lost.0 there)
            ]
          ]

      answered_step : has_id h.early x ≡ false → has_id (acknowledged w) x ≡ true → Further (front ++ x ∷ [])
      answered_step not_early there_is = elim (place not_early) [
        | inl slot_of ↦ answered_at not_early slot_of.0 slot_of.1 there_is
        | inr idle ↦ absurd (idle.0 (subst (IsAcknowledged log) (sym ids) (said x there_is)))
      ]

      -- it has none: no configuration needs it
      lost_apart : has_id (acknowledged w) x ≡ false
          → (t : ℕ) (f : Command) → calls t ≡ Some f → has_id (acknowledged w) f.id ≡ true → x ≢ f.id
      lost_apart lost t f at there_is same =
          let no_one : has_id (acknowledged w) f.id ≡ false =
          subst (λ (y : CommandId). has_id (acknowledged w) y ≡ false) same lost in cc

      lost_late : has_id (acknowledged w) x ≡ false → has_id h.early x ≡ false
      lost_late lost = ⊎_elim
          (λ (early : has_id h.early x ≡ true). let read = h.reads x early in let replied = read.3 in absurd (cc))
          (λ (none_early : has_id h.early x ≡ false). none_early)
          (cases_Bool (has_id h.early x))

      lost_sees : has_id (acknowledged w) x ≡ false → sees w h.early x ≡ false
      lost_sees lost = sees_lost w h.early x lost

      lost_skip : has_id (acknowledged w) x ≡ false → IsCurrent w log h.early key (value (front ++ x ∷ [])) back c
          → Further (front ++ x ∷ [])
      lost_skip lost later_now = (
        c,
        one_of,
        skipped front back x d c h splits none is
            (λ t f at there_is. apart h.early front x f.id (lost_apart lost t f at there_is)) later_now,
      )

      -- or it takes effect, and changes what is seen
      lost_at : has_id (acknowledged w) x ≡ false → (t : ℕ) → calls t ≡ Some d → become (text_at log c.text) d.op ≡ become (value front) d.op
          → (become (text_at log c.text) d.op ≢ text_at log c.text) → (c.unseen ≡ true → is_cas d.op ≡ true)
          → overwritten w h.early key (become (value front) d.op) back ≡ false → Further (front ++ x ∷ [])
      lost_at lost t at same changes allowed seen_later =
          let gone : IsLostAt w calls t d = (at, ap (has_id (acknowledged w)) ids ∙ lost) in
          let first = h.names.alike_before t d gone in
          let unset = lost_bit (lost_late lost) t (h.names.origin t) first.0 at (first.1, first.3) (h.names.forward t) in
          elim (closed c one_of here (h.names.origin t) first.0 first.1 unset) [
            | inl barred ↦ elim barred [
              | inl refuted ↦ let replied = heard first.0.id refuted.0 in let none_at = first.3 in absurd (cc)
              | inr passed_over ↦ elim (passed_over.1) [
                | inl nothing ↦ absurd (changes (ap (become (text_at log c.text)) (sym first.2) ∙ nothing))
                | inr blind_write ↦
                    let compares = allowed blind_write.0 in
                    let blind_too : is_cas d.op ≡ false = ap is_cas (sym first.2) ∙ blind_write.1 in
                    absurd (cc (compares, blind_too))
              ]
            ]
            | inr r ↦ arrived (front ++ x ∷ []) r.next
                (stepped_alike front back x d c r.next t r.place (h.names.origin t) r.like first.0 h splits none is ids lost at
                refl (r.waits, lost_like first.0 (h.names.origin t) first.1 first.3 r) (first.1, first.3) r.equal unset r.step
                (inl (
                  r.step.text ∙ ap (become (text_at log c.text)) (r.equal ∙ first.2) ∙ same ∙ sym next_value,
                  λ unseen. ap (λ v. overwritten w h.early key v back) next_value ∙ seen_later,
                ))) r.stands
          ]
        where
          lost_like : (g : Command) (s : ℕ) → calls s ≡ Some g → has_id (acknowledged w) g.id ≡ false
              → (r : HasStep log calls work s g c) → has_id (acknowledged w) r.like.id ≡ false
          lost_like g s there none_at r = elim (r.which) [
            | inl it ↦
                let one : g ≡ r.like = cc (there, r.waits, it) in
                subst (λ (y : Command). has_id (acknowledged w) y.id ≡ false) one none_at
            | inr lost_both ↦ unheard r.like.id lost_both.1
          ]

      -- a command that changes the text there is not idle, and no reply to it is wrong
      lost_take : has_id (acknowledged w) x ≡ false → become (value front) d.op ≢ value front
          → become (text_at log c.text) d.op ≡ become (value front) d.op
          → (become (text_at log c.text) d.op ≢ text_at log c.text) → (c.unseen ≡ true → is_cas d.op ≡ true)
          → overwritten w h.early key (become (value front) d.op) back ≡ false → Further (front ++ x ∷ [])
      lost_take lost moves same changes allowed seen_later = elim (place (lost_late lost)) [
        | inl slot_of ↦ lost_at lost slot_of.0 slot_of.1 same changes allowed seen_later
        | inr idle ↦ absurd (moves (idle_same idle))
      ]

      lost_step : has_id (acknowledged w) x ≡ false → Further (front ++ x ∷ [])
      lost_step lost =
          elim (cases_Bool (is_same_text (become (value front) d.op) (value front))) [
            | inl same ↦
                lost_skip lost (moved w log h.early key (value front) (value (front ++ x ∷ [])) (x ∷ back) back c
                (next_value ∙ same_texts _ _ same) (at_same w h.early key (value front) x back d is own (lost_sees lost) same) current)
            | inr changes ↦ elim (cases_Bool (is_cas d.op)) [
              | inl compares ↦
                  lost_cas lost changes compares (cases_Bool (overwritten w h.early key (become (value front) d.op) back))
              | inr writes ↦
                  lost_write lost changes writes (cases_Bool (overwritten w h.early key (become (value front) d.op) back))
                  (cases_Bool (is_same_text (become (value front) d.op) (text_at log c.text)))
            ]
          ]
        where
          differs : (a b : Option (List ℕ)) → is_same_text a b ≡ false → a ≢ b
          differs a b e same = let yes_same : is_same_text a b ≡ true = subst (λ o. is_same_text a o ≡ true) same (is_same a) in cc

          lost_cas : has_id (acknowledged w) x ≡ false → is_same_text (become (value front) d.op) (value front) ≡ false
              → is_cas d.op ≡ true
              → (overwritten w h.early key (become (value front) d.op) back ≡ true)
              ⊎ (overwritten w h.early key (become (value front) d.op) back ≡ false)
              → Further (front ++ x ∷ [])
          lost_cas gone changes compares (inl gone_later) =
              let all : overwritten w h.early key (value front) (x ∷ back) ≡ true =
              at_cas w h.early key (value front) x back d is own (lost_sees gone) changes compares ∙ gone_later in
              lost_skip gone (inr (
                stale w log h.early key (value front) (x ∷ back) c all current,
                ap (λ v. overwritten w h.early key v back) next_value ∙ gone_later,
              ))
          lost_cas gone changes compares (inr seen_later) =
              let all : overwritten w h.early key (value front) (x ∷ back) ≡ false =
              at_cas w h.early key (value front) x back d is own (lost_sees gone) changes compares ∙ seen_later in
              let text : text_at log c.text ≡ value front = fresh w log h.early key (value front) (x ∷ back) c all current in
              lost_take gone (differs _ _ changes) (ap (λ o. become o d.op) text)
              (λ same. differs _ _ changes (ap (λ o. become o d.op) (sym text) ∙ same ∙ text))
              (λ unseen. compares) seen_later

          lost_write : has_id (acknowledged w) x ≡ false → is_same_text (become (value front) d.op) (value front) ≡ false
              → is_cas d.op ≡ false
              → (overwritten w h.early key (become (value front) d.op) back ≡ true)
              ⊎ (overwritten w h.early key (become (value front) d.op) back ≡ false)
              → (is_same_text (become (value front) d.op) (text_at log c.text) ≡ true)
              ⊎ (is_same_text (become (value front) d.op) (text_at log c.text) ≡ false)
              → Further (front ++ x ∷ [])
          lost_write gone changes writes (inl gone_later) either =
              let all : overwritten w h.early key (value front) (x ∷ back) ≡ true =
              at_write w h.early key (value front) x back d is own (lost_sees gone) changes writes in
              lost_skip gone (inr (
                stale w log h.early key (value front) (x ∷ back) c all current,
                ap (λ v. overwritten w h.early key v back) next_value ∙ gone_later,
              ))
          lost_write gone changes writes (inr seen_later) (inl same) =
              lost_skip gone (inl (
                sym (same_texts _ _ same) ∙ sym next_value,
                λ unseen. ap (λ v. overwritten w h.early key v back) next_value ∙ seen_later,
              ))
          lost_write gone changes writes (inr seen_later) (inr other) =
              let all : overwritten w h.early key (value front) (x ∷ back) ≡ true =
              at_write w h.early key (value front) x back d is own (lost_sees gone) changes writes in
              let quiet : c.unseen ≡ false = stale w log h.early key (value front) (x ∷ back) c all current in
              let same : become (text_at log c.text) d.op ≡ become (value front) d.op =
              blind (value front) (text_at log c.text) d.op writes (differs _ _ changes) in
              lost_take gone (differs _ _ changes) same (λ e. differs _ _ other (sym same ∙ e))
              (λ unseen. absurd (cc (unseen, quiet))) seen_later

      own_step : Further (front ++ x ∷ [])
      own_step = elim (cases_Bool (has_id h.early x)) [
        | inl early ↦ early_skip early
        | inr not_early ↦ elim (cases_Bool (has_id (acknowledged w) x)) [
          | inl replied ↦ answered_step not_early replied
          | inr lost ↦ lost_step lost
        ]
      ]

    one_more : (front back : List CommandId) (x : CommandId) (c : Configuration) → IsOneOf work c
        → (h : Reached front c) → order ≡ front ++ x ∷ back → has_id (h.early ++ front) id ≡ false → Further (front ++ x ∷ [])
    one_more front back x c one h splits none =
        let d = known (command_of w x) (lin.submitted x (has_item order front back x splits)) in
        elim (key_cases (key_of d.0.op) key) [
          | inl own ↦ own_step front back x d.0 c one h splits none d.1 own
          | inr other ↦ (c, one, passed front back x d.0 c h splits (lacks_back h.early front id none) d.1 other)
        ]

    -- and all up to the command that has its reply
    abbrev Answered : Type 0
    Answered = (front : List CommandId) × (e : Configuration) × IsOneOf work e × (h : Reached front e)
        × (has_id (h.early ++ front) id ≡ true)

    several : (more front back : List CommandId) (c : Configuration) → IsOneOf work c → (h : Reached front c)
        → order ≡ front ++ (more ++ id ∷ back) → has_id (h.early ++ front) id ≡ false → Answered
    several [] front back c one h splits none =
        let r = one_more front back id c one h splits none in (
          front ++ id ∷ [],
          r.0,
          r.1,
          r.2,
          has_back r.2.early (front ++ id ∷ []) id
              (has-append front id id ∙ or_left (is_same_id id id) (has_id front id) (same_id id)),
        )
    several (x ∷ more) front back c one h splits none =
        let r = one_more front (more ++ id ∷ back) x c one h splits none in
        let next : order ≡ (front ++ x ∷ []) ++ (more ++ id ∷ back) =
        splits ∙ sym (append_assoc front (x ∷ []) (more ++ id ∷ back)) in
        elim (cases_Bool (has_id (r.2.early ++ (front ++ x ∷ [])) id)) [
          | inl has ↦ (front ++ x ∷ [], r.0, r.1, r.2, has)
          | inr none_now ↦ several more (front ++ x ∷ []) back r.0 r.1 r.2 next none_now
        ]

    from_one : (front : List CommandId) (c : Configuration) → IsOneOf work c → Reached front c → Answered
    from_one front c one h =
        elim (cases_Bool (has_id (h.early ++ front) id)) [
          | inl has ↦ (front, c, one, h, has)
          | inr none ↦
              let stands : has_id order id ≡ true = lin.complete id id_answered in
              elim (has_either front h.rest id (subst (λ xs. has_id xs id ≡ true) h.splits stands)) [
                | inl has ↦ let gone = lacks_back h.early front id none in absurd (cc)
                | inr has ↦
                    let at = split_at h.rest id has in
                    several at.0 front at.1 c one h (h.splits ∙ ap (λ xs. front ++ xs) at.2) none
              ]
        ]

    pub answered : (front : List CommandId) (c : Configuration) → HasRead log calls work c → Reached front c → Answered
    answered front c stands h =
        let r = arrived front c h stands in from_one front r.0 r.1 r.2
