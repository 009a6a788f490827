-- How another line changes a search.
use Rattle.std.proofs.Common.{◌≡◌, ◌≢◌, inl, inr, ℕ, zero, suc, ◌<◌, length, arith, true, false, List, [], ◌∷◌, ◌++◌, Option, Some, None, is_some, refl, sym, subst, ap, ◌∙◌, ⊎_elim, slice_get}
use Rattle.std.specs.List.{Contains}
use Rattle.std.specs.BTreeMap.{Updates, get, get_by_text}
use Rattle.std.specs.FinMap.{get-empty}
use Rattle.std.specs.Ordering.{nat_cmp}
use Rattle.std.specs.Cmp.Lexicographic.{slice_cmp}
use Rattle.std.proofs.lemmas.Bool.{cases_Bool}
use Rattle.mencius_base.specs.declared.command.Command.{Command}
use Rattle.mencius_base.specs.declared.command.CommandId.{CommandId}
use Rattle.mencius_model.specs.KeyMap.{key_of}
use Rattle.mencius_log.specs.declared.observation.Observation.{Observation}
use Rattle.mencius_log.specs.declared.observation.Observation.TheVariants.{Submit, Execute, Reply, Lookup, Tell, Settle, Restore}
use Rattle.mencius_log.specs.declared.observation.Answer.{Answer}
use Rattle.mencius_log.specs.declared.observation.Answer.TheVariants.{Failed}
use Rattle.mencius_judge.specs.Linearization.{IsLinearization}
use Rattle.mencius_judge.specs.Log.{Log, acknowledged, acknowledged_before, command_of, has_id, is_failed}
use Rattle.mencius_judge.specs.Tables.{identity_key, number_count}
use Rattle.mencius_judge.proofs.keys.Changes.{key_cases}
use Rattle.mencius_judge.proofs.observations.OrderSteps.{split_at}
use Rattle.mencius_judge.proofs.promises.Identities.{get_here, get_there, id_cases}
use Rattle.mencius_judge.proofs.promises.Logs.{command_found, kept_command, new_command, other_command}
use Rattle.mencius_clients.specs.declared.configuration.Configuration.{Configuration}
use Rattle.mencius_clients.specs.declared.outcome.Outcome.{Outcome}
use Rattle.mencius_clients.specs.declared.outcome.Outcome.TheVariants.{Goes, Unexplained, Waiting, Configurations}
use Rattle.mencius_clients.specs.declared.search.Search.{Search}
use Rattle.mencius_clients.specs.Configurations.{AreFull, IsAcknowledged, IsAnswered, IsCrowded, IsFreed, IsIdle, IsOneOf, IsPlaced, IsSettled, IsTaken, IsWaitingAt, command_at, has_slot, no_slots, submitted_by, waiting}
use Rattle.mencius_clients.specs.Explained.{AreManyWaiting, IsLinearizable}
use Rattle.mencius_clients.specs.Reached.{AreWaiting, IsReached}
use Rattle.mencius_clients.specs.Searched.{HasSearched, IsAfter, IsSearched, called_at, configurations_of, slots_of}
use Rattle.mencius_clients.proofs.Later.{acknowledged_either, acknowledged_found, acknowledged_later, acknowledged_now, before_later, command_later}
use Rattle.mencius_clients.proofs.Moves.{IsQuiet, command_more, reached_called, reached_freed, reached_idle, reached_still, some_more, waiting_called, waiting_freed, waiting_idle, waiting_still}
use Rattle.mencius_clients.proofs.Words.{no_slot}
use Rattle.mencius_clients.proofs.Renamings.{same_names}
use Rattle.mencius_clients.proofs.Lacking.{lacks}
use Rattle.mencius_clients.proofs.Reaching.{answered}
use Rattle.mencius_clients.proofs.ReplyLines.{is_failed_reply}

-- ---- nothing was read

pub fresh : (w : Log) (log : List Observation) (key : List ℕ) → IsSearched w [] log key (slots_of None) (configurations_of None)
fresh w log key = record {
  waits = record {
    of_key = λ t c e. absurd (cc);
    called = λ t c e. absurd (cc);
    open_yet = λ t c e. absurd (cc);
    apart = λ t s c d e. absurd (cc);
    all = λ id c e. absurd (cc);
  };
  covering = λ order lin. (
    [],
    record { done = no_slots; text = 0; unseen = false; trail = 0 },
    (0, refl),
    record {
      rest = order;
      splits = refl;
      early = [];
      reads = λ id has. absurd (cc);
      names = same_names w (waiting log (slots_of None));
      called = λ id d e. absurd (cc);
      returned = λ id d e. absurd (cc);
      taken = λ t d e. absurd (cc);
      within = λ t d f lost. let at = lost.0 in absurd (cc);
      free = λ t e. no_slot t;
      current = inl (sym (get-empty {X = List ℕ} (slice_cmp nat_cmp) key), λ unseen. absurd (cc));
    },
  );
}

pub nothing : (w : Log) (log : List Observation) (s : Search)
    → ((id : CommandId) → get nat_cmp s.calls (identity_key id) ≡ None)
    → ((key : List ℕ) → get_by_text s.by_key key ≡ None) → HasSearched w [] log s
nothing w log s calls keys = record {
  calls = λ id small. ap (called_at log) (calls id);
  submitted = λ id e. absurd (cc);
  keys = λ key. subst (λ o. IsSearched w [] log key (slots_of o) (configurations_of o)) (sym (keys key)) (fresh w log key);
}

-- ---- a line that says nothing new of a key

searched_still : (w u : Log) (log : List Observation) (o : Observation) (key : List ℕ) (slots : List (Option ℕ))
    (cs : List Configuration) → IsQuiet w u o key → IsSearched w u log key slots cs → IsSearched w (o ∷ u) log key slots cs
searched_still w u log o key slots cs quiet h = record {
  waits = waiting_still w u o key quiet (waiting log slots) log h.waits;
  covering = λ order lin.
      let r = h.covering order lin in
      (r.0, r.1, r.2, reached_still w u o key quiet (waiting log slots) log order r.0 r.1 r.3);
}

-- a line that is neither a submission nor a reply other than `failed`
abbrev pub Passes : Observation → Type 0
Passes o = ((c : Command) → o ≡ Submit c → ⊥) × ((id : CommandId) (x : Answer) → o ≡ Reply id x → is_failed x ≡ true)

pub passed_over : (w u : Log) (log : List Observation) (s : Search) (o : Observation) → Passes o
    → HasSearched w u log s → HasSearched w (o ∷ u) log s
passed_over w u log s (Submit c) passes h = absurd (passes.0 c refl)
passed_over w u log s (Reply id x) passes h =
    subst (λ (y : Answer). HasSearched w (Reply id y ∷ u) log s) (sym (is_failed_reply x (passes.1 id x refl))) record {
      calls = h.calls;
      submitted = h.submitted;
      keys = λ key. searched_still w u log (Reply id Failed) key _ _
          record { commands = λ y c e own. e; replies = λ y c e is own. e; open_still = λ y c is own e. e } (h.keys key);
    }
passed_over w u log s (Execute p id) passes h = record {
  calls = h.calls;
  submitted = h.submitted;
  keys = λ key. searched_still w u log (Execute p id) key _ _
      record { commands = λ x c e own. e; replies = λ x c e is own. e; open_still = λ x c is own e. e } (h.keys key);
}
passed_over w u log s (Lookup r k x) passes h = record {
  calls = h.calls;
  submitted = h.submitted;
  keys = λ key. searched_still w u log (Lookup r k x) key _ _
      record { commands = λ y c e own. e; replies = λ y c e is own. e; open_still = λ y c is own e. e } (h.keys key);
}
passed_over w u log s (Tell r p) passes h = record {
  calls = h.calls;
  submitted = h.submitted;
  keys = λ key. searched_still w u log (Tell r p) key _ _
      record { commands = λ x c e own. e; replies = λ x c e is own. e; open_still = λ x c is own e. e } (h.keys key);
}
passed_over w u log s (Settle p) passes h = record {
  calls = h.calls;
  submitted = h.submitted;
  keys = λ key. searched_still w u log (Settle p) key _ _
      record { commands = λ x c e own. e; replies = λ x c e is own. e; open_still = λ x c is own e. e } (h.keys key);
}
passed_over w u log s (Restore p q n) passes h = record {
  calls = h.calls;
  submitted = h.submitted;
  keys = λ key. searched_still w u log (Restore p q n) key _ _
      record { commands = λ x c e own. e; replies = λ x c e is own. e; open_still = λ x c is own e. e } (h.keys key);
}

-- ---- submissions

-- once more
pub called_again : (w u : Log) (log : List Observation) (s : Search) (c : Command) → is_some (command_of u c.id) ≡ true
    → HasSearched w u log s → HasSearched w (Submit c ∷ u) log s
called_again w u log s c there h = record {
  calls = λ id small. h.calls id small ∙ sym (same id);
  submitted = λ id e. some_more u (Submit c) id (h.submitted id e);
  keys = λ key. searched_still w u log (Submit c) key _ _
      record {
        commands = λ id d e own. sym (same id) ∙ e;
        replies = λ id d e is own. e;
        open_still = λ id d is own e. e;
      } (h.keys key);
}
  where
    same : (id : CommandId) → command_of (Submit c ∷ u) id ≡ command_of u id
    same id = elim (id_cases c.id id) [
      | inl e ↦ kept_command u c id (subst (λ (x : CommandId). is_some (command_of u x) ≡ true) e there)
      | inr ne ↦ other_command u c id ne
    ]

-- these are the identities of the commands in the slots
abbrev AreOf : List Observation → List (Option ℕ) → List CommandId → Type 0
AreOf log slots ids =
    (n : ℕ) (id : CommandId) → slice_get ids n ≡ Some id → (d : Command) × (waiting log slots n ≡ Some d) × (d.id ≡ id)

ids_of : (log : List Observation) (slots : List (Option ℕ)) → AreFull log slots
    → (ids : List CommandId) × (length ids ≡ length slots)
    × AreOf log slots ids
ids_of log [] all = ([], refl, λ n id e. absurd (cc))
ids_of log (x ∷ slots) all =
    let first = all 0 (omega arith) in
    let rest = ids_of log slots (λ t less. all (suc t) (omega (arith, less))) in
    (first.0.id ∷ rest.0, ap suc rest.1, each_more first.0 rest.0 first.1 rest.2)
  where
    each_more : (d : Command) (ids : List CommandId) → waiting log (x ∷ slots) 0 ≡ Some d
        → AreOf log slots ids → AreOf log (x ∷ slots) (d.id ∷ ids)
    each_more d ids at h zero id e = (d, at, cc (e))
    each_more d ids at h (suc n) id e = h n id e

module _ (w u later : Log) (log : List Observation) (c : Command) (whole : w ≡ later ++ Submit c ∷ u)
    (first : command_of u c.id ≡ None) (unsaid : has_id (acknowledged u) c.id ≡ false) (line : ℕ)
    (at : submitted_by (slice_get log line) ≡ Some c) where
  own_called : (old new : List (Option ℕ)) (before after : List Configuration) → IsPlaced log old new line → after ≡ before
      → IsSearched w u log (key_of c.op) old before → IsSearched w (Submit c ∷ u) log (key_of c.op) new after
  own_called old new before after placed same h = record {
    waits = waiting_called w u later c whole first (key_of c.op) refl (waiting log old) (waiting log new) placed.slot
        placed.free (ap (command_at log) placed.here ∙ at)
        (λ t ne. ap (command_at log) (placed.elsewhere t ne)) log unsaid h.waits;
    covering = λ order lin.
        let r = h.covering order lin in (
          r.0,
          r.1,
          (r.2.0, ap (λ xs. slice_get xs r.2.0) same ∙ r.2.1),
          reached_called w u later c whole first (key_of c.op) refl (waiting log old) (waiting log new) placed.slot
              placed.free (ap (command_at log) placed.here ∙ at)
              (λ t ne. ap (command_at log) (placed.elsewhere t ne)) log order r.0 r.1 r.3,
        );
  }

  other_quiet : (key : List ℕ) → key ≢ key_of c.op → IsQuiet w u (Submit c) key
  other_quiet key ne = record {
    commands = λ id d e own. elim (id_cases c.id id) [
      | inl same ↦
          let now : command_of (Submit c ∷ u) id ≡ Some c =
          subst (λ (x : CommandId). command_of (Submit c ∷ u) x ≡ Some c) same (new_command u c first) in
          let one : d ≡ c = cc in
          absurd (ne (sym own ∙ ap (λ (f : Command). key_of f.op) one))
      | inr other ↦ sym (other_command u c id other) ∙ e
    ];
    replies = λ id d e is own. e;
    open_still = λ id d is own e. e;
  }

  calls_more : (s t : Search) → c.id.number < number_count
      → Updates nat_cmp s.calls t.calls (identity_key c.id) (Some line) → HasSearched w u log s
      → (id : CommandId) → id.number < number_count
      → called_at log (get nat_cmp t.calls (identity_key id)) ≡ command_of (Submit c ∷ u) id
  calls_more s t small updates h id less = elim (id_cases c.id id) [
    | inl e ↦
        ap (λ (x : CommandId). called_at log (get nat_cmp t.calls (identity_key x))) (sym e)
        ∙ ap (called_at log) (get_here s.calls t.calls c.id line updates) ∙ at
        ∙ sym (new_command u c first) ∙ ap (command_of (Submit c ∷ u)) e
    | inr ne ↦
        ap (called_at log) (get_there s.calls t.calls c.id id line updates small less ne) ∙ h.calls id less
        ∙ sym (other_command u c id ne)
  ]

  pub called_first : (s t : Search) → c.id.number < number_count
      → Updates nat_cmp s.calls t.calls (identity_key c.id) (Some line)
      → IsPlaced log (slots_of (get_by_text s.by_key (key_of c.op))) (slots_of (get_by_text t.by_key (key_of c.op))) line
      → configurations_of (get_by_text t.by_key (key_of c.op)) ≡ configurations_of (get_by_text s.by_key (key_of c.op))
      → ((x : List ℕ) → x ≢ key_of c.op → get_by_text t.by_key x ≡ get_by_text s.by_key x)
      → HasSearched w u log s → HasSearched w (Submit c ∷ u) log t
  called_first s t small updates placed same others h = record {
    calls = calls_more s t small updates h;
    submitted = λ id e. some_more u (Submit c) id (h.submitted id e);
    keys = λ key. elim (key_cases key (key_of c.op)) [
      | inl own ↦
          subst (λ k. IsSearched w (Submit c ∷ u) log k (slots_of (get_by_text t.by_key k))
          (configurations_of (get_by_text t.by_key k))) (sym own)
          (own_called _ _ _ _ placed same (h.keys (key_of c.op)))
      | inr ne ↦
          subst (λ o. IsSearched w (Submit c ∷ u) log key (slots_of o) (configurations_of o)) (sym (others key ne))
          (searched_still w u log (Submit c) key _ _ (other_quiet key ne) (h.keys key))
    ];
  }

  -- an idle command takes no slot
  pub called_idle : (s t : Search) → IsIdle log c → c.id.number < number_count
      → Updates nat_cmp s.calls t.calls (identity_key c.id) (Some line) → t.by_key ≡ s.by_key
      → HasSearched w u log s → HasSearched w (Submit c ∷ u) log t
  called_idle s t idle small updates same h = record {
    calls = calls_more s t small updates h;
    submitted = λ id e. some_more u (Submit c) id (h.submitted id e);
    keys = λ key.
        let o = get_by_text t.by_key key in
        let old : IsSearched w u log key (slots_of o) (configurations_of o) =
        subst (λ m. IsSearched w u log key (slots_of (get_by_text m key)) (configurations_of (get_by_text m key))) (sym same)
        (h.keys key) in
        record {
          waits = waiting_idle w u log c first idle key (waiting log (slots_of o)) old.waits;
          covering = λ order lin.
              let r = old.covering order lin in
              (r.0, r.1, r.2, reached_idle w u log c first idle key (waiting log (slots_of o)) order r.0 r.1 r.3);
        };
  }

  -- with the command, too many of its key wait
  pub called_crowded : (slots : List (Option ℕ)) → IsCrowded log slots → AreWaiting log u (key_of c.op) (waiting log slots)
      → AreManyWaiting (Submit c ∷ u)
  called_crowded slots crowded h =
      let all = ids_of log slots crowded.1 in record {
        command = c;
        earlier = u;
        ends = refl;
        ids = c.id ∷ all.0;
        many = omega (arith, crowded.0, all.1);
        once = apart_all all.0 all.2;
        each = each_of all.0 all.2;
      }
    where
      new_one : (t : ℕ) (d : Command) → waiting log slots t ≡ Some d → d.id ≡ c.id → ⊥
      new_one t d e same =
          let there = h.called t d e in
          let gone : command_of u d.id ≡ None = ap (command_of u) same ∙ first in cc

      apart_all : (ids : List CommandId) → AreOf log slots ids → (n m : ℕ) (id : CommandId) → slice_get (c.id ∷ ids) n ≡ Some id
          → slice_get (c.id ∷ ids) m ≡ Some id → n ≡ m
      apart_all ids of zero zero id e f = refl
      apart_all ids of zero (suc m) id e f =
          let it = of m id f in
          let its : c.id ≡ id = cc (e) in
          absurd (new_one m it.0 it.1 (it.2 ∙ sym its))
      apart_all ids of (suc n) zero id e f =
          let it = of n id e in
          let its : c.id ≡ id = cc (f) in
          absurd (new_one n it.0 it.1 (it.2 ∙ sym its))
      apart_all ids of (suc n) (suc m) id e f =
          let it = of n id e in
          let other = of m id f in
          ap suc (h.apart n m it.0 other.0 it.1 other.1 (it.2 ∙ sym other.2))

      each_of : (ids : List CommandId) → AreOf log slots ids → (n : ℕ) (id : CommandId) → slice_get (c.id ∷ ids) n ≡ Some id
          → (d : Command) × (command_of (Submit c ∷ u) id ≡ Some d) × (key_of d.op ≡ key_of c.op)
          × (has_id (acknowledged (Submit c ∷ u)) id ≡ false)
      each_of ids of zero id e =
          let its : c.id ≡ id = cc (e) in (
            c,
            subst (λ (x : CommandId). command_of (Submit c ∷ u) x ≡ Some c) its (new_command u c first),
            refl,
            subst (λ (x : CommandId). has_id (acknowledged u) x ≡ false) its unsaid,
          )
      each_of ids of (suc n) id e =
          let it = of n id e in (
            it.0,
            subst (λ (x : CommandId). command_of (Submit c ∷ u) x ≡ Some it.0) it.2
                (command_more u (Submit c) it.0.id it.0 (h.called n it.0 it.1)),
            h.of_key n it.0 it.1,
            subst (λ (x : CommandId). has_id (acknowledged u) x ≡ false) it.2 (h.open_yet n it.0 it.1),
          )

-- a command that was not submitted was not acknowledged
pub unsaid_of : (w u : Log) (log : List Observation) (s : Search) (id : CommandId) → command_of u id ≡ None
    → HasSearched w u log s → has_id (acknowledged u) id ≡ false
unsaid_of w u log s id first h = ⊎_elim
    (λ (e : has_id (acknowledged u) id ≡ true). let there = h.submitted id e in absurd (cc))
    (λ (e : has_id (acknowledged u) id ≡ false). e)
    (cases_Bool (has_id (acknowledged u) id))

-- ---- replies

pub failed_passes : (id : CommandId) (x : Answer) → is_failed x ≡ true → Passes (Reply id x)
failed_passes id x e = (λ c same. absurd (cc), λ y z same. let one : x ≡ z = cc in subst (λ (a : Answer). is_failed a ≡ true) one e)

-- if a command was acknowledged before it was submitted, no order is a linearization
pub unknown : (w u later : Log) (id : CommandId) (answer : Answer) → is_failed answer ≡ false
    → w ≡ later ++ Reply id answer ∷ u → command_of u id ≡ None → IsLinearizable w → ⊥
unknown w u later id answer counts whole none (order, lin) =
    let replied : has_id (acknowledged w) id ≡ true =
    subst (λ (l : Log). has_id (acknowledged l) id ≡ true) (sym whole)
    (acknowledged_later later (Reply id answer ∷ u) id (acknowledged_now u id answer counts)) in
    let stands = lin.complete id replied in
    let at = split_at order id stands in
    let there = subst (λ (l : Log). is_some (command_of l id) ≡ true) whole (lin.submitted id stands) in
    let before = before_later later (Reply id answer ∷ u) id id (acknowledged_now u id answer counts) none there in
    let inside : has_id at.0 id ≡ true = lin.real_time at.0 at.1 id id at.2
    (subst (λ (l : Log). has_id (acknowledged_before l id) id ≡ true) (sym whole) before) in
    let outside : has_id at.0 id ≡ false = lacks order at.0 [] at.1 id lin.once at.2 in
    cc

-- a command that the reply does not acknowledge
still_open : (u : Log) (id : CommandId) (answer : Answer) (x : CommandId) → has_id (acknowledged u) x ≡ false
    → (id ≡ x → ⊥) → has_id (acknowledged (Reply id answer ∷ u)) x ≡ false
still_open u id answer x none other = ⊎_elim
    (λ (now : has_id (acknowledged (Reply id answer ∷ u)) x ≡ true).
    elim (acknowledged_either u id x answer now) [ inl same ↦ absurd (other same) | inr before ↦ absurd (cc) ])
    (λ (e : has_id (acknowledged (Reply id answer ∷ u)) x ≡ false). e)
    (cases_Bool (has_id (acknowledged (Reply id answer ∷ u)) x))

module _ (w u later : Log) (log : List Observation) (id : CommandId) (answer : Answer) (counts : is_failed answer ≡ false)
    (c : Command) (whole : w ≡ later ++ Reply id answer ∷ u) (is : command_of u id ≡ Some c)
    (seen : (x : CommandId) (y : Answer) → Contains log (Reply x y) → Contains w (Reply x y))
    (known_too : (x : CommandId) (y : Answer) → Contains w (Reply x y) → Contains log (Reply x y)) where
  said : (x : CommandId) → has_id (acknowledged w) x ≡ true → IsAcknowledged log x
  said x there =
      let y = acknowledged_found w x there in (y.0, known_too x y.0 y.1, y.2)

  said_now : has_id (acknowledged w) id ≡ true
  said_now = subst (λ (l : Log). has_id (acknowledged l) id ≡ true) (sym whole)
      (acknowledged_later later (Reply id answer ∷ u) id (acknowledged_now u id answer counts))

  in_whole : command_of w id ≡ Some c
  in_whole = subst (λ (l : Log). command_of l id ≡ Some c) (sym whole) (command_later later (Reply id answer ∷ u) id c is)

  -- of the settled configurations one stands for a beginning of the order that has the command
  pub record IsSettledOne (slots : List (Option ℕ)) (next : List Configuration) (slot : ℕ) (order : List CommandId)
      : Type 0 where
    pub front : List CommandId
    pub before : Configuration
    pub after : Configuration
    pub among : IsOneOf next after
    pub reached : IsReached w u log (key_of c.op) (waiting log slots) order front before
    pub has : has_id (reached.early ++ front) id ≡ true
    pub freed : IsFreed log (waiting log slots) slot before after

  settled_one : (slots : List (Option ℕ)) (cs next : List Configuration) (slot : ℕ) → IsWaitingAt log slots id slot
      → IsSettled log slots cs slot next → IsSearched w u log (key_of c.op) slots cs
      → (order : List CommandId) → IsLinearization w order → IsSettledOne slots next slot order
  settled_one slots cs next slot waited settled h order lin =
      let command : Command = waited.0 in
      let r = h.covering order lin in
      let a = answered w u later id answer counts whole order lin log (key_of c.op) (waiting log slots) slot command waited.1
      waited.2 h.waits seen known_too settled.work settled.closed r.0 r.1 (settled.begins r.1 r.2) r.3 in
      let bit : has_slot a.1.done slot ≡ true =
      a.3.taken slot command waited.1
      (ap (λ (x : CommandId). has_id (acknowledged w) x) waited.2 ∙ said_now)
      ∙ ap (has_id (a.3.early ++ a.0)) waited.2 ∙ a.4 in
      let f = settled.freed a.1 a.2 bit in
      record { front = a.0; before = a.1; after = f.0; among = f.1; reached = a.3; has = a.4; freed = f.2 }

  own_taken : (old new : List (Option ℕ)) (before after : List Configuration) → IsTaken log id old before new after
      → IsSearched w u log (key_of c.op) old before → IsSearched w (Reply id answer ∷ u) log (key_of c.op) new after
  own_taken old new before after taken h =
      let here : waiting log new taken.slot ≡ None = ap (command_at log) taken.here in
      let elsewhere : (t : ℕ) → t ≢ taken.slot → waiting log new t ≡ waiting log old t =
      λ t ne. ap (command_at log) (taken.elsewhere t ne) in
      let kept : (f : Command) → waiting log old taken.slot ≡ Some f → has_id (acknowledged w) f.id ≡ true =
      λ f at.
      let one : taken.waited.0 ≡ f = cc (at, taken.waited.1) in
      subst (λ (x : CommandId). has_id (acknowledged w) x ≡ true) (sym taken.waited.2 ∙ ap (λ (g : Command). g.id) one) said_now in
      record {
        waits = waiting_freed w u id answer counts (key_of c.op) (waiting log old) (waiting log new) taken.slot here elsewhere
            log taken.waited.0 taken.waited.1 taken.waited.2 h.waits;
        covering = λ order lin.
            let r = settled_one old before after taken.slot taken.waited taken.settled h order lin in (
              r.front,
              r.after,
              r.among,
              reached_freed w u id answer counts (key_of c.op) (waiting log old) (waiting log new) taken.slot here elsewhere log order
                  r.front r.before r.after kept said r.reached r.has r.freed,
            );
      }

  -- a command that waits no more was acknowledged before
  own_quiet : (slots : List (Option ℕ)) → AreWaiting log u (key_of c.op) (waiting log slots)
      → ((t : ℕ) → IsWaitingAt log slots id t → ⊥) → IsQuiet w u (Reply id answer) (key_of c.op)
  own_quiet slots h none = record {
    commands = λ x d e own. e;
    replies = λ x d e there own. before x e;
    open_still = λ x d is own e. still_open u id answer x e (λ same. let was = before x (now_too x same) in cc);
  }
    where
      now_too : (x : CommandId) → id ≡ x → has_id (acknowledged (Reply id answer ∷ u)) x ≡ true
      now_too x same = subst (λ (y : CommandId). has_id (acknowledged (Reply id answer ∷ u)) y ≡ true) same
          (acknowledged_now u id answer counts)

      replied : has_id (acknowledged u) id ≡ true
      replied = ⊎_elim (λ (e : has_id (acknowledged u) id ≡ true). e)
          (λ (e : has_id (acknowledged u) id ≡ false).
          elim (h.all id c is refl e) [
            | inl at ↦ absurd (none at.0 (c, at.1, (command_found u id c is).1))
            | inr idle ↦ absurd (idle.0 (subst (IsAcknowledged log) (sym (command_found u id c is).1) (said id said_now)))
          ])
          (cases_Bool (has_id (acknowledged u) id))

      before : (x : CommandId) → has_id (acknowledged (Reply id answer ∷ u)) x ≡ true → has_id (acknowledged u) x ≡ true
      before x e = elim (acknowledged_either u id x answer e) [
        | inl same ↦ subst (λ (y : CommandId). has_id (acknowledged u) y ≡ true) same replied
        | inr was ↦ was
      ]

  other_reply : (key : List ℕ) → key ≢ key_of c.op → IsQuiet w u (Reply id answer) key
  other_reply key ne = record {
    commands = λ x d e own. e;
    replies = λ x d e there own. elim (acknowledged_either u id x answer e) [
      | inl same ↦
          let now : command_of w x ≡ Some c = subst (λ (y : CommandId). command_of w y ≡ Some c) same in_whole in
          let one : d ≡ c = cc in
          absurd (ne (sym own ∙ ap (λ (f : Command). key_of f.op) one))
      | inr before ↦ before
    ];
    open_still = λ x d there own e. still_open u id answer x e (λ same.
        let now : command_of u x ≡ Some c = subst (λ (y : CommandId). command_of u y ≡ Some c) same is in
        let one : d ≡ c = cc in
        ne (sym own ∙ ap (λ (f : Command). key_of f.op) one));
  }

  own_goes : (old new : List (Option ℕ)) (before after : List Configuration) → IsAnswered log id old before new after Goes
      → IsSearched w u log (key_of c.op) old before → IsSearched w (Reply id answer ∷ u) log (key_of c.op) new after
  own_goes old new before after (inr taken) h = own_taken old new before after taken h
  own_goes old new before after (inl quiet) h =
      subst (λ xs. IsSearched w (Reply id answer ∷ u) log (key_of c.op) xs after) (sym quiet.1)
      (subst (IsSearched w (Reply id answer ∷ u) log (key_of c.op) old) (sym quiet.2)
      (searched_still w u log (Reply id answer) (key_of c.op) old before (own_quiet old h.waits quiet.0) h))

  pub replied : (s t : Search) (outcome : Outcome) → t.calls ≡ s.calls
      → IsAnswered log id (slots_of (get_by_text s.by_key (key_of c.op)))
      (configurations_of (get_by_text s.by_key (key_of c.op))) (slots_of (get_by_text t.by_key (key_of c.op)))
      (configurations_of (get_by_text t.by_key (key_of c.op))) outcome
      → ((x : List ℕ) → x ≢ key_of c.op → get_by_text t.by_key x ≡ get_by_text s.by_key x)
      → HasSearched w u log s → IsAfter w (Reply id answer ∷ u) log t outcome
  replied s t Goes calls own others h = record {
    calls = λ x small. ap (λ m. called_at log (get nat_cmp m (identity_key x))) calls ∙ h.calls x small;
    submitted = λ x e. elim (acknowledged_either u id x answer e) [
      | inl same ↦ subst (λ (y : CommandId). is_some (command_of u y) ≡ true) same (ap is_some is)
      | inr before ↦ h.submitted x before
    ];
    keys = λ key. elim (key_cases key (key_of c.op)) [
      | inl same ↦
          subst (λ k. IsSearched w (Reply id answer ∷ u) log k (slots_of (get_by_text t.by_key k))
          (configurations_of (get_by_text t.by_key k))) (sym same)
          (own_goes _ _ _ _ own (h.keys (key_of c.op)))
      | inr ne ↦
          subst (λ o. IsSearched w (Reply id answer ∷ u) log key (slots_of o) (configurations_of o)) (sym (others key ne))
          (searched_still w u log (Reply id answer) key _ _ (other_reply key ne) (h.keys key))
    ];
  }
  replied s t Unexplained calls own others h = λ found.
      let r = settled_one (slots_of (get_by_text s.by_key (key_of c.op))) (configurations_of (get_by_text s.by_key (key_of c.op)))
      [] own.0 own.1 own.2 (h.keys (key_of c.op)) found.0 found.1 in
      none_of r.after r.among
    where
      none_of : (d : Configuration) → IsOneOf [] d → ⊥
      none_of d one = let at = one.1 in cc
  replied s t Waiting calls own others h = absurd own
  replied s t Configurations calls own others h = (id, answer, u, refl, counts)
