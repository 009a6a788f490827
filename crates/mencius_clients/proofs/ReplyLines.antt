-- The lines of replies, by identity.
use Rattle.std.proofs.Common.{◌≡◌, ◌⊎◌, inl, inr, ℕ, ◌+◌, ◌<◌, false, true, List, Some, length, slice_get, arith, refl, sym, subst, ap, ◌∙◌}
use Rattle.std.specs.BTreeMap.{BTreeMap, Updates, get}
use Rattle.std.specs.List.{Contains}
use Rattle.std.specs.Ordering.{nat_cmp}
use Rattle.std.proofs.lemmas.Option.{slice_get-get_or}
use Rattle.mencius_base.specs.declared.command.Command.{Command}
use Rattle.mencius_base.specs.declared.command.CommandId.{CommandId}
use Rattle.mencius_log.specs.declared.observation.Answer.{Answer}
use Rattle.mencius_log.specs.declared.observation.Answer.TheVariants.{Held, Done, Failed}
use Rattle.mencius_log.specs.declared.observation.Observation.{Observation}
use Rattle.mencius_log.specs.declared.observation.Observation.TheVariants.{Reply}
use Rattle.mencius_judge.specs.Log.{is_failed}
use Rattle.mencius_judge.specs.Tables.{identity_key, number_count}
use Rattle.mencius_judge.proofs.promises.Identities.{get_here, get_there, id_cases}
use Rattle.mencius_model.specs.KeyMap.{is_read}
use Rattle.mencius_clients.specs.Configurations.{AreReplyLines, HasNote, HasReplyLine, IsIdle, IsUnacknowledged}

pub none_noted : (log : List Observation) (m : BTreeMap ℕ ℕ) → AreReplyLines log m 0
none_noted log m = record {
  known = λ n id x less. absurd (omega (arith, less));
  noted = λ n id x less. absurd (omega (arith, less));
}

either : (n k : ℕ) → n < k + 1 → (n ≡ k) ⊎ (n < k)
either n k less = grind arith

-- a line without a reply adds none
pub noted_before : (log : List Observation) (m : BTreeMap ℕ ℕ) (line : ℕ)
    → ((id : CommandId) (x : Answer) → slice_get log line ≡ Some (Reply id x) → HasReplyLine log m id)
    → AreReplyLines log m line → AreReplyLines log m (line + 1)
noted_before log m line here h = record {
  known = λ n id x less at counts small. elim (either n line less) [
    | inl e ↦ here id x (ap (slice_get log) (sym e) ∙ at)
    | inr e ↦ h.known n id x e at counts small
  ];
  noted = λ n id x less at small. elim (either n line less) [
    | inl e ↦
        let known = here id x (ap (slice_get log) (sym e) ∙ at) in
        record { line = known.line; answer = known.answer; there = known.there; says = known.says }
    | inr e ↦ h.noted n id x e at small
  ];
}

-- a reply takes the place of another one that does not count
pub noted_now : (log : List Observation) (m new : BTreeMap ℕ ℕ) (line : ℕ) (id : CommandId) (x : Answer)
    → slice_get log line ≡ Some (Reply id x) → id.number < number_count → (HasReplyLine log m id → ⊥)
    → Updates nat_cmp m new (identity_key id) (Some line) → AreReplyLines log m line → AreReplyLines log new (line + 1)
noted_now log m new line id x at small fresh updates h = record {
  known = λ n y z less there counts tiny. elim (either n line less) [
    | inl e ↦
        let now : slice_get log line ≡ Some (Reply y z) = ap (slice_get log) (sym e) ∙ there in
        let same : id ≡ y = cc in
        record {
          line = line;
          answer = z;
          there = subst (λ (v : CommandId). get nat_cmp new (identity_key v) ≡ Some line) same (get_here m new id line updates);
          says = now;
          counts = counts;
        }
    | inr e ↦
        let old = h.known n y z e there counts tiny in
        elim (id_cases id y) [
          | inl same ↦ absurd (fresh (subst (HasReplyLine log m) (sym same) old))
          | inr ne ↦ record {
            line = old.line;
            answer = old.answer;
            there = get_there m new id y line updates small tiny ne ∙ old.there;
            says = old.says;
            counts = old.counts;
          }
        ]
  ];
  noted = λ n y z less there tiny. elim (id_cases id y) [
    | inl same ↦ record {
      line = line;
      answer = x;
      there = subst (λ (v : CommandId). get nat_cmp new (identity_key v) ≡ Some line) same (get_here m new id line updates);
      says = subst (λ (v : CommandId). slice_get log line ≡ Some (Reply v x)) same at;
    }
    | inr ne ↦ elim (either n line less) [
      | inl e ↦
          let now : slice_get log line ≡ Some (Reply y z) = ap (slice_get log) (sym e) ∙ there in
          let same : id ≡ y = cc in
          absurd (ne same)
      | inr e ↦
          let old = h.noted n y z e there tiny in record {
            line = old.line;
            answer = old.answer;
            there = get_there m new id y line updates small tiny ne ∙ old.there;
            says = old.says;
          }
    ]
  ];
}

pub unacknowledged : (log : List Observation) (m : BTreeMap ℕ ℕ) (id : CommandId) → id.number < number_count
    → AreReplyLines log m (length log) → (HasReplyLine log m id → ⊥) → IsUnacknowledged log id
unacknowledged log m id small h none it =
    let there = it.1 in
    none (h.known there.0 id it.0 there.1
    (slice_get-get_or log there.0 (Reply id it.0) there.1 ∙ ap Some there.2) it.2 small)

pub same_line : (log : List Observation) (m : BTreeMap ℕ ℕ) (line : ℕ) (id : CommandId) (x : Answer)
    → slice_get log line ≡ Some (Reply id x) → HasReplyLine log m id
    → (y : CommandId) (z : Answer) → slice_get log line ≡ Some (Reply y z) → HasReplyLine log m y
same_line log m line id x at h y z there =
    let same : id ≡ y = cc in
    subst (HasReplyLine log m) same h

pub is_failed_reply : (x : Answer) → is_failed x ≡ true → x ≡ Failed
is_failed_reply (Held text) e = absurd (cc)
is_failed_reply Done e = absurd (cc)
is_failed_reply Failed e = refl

-- a command whose only replies are `failed` is idle
pub idle_failed : (log : List Observation) (m : BTreeMap ℕ ℕ) (c : Command) (id : CommandId) (x : Answer) → id ≡ c.id
    → id.number < number_count → AreReplyLines log m (length log) → Contains log (Reply id x) → is_failed x ≡ true
    → (HasReplyLine log m id → is_failed x ≡ false) → IsIdle log c
idle_failed log m c id x same small h there failed counts = (
  subst (IsUnacknowledged log) same (unacknowledged log m id small h (λ known. let other = counts known in cc)),
  inr (subst (λ (y : CommandId). Contains log (Reply y Failed)) same
      (subst (λ (a : Answer). Contains log (Reply id a)) (is_failed_reply x failed) there)),
)

-- a read without a reply is idle
pub idle_read : (log : List Observation) (m : BTreeMap ℕ ℕ) (c : Command) (id : CommandId) → id ≡ c.id
    → id.number < number_count → AreReplyLines log m (length log) → (HasReplyLine log m id → ⊥) → is_read c.op ≡ true
    → IsIdle log c
idle_read log m c id same small h none read =
    (subst (IsUnacknowledged log) same (unacknowledged log m id small h none), inl read)

-- a command without a note has no reply
pub no_reply : (log : List Observation) (m : BTreeMap ℕ ℕ) (id : CommandId) → id.number < number_count
    → AreReplyLines log m (length log) → (HasNote log m id → ⊥) → (x : Answer) → Contains log (Reply id x) → ⊥
no_reply log m id small h none x it =
    none (h.noted it.0 id x it.1 (slice_get-get_or log it.0 (Reply id x) it.1 ∙ ap Some it.2) small)
