-- What a key holds after another command.
use Rattle.std.proofs.Common.{◌≡◌, ◌≢◌, ◌||◌, Bool, true, false, is_some, not, cond, ℕ, List, [], ◌∷◌, ◌++◌, ◌+◌, Option, Some, None, slice_get, refl, sym, ap, ◌∙◌, add-one}
use Rattle.std.specs.FinMap as finite
use Rattle.mencius_base.specs.declared.command.Command.{Command}
use Rattle.mencius_base.specs.declared.command.Op.{Op}
use Rattle.mencius_model.specs.KeyMap.{apply, key_of, map_after, value_at, expected, is_read, new_text}
use Rattle.mencius_log.specs.declared.observation.Observation.{Observation}
use Rattle.mencius_judge.specs.Answers.{is_done, is_met, is_without_effect}
use Rattle.mencius_judge.proofs.keys.Changes.{get_elsewhere, get_there, store_more}
use Rattle.mencius_judge.proofs.keys.TextMaps.{other_bytes}
use Rattle.mencius_clients.specs.Configurations.{become, is_cas, submitted_by, text_at, text_of}

-- another key's command changes nothing
pub value_elsewhere : (cs : List Command) (c : Command) (key : List ℕ) → key_of c.op ≢ key
    → value_at key (cs ++ c ∷ []) ≡ value_at key cs
value_elsewhere cs c key ne =
    ap (λ m. finite.get m key) (store_more cs c)
    ∙ get_elsewhere (map_after cs) c.op key (other_bytes (key_of c.op) key (λ e. ne (sym e)))

-- and its own what it becomes
pub value_there : (cs : List Command) (c : Command) (key : List ℕ) → key_of c.op ≡ key
    → value_at key (cs ++ c ∷ []) ≡ become (value_at key cs) c.op
value_there cs c key own =
    ap (λ m. finite.get m key) (store_more cs c)
    ∙ ap (finite.get (apply (map_after cs) c.op)) (sym own)
    ∙ get_there (map_after cs) c.op
    ∙ ap (λ k. become (finite.get (map_after cs) k) c.op) own

pub text_next : (log : List Observation) (line : ℕ) (o : Option (List ℕ)) → text_of (submitted_by (slice_get log line)) ≡ o
    → text_at log (line + 1) ≡ o
text_next log line o e = ap (text_at log) (add-one line) ∙ e

-- an operation that does not compare, and changes something, takes no heed of what was there
pub blind : (held other : Option (List ℕ)) (op : Op) → is_cas op ≡ false → become held op ≢ held
    → become other op ≡ become held op
blind held other op e ne = by_parts (is_read op) (expected op) e ne
  where
    by_parts : (read : Bool) (x : Option (List ℕ)) → is_some x ≡ false
        → cond (read || not (is_met x held)) held (new_text op) ≢ held
        → cond (read || not (is_met x other)) other (new_text op) ≡ cond (read || not (is_met x held)) held (new_text op)
    by_parts true x none differs = absurd (differs refl)
    by_parts false None none differs = refl
    by_parts false (Some old) none differs = absurd (cc)

-- ---- operations that change nothing

pub read_same : (held : Option (List ℕ)) (op : Op) → is_read op ≡ true → become held op ≡ held
read_same held op e = ap (λ read. cond (read || not (is_done op held)) held (new_text op)) e

-- if `failed` is right, the operation changes nothing
pub effectless : (held : Option (List ℕ)) (op : Op) → is_without_effect op held ≡ true → become held op ≡ held
effectless held op e = ap (λ failed. cond failed held (new_text op)) e
