-- The timelines stay right after a further command.
use Rattle.std.proofs.Common.{◌≡◌, ◌≢◌, ◌⊎◌, inl, inr, ℕ, zero, suc, ◌+◌, ◌≤◌, Bool, true, false, not, cond, Global, String, List, [], ◌∷◌, ◌++◌, Option, Some, None, length, take, arith, refl, sym, subst, ap, ◌∙◌, ⊎_elim, length-append}
use Rattle.std.specs.BTreeMap.{BTreeMap, get_by_text}
use Rattle.std.specs.Str.{bytes_eq}
use Rattle.std.specs.FinMap as finite
use Rattle.std.specs.FinMap.{get-empty, get-insert, get-remove}
use Rattle.std.specs.Ordering.{nat_cmp}
use Rattle.std.specs.Cmp.Lexicographic.{nat_list_cmp_total, slice_cmp}
use Rattle.std.proofs.lemmas.Bool.{cases_Bool}
use Rattle.std.proofs.lemmas.List.{take-append-le, take_all}
use Rattle.std.proofs.lemmas.List.Sums.{fold-append}
use Rattle.std.proofs.lemmas.Slice.Eq.{bytes_eq-Decides}
use Rattle.mencius_base.specs.declared.command.Command.{Command}
use Rattle.mencius_base.specs.declared.command.Op.{Op}
use Rattle.mencius_base.specs.declared.command.Op.TheVariants.{Set, Get, Del, Cas}
use Rattle.mencius_model.specs.KeyMap.{KeyMap, apply, has_text, key_of, map_after, value_at, new_text}
use Rattle.mencius_model.proofs.replies.MapContents.{tested}
use Rattle.mencius_judge.specs.declared.timeline.Timeline.{Timeline}
use Rattle.mencius_judge.specs.Answers.{is_without_effect}
use Rattle.mencius_judge.specs.Timelines.{AreTimelines, Becomes, IsTimelineOf, held_by, text_of}
use Rattle.mencius_judge.proofs.keys.Periods.{unchanged}
use Rattle.mencius_judge.proofs.keys.TextMaps.{other_bytes, same_bytes}

-- ---- one operation

get-put : (m : KeyMap) (other text key : List ℕ)
    → finite.get (finite.insert m other text) key ≡ cond (bytes_eq other key) (Some text) (finite.get m key)
get-put m other text key =
    get-insert nat_list_cmp_total m other text key
    ∙ ap (λ bit. cond bit (Some text) (finite.get m key)) (sym (tested other key))

get-taken : (m : KeyMap) (other key : List ℕ)
    → finite.get (finite.remove m other) key ≡ cond (bytes_eq other key) None (finite.get m key)
get-taken m other key =
    get-remove nat_list_cmp_total m other key
    ∙ ap (λ bit. cond bit None (finite.get m key)) (sym (tested other key))

-- an operation does not change any other key
pub get_elsewhere : (m : KeyMap) (op : Op) (key : List ℕ) → bytes_eq (key_of op) key ≡ false
    → finite.get (apply m op) key ≡ finite.get m key
get_elsewhere m (Set other text) key e =
    get-put m other text key ∙ ap (λ bit. cond bit (Some text) (finite.get m key)) e
get_elsewhere m (Get other) key e = refl
get_elsewhere m (Del other) key e =
    get-taken m other key ∙ ap (λ bit. cond bit None (finite.get m key)) e
get_elsewhere m (Cas other held text) key e = by_held (has_text (finite.get m other) held)
  where
    by_held : (bit : Bool) → finite.get (cond bit (finite.insert m other text) m) key ≡ finite.get m key
    by_held true = get-put m other text key ∙ ap (λ bit. cond bit (Some text) (finite.get m key)) e
    by_held false = refl

-- a key that is bound to a text then has that text
pub put_there : (m : KeyMap) (key text : List ℕ) → Some text ≡ finite.get (finite.insert m key text) key
put_there m key text =
    sym (get-put m key text key ∙ ap (λ bit. cond bit (Some text) (finite.get m key)) (same_bytes key))

pub taken_there : (m : KeyMap) (key : List ℕ) → None ≡ finite.get (finite.remove m key) key
taken_there m key = sym (get-taken m key key ∙ ap (λ bit. cond bit None (finite.get m key)) (same_bytes key))

pub put_where_held : (m : KeyMap) (key held text : List ℕ) (former new : Option (List ℕ)) → finite.get m key ≡ former
    → new ≡ cond (has_text former held) (Some text) former
    → new ≡ finite.get (cond (has_text (finite.get m key) held) (finite.insert m key text) m) key
put_where_held m key held text former new e is =
    is ∙ sym (ap (λ o. cond (has_text o held) (Some text) o) e) ∙ by_held (has_text (finite.get m key) held)
  where
    by_held : (bit : Bool) → cond bit (Some text) (finite.get m key) ≡ finite.get (cond bit (finite.insert m key text) m) key
    by_held true = put_there m key text
    by_held false = refl

-- the key of an operation holds the new text after it, unless the operation changes nothing
pub get_there : (m : KeyMap) (op : Op)
    → finite.get (apply m op) (key_of op)
    ≡ cond (is_without_effect op (finite.get m (key_of op))) (finite.get m (key_of op)) (new_text op)
get_there m (Set key text) = sym (put_there m key text)
get_there m (Get key) = refl
get_there m (Del key) = sym (taken_there m key)
get_there m (Cas key old text) = by_held (has_text (finite.get m key) old)
  where
    by_held : (bit : Bool)
        → finite.get (cond bit (finite.insert m key text) m) key ≡ cond (not bit) (finite.get m key) (Some text)
    by_held true = sym (put_there m key text)
    by_held false = refl

pub store_more : (cs : List Command) (c : Command) → map_after (cs ++ c ∷ []) ≡ apply (map_after cs) c.op
store_more cs c = fold-append (λ (store : KeyMap) (command : Command). apply store command.op) finite.empty cs (c ∷ [])

-- ---- numbers of commands

pub held_all : (cs : List Command) (key : List ℕ) → held_by cs key (length cs) ≡ value_at key cs
held_all cs key = ap (value_at key) (take_all (length cs) cs (omega arith))

pub held_none : (key : List ℕ) (n : ℕ) → held_by [] key n ≡ None
held_none key n = ap (value_at key) (empty n) ∙ get-empty {X = List ℕ} (slice_cmp nat_cmp) key
  where
    empty : (k : ℕ) → take {A = Command} k [] ≡ []
    empty zero = refl
    empty (suc k) = refl

module _ (cs : List Command) (c : Command) where
  pub held_kept : (key : List ℕ) (m : ℕ) → m ≤ length cs → held_by (cs ++ c ∷ []) key m ≡ held_by cs key m
  held_kept key m le = ap (value_at key) (take-append-le m cs (c ∷ []) le)

  last : (key : List ℕ) → held_by (cs ++ c ∷ []) key (length cs + 1) ≡ finite.get (apply (map_after cs) c.op) key
  last key =
      ap (value_at key) (take_all (length cs + 1) (cs ++ c ∷ []) (omega (arith, length-append cs (c ∷ []))))
      ∙ ap (λ m. finite.get m key) (store_more cs c)

  pub held_elsewhere : (key : List ℕ) → key ≢ key_of c.op
      → held_by (cs ++ c ∷ []) key (length cs + 1) ≡ held_by cs key (length cs)
  held_elsewhere key ne =
      last key ∙ get_elsewhere (map_after cs) c.op key (other_bytes (key_of c.op) key ne) ∙ sym (held_all cs key)

  -- ---- all timelines

  -- if the text of a key did not change, its timeline is right for a further command
  pub quiet : (key : List ℕ) (o : Option Timeline) → IsTimelineOf (held_by cs key) (length cs) o
      → held_by (cs ++ c ∷ []) key (length cs + 1) ≡ held_by cs key (length cs)
      → IsTimelineOf (held_by (cs ++ c ∷ []) key) (length cs + 1) o
  quiet key None h same = λ n le. ⊎_elim
      (λ (e : n ≤ length cs). held_kept key n e ∙ h n e)
      (λ (e : n ≡ length cs + 1). ap (held_by (cs ++ c ∷ []) key) e ∙ same ∙ h (length cs) (omega arith))
      (either n (length cs) le)
    where
      either : (a k : ℕ) → a ≤ k + 1 → (a ≤ k) ⊎ (a ≡ k + 1)
      either a k h = grind arith
  quiet key (Some t) h same =
      unchanged (held_by cs key) (held_by (cs ++ c ∷ []) key) (length cs) t h (λ m le. held_kept key m le) same

  pub counted : (by_key : BTreeMap (String Global) Timeline)
      → ((key : List ℕ) → IsTimelineOf (held_by (cs ++ c ∷ []) key) (length cs + 1) (get_by_text by_key key))
      → AreTimelines (cs ++ c ∷ []) by_key
  counted by_key h key =
      subst (λ n. IsTimelineOf (held_by (cs ++ c ∷ []) key) n (get_by_text by_key key))
      (omega (arith, length-append cs (c ∷ []))) (h key)

-- the present text of a timeline is the text after all commands
pub text_now : (held : ℕ → Option (List ℕ)) (n : ℕ) (o : Option Timeline) → IsTimelineOf held n o → text_of o ≡ held n
text_now held n None h = sym (h n (omega arith))
text_now held n (Some t) h = let since = h.since in sym (h.now n since (omega arith))

pub key_cases : (x y : List ℕ) → (x ≡ y) ⊎ (x ≢ y)
key_cases x y = ⊎_elim
    (λ (e : bytes_eq x y ≡ true). inl ((bytes_eq-Decides x y).0 e))
    (λ (e : bytes_eq x y ≡ false). inr (λ (same : x ≡ y).
    let yes : bytes_eq x y ≡ true = (bytes_eq-Decides x y).1 same in cc))
    (cases_Bool (bytes_eq x y))

-- the change of one key's timeline to this text makes it right for a further command, and changes no other timeline
abbrev pub IsChange : BTreeMap (String Global) Timeline → BTreeMap (String Global) Timeline → List ℕ → Option (List ℕ) → ℕ → Type 0
IsChange by_key new key text count =
    ((held after : ℕ → Option (List ℕ)) (n : ℕ) → IsTimelineOf held n (get_by_text by_key key) → n + 1 ≡ count
    → ((m : ℕ) → m ≤ n → after m ≡ held m) → after count ≡ text → after count ≢ held n
    → IsTimelineOf after count (get_by_text new key))
    × ((x : List ℕ) → x ≢ key → get_by_text new x ≡ get_by_text by_key x)

-- the timelines have the text that the key of a command holds now
pub held_now : (cs : List Command) (c : Command) (by_key : BTreeMap (String Global) Timeline) (held : Option (List ℕ))
    → AreTimelines cs by_key → held ≡ text_of (get_by_text by_key (key_of c.op)) → held ≡ value_at (key_of c.op) cs
held_now cs c by_key held h is =
    is ∙ text_now (held_by cs (key_of c.op)) (length cs) (get_by_text by_key (key_of c.op)) (h (key_of c.op))
    ∙ held_all cs (key_of c.op)

module _ (cs : List Command) (c : Command) (by_key new : BTreeMap (String Global) Timeline) (held text : Option (List ℕ))
    (h : AreTimelines cs by_key) (is : held ≡ text_of (get_by_text by_key (key_of c.op))) (becomes : Becomes held c.op text) where
  pub held_is : held ≡ held_by cs (key_of c.op) (length cs)
  held_is = is ∙ text_now (held_by cs (key_of c.op)) (length cs) (get_by_text by_key (key_of c.op)) (h (key_of c.op))

  pub answer_is : held ≡ value_at (key_of c.op) cs
  answer_is = held_is ∙ held_all cs (key_of c.op)

  after_is : held_by (cs ++ c ∷ []) (key_of c.op) (length cs + 1) ≡ text
  after_is = last cs c (key_of c.op) ∙ sym (becomes (map_after cs) (sym answer_is))

  pub with_change : held ≢ text → IsChange by_key new (key_of c.op) text (length cs + 1) → AreTimelines (cs ++ c ∷ []) new
  with_change other change = counted cs c new (λ key. ⊎_elim
      (λ (e : key ≡ key_of c.op).
      subst (λ (x : List ℕ). IsTimelineOf (held_by (cs ++ c ∷ []) x) (length cs + 1) (get_by_text new x)) (sym e)
      (change.0 (held_by cs (key_of c.op)) (held_by (cs ++ c ∷ []) (key_of c.op)) (length cs) (h (key_of c.op)) refl
      (λ m le. held_kept cs c (key_of c.op) m le) after_is (λ same. other (held_is ∙ sym same ∙ after_is))))
      (λ (ne : key ≢ key_of c.op).
      subst (IsTimelineOf (held_by (cs ++ c ∷ []) key) (length cs + 1)) (sym (change.1 key ne))
      (quiet cs c key (get_by_text by_key key) (h key) (held_elsewhere cs c key ne)))
      (key_cases key (key_of c.op)))

  pub without_change : held ≡ text → AreTimelines (cs ++ c ∷ []) by_key
  without_change same = counted cs c by_key (λ key. ⊎_elim
      (λ (e : key ≡ key_of c.op).
      subst (λ (x : List ℕ). IsTimelineOf (held_by (cs ++ c ∷ []) x) (length cs + 1) (get_by_text by_key x)) (sym e)
      (quiet cs c (key_of c.op) (get_by_text by_key (key_of c.op)) (h (key_of c.op)) (after_is ∙ sym same ∙ held_is)))
      (λ (ne : key ≢ key_of c.op). quiet cs c key (get_by_text by_key key) (h key) (held_elsewhere cs c key ne))
      (key_cases key (key_of c.op)))
