-- The text that each key held after each number of commands, and the periods that record it.
use Rattle.std.specs.Prelude.{◌≡◌, ◌≢◌, ◌≤◌, ◌<◌, ◌+◌, ℕ, List, [], Option, Some, None, length, slice_get, take}
use Rattle.std.proofs.Common.{Global, String, Vec}
use Rattle.std.specs.BTreeMap.{BTreeMap, get_by_text}
use Rattle.std.specs.FinMap as finite
use Rattle.mencius_base.specs.declared.command.Command.{Command}
use Rattle.mencius_base.specs.declared.command.Op.{Op}
use Rattle.mencius_model.specs.KeyMap.{KeyMap, apply, key_of, value_at}
use Rattle.mencius_judge.specs.declared.timeline.Period.{Period}
use Rattle.mencius_judge.specs.declared.timeline.Timeline.{Timeline}

-- the text that a key holds after the first n of these commands
abbrev pub held_by : List Command → List ℕ → ℕ → Option (List ℕ)
held_by commands key n = value_at key (take n commands)

-- the key of the operation holds `text` after it, in each map that holds `held` there before
abbrev pub Becomes : Option (List ℕ) → Op → Option (List ℕ) → Type 0
Becomes held op text =
    (store : KeyMap) → finite.get store (key_of op) ≡ held → text ≡ finite.get (apply store op) (key_of op)

-- ---- the first number of commands

-- n is the lowest number of commands, from `from` to `to`, after which the key held the text
pub record IsFirstCount (held : ℕ → Option (List ℕ)) (text : Option (List ℕ)) (from to n : ℕ) : Type 0 where
  pub later : from ≤ n
  pub within : n ≤ to
  pub holds : held n ≡ text
  pub least : (m : ℕ) → from ≤ m → m < n → held m ≢ text

-- the key did not hold the text after any number of commands from `from` to `to`
abbrev pub HasNone : (ℕ → Option (List ℕ)) → Option (List ℕ) → ℕ → ℕ → Type 0
HasNone held text from to = (m : ℕ) → from ≤ m → m ≤ to → held m ≢ text

-- n is the number of commands after which the key began to hold the text that it holds after `to` commands
pub record IsBeginning (held : ℕ → Option (List ℕ)) (to n : ℕ) : Type 0 where
  pub within : n ≤ to
  pub same : (m : ℕ) → n ≤ m → m ≤ to → held m ≡ held to
  pub change : (m : ℕ) → m + 1 ≡ n → held m ≢ held to

-- ---- periods

-- no period is empty, and each one ends before all later ones begin
pub record AreRising (periods : List Period) : Type 0 where
  pub filled : (i : ℕ) (p : Period) → slice_get periods i ≡ Some p → p.first < p.stop
  pub apart : (i j : ℕ) (p q : Period) → i < j → slice_get periods i ≡ Some p → slice_get periods j ≡ Some q
      → p.stop ≤ q.first

-- each of these periods stops at n or before
abbrev pub AllBefore : List Period → ℕ → Type 0
AllBefore periods n = (i : ℕ) (p : Period) → slice_get periods i ≡ Some p → p.stop ≤ n

-- p is the first of these periods that stops after n
pub record IsFirstPeriod (periods : List Period) (n : ℕ) (p : Period) : Type 0 where
  pub index : ℕ
  pub there : slice_get periods index ≡ Some p
  pub later : n < p.stop
  pub first : (i : ℕ) (q : Period) → i < index → slice_get periods i ≡ Some q → q.stop ≤ n

-- the periods of a list, or no periods without a list
abbrev pub items_of : Option (Vec Period Global) → List Period
items_of None = []
items_of (Some periods) = periods.items

-- the periods before the last change in which the key held this text, or held none
abbrev pub periods_of : Timeline → Option (List ℕ) → List Period
periods_of t None = t.absences.items
periods_of t (Some text) = items_of (get_by_text t.presences text)

-- ---- timelines

-- the timeline records the text that a key held after each number of commands, up to `count`
pub record IsTimeline (held : ℕ → Option (List ℕ)) (count : ℕ) (t : Timeline) : Type 0 where
  -- the key has held its present text since the last change
  pub since : t.since ≤ count
  pub now : (n : ℕ) → t.since ≤ n → n ≤ count → held n ≡ t.text
  -- the periods of a text are exactly the numbers before the last change after which the key held the text
  pub rising : (x : Option (List ℕ)) → AreRising (periods_of t x)
  pub before : (x : Option (List ℕ)) → AllBefore (periods_of t x) t.since
  pub holds : (x : Option (List ℕ)) (i : ℕ) (p : Period) → slice_get (periods_of t x) i ≡ Some p
      → (n : ℕ) → p.first ≤ n → n < p.stop → held n ≡ x
  pub all : (x : Option (List ℕ)) (n : ℕ) → n < t.since → held n ≡ x
      → (i : ℕ) × (p : Period) × (slice_get (periods_of t x) i ≡ Some p) × (p.first ≤ n) × (n < p.stop)
  -- each period begins with a change, unless it begins at 0, and so does the present text
  pub begins : (x : Option (List ℕ)) (i : ℕ) (p : Period) → slice_get (periods_of t x) i ≡ Some p
      → (n : ℕ) → n + 1 ≡ p.first → held n ≢ x
  pub began : (n : ℕ) → n + 1 ≡ t.since → held n ≢ t.text

-- the timeline, if there is one, is right for the key. A key without a timeline has never held a text
abbrev pub IsTimelineOf : (ℕ → Option (List ℕ)) → ℕ → Option Timeline → Type 0
IsTimelineOf held count None = (n : ℕ) → n ≤ count → held n ≡ None
IsTimelineOf held count (Some t) = IsTimeline held count t

-- the text that a key holds now, by its timeline
abbrev pub text_of : Option Timeline → Option (List ℕ)
text_of None = None
text_of (Some t) = t.text

-- the map has the right timeline of each key after these commands
abbrev pub AreTimelines : List Command → BTreeMap (String Global) Timeline → Type 0
AreTimelines commands by_key = (key : List ℕ) → IsTimelineOf (held_by commands key) (length commands) (get_by_text by_key key)
