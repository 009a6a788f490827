-- A set of keys, as a map from each key.
use Rattle.std.specs.Prelude.{ℕ, ◌≡◌, ◌≢◌, Bool, true, List, String, not, is_some}
use Rattle.std.specs.BTreeMap.{BTreeMap, get_by_text}
use Rattle.std.specs.Global.{Global}
use Rattle.mencius_judge.specs.Log.{Log}
use Rattle.mencius_clients.specs.ClientCounts.{has_key}

-- the map has exactly the keys of the submitted commands
abbrev pub AreKeys : Log → BTreeMap (String Global) Bool → Type 0
AreKeys w keys = (key : List ℕ) → is_some (get_by_text keys key) ≡ has_key w key

-- the key is added, if it is new
pub record PutsKey (old new : BTreeMap (String Global) Bool) (key : List ℕ) (is_new : Bool) : Type 0 where
  pub own : is_some (get_by_text new key) ≡ true
  pub others : (x : List ℕ) → x ≢ key → is_some (get_by_text new x) ≡ is_some (get_by_text old x)
  pub was : is_some (get_by_text old key) ≡ not is_new
