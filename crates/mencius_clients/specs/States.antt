-- An order of the states of a key. A search tells by it that configurations are different.
use Rattle.std.specs.Prelude.{◌≡◌, ◌≢◌, ◌<◌, ◌≤◌, ◌⊎◌, ℕ, true, false, List, Option, Some, length, slice_get}
use Rattle.std.specs.Option.{option_cmp}
use Rattle.std.specs.Ordering.{nat_cmp}
use Rattle.std.specs.declared.cmp.Ordering.{Ordering}
use Rattle.std.specs.declared.cmp.Ordering.TheVariants.{Less}
use Rattle.std.specs.Cmp.Lexicographic.{slice_cmp}
use Rattle.mencius_log.specs.declared.observation.Observation.{Observation}
use Rattle.mencius_clients.specs.declared.configuration.Configuration.{Configuration}
use Rattle.mencius_clients.specs.declared.slot_set.SlotSet.{SlotSet}
use Rattle.mencius_clients.specs.declared.steps.Step.{Step}
use Rattle.mencius_clients.specs.Configurations.{IsOneOf, has_slot, text_at}
use Rattle.mencius_clients.specs.OrdersSoFar.{AreReachable}

-- the first slot that only one of the two sets has
pub record IsFirstDifference (a b : SlotSet) (slot : ℕ) : Type 0 where
  pub small : slot < 4096
  pub differs : has_slot a slot ≢ has_slot b slot
  pub same : (t : ℕ) → t < slot → has_slot a t ≡ has_slot b t

-- of the slots that only one of the two sets has, the second set has the first one
pub record HasNext (a b : SlotSet) : Type 0 where
  pub slot : ℕ
  pub lacks : has_slot a slot ≡ false
  pub has : has_slot b slot ≡ true
  pub same : (t : ℕ) → t < slot → has_slot a t ≡ has_slot b t

-- the order of texts by their bytes, with no text first
abbrev pub text_cmp : Option (List ℕ) → Option (List ℕ) → Ordering
text_cmp text other = option_cmp (slice_cmp nat_cmp) text other

-- the state of the first configuration comes before that of the second one: by its text, then by the mark `unseen`, and
-- then by its slots
abbrev pub Precedes : List Observation → Configuration → Configuration → Type 0
Precedes log a b =
    (text_cmp (text_at log a.text) (text_at log b.text) ≡ Less)
    ⊎ ((text_at log a.text ≡ text_at log b.text)
    × (((a.unseen ≡ false) × (b.unseen ≡ true)) ⊎ ((a.unseen ≡ b.unseen) × HasNext a.done b.done)))

-- the state of each configuration comes before those of the later ones, so no two states are equal
abbrev pub AreRising : List Observation → List Configuration → Type 0
AreRising log cs =
    (n m : ℕ) (a b : Configuration) → n < m → slice_get cs n ≡ Some a → slice_get cs m ≡ Some b → Precedes log a b

-- the list has `most` configurations or more with different states
pub record HasManyIn (log : List Observation) (cs : List Configuration) (most : ℕ) : Type 0 where
  pub some : List Configuration
  pub many : most ≤ length some
  pub rising : AreRising log some
  pub within : (d : Configuration) → IsOneOf some d → IsOneOf cs d

-- `most` configurations or more with different states follow from `cs` by sound steps
pub record ReachMany (log : List Observation) (slots : List (Option ℕ)) (trail : List Step) (cs : List Configuration)
    (most : ℕ) : Type 0 where
  pub some : List Configuration
  pub many : most ≤ length some
  pub rising : AreRising log some
  pub reached : AreReachable log slots trail cs some
