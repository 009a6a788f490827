-- A Skip teaches a stored slot no-op if it gives up the instance, and otherwise leaves it as it was.
use Rattle.std.proofs.Common.{◌≡◌, ℕ, Bool, true, false, cond, Option, None, Some, refl, ap}
use Rattle.std.specs.Option.{option_map}
use Rattle.mencius_base.specs.declared.message.Value.TheVariants.{Noop}
use Rattle.mencius_base.specs.Members.{Membership}
use Rattle.coord_paxos.specs.SlotState.{SlotState}
use Rattle.coord_paxos.specs.Slot.{after_learn}
use Rattle.mencius_server.specs.Machine.{is_skipped, slot_after_skip}
use Rattle.mencius_server.proofs.stored.InstanceGaps.{slot_kept}

-- The slot of an instance stays as it was if the Skip does not give up this instance.
pub after_skip_kept : (m : Membership) (q first stop j : ℕ) (o : Option SlotState) → is_skipped m q first stop j ≡ false
    → option_map (slot_after_skip m q first stop j) o ≡ o
after_skip_kept m q first stop j None e = refl
after_skip_kept m q first stop j (Some s) e = ap (λ x. Some x) (slot_kept m q first stop j s e)

pub after_skip_at : (m : Membership) (q first stop j : ℕ) (o : Option SlotState) → is_skipped m q first stop j ≡ true
    → option_map (slot_after_skip m q first stop j) o ≡ option_map (λ s. after_learn s Noop) o
after_skip_at m q first stop j None e = refl
after_skip_at m q first stop j (Some s) e = ap (λ (a : Bool). Some (cond a (after_learn s Noop) s)) e
