use Rattle.std.proofs.Common.{◌≡◌, ℕ, ◌<◌, bit_and, bit_or, get_or}
use Rattle.mencius_clients.proofs.slot_set.SlotSet.is_less.Given as goal

abbrev pub invariant-loop-word : goal.invariant-loop-word
invariant-loop-word l = (k : ℕ) → k < l.word
    → bit_or (get_or l.self.words k 0) (bit_and (get_or l.most.words k 0) (get_or l.lost.words k 0)) ≡ get_or l.most.words k 0
