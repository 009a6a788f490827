-- If a journal and a prefix of it replay, the laws apply to the histories after both.
use Rattle.std.proofs.Common.{◌≡◌, ℕ, ◌≤◌, List, [], ◌++◌, Ok, sym, append-nil}
use Rattle.mencius_base.specs.declared.event.Event.{Event}
use Rattle.mencius_base.specs.Members.{Membership}
use Rattle.mencius_base.specs.Numbers.{ServerId}
use Rattle.mencius_model.specs.Trace.{Trace}
use Rattle.mencius_model.specs.Next.{replay}
use Rattle.mencius_model.specs.Executed.{history, IsPrefix, IsComparable}
use Rattle.mencius_model.specs.Laws.{Grows, HistoriesComparable, IsMoment}

-- the trace of the whole journal is one of its moments
whole : (m : Membership) (journal : List Event) (w : Trace) → replay m journal ≡ Ok w → IsMoment m journal w
whole m journal w h = record { before = journal; after = []; splits = sym (append-nil journal); replays = h }

-- take one history after a prefix of a journal and one history after the whole journal. One of them is a prefix of the
-- other
pub comparable : HistoriesComparable → (m : Membership) (old new since : List Event) (w v : Trace) (p q : ℕ)
    → 1 ≤ m.count
    → new ≡ old ++ since → replay m old ≡ Ok w → replay m new ≡ Ok v → IsComparable (history w p) (history v q)
comparable law m old new since w v p q some grown before after =
    law m new v w v (record { some_server = some; replays = after })
    (record { before = old; after = since; splits = grown; replays = before }) (whole m new v after) p q

-- the history of a server after a prefix of a journal is a prefix of its history after the whole journal
pub grows : ((p : ServerId) → Grows (λ m w. history w p)) → (m : Membership) (old new since : List Event) (w v : Trace) (p : ℕ) → 1 ≤ m.count
    → new ≡ old ++ since → replay m old ≡ Ok w → replay m new ≡ Ok v → IsPrefix (history w p) (history v p)
grows law m old new since w v p some grown before after =
    law p m new v w (record { some_server = some; replays = after })
    (record { before = old; after = since; splits = grown; replays = before })
