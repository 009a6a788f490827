-- The command at the line at which a search ends.
use Rattle.std.proofs.Common.{◌≡◌, ℕ, zero, suc, ◌<◌, true, List, [], ◌∷◌, ◌++◌, Some, None, is_some, length, slice_get, take, reverse, arith, refl, sym, subst, ap, ◌∙◌}
use Rattle.mencius_base.specs.declared.command.Command.{Command}
use Rattle.mencius_base.specs.declared.command.CommandId.{CommandId}
use Rattle.mencius_model.specs.KeyMap.{key_of}
use Rattle.mencius_judge.specs.declared.judge.Judge.{Judge}
use Rattle.mencius_log.specs.declared.observation.Answer.{Answer}
use Rattle.mencius_log.specs.declared.observation.Observation.{Observation}
use Rattle.mencius_log.specs.declared.observation.Observation.TheVariants.{Submit, Execute, Reply, Lookup, Tell, Settle, Restore}
use Rattle.mencius_judge.specs.Judged.{HasSeenLog}
use Rattle.mencius_judge.specs.Log.{Log, command_of}
use Rattle.mencius_judge.specs.Promises.{WereSubmitted}
use Rattle.mencius_judge.proofs.promises.Logs.{known}
use Rattle.mencius_clients.specs.ClientVerdicts.{HasCommandAt, IsCommandAt, IsKeyAt, IsReply, command_in}
use Rattle.mencius_clients.specs.Explained.{HasHeard, IsLinearizable, IsManyAt, ComesAfterManyAt, heard}
use Rattle.mencius_clients.specs.FirstLines.{IsFoundLine}
use Rattle.mencius_clients.proofs.Explaining.{command_heard, part_more, whole_at}
use Rattle.mencius_clients.proofs.Replied.{is_reply}

pub heard_submitted : (j : Judge) (w : Log) → HasHeard j (heard w) → WereSubmitted (heard w)
heard_submitted j w h = (subst (HasSeenLog j) h.2 h.1.log).were_submitted

reply_submitted : (later u : Log) (id : CommandId) (x : Answer) → WereSubmitted (heard (later ++ Reply id x ∷ u))
    → is_some (command_of u id) ≡ true
reply_submitted [] u id x h = ap is_some (sym (command_heard u id)) ∙ h.0
reply_submitted (Submit c ∷ later) u id x h = reply_submitted later u id x h
reply_submitted (Execute p y ∷ later) u id x h = reply_submitted later u id x h
reply_submitted (Reply y a ∷ later) u id x h = reply_submitted later u id x h.1
reply_submitted (Lookup r key y ∷ later) u id x h = reply_submitted later u id x h
reply_submitted (Tell r p ∷ later) u id x h = reply_submitted later u id x h
reply_submitted (Settle p ∷ later) u id x h = reply_submitted later u id x h
reply_submitted (Restore p q n ∷ later) u id x h = reply_submitted later u id x h

-- a reply at a place of the log is to a submitted command
reply_command_at : (log : List Observation) (line : ℕ) (o : Observation) → slice_get log line ≡ Some o → IsReply o
    → WereSubmitted (heard (reverse log)) → HasCommandAt log line
reply_command_at log line o at reply submitted =
    let u : Log = reverse (take line log) in
    let whole = whole_at log line o at in
    let there : WereSubmitted (heard (whole.0 ++ Reply reply.0 reply.1 ∷ u)) =
    subst (λ (l : Log). WereSubmitted (heard l)) (whole.1 ∙ ap (λ x. whole.0 ++ x ∷ u) reply.2) submitted in
    let one = known (command_of u reply.0) (reply_submitted whole.0 u reply.0 reply.1 there) in
    (o, at, one.0, ap (command_in u) reply.2 ∙ one.1)

pub some_at : {A : Type 0} (xs : List A) (n : ℕ) → n < length xs → (x : A) × (slice_get xs n ≡ Some x)
some_at [] n less = absurd (omega (arith, less))
some_at (x ∷ xs) zero less = (x, refl)
some_at (x ∷ xs) (suc n) less = some_at xs n (omega (arith, less))

-- the first line without a linearization
pub found_reply : (log : List Observation) (line : ℕ) → IsFoundLine log line → (o : Observation)
    → slice_get log line ≡ Some o → IsReply o
found_reply log line h o at =
    is_reply (reverse (take line log)) o h.1
    (λ lin. h.2 (subst IsLinearizable (sym (part_more log line o at)) lin))

pub found_command : (log : List Observation) (line : ℕ) → IsFoundLine log line
    → WereSubmitted (heard (reverse log)) → HasCommandAt log line
found_command log line h submitted =
    let x = some_at log line h.0 in
    reply_command_at log line x.0 x.1 (found_reply log line h x.0 x.1) submitted

-- a line at which a search is given up
pub states_command : (log : List Observation) (line most : ℕ) → ComesAfterManyAt log line most → HasCommandAt log line
states_command log line most h =
    let many = h.2 in (h.0, h.1, many.4, ap (command_in (reverse (take line log))) many.2 ∙ many.5)

pub many_command : (log : List Observation) (line : ℕ) → IsManyAt log line → HasCommandAt log line
many_command log line h =
    let is : h.o ≡ Submit h.many.command = cc (h.many.ends) in
    (h.o, h.splits.there, h.many.command, ap (command_in (reverse (take line log))) is)

-- ---- the command and the key at a line

pub here_submitted : (log : List Observation) (line : ℕ) (c : Command) → slice_get log line ≡ Some (Submit c)
    → IsCommandAt log line c
here_submitted log line c e o at =
    let same : o ≡ Submit c = cc (at, e) in ap (command_in (reverse (take line log))) same

pub here_replied : (log : List Observation) (line : ℕ) (id : CommandId) (x : Answer) (c : Command)
    → slice_get log line ≡ Some (Reply id x) → command_of (reverse (take line log)) id ≡ Some c → IsCommandAt log line c
here_replied log line id x c e is o at =
    let same : o ≡ Reply id x = cc (at, e) in ap (command_in (reverse (take line log))) same ∙ is

pub none_replied : (log : List Observation) (line : ℕ) (id : CommandId) (x : Answer)
    → slice_get log line ≡ Some (Reply id x) → command_of (reverse (take line log)) id ≡ None → HasCommandAt log line → ⊥
none_replied log line id x e none h =
    let same : h.0 ≡ Reply id x = cc (h.1, e) in
    let some : command_of (reverse (take line log)) id ≡ Some h.2 =
    sym (ap (command_in (reverse (take line log))) same) ∙ h.3 in
    cc (none, some)

pub key_here : (log : List Observation) (line : ℕ) (c : Command) (key : List ℕ) → IsCommandAt log line c
    → key ≡ key_of c.op → IsKeyAt log line key
key_here log line c key h e o at = (c, h o at, sym e)
