-- How a step adds lines to the quotes of a violation.
use Rattle.std.specs.Prelude.{◌≡◌, ◌<◌, ◌+◌, ◌⊎◌, ℕ, List, ◌∷◌, Some, Contains, slice_get}
use Rattle.mencius_base.specs.Numbers.{ServerId}
use Rattle.mencius_base.specs.declared.command.CommandId.{CommandId}
use Rattle.mencius_judge.specs.declared.judge.Judge.{Judge}
use Rattle.mencius_judge.specs.declared.quote.Quote.{Quote}
use Rattle.mencius_judge.specs.Judged.{HasSeen}
use Rattle.mencius_judge.specs.Quotes.{AreNumbered, IsChange, IsFirstGift, IsFirstLine, IsGift, NumberedLog, Replies, Submits}

-- each of these quotes is a line of the log, and their numbers rise
pub record AreInOrder (lines : NumberedLog) (quotes : List Quote) : Type 0 where
  pub within : (quote : Quote) → Contains quotes quote → Contains lines quote
  pub rising : (n m : ℕ) (a b : Quote) → n < m → slice_get quotes n ≡ Some a → slice_get quotes m ≡ Some b
      → a.number < b.number

-- the new quotes are the old ones and the lines with a property
pub record HaveAlso (P : Quote → Type 0) (old new : List Quote) : Type 0 where
  pub kept : (quote : Quote) → Contains old quote → Contains new quote
  pub added : (quote : Quote) → P quote → Contains new quote
  pub sound : (quote : Quote) → Contains new quote → Contains old quote ⊎ P quote

-- the step adds the lines with a property to quotes from this log
abbrev pub Adds : NumberedLog → (Quote → Type 0) → List Quote → List Quote → Type 0
Adds lines P old new = AreNumbered lines → AreInOrder lines old → AreInOrder lines new × HaveAlso P old new

-- the step adds this quote, which is a line of the log
abbrev pub Inserts : Quote → List Quote → List Quote → Type 0
Inserts quote old new =
    (lines : NumberedLog) → Contains lines quote → Adds lines (λ (other : Quote). other ≡ quote) old new

-- after a judge has seen some lines, the step adds those of them with a property. The last line is not seen yet
abbrev pub AddsSeen : Judge → (NumberedLog → Quote → Type 0) → List Quote → List Quote → Type 0
AddsSeen judge P old new = (n : NumberedLog) (line : Quote) → HasSeen judge n → Adds (line ∷ n) (P n) old new

-- the line submits the last of the first `count` of these commands
abbrev pub IsLastOf : List CommandId → ℕ → NumberedLog → Quote → Type 0
IsLastOf ids count lines line =
    (place : ℕ) × (place + 1 ≡ count) × (id : CommandId) × (slice_get ids place ≡ Some id)
    × IsFirstLine (Submits id) lines line

-- the line gave the server this command of the longest history
abbrev pub IsGiftOf : List CommandId → ServerId → CommandId → NumberedLog → Quote → Type 0
IsGiftOf order server id lines line =
    (place : ℕ) × (slice_get order place ≡ Some id) × IsGift lines server place line

-- the line shows what the right reply to the command is. The key changed last before the command's place
abbrev pub ShowsReply : List CommandId → CommandId → List ℕ → ℕ → NumberedLog → Quote → Type 0
ShowsReply order id key place lines line =
    IsFirstLine (Submits id) lines line ⊎ IsFirstLine (Replies id) lines line ⊎ IsFirstGift lines place line
    ⊎ IsChange lines order key place line
