-- The lines that a judge's tables name are the first submissions, the first replies and the lines that gave commands.
use Rattle.std.proofs.Common.{◌≡◌, ℕ, ◌<◌, ◌≤◌, ◌+◌, Bool, true, false, is_some, List, ◌∷◌, Option, Some, None, length, length-take, min, slice_get, arith, refl, sym, subst, ap, ◌∙◌}
use Rattle.std.specs.BTreeMap.{get}
use Rattle.std.specs.List.{Contains}
use Rattle.std.specs.Ordering.{nat_cmp}
use Rattle.std.specs.Prelude.{option_map}
use Rattle.mencius_base.specs.declared.command.CommandId.{CommandId}
use Rattle.mencius_judge.specs.declared.histories.Lead.{Lead}
use Rattle.mencius_judge.specs.declared.histories.Row.{Row}
use Rattle.mencius_judge.specs.declared.histories.Snapshot.{Snapshot}
use Rattle.mencius_judge.specs.declared.judge.Execution.{Execution}
use Rattle.mencius_judge.specs.declared.judge.FirstReply.{FirstReply}
use Rattle.mencius_judge.specs.declared.judge.Judge.{Judge}
use Rattle.mencius_judge.specs.declared.judge.Submission.{Submission}
use Rattle.mencius_log.specs.declared.observation.Observation.{Observation}
use Rattle.mencius_judge.specs.declared.quote.Quote.{Quote}
use Rattle.mencius_judge.specs.Added.{Adds, AddsSeen, Inserts}
use Rattle.mencius_judge.specs.Judged.{HasSeen}
use Rattle.mencius_judge.specs.Log.{command_of, has_id, history, reply_of}
use Rattle.mencius_judge.specs.Promises.{WereRestored}
use Rattle.mencius_judge.specs.Quotes.{IsFirstGift, IsFirstLine, IsGift, NumberedLog, Replies, Submits, log_of}
use Rattle.mencius_judge.specs.Rows.{count_in, count_of, row_at, row_of, server_place}
use Rattle.mencius_judge.specs.Sources.{HasGifts, lead_line, reply_line, snapshot_count, snapshot_line, submission_line}
use Rattle.mencius_judge.specs.Tables.{identity_key, number_count}
use Rattle.mencius_judge.proofs.promises.Identities.{has_place, place_has}
use Rattle.mencius_judge.proofs.promises.Logs.{contains_later, known}
use Rattle.mencius_judge.proofs.quoting.Steps.{adds_none, adds_one}
use Rattle.mencius_judge.proofs.sources.FirstLines.{line_contained, line_unique}
use Rattle.mencius_judge.proofs.sources.Gifts.{gift_contained, gift_given, gift_unique, lead_contained, lead_given, lead_unique}
use Rattle.mencius_judge.proofs.sources.Missing.{no_reply, no_submission}
use Rattle.mencius_judge.proofs.sources.Places.{none_some, split_at}

-- ---- one line or none

-- the line is one of these, and is the only one with the property
pub record IsOnly (P : Quote → Type 0) (lines : NumberedLog) (line : Quote) : Type 0 where
  pub holds : P line
  pub only : (other : Quote) → P other → other ≡ line
  pub there : Contains lines line

module _ (judge : Judge) (P : NumberedLog → Quote → Type 0) (old new : List Quote) where
  pub quoted : (quote : Quote) → ((n : NumberedLog) → HasSeen judge n → IsOnly (P n) n quote) → Inserts quote old new
      → AddsSeen judge P old new
  quoted quote is inserts n line seen =
      let h = is n seen in
      adds_one (line ∷ n) (P n) quote old new h.holds h.only
      (inserts (line ∷ n) (contains_later line n quote h.there))

  pub quoted_none : ((n : NumberedLog) → HasSeen judge n → (other : Quote) → P n other → ⊥) → AddsSeen judge P old old
  quoted_none none n line seen = adds_none (line ∷ n) (P n) old (none n seen)

only_line : (P : Observation → Type 0) (lines : NumberedLog) (line : Quote) → IsFirstLine P lines line
    → IsOnly (IsFirstLine P lines) lines line
only_line P lines line h = record {
  holds = h;
  only = λ other g. line_unique P lines other line g h;
  there = line_contained P lines line h;
}

not_both : (d : Bool) → d ≡ false → d ≡ true → ⊥
not_both d e f = cc

-- ---- submissions and replies

mapped : {A B : Type 0} (f : A → B) (o : Option A) → o ≡ None → option_map f o ≡ None
mapped f o none = ap (option_map f) none

module _ (judge : Judge) (n : NumberedLog) (h : HasSeen judge n) where
  pub only_submission : (id : CommandId) (s : Submission) → id.number < number_count
      → get nat_cmp judge.submissions (identity_key id) ≡ Some s
      → IsOnly (IsFirstLine (Submits id) n) n (submission_line s)
  only_submission id s small e = only_line (Submits id) n (submission_line s) (h.sources.submitted id s small e)

  pub not_submitted : (id : CommandId) → id.number < number_count
      → get nat_cmp judge.submissions (identity_key id) ≡ None → (other : Quote) → IsFirstLine (Submits id) n other → ⊥
  not_submitted id small none other is =
      let missing : command_of (log_of n) id ≡ None =
      sym (h.log.submissions.found id small)
      ∙ mapped (λ (s : Submission). s.command) (get nat_cmp judge.submissions (identity_key id)) none in
      no_submission n id missing other (line_contained (Submits id) n other is) is.passes

  pub only_reply : (id : CommandId) (r : FirstReply) → id.number < number_count
      → get nat_cmp judge.replies (identity_key id) ≡ Some r → IsOnly (IsFirstLine (Replies id) n) n (reply_line id r)
  only_reply id r small e = only_line (Replies id) n (reply_line id r) (h.sources.replied id r small e)

  pub not_replied : (id : CommandId) → id.number < number_count
      → get nat_cmp judge.replies (identity_key id) ≡ None → (other : Quote) → IsFirstLine (Replies id) n other → ⊥
  not_replied id small none other is =
      let missing : reply_of (log_of n) id ≡ None =
      sym (h.log.replies.first id small)
      ∙ mapped (λ (r : FirstReply). r.answer) (get nat_cmp judge.replies (identity_key id)) none in
      no_reply n id missing other (line_contained (Replies id) n other is) is.passes

  -- ---- commands of histories

  -- no server has more commands than the longest history
  pub at_most : (p : ℕ) → length (history (log_of n) p) ≤ length judge.histories.order.items
  at_most p =
      let count = count_of judge.histories.places judge.histories.rows.items p in
      let size : length (history (log_of n) p) ≡ min count (length judge.histories.order.items) =
      ap length (h.log.histories.each p) ∙ length-take count judge.histories.order.items in
      omega (arith, size)

  pub only_lead : (place : ℕ) (id : CommandId) (lead : Lead) → slice_get judge.histories.order.items place ≡ Some id
      → slice_get judge.histories.leads.items place ≡ Some lead → IsOnly (IsFirstGift n place) n (lead_line id lead)
  only_lead place id lead at there =
      let is = h.sources.led place id lead at there in
      record {
        holds = is;
        only = λ other g. lead_unique place n other (lead_line id lead) h.log.were_restored g is;
        there = lead_contained place n (lead_line id lead) is;
      }

  pub no_lead : (place : ℕ) → length judge.histories.order.items ≤ place → (other : Quote)
      → IsFirstGift n place other → ⊥
  no_lead place past other is =
      let given = lead_given place n other h.log.were_restored is in
      let few = at_most is.server in
      omega (arith, given, few, past)

  pub sized : (p : ℕ) → length (history (log_of n) p) ≡ count_of judge.histories.places judge.histories.rows.items p
  sized p =
      let few = h.log.histories.within p in
      ap length (h.log.histories.each p)
      ∙ length-take (count_of judge.histories.places judge.histories.rows.items p) judge.histories.order.items
      ∙ omega (arith, few)

  -- a server without a row has no commands, and the row of another server has the numbers of its lines
  pub no_row : (p : ℕ) → row_of judge.histories.places judge.histories.rows.items p ≡ None
      → length (history (log_of n) p) ≡ 0
  no_row p none = sized p ∙ ap count_in none

  pub row_size : (p : ℕ) (row : Row) → row_of judge.histories.places judge.histories.rows.items p ≡ Some row
      → length (history (log_of n) p) ≡ row.count
  row_size p row is = sized p ∙ ap count_in is

  pub row_gifts : (p : ℕ) (row : Row) → row_of judge.histories.places judge.histories.rows.items p ≡ Some row
      → HasGifts n judge.histories.order.items p row
  row_gifts p row is = by_place (server_place judge.histories.places p) refl is
    where
      by_place : (o : Option ℕ) → server_place judge.histories.places p ≡ o
          → row_at judge.histories.rows.items o ≡ Some row
          → HasGifts n judge.histories.order.items p row
      by_place None at there = absurd (none_some there)
      by_place (Some k) at there = h.sources.given p k row at there

  -- ---- places in the longest history

  -- the place of a command's execution is its place in the longest history
  pub place_is : (id : CommandId) (x : Execution) → id.number < number_count
      → get nat_cmp judge.executions (identity_key id) ≡ Some x
      → slice_get judge.histories.order.items x.place ≡ Some id
  place_is id x small e =
      let inside : has_id judge.histories.order.items id ≡ true =
      sym (h.log.executions.all id small) ∙ ap is_some e in
      let place = has_place judge.histories.order.items id inside in
      let command = known (command_of (log_of n) id) (h.log.order.known place.0 id place.2) in
      let parts = split_at judge.histories.order.items place.0 id place.2 in
      let same : x.place ≡ length parts.0 =
      (h.log.executions.right id x parts.0 parts.1 command.0 small e parts.2 command.1).1 in
      ap (slice_get judge.histories.order.items) (same ∙ parts.3) ∙ place.2

  pub no_place : (id : CommandId) (place : ℕ) → id.number < number_count
      → get nat_cmp judge.executions (identity_key id) ≡ None
      → slice_get judge.histories.order.items place ≡ Some id → ⊥
  no_place id place small none at =
      let there : has_id judge.histories.order.items id ≡ true = place_has judge.histories.order.items id place at in
      let absent : has_id judge.histories.order.items id ≡ false =
      sym (h.log.executions.all id small) ∙ ap is_some none in
      not_both (has_id judge.histories.order.items id) absent there

-- ---- the line that gave a command

-- a quote that is inserted adds the only line with a property
pub only_added : (n : NumberedLog) (line : Quote) (P : Quote → Type 0) (quote : Quote) (old new : List Quote)
    → IsOnly P n quote → Inserts quote old new → Adds (line ∷ n) P old new
only_added n line P quote old new h inserts =
    adds_one (line ∷ n) P quote old new h.holds h.only (inserts (line ∷ n) (contains_later line n quote h.there))

module _ (n : NumberedLog) (order : List CommandId) (p : ℕ) (row : Row) (kept : WereRestored (log_of n))
    (gifts : HasGifts n order p row) where
  only_gift : (place : ℕ) (quote : Quote) → IsGift n p place quote → IsOnly (IsGift n p place) n quote
  only_gift place quote is = record {
    holds = is;
    only = λ other g. gift_unique p place n other quote kept g is;
    there = gift_contained p place n quote is;
  }

  pub only_taken : (s : Snapshot) (place : ℕ) → row.snapshot ≡ Some s → place < s.count
      → IsOnly (IsGift n p place) n (snapshot_line p s)
  only_taken s place is less = only_gift place (snapshot_line p s) (gifts.taken s place is less)

  pub only_executed : (k number place : ℕ) (id : CommandId) → snapshot_count row.snapshot + k ≡ place
      → slice_get row.lines.items k ≡ Some number → slice_get order place ≡ Some id
      → IsOnly (IsGift n p place) n (lead_line id (record { server = p; line = number }))
  only_executed k number place id sum there at =
      let quote : Quote = lead_line id (record { server = p; line = number }) in
      only_gift place quote
      (subst (λ (m : ℕ). IsGift n p m quote) sum
      (gifts.executed k number id there (ap (slice_get order) sum ∙ at)))

pub no_gift : (n : NumberedLog) (p place : ℕ) → WereRestored (log_of n) → length (history (log_of n) p) ≤ place
    → (other : Quote) → IsGift n p place other → ⊥
no_gift n p place kept few other is =
    let given = gift_given p place n other kept is in
    omega (arith, given, few)
