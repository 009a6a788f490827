-- What each observation does to the numbers of lines that a judge keeps.
use Rattle.std.proofs.Common.{◌≡◌, ◌≢◌, inl, inr, ℕ, ◌+◌, ◌<◌, ◌≤◌, List, [], ◌∷◌, ◌++◌, Option, Some, None, MatchOption, length, slice_get, arith, refl, sym, subst, ap, ap₂, ◌∙◌, ⊎_elim, length-append, length-take}
use Rattle.std.proofs.lemmas.Bool.{cases_eq}
use Rattle.std.proofs.lemmas.List.{length-map}
use Rattle.std.specs.BTreeMap.{BTreeMap, Updates, get}
use Rattle.std.specs.Ordering.{nat_cmp}
use Rattle.mencius_base.specs.declared.command.CommandId.{CommandId}
use Rattle.mencius_judge.specs.declared.histories.Lead.{Lead}
use Rattle.mencius_judge.specs.declared.histories.Row.{Row}
use Rattle.mencius_judge.specs.declared.histories.Snapshot.{Snapshot}
use Rattle.mencius_judge.specs.declared.judge.FirstReply.{FirstReply}
use Rattle.mencius_judge.specs.declared.judge.Submission.{Submission}
use Rattle.mencius_log.specs.declared.observation.Observation.TheVariants.{Execute, Restore}
use Rattle.mencius_judge.specs.declared.places.Places.{Places}
use Rattle.mencius_judge.specs.declared.quote.Quote.{Quote}
use Rattle.mencius_judge.specs.Log.{command_of, history, reply_of, servers_of}
use Rattle.mencius_judge.specs.Quotes.{IsFirstGift, IsFirstLine, IsGift, NumberedLog, Replies as IsReplyTo, Submits, log_of}
use Rattle.mencius_judge.specs.Rows.{IsAdded, IsAdvanced, IsFollowed, IsRow, count_in, count_of, row_at, row_count, server_place}
use Rattle.mencius_judge.specs.Sources.{AreSources, HasGifts, lead_line, reply_line, snapshot_count, snapshot_line, submission_line}
use Rattle.mencius_judge.specs.Tables.{AreHistories, Replies, identity_key, number_count}
use Rattle.mencius_judge.proofs.observations.RowSteps.{at_end, end_of}
use Rattle.mencius_judge.proofs.promises.Identities.{get_here, get_there, id_cases}
use Rattle.mencius_judge.proofs.sources.FirstLines.{line_here, line_later}
use Rattle.mencius_judge.proofs.sources.Gifts.{gift_here, gift_later, lead_here, lead_later}
use Rattle.mencius_judge.proofs.sources.Grows.{executed, restored}
use Rattle.mencius_judge.proofs.sources.Missing.{no_reply, no_submission}
use Rattle.mencius_judge.proofs.sources.Places.{item_before, item_there, item_within, none_some, same_some}

-- the tables are empty before the first line
pub sources_new : (order : List CommandId) (leads : List Lead) (places : Places) (rows : List Row)
    (submissions : BTreeMap ℕ Submission) (replies : Replies) → order ≡ [] → leads ≡ []
    → ((k : ℕ) → server_place places k ≡ None) → ((k : ℕ) → get nat_cmp submissions k ≡ None)
    → ((k : ℕ) → get nat_cmp replies k ≡ None) → AreSources [] order leads places rows submissions replies
sources_new order leads places rows submissions replies no_order no_leads no_places no_submissions no_replies = record {
  submitted = λ id s small e. absurd (none_some (sym (no_submissions (identity_key id)) ∙ e));
  replied = λ id r small e. absurd (none_some (sym (no_replies (identity_key id)) ∙ e));
  all = ap length no_leads ∙ sym (ap length no_order);
  led = λ n id lead at there. absurd (none_some (ap (λ xs. slice_get xs n) (sym no_order) ∙ at));
  given = λ p n row at there. absurd (none_some (sym (no_places p) ∙ at));
}

-- ---- rows

-- the further line does not change what a row says
pub gifts_later : (lines : NumberedLog) (line : Quote) (order : List CommandId) (p : ℕ) (row : Row)
    → HasGifts lines order p row → HasGifts (line ∷ lines) order p row
gifts_later lines line order p row h = record {
  count = h.count;
  taken = λ s n is less. gift_later p n line lines (snapshot_line p s) (h.taken s n is less);
  executed = λ n number id there at. gift_later p (snapshot_count row.snapshot + n) line lines
      (record { number = number; observation = Execute p id }) (h.executed n number id there at);
}

-- the places of the row's commands are below n, and the orders have the same commands below n
pub gifts_in : (lines : NumberedLog) (order new_order : List CommandId) (p : ℕ) (row : Row) (n : ℕ) → row.count ≤ n
    → ((k : ℕ) (id : CommandId) → k < n → slice_get new_order k ≡ Some id → slice_get order k ≡ Some id)
    → HasGifts lines order p row → HasGifts lines new_order p row
gifts_in lines order new_order p row n within same h = record {
  count = h.count;
  taken = h.taken;
  executed = λ k number id there at.
      let inside = item_within row.lines.items k number there in
      let size = h.count in
      h.executed k number id there (same (snapshot_count row.snapshot + k) id (omega (arith, inside, size, within)) at);
}

module _ (lines : NumberedLog) (order : List CommandId) (leads : List Lead) (places : Places) (rows : List Row)
    (submissions : BTreeMap ℕ Submission) (replies : Replies)
    (h : AreSources lines order leads places rows submissions replies) where
  -- the line changes none of the tables
  pub sources_quiet : (line : Quote) → AreSources (line ∷ lines) order leads places rows submissions replies
  sources_quiet line = record {
    submitted = λ id s small e. line_later (Submits id) line lines (submission_line s) (h.submitted id s small e);
    replied = λ id r small e. line_later (IsReplyTo id) line lines (reply_line id r) (h.replied id r small e);
    all = h.all;
    led = λ n id lead at there. lead_later n line lines (lead_line id lead) (h.led n id lead at there);
    given = λ p n row at there. gifts_later lines line order p row (h.given p n row at there);
  }

  -- ---- submissions and replies

  -- the line submits a command that was not submitted before
  pub sources_after_submit : (line : Quote) (s : Submission) (new : BTreeMap ℕ Submission) → line ≡ submission_line s
      → s.command.id.number < number_count → command_of (log_of lines) s.command.id ≡ None
      → Updates nat_cmp submissions new (identity_key s.command.id) (Some s)
      → AreSources (line ∷ lines) order leads places rows new replies
  sources_after_submit line s new is few none updates =
      let same = sources_quiet line in
      record { submitted = given; replied = same.replied; all = h.all; led = same.led; given = same.given }
    where
      own : Submits s.command.id line.observation
      own = (s.command, ap (λ (q : Quote). q.observation) is, refl)

      given : (id : CommandId) (t : Submission) → id.number < number_count
          → get nat_cmp new (identity_key id) ≡ Some t → IsFirstLine (Submits id) (line ∷ lines) (submission_line t)
      given id t small e =
          elim (id_cases s.command.id id) [
            | inl same ↦
                let known : get nat_cmp new (identity_key s.command.id) ≡ Some t =
                ap (λ (x : CommandId). get nat_cmp new (identity_key x)) same ∙ e in
                let one : s ≡ t = same_some (sym (get_here submissions new s.command.id s updates) ∙ known) in
                subst (λ (q : Quote). IsFirstLine (Submits id) (line ∷ lines) q) (is ∙ ap submission_line one)
                (subst (λ (x : CommandId). IsFirstLine (Submits x) (line ∷ lines) line) same
                (line_here (Submits s.command.id) line lines own (no_submission lines s.command.id none)))
            | inr other ↦
                line_later (Submits id) line lines (submission_line t)
                (h.submitted id t small (sym (get_there submissions new s.command.id id s updates few small other) ∙ e))
          ]

  -- the line is the first reply to a command
  pub sources_after_reply : (line : Quote) (id : CommandId) (r : FirstReply) (new : Replies) → line ≡ reply_line id r
      → id.number < number_count → reply_of (log_of lines) id ≡ None
      → Updates nat_cmp replies new (identity_key id) (Some r)
      → AreSources (line ∷ lines) order leads places rows submissions new
  sources_after_reply line id r new is few none updates =
      let same = sources_quiet line in
      record { submitted = same.submitted; replied = replied; all = h.all; led = same.led; given = same.given }
    where
      own : IsReplyTo id line.observation
      own = (r.answer, ap (λ (q : Quote). q.observation) is)

      replied : (x : CommandId) (t : FirstReply) → x.number < number_count
          → get nat_cmp new (identity_key x) ≡ Some t → IsFirstLine (IsReplyTo x) (line ∷ lines) (reply_line x t)
      replied x t small e =
          elim (id_cases id x) [
            | inl same ↦
                let known : get nat_cmp new (identity_key id) ≡ Some t =
                ap (λ (y : CommandId). get nat_cmp new (identity_key y)) same ∙ e in
                let one : r ≡ t = same_some (sym (get_here replies new id r updates) ∙ known) in
                subst (λ (y : CommandId). IsFirstLine (IsReplyTo y) (line ∷ lines) (reply_line y t)) same
                (subst (λ (q : Quote). IsFirstLine (IsReplyTo id) (line ∷ lines) q) (is ∙ ap (reply_line id) one)
                (line_here (IsReplyTo id) line lines own (no_reply lines id none)))
            | inr other ↦
                line_later (IsReplyTo x) line lines (reply_line x t)
                (h.replied x t small (sym (get_there replies new id x r updates few small other) ∙ e))
          ]

  -- ---- executions and snapshots

  module _ (histories : AreHistories (log_of lines) order places rows) where
    -- the number of servers that have a history
    size : length rows ≡ length (servers_of (log_of lines))
    size =
        sym (length-map rows row_count) ∙ ap length histories.lengths
        ∙ length-map (servers_of (log_of lines)) (λ p. length (history (log_of lines) p))

    -- the place of a server's row is within the rows, and is no other server's place
    within : (p n : ℕ) → server_place places p ≡ Some n → n < length rows
    within p n at =
        let inside = item_within (servers_of (log_of lines)) n p (histories.there p n at) in
        omega (arith, inside, size)

    apart : (p q n : ℕ) → server_place places p ≡ Some n → server_place places q ≡ Some n → p ≡ q
    apart p q n at there = same_some (sym (histories.there p n at) ∙ histories.there q n there)

    -- the history of a server has as many commands as its row says
    count_is : (p : ℕ) → length (history (log_of lines) p) ≡ count_of places rows p
    count_is p =
        let few = histories.within p in
        ap length (histories.each p) ∙ length-take (count_of places rows p) order ∙ omega (arith, few)

    -- after the line, the rows have the row of one server, and the other rows are as before
    record NewRow (line : Quote) (new_order : List CommandId) (p : ℕ) (new_places : Places) (new_rows : List Row)
        : Type 0 where
      own : (n : ℕ) (row : Row) → server_place new_places p ≡ Some n → slice_get new_rows n ≡ Some row
          → HasGifts (line ∷ lines) new_order p row
      others : (q n : ℕ) (row : Row) → p ≢ q → server_place new_places q ≡ Some n → slice_get new_rows n ≡ Some row
          → (server_place places q ≡ Some n) × (slice_get rows n ≡ Some row)

    -- the count of a row that is there
    row_is : (p n : ℕ) (row : Row) → server_place places p ≡ Some n → slice_get rows n ≡ Some row
        → count_of places rows p ≡ row.count
    row_is p n row at there = ap (λ o. count_in (row_at rows o)) at ∙ ap count_in there

    -- the line added commands to a server's row only
    with_row : (line : Quote) (new_order : List CommandId) (p : ℕ) (new_places : Places) (new_rows : List Row)
        → ((k : ℕ) (id : CommandId) → k < length order → slice_get new_order k ≡ Some id → slice_get order k ≡ Some id)
        → NewRow line new_order p new_places new_rows
        → (q n : ℕ) (row : Row) → server_place new_places q ≡ Some n → slice_get new_rows n ≡ Some row
        → HasGifts (line ∷ lines) new_order q row
    with_row line new_order p new_places new_rows same new q n row at there = ⊎_elim
        (λ (e : p ≡ q).
        subst (λ (r : ℕ). HasGifts (line ∷ lines) new_order r row) e
        (new.own n row (ap (server_place new_places) e ∙ at) there))
        (λ (other : p ≢ q).
        let was = new.others q n row other at there in
        let inside : row.count ≤ length order =
        (let few = histories.within q in let is = row_is q n row was.0 was.1 in omega (arith, few, is)) in
        gifts_in (line ∷ lines) order new_order q row (length order) inside same
        (gifts_later lines line order q row (h.given q n row was.0 was.1)))
        (cases_eq p q)

    -- a server without a row has no commands
    none_is : (p : ℕ) → server_place places p ≡ None → count_of places rows p ≡ 0
    none_is p none = ap (λ o. count_in (row_at rows o)) none

    -- the other rows after a row was added
    added_others : (p count : ℕ) (snapshot : Option Snapshot) (numbers : List ℕ) (new_places : Places)
        (new_rows : List Row) → IsAdded p count snapshot numbers places rows new_places new_rows → (q n : ℕ) (row : Row)
        → p ≢ q → server_place new_places q ≡ Some n → slice_get new_rows n ≡ Some row
        → (server_place places q ≡ Some n) × (slice_get rows n ≡ Some row)
    added_others p count snapshot numbers new_places new_rows added q n row other at there =
        let was : server_place places q ≡ Some n = sym (added.place.others q other) ∙ at in (
          was,
          item_before rows added.row n row (within q n was)
              (ap (λ xs. slice_get xs n) (sym added.rows_are) ∙ there),
        )

    -- the row that was added
    added_own : (p count : ℕ) (snapshot : Option Snapshot) (numbers : List ℕ) (new_places : Places)
        (new_rows : List Row) → (added : IsAdded p count snapshot numbers places rows new_places new_rows) → (n : ℕ)
        (row : Row) → server_place new_places p ≡ Some n → slice_get new_rows n ≡ Some row → added.row ≡ row
    added_own p count snapshot numbers new_places new_rows added n row at there =
        let last : length rows ≡ n = same_some (sym added.place.own ∙ at) in
        same_some (sym (end_of rows added.row) ∙ ap (slice_get (rows ++ added.row ∷ [])) last
        ∙ ap (λ xs. slice_get xs n) (sym added.rows_are) ∙ there)

    -- ---- a server executes a command

    module _ (number p : ℕ) (id : CommandId) (new_order : List CommandId)
        (same : (k : ℕ) (x : CommandId) → k < length order → slice_get new_order k ≡ Some x
        → slice_get order k ≡ Some x)
        (next : slice_get new_order (count_of places rows p) ≡ Some id) where
      abbrev execution : ℕ → CommandId → Quote
      execution m x = record { number = m; observation = Execute p x }

      gift : IsGift (execution number id ∷ lines) p (count_of places rows p) (execution number id)
      gift =
          let few = count_is p in
          let more : length (history (log_of (execution number id ∷ lines)) p) ≡ length (history (log_of lines) p) + 1 =
          ap length (executed (log_of lines) p id) ∙ length-append (history (log_of lines) p) (id ∷ []) in
          gift_here p (count_of places rows p) (execution number id) lines (omega (arith, few))
          (omega (arith, few, more))

      moved : (k m : ℕ) (a c : Quote) → k ≡ m → a ≡ c → IsGift (execution number id ∷ lines) p k a
          → IsGift (execution number id ∷ lines) p m c
      moved k m a c place line g =
          subst (λ (n : ℕ). IsGift (execution number id ∷ lines) p n c) place
          (subst (λ (q : Quote). IsGift (execution number id ∷ lines) p k q) line g)

      -- this line is the one that is kept for the newest command
      newest : (place m : ℕ) (x : CommandId) → count_of places rows p ≡ place → number ≡ m
          → slice_get new_order place ≡ Some x → IsGift (execution number id ∷ lines) p place (execution m x)
      newest place m x is line at =
          let command : id ≡ x = same_some (sym next ∙ ap (slice_get new_order) is ∙ at) in
          moved (count_of places rows p) place (execution number id) (execution m x) is
          (ap₂ execution line command) gift

      begun : (row : Row) → server_place places p ≡ None → IsRow 1 None (number ∷ []) row
          → HasGifts (execution number id ∷ lines) new_order p row
      begun row none is = record {
        count =
            let count = is.count_is in
            let snapshot = ap snapshot_count is.snapshot_is in
            let size = ap length is.lines_are in
            omega (arith, count, snapshot, size);
        taken = λ s n e less. absurd (none_some (sym is.snapshot_is ∙ e));
        executed = λ n m x there at.
            let only = at_end [] number n m (ap (λ xs. slice_get xs n) (sym is.lines_are) ∙ there) in
            ⊎_elim (λ (r : slice_get [] n ≡ Some m). absurd (none_some r))
            (λ (r : (n ≡ 0) × (number ≡ m)).
            let zero_is = none_is p none in
            let snapshot = ap snapshot_count is.snapshot_is in
            newest (snapshot_count row.snapshot + n) m x (omega (arith, zero_is, snapshot, r.0)) r.1 at)
            only;
      }

      advanced : (old row : Row) → count_of places rows p ≡ old.count → old.count ≤ length order
          → HasGifts lines order p old → IsRow (old.count + 1) old.snapshot (old.lines.items ++ number ∷ []) row
          → HasGifts (execution number id ∷ lines) new_order p row
      advanced old row count_old fits was is = record {
        count =
            let count = is.count_is in
            let snapshot = ap snapshot_count is.snapshot_is in
            let longer = ap length is.lines_are ∙ length-append old.lines.items (number ∷ []) in
            let before = was.count in
            omega (arith, count, snapshot, longer, before);
        taken = λ s n e less.
            gift_later p n (execution number id) lines (snapshot_line p s)
            (was.taken s n (sym is.snapshot_is ∙ e) less);
        executed = λ n m x there at.
            let snapshot = ap snapshot_count is.snapshot_is in
            let before = was.count in
            ⊎_elim (λ (r : slice_get old.lines.items n ≡ Some m).
            let inside = item_within old.lines.items n m r in
            let place : snapshot_count row.snapshot + n ≡ snapshot_count old.snapshot + n =
            ap (λ k. k + n) snapshot in
            let known : slice_get order (snapshot_count old.snapshot + n) ≡ Some x =
            same (snapshot_count old.snapshot + n) x (omega (arith, inside, before, fits))
            (ap (slice_get new_order) (sym place) ∙ at) in
            moved (snapshot_count old.snapshot + n) (snapshot_count row.snapshot + n) (execution m x) (execution m x)
            (sym place) refl
            (gift_later p (snapshot_count old.snapshot + n) (execution number id) lines (execution m x)
            (was.executed n m x r known)))
            (λ (r : (n ≡ length old.lines.items) × (number ≡ m)).
            newest (snapshot_count row.snapshot + n) m x (omega (arith, count_old, before, snapshot, r.0)) r.1 at)
            (at_end old.lines.items number n m (ap (λ xs. slice_get xs n) (sym is.lines_are) ∙ there));
      }

      followed : (new_places : Places) (new_rows : List Row) → IsFollowed number p places rows new_places new_rows
          → NewRow (execution number id) new_order p new_places new_rows
      followed new_places new_rows f = by_place (server_place places p) refl f
        where
          by_place : (o : Option ℕ) → server_place places p ≡ o
              → MatchOption o (IsAdded p 1 None (number ∷ []) places rows new_places new_rows)
              (λ n. (new_places ≡ places) × IsAdvanced number n rows new_rows)
              → NewRow (execution number id) new_order p new_places new_rows
          by_place None none added = record {
            own = λ n row at there.
                subst (λ (r : Row). HasGifts (execution number id ∷ lines) new_order p r)
                (added_own p 1 None (number ∷ []) new_places new_rows added n row at there)
                (begun added.row none added.is);
            others = added_others p 1 None (number ∷ []) new_places new_rows added;
          }
          by_place (Some n) is (same_places, step) = record {
            own = λ m row at there.
                let place : n ≡ m =
                same_some (sym is ∙ ap (λ (ps : Places). server_place ps p) (sym same_places) ∙ at) in
                let old = item_there rows n (within p n is) in
                let new = step.own old.0 old.1 in
                let one : new.0 ≡ row = same_some (sym new.1 ∙ ap (slice_get new_rows) place ∙ there) in
                let count = row_is p n old.0 is old.1 in
                let few = histories.within p in
                subst (λ (r : Row). HasGifts (execution number id ∷ lines) new_order p r) one
                (advanced old.0 new.0 count (omega (arith, count, few)) (h.given p n old.0 is old.1) new.2);
            others = λ q m row other at there.
                let was : server_place places q ≡ Some m =
                ap (λ (ps : Places). server_place ps q) (sym same_places) ∙ at in
                let elsewhere : m ≢ n = λ (e : m ≡ n). other (apart p q n is (was ∙ ap Some e)) in (
                  was,
                  sym (step.others m elsewhere) ∙ there,
                );
          }

    -- a server executes the next command of the longest history
    pub sources_after_follow : (number p : ℕ) (id : CommandId) (new_places : Places) (new_rows : List Row)
        → slice_get order (count_of places rows p) ≡ Some id → IsFollowed number p places rows new_places new_rows
        → AreSources (record { number = number; observation = Execute p id } ∷ lines) order leads new_places new_rows
        submissions replies
    sources_after_follow number p id new_places new_rows next f =
        let line : Quote = record { number = number; observation = Execute p id } in
        let quiet = sources_quiet line in
        let keep : (k : ℕ) (x : CommandId) → k < length order → slice_get order k ≡ Some x
        → slice_get order k ≡ Some x =
        λ k x less at. at in
        record {
          submitted = quiet.submitted;
          replied = quiet.replied;
          all = h.all;
          led = quiet.led;
          given = with_row line order p new_places new_rows keep
              (followed number p id order keep next new_places new_rows f);
        }

    -- a server executes a command at a place that no server had reached
    pub sources_after_lead : (number p : ℕ) (id : CommandId) (new_places : Places) (new_rows : List Row)
        → length order ≤ count_of places rows p → IsFollowed number p places rows new_places new_rows
        → AreSources (record { number = number; observation = Execute p id } ∷ lines) (order ++ id ∷ [])
        (leads ++ record { server = p; line = number } ∷ []) new_places new_rows submissions replies
    sources_after_lead number p id new_places new_rows last f =
        let line : Quote = record { number = number; observation = Execute p id } in
        let lead : Lead = record { server = p; line = number } in
        let quiet = sources_quiet line in
        let few = histories.within p in
        let place : length order ≡ count_of places rows p = omega (arith, last, few) in
        let next : slice_get (order ++ id ∷ []) (count_of places rows p) ≡ Some id =
        ap (slice_get (order ++ id ∷ [])) (sym place) ∙ end_of order id in
        record {
          submitted = quiet.submitted;
          replied = quiet.replied;
          all = length-append leads (lead ∷ []) ∙ ap (λ n. n + 1) h.all ∙ sym (length-append order (id ∷ []));
          led = λ n x l at there.
              ⊎_elim (λ (e : slice_get order n ≡ Some x).
              let inside = item_within order n x e in
              let all = h.all in
              quiet.led n x l e (item_before leads lead n l (omega (arith, inside, all)) there))
              (λ (e : (n ≡ length order) × (id ≡ x)).
              let all = h.all in
              let at_end : slice_get (leads ++ lead ∷ []) n ≡ Some lead =
              ap (slice_get (leads ++ lead ∷ [])) (e.0 ∙ sym all) ∙ end_of leads lead in
              let own : lead ≡ l = same_some (sym at_end ∙ there) in
              subst (λ (q : Quote). IsFirstGift (line ∷ lines) n q) (ap₂ lead_line e.1 own)
              (lead_here n line lines p
              (λ q. let size_q = count_is q in let few_q = histories.within q in omega (arith, e.0, size_q, few_q))
              (let size_p = count_is p in
              let more = ap length (executed (log_of lines) p id)
              ∙ length-append (history (log_of lines) p) (id ∷ []) in
              omega (arith, e.0, size_p, more, place))))
              (at_end order id n x at);
          given = with_row line (order ++ id ∷ []) p new_places new_rows
              (λ k x less at. item_before order id k x less at)
              (followed number p id (order ++ id ∷ []) (λ k x less at. item_before order id k x less at) next new_places
              new_rows f);
        }

    -- a server without a history takes over the first commands of another server
    pub sources_after_restore : (number p source count : ℕ) (new_places : Places) (new_rows : List Row)
        → count_of places rows p ≡ 0 → count ≤ count_of places rows source
        → (count ≡ 0 → (new_places ≡ places) × (new_rows ≡ rows))
        → (count ≢ 0 → IsAdded p count (Some (record { line = number; source = source; count = count })) [] places rows
        new_places new_rows)
        → AreSources (record { number = number; observation = Restore p source count } ∷ lines) order leads new_places
        new_rows submissions replies
    sources_after_restore number p source count new_places new_rows none enough zero_is some =
        ⊎_elim (λ (e : count ≡ 0).
        let kept = zero_is e in
        subst (λ (ps : Places). AreSources (line ∷ lines) order leads ps new_rows submissions replies) (sym kept.0)
        (subst (λ (rs : List Row). AreSources (line ∷ lines) order leads places rs submissions replies) (sym kept.1)
        quiet))
        (λ (e : count ≢ 0). with_added (some e))
        (cases_eq count 0)
      where
        line : Quote
        line = record { number = number; observation = Restore p source count }

        quiet : AreSources (line ∷ lines) order leads places rows submissions replies
        quiet = sources_quiet line

        snapshot : Snapshot
        snapshot = record { line = number; source = source; count = count }

        given : (n : ℕ) → n < count → IsGift (line ∷ lines) p n line
        given n less =
            let empty = count_is p in
            let theirs = count_is source in
            let taken = ap length (restored (log_of lines) p source count)
            ∙ length-take count (history (log_of lines) source) in
            gift_here p n line lines (omega (arith, empty, none)) (omega (arith, taken, theirs, enough, less))

        own : (row : Row) → IsRow count (Some snapshot) [] row → HasGifts (line ∷ lines) order p row
        own row is = record {
          count =
              let count_row = is.count_is in
              let taken = ap snapshot_count is.snapshot_is in
              let size_row = ap length is.lines_are in
              omega (arith, count_row, taken, size_row);
          taken = λ s n e less.
              let one : snapshot ≡ s = same_some (sym is.snapshot_is ∙ e) in
              let size_one : s.count ≡ count = ap (λ (t : Snapshot). t.count) (sym one) in
              subst (λ (t : Snapshot). IsGift (line ∷ lines) p n (snapshot_line p t)) one
              (given n (omega (arith, less, size_one)));
          executed = λ n m x there at. absurd (none_some (ap (λ xs. slice_get xs n) (sym is.lines_are) ∙ there));
        }

        with_added : IsAdded p count (Some (record { line = number; source = source; count = count })) [] places rows
            new_places new_rows → AreSources (line ∷ lines) order leads new_places new_rows submissions replies
        with_added added = record {
          submitted = quiet.submitted;
          replied = quiet.replied;
          all = h.all;
          led = quiet.led;
          given = with_row line order p new_places new_rows (λ k x less at. at) (record {
            own = λ n row at there.
                subst (λ (r : Row). HasGifts (line ∷ lines) order p r)
                (added_own p count (Some snapshot) [] new_places new_rows added n row at there)
                (own added.row added.is);
            others = added_others p count (Some snapshot) [] new_places new_rows added;
          });
        }
