-- The lines that the tables give are the reasons for a violation.
use Rattle.std.proofs.Common.{◌≡◌, ◌⊎◌, inl, inr, ℕ, ◌+◌, ◌<◌, ◌≤◌, true, is_some, List, [], ◌∷◌, ◌++◌, Option, Some, length, slice_get, take, arith, refl, sym, subst, ap, ◌∙◌}
use Rattle.std.proofs.lemmas.List.{take_all}
use Rattle.std.specs.List.{Contains}
use Rattle.mencius_base.specs.declared.command.Command.{Command}
use Rattle.mencius_base.specs.declared.command.CommandId.{CommandId}
use Rattle.mencius_model.specs.KeyMap.{key_of, value_at}
use Rattle.mencius_judge.specs.declared.judge.Judge.{Judge}
use Rattle.mencius_log.specs.declared.observation.Answer.{Answer}
use Rattle.mencius_log.specs.declared.observation.Observation.{Observation}
use Rattle.mencius_log.specs.declared.observation.Observation.TheVariants.{Submit, Execute, Reply, Lookup, Tell, Settle, Restore}
use Rattle.mencius_judge.specs.declared.quote.Quote.{Quote}
use Rattle.mencius_judge.specs.declared.violation.Violation.TheVariants as violation
use Rattle.mencius_judge.specs.Added.{Adds, IsGiftOf, IsLastOf, ShowsReply}
use Rattle.mencius_judge.specs.Judged.{HasSeen}
use Rattle.mencius_judge.specs.Log.{Log, command_of, commands_of, history}
use Rattle.mencius_judge.specs.Quotes.{IsChange, IsFirstGift, IsFirstLine, IsGift, IsReason, NumberedLog, Replies, Submits, log_of}
use Rattle.mencius_judge.specs.Rows.{count_of}
use Rattle.mencius_judge.specs.Timelines.{IsBeginning, held_by}
use Rattle.mencius_judge.specs.Violations.{IsAnswerAt, IsShownBy}
use Rattle.mencius_judge.proofs.observations.HistorySteps.{whole_get}
use Rattle.mencius_judge.proofs.observations.RowSteps.{still_item}
use Rattle.mencius_judge.proofs.promises.Floors.{commands-length}
use Rattle.mencius_judge.proofs.quoting.Fronts.{begins, front_commands, still_commands, still_known, taken_item}
use Rattle.mencius_judge.proofs.quoting.LastChanges.{change_later, change_split, from_change, to_change}
use Rattle.mencius_judge.proofs.quoting.Steps.{adds_own}
use Rattle.mencius_judge.proofs.quoting.Tables.{at_most, sized}
use Rattle.mencius_judge.proofs.sources.FirstLines.{line_later, line_split}
use Rattle.mencius_judge.proofs.sources.Gifts.{gift_given, gift_later, gift_split, lead_later, lead_split}
use Rattle.mencius_judge.proofs.sources.Grows.{executed}
use Rattle.mencius_judge.proofs.sources.Places.{item_before, item_within, same_some}

-- a first line after a further line is that line or the first line before it
module _ (P : Observation → Type 0) (line : Quote) (lines : NumberedLog) (q : Quote) where
  pub line_or : IsFirstLine P (line ∷ lines) q → (q ≡ line) ⊎ IsFirstLine P lines q
  line_or h = elim (line_split P line lines q h) [ inl r ↦ inl r.0 | inr first ↦ inr first ]

module _ (p n : ℕ) (line : Quote) (lines : NumberedLog) (q : Quote) where
  pub gift_or : IsGift (line ∷ lines) p n q → (q ≡ line) ⊎ IsGift lines p n q
  gift_or h = elim (gift_split p n line lines q h) [ inl r ↦ inl r.0 | inr gift ↦ inr gift ]

module _ (n : ℕ) (line : Quote) (lines : NumberedLog) (q : Quote) where
  pub lead_or : IsFirstGift (line ∷ lines) n q → (q ≡ line) ⊎ IsFirstGift lines n q
  lead_or h = elim (lead_split n line lines q h) [ inl r ↦ inl r.0 | inr lead ↦ inr lead ]

-- an identity at a place of a history had its command before the line
was_command : (w : Log) (o : Observation) (p place : ℕ) (id : CommandId) (c : Command)
    → (slice_get (history w p) place ≡ Some id → is_some (command_of w id) ≡ true)
    → slice_get (history (o ∷ w) p) place ≡ Some id → command_of (o ∷ w) id ≡ Some c → command_of w id ≡ Some c
was_command w (Submit x) p place id c old at e = sym (still_known w (Submit x) id (old at)) ∙ e
was_command w (Execute server x) p place id c old at e = e
was_command w (Reply x answer) p place id c old at e = e
was_command w (Lookup reader key text) p place id c old at e = e
was_command w (Tell reader server) p place id c old at e = e
was_command w (Settle server) p place id c old at e = e
was_command w (Restore server source count) p place id c old at e = e

take_front : {A : Type 0} (front : List A) (x : A) (back : List A) → take (length front) (front ++ x ∷ back) ≡ front
take_front [] x back = refl
take_front (y ∷ front) x back = ap (λ ys. y ∷ ys) (take_front front x back)

at_front : {A : Type 0} (front : List A) (x : A) (back : List A) → slice_get (front ++ x ∷ back) (length front) ≡ Some x
at_front [] x back = refl
at_front (y ∷ front) x back = at_front front x back

module _ (judge : Judge) (n : NumberedLog) (line : Quote) (h : HasSeen judge n) where
  abbrev w : Log
  w = log_of n

  abbrev o : Observation
  o = line.observation

  abbrev order : List CommandId
  order = judge.histories.order.items

  -- the place of an item of a history in the longest history
  in_order : (p place : ℕ) (id : CommandId) → slice_get (history w p) place ≡ Some id → slice_get order place ≡ Some id
  in_order p place id at =
      whole_get (count_of judge.histories.places judge.histories.rows.items p) order place id
      (ap (λ xs. slice_get xs place) (sym (h.log.histories.each p)) ∙ at)

  -- ---- what is known of a wrong reply

  pub record IsWrongAt (id : CommandId) (place : ℕ) (held : Option (List ℕ)) (c : Command) : Type 0 where
    pub known : command_of w id ≡ Some c
    pub within : place ≤ length order
    pub held_is : held_by (commands_of w order) (key_of c.op) place ≡ held
    pub server : ℕ
    pub less : place < length (history (o ∷ w) server)

  module _ (id : CommandId) (place : ℕ) (held : Option (List ℕ)) (c : Command) (at : IsAnswerAt (o ∷ w) id c place held)
    where
      there : slice_get (history (o ∷ w) at.server) place ≡ Some id
      there =
          ap (λ xs. slice_get xs place) at.splits ∙ ap (slice_get (at.front ++ id ∷ at.back)) at.place_is
          ∙ at_front at.front id at.back

      less : place < length (history (o ∷ w) at.server)
      less = item_within (history (o ∷ w) at.server) place id there

      begin : (take place (history (o ∷ w) at.server) ≡ take place order) × (place ≤ length order)
      begin = begins w order judge.histories.places judge.histories.rows.items h.log.histories o at.server place less

      front_is : take place order ≡ at.front
      front_is =
          sym begin.0 ∙ ap (take place) at.splits ∙ ap (λ k. take k (at.front ++ id ∷ at.back)) at.place_is
          ∙ take_front at.front id at.back

      pub wrong_at : IsWrongAt id place held c
      wrong_at = record {
        known = was_command w o at.server place id c
            (λ e. h.log.order.known place id (in_order at.server place id e)) there at.there;
        within = begin.1;
        held_is =
            ap (value_at (key_of c.op)) (front_commands w order place (λ m x less e. h.log.order.known m x e)
            ∙ sym (still_commands w o (take place order) (λ m x e. h.log.order.known m x (whole_get place order m x e)))
            ∙ ap (commands_of (o ∷ w)) front_is)
            ∙ sym at.is;
        server = at.server;
        less = less;
      }

  -- ---- each violation

  module _ (old new : List Quote) (own : Contains old line) where
    pub one_command : (id : CommandId) → Adds (line ∷ n) (IsFirstLine (Submits id) n) old new
        → Adds (line ∷ n) (IsReason (line ∷ n) (violation.OneCommand id)) old new
    one_command id =
        adds_own (line ∷ n) (IsFirstLine (Submits id) n) (IsReason (line ∷ n) (violation.OneCommand id)) line old new
        own (λ q r. line_later (Submits id) line n q r) (λ q r. line_or (Submits id) line n q r)

    pub once : (server place : ℕ) (id : CommandId) → IsShownBy w o (violation.Once server place id)
        → Adds (line ∷ n) (IsGiftOf order server id n) old new
        → Adds (line ∷ n) (IsReason (line ∷ n) (violation.Once server place id)) old new
    once server place id shown =
        adds_own (line ∷ n) (IsGiftOf order server id n) (IsReason (line ∷ n) (violation.Once server place id)) line old
        new own
        (λ q r.
        let given = gift_given server r.0 n q h.log.were_restored r.2 in
        let size = sized judge n h server in
        let inside : slice_get (history w server) r.0 ≡ Some id = was_there r.0 r.1 (omega (arith, given)) in (
          r.0,
          omega (arith, given, shown.1),
          ap (λ xs. slice_get xs r.0) grown ∙ still_item (history w server) (id ∷ []) r.0 id inside,
          gift_later server r.0 line n q r.2,
        ))
        (λ q r. elim (gift_split server r.0 line n q r.3) [
          | inl is ↦ inl is.0
          | inr gift ↦ inr (
            r.0,
            in_order server r.0 id
                (item_before (history w server) id r.0 id (omega (arith, r.1, shown.1))
                (ap (λ xs. slice_get xs r.0) (sym grown) ∙ r.2)),
            gift,
          )
        ])
      where
        grown : history (o ∷ w) server ≡ history w server ++ id ∷ []
        grown = ap (λ (x : Observation). history (x ∷ w) server) shown.0 ∙ executed w server id

        was_there : (k : ℕ) → slice_get order k ≡ Some id → k < length (history w server)
            → slice_get (history w server) k ≡ Some id
        was_there k at less =
            let size = sized judge n h server in
            ap (λ xs. slice_get xs k) (h.log.histories.each server)
            ∙ taken_item (count_of judge.histories.places judge.histories.rows.items server) order k
            (omega (arith, less, size))
            ∙ at

    pub same_order : (server place : ℕ) (expected found : CommandId) → Adds (line ∷ n) (IsFirstGift n place) old new
        → Adds (line ∷ n) (IsReason (line ∷ n) (violation.SameOrder server place expected found)) old new
    same_order server place expected found =
        adds_own (line ∷ n) (IsFirstGift n place)
        (IsReason (line ∷ n) (violation.SameOrder server place expected found)) line old new own
        (λ q r. lead_later place line n q r) (λ q r. lead_or place line n q r)

    pub real_time : (server place : ℕ) (id behind : CommandId)
        → Adds (line ∷ n) (λ (q : Quote). IsFirstLine (Submits behind) n q ⊎ (IsFirstLine (Replies behind) n q
        ⊎ IsFirstLine (Submits id) n q)) old new
        → Adds (line ∷ n) (IsReason (line ∷ n) (violation.RealTime server place id behind)) old new
    real_time server place id behind =
        adds_own (line ∷ n) _ (IsReason (line ∷ n) (violation.RealTime server place id behind)) line old new own to from
      where
        to : (q : Quote) → IsFirstLine (Submits behind) n q ⊎ (IsFirstLine (Replies behind) n q
            ⊎ IsFirstLine (Submits id) n q)
            → IsReason (line ∷ n) (violation.RealTime server place id behind) q
        to q (inl r) = inr (inl (line_later (Submits behind) line n q r))
        to q (inr (inl r)) = inr (inr (line_later (Replies behind) line n q r))
        to q (inr (inr r)) = inl (line_later (Submits id) line n q r)

        from : (q : Quote) → IsReason (line ∷ n) (violation.RealTime server place id behind) q
            → (q ≡ line) ⊎ (IsFirstLine (Submits behind) n q ⊎ (IsFirstLine (Replies behind) n q
            ⊎ IsFirstLine (Submits id) n q))
        from q (inl r) = elim (line_or (Submits id) line n q r) [ inl is ↦ inl is | inr t ↦ inr (inr (inr t)) ]
        from q (inr (inl r)) = elim (line_or (Submits behind) line n q r) [ inl is ↦ inl is | inr t ↦ inr (inl t) ]
        from q (inr (inr r)) =
            elim (line_or (Replies behind) line n q r) [ inl is ↦ inl is | inr t ↦ inr (inr (inl t)) ]

    pub one_reply : (id : CommandId) (expected found : Answer) → Adds (line ∷ n) (IsFirstLine (Replies id) n) old new
        → Adds (line ∷ n) (IsReason (line ∷ n) (violation.OneReply id expected found)) old new
    one_reply id expected found =
        adds_own (line ∷ n) (IsFirstLine (Replies id) n) (IsReason (line ∷ n) (violation.OneReply id expected found))
        line old new own (λ q r. line_later (Replies id) line n q r) (λ q r. line_or (Replies id) line n q r)

    pub settled : (server : ℕ) (id : CommandId) → Adds (line ∷ n) (IsFirstLine (Replies id) n) old new
        → Adds (line ∷ n) (IsReason (line ∷ n) (violation.Settled server id)) old new
    settled server id =
        adds_own (line ∷ n) (IsFirstLine (Replies id) n) (IsReason (line ∷ n) (violation.Settled server id)) line
        old new own (λ q r. line_later (Replies id) line n q r) (λ q r. line_or (Replies id) line n q r)

    pub restore : (server source count : ℕ) → Adds (line ∷ n) (IsGift n server 0) old new
        → Adds (line ∷ n) (IsReason (line ∷ n) (violation.Restore server source count)) old new
    restore server source count =
        adds_own (line ∷ n) (IsGift n server 0) (IsReason (line ∷ n) (violation.Restore server source count)) line
        old new own (λ q r. gift_later server 0 line n q r) (λ q r. gift_or server 0 line n q r)

    pub right_reply : (id : CommandId) (place : ℕ) (expected : Option (List ℕ)) (found : Answer) (c : Command)
        → IsWrongAt id place expected c → Adds (line ∷ n) (ShowsReply order id (key_of c.op) place n) old new
        → Adds (line ∷ n) (IsReason (line ∷ n) (violation.RightReply id place expected found)) old new
    right_reply id place expected found c wrong =
        adds_own (line ∷ n) (ShowsReply order id (key_of c.op) place n)
        (IsReason (line ∷ n) (violation.RightReply id place expected found)) line old new own to from
      where
        now : command_of (o ∷ w) id ≡ Some c
        now = still_known w o id (ap is_some wrong.known) ∙ wrong.known

        same : (p : ℕ) → place < length (history (o ∷ w) p) → take place (history (o ∷ w) p) ≡ take place order
        same p less =
            (begins w order judge.histories.places judge.histories.rows.items h.log.histories o p place less).0

        to : (q : Quote) → ShowsReply order id (key_of c.op) place n q
            → IsReason (line ∷ n) (violation.RightReply id place expected found) q
        to q (inl r) = inl (line_later (Submits id) line n q r)
        to q (inr (inl r)) = inr (inl (line_later (Replies id) line n q r))
        to q (inr (inr (inl r))) = inr (inr (inl (lead_later place line n q r)))
        to q (inr (inr (inr r))) = inr (inr (inr (
          wrong.server,
          wrong.less,
          c,
          now,
          change_later line n order (history (o ∷ w) wrong.server) (key_of c.op) place h.log.order
              (same wrong.server wrong.less) q r,
        )))

        from : (q : Quote) → IsReason (line ∷ n) (violation.RightReply id place expected found) q
            → (q ≡ line) ⊎ ShowsReply order id (key_of c.op) place n q
        from q (inl r) = elim (line_or (Submits id) line n q r) [ inl is ↦ inl is | inr t ↦ inr (inl t) ]
        from q (inr (inl r)) = elim (line_or (Replies id) line n q r) [ inl is ↦ inl is | inr t ↦ inr (inr (inl t)) ]
        from q (inr (inr (inl r))) =
            elim (lead_or place line n q r) [ inl is ↦ inl is | inr t ↦ inr (inr (inr (inl t))) ]
        from q (inr (inr (inr r))) =
            let one : r.2 ≡ c = same_some (sym r.3 ∙ now) in
            let change : IsChange (line ∷ n) (history (o ∷ w) r.0) (key_of c.op) place q =
            subst (λ (x : Command). IsChange (line ∷ n) (history (o ∷ w) r.0) (key_of x.op) place q) one r.4 in
            elim (change_split line n order (history (o ∷ w) r.0) (key_of c.op) place h.log.order (same r.0 r.1) q
            change) [
              | inl is ↦ inl is
              | inr t ↦ inr (inr (inr (inr t)))
            ]

    pub right_lookup : (reader : ℕ) (key : List ℕ) (from to changed : ℕ) (found : Option (List ℕ))
        → IsShownBy w o (violation.RightLookup reader key from to found)
        → IsBeginning (held_by (commands_of w order) key) (length (commands_of w order)) changed
        → Adds (line ∷ n) (λ (q : Quote). IsLastOf order from n q ⊎ IsLastOf order changed n q) old new
        → Adds (line ∷ n) (IsReason (line ∷ n) (violation.RightLookup reader key from to found)) old new
    right_lookup reader key from to changed found shown began =
        adds_own (line ∷ n) (λ (q : Quote). IsLastOf order from n q ⊎ IsLastOf order changed n q)
        (IsReason (line ∷ n) (violation.RightLookup reader key from to found)) line old new own forth back
      where
        unread : (p : ℕ) → history (o ∷ w) p ≡ history w p
        unread p = ap (λ (x : Observation). history (x ∷ w) p) shown.0

        size : to ≡ length order
        size =
            let some = h.log.histories.some in
            let other = ap length some.1 in
            let most = shown.2.longest some.0 in
            let own_size = shown.2.size in
            let few = at_most judge n h shown.2.server in
            omega (arith, other, most, own_size, few)

        whole : (p : ℕ) → length (history (o ∷ w) p) ≡ to → history (o ∷ w) p ≡ order
        whole p e =
            let count = count_of judge.histories.places judge.histories.rows.items p in
            let now = ap length (unread p) in
            let is = sized judge n h p in
            unread p ∙ h.log.histories.each p ∙ take_all count order (omega (arith, e, now, is, size))

        longest : (p : ℕ) × (length (history (o ∷ w) p) ≡ to)
        longest = (shown.2.server, ap length (unread shown.2.server) ∙ sym shown.2.size)

        commands : length (commands_of w order) ≡ to
        commands = commands-length w order h.log.order.known ∙ sym size

        began_to : IsBeginning (held_by (commands_of w order) key) to changed
        began_to = subst (λ (k : ℕ). IsBeginning (held_by (commands_of w order) key) k changed) commands began

        forth : (q : Quote) → IsLastOf order from n q ⊎ IsLastOf order changed n q
            → IsReason (line ∷ n) (violation.RightLookup reader key from to found) q
        forth q (inl r) = (
          longest.0,
          longest.1,
          inl (
            r.2,
            r.0,
            r.1,
            ap (λ xs. slice_get xs r.0) (whole longest.0 longest.1) ∙ r.3,
            line_later (Submits r.2) line n q r.4,
          ),
        )
        forth q (inr r) = (
          longest.0,
          longest.1,
          inr (change_later line n order (history (o ∷ w) longest.0) key to h.log.order
              (ap (take to) (whole longest.0 longest.1)) q (to_change n order key to changed began_to q r)),
        )

        back : (q : Quote) → IsReason (line ∷ n) (violation.RightLookup reader key from to found) q
            → (q ≡ line) ⊎ (IsLastOf order from n q ⊎ IsLastOf order changed n q)
        back q r = by_kind r.2
          where
            by_kind : ((id : CommandId) × (k : ℕ) × (k + 1 ≡ from)
                × (slice_get (history (log_of (line ∷ n)) r.0) k ≡ Some id) × IsFirstLine (Submits id) (line ∷ n) q)
                ⊎ IsChange (line ∷ n) (history (log_of (line ∷ n)) r.0) key to q
                → (q ≡ line) ⊎ (IsLastOf order from n q ⊎ IsLastOf order changed n q)
            by_kind (inl t) = elim (line_or (Submits t.0) line n q t.4) [
              | inl is ↦ inl is
              | inr first ↦ inr (inl (t.1, t.2, t.0, ap (λ xs. slice_get xs t.1) (sym (whole r.0 r.1)) ∙ t.3, first))
            ]
            by_kind (inr t) =
                elim (change_split line n order (history (o ∷ w) r.0) key to h.log.order
                (ap (take to) (whole r.0 r.1)) q t) [
                  | inl is ↦ inl is
                  | inr change ↦ inr (inr (from_change n order key to changed began_to q change))
                ]
