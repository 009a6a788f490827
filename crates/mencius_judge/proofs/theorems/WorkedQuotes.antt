-- For each promise, the lines that a violation quotes in a small log.
use Rattle.std.proofs.Common.{◌≡◌, ◌<◌, ◌≤◌, inl, inr, ℕ, zero, suc, Bool, true, false, cond, List, [], ◌∷◌, ◌++◌, Some, None, arith, length, slice_get, refl, sym, subst, ap, ◌∙◌}
use Rattle.std.specs.Prelude.{◌==◌, ⊤}
use Rattle.std.specs.List.{Contains}
use Rattle.std.proofs.lemmas.List.Elements.{Contains-append_right, Contains-append_cases}
use Rattle.mencius_base.specs.declared.command.Command.{Command}
use Rattle.mencius_base.specs.declared.command.CommandId.{CommandId}
use Rattle.mencius_base.specs.declared.command.Op.TheVariants.{Set}
use Rattle.mencius_model.proofs.worked.WorkedSchedules.{nothing, set_a, text_x}
use Rattle.mencius_log.specs.declared.observation.Answer.TheVariants.{Held, Done, Failed}
use Rattle.mencius_log.specs.declared.observation.Observation.{Observation}
use Rattle.mencius_log.specs.declared.observation.Observation.TheVariants.{Submit, Execute, Reply, Lookup, Tell, Settle, Restore}
use Rattle.mencius_judge.specs.declared.quote.Quote.{Quote}
use Rattle.mencius_judge.specs.declared.violation.Violation.{Violation}
use Rattle.mencius_judge.specs.declared.violation.Violation.TheVariants as violation
use Rattle.mencius_judge.specs.Log.{history}
use Rattle.mencius_judge.specs.Quotes.{AreQuotes, IsFirstGift, IsFirstLine, IsGift, IsLastChange, IsReason, NumberedLog, Replies, Submits, log_of}
use Rattle.mencius_judge.specs.Timelines.{held_by}
use Rattle.mencius_judge.proofs.promises.Logs.{contains_cons, contains_here, contains_later, contains_none}
use Rattle.mencius_judge.proofs.sources.FirstLines.{HasNoLine, line_here, line_later, line_unique}
use Rattle.mencius_judge.proofs.sources.Gifts.{gift_given, gift_here, gift_later, gift_split, gift_unique, lead_here, lead_later, lead_unique}
use Rattle.mencius_judge.proofs.theorems.WorkedLogs.{a, cas_a, first, second, x, y}

-- ---- reasons and quotes

-- the numbers of the quotes rise, and are above this one
abbrev AreRising : ℕ → List Quote → Type 0
AreRising low [] = ⊤
AreRising low (quote ∷ quotes) = (low < quote.number) × AreRising quote.number quotes

all_above : (low : ℕ) (quotes : List Quote) → AreRising low quotes → (n : ℕ) (b : Quote)
    → slice_get quotes n ≡ Some b → low < b.number
all_above low [] h n b e = absurd (cc)
all_above low (quote ∷ quotes) h zero b e =
    let same : quote ≡ b = cc in subst (λ (q : Quote). low < q.number) same h.0
all_above low (quote ∷ quotes) h (suc n) b e = omega (arith, h.0, all_above quote.number quotes h.1 n b e)

in_order : (low : ℕ) (quotes : List Quote) → AreRising low quotes → (n m : ℕ) (b c : Quote) → n < m
    → slice_get quotes n ≡ Some b → slice_get quotes m ≡ Some c → b.number < c.number
in_order low [] h n m b c less e f = absurd (cc)
in_order low (quote ∷ quotes) h n zero b c less e f = absurd (omega (arith, less))
in_order low (quote ∷ quotes) h zero (suc m) b c less e f =
    let same : quote ≡ b = cc in
    subst (λ (q : Quote). q.number < c.number) same (all_above quote.number quotes h.1 m c f)
in_order low (quote ∷ quotes) h (suc n) (suc m) b c less e f =
    in_order quote.number quotes h.1 n m b c (omega (arith, less)) e f

-- each of the quotes has this property
abbrev AreAll : (Quote → Type 0) → List Quote → Type 0
AreAll P [] = ⊤
AreAll P (quote ∷ quotes) = P quote × AreAll P quotes

each : (P : Quote → Type 0) (quotes : List Quote) → AreAll P quotes → (quote : Quote) → Contains quotes quote → P quote
each P [] h quote inside = absurd (contains_none quote inside)
each P (q ∷ quotes) h quote inside =
    elim (contains_cons q quotes quote inside) [
      | inl e ↦ subst P e h.0
      | inr there ↦ each P quotes h.1 quote there
    ]

-- the reasons for a violation and then its line are its quotes, if their numbers rise
quotes_are : (line : Quote) (earlier : NumberedLog) (v : Violation) (reasons : List Quote)
    → AreRising 0 (reasons ++ line ∷ []) → AreAll (IsReason (line ∷ earlier) v) reasons
    → ((quote : Quote) → IsReason (line ∷ earlier) v quote → Contains (reasons ++ line ∷ []) quote)
    → AreQuotes line earlier v (reasons ++ line ∷ [])
quotes_are line earlier v reasons rising sound complete = record {
  sound = λ quote inside. elim (Contains-append_cases reasons (line ∷ []) quote inside) [
    | inl there ↦ inr (each (IsReason (line ∷ earlier) v) reasons sound quote there)
    | inr last ↦
        elim (contains_cons line [] quote last) [
          | inl e ↦ inl (sym e)
          | inr none ↦ absurd (contains_none quote none)
        ]
  ];
  own = Contains-append_right reasons (line ∷ []) line (contains_here line [] line refl);
  complete = complete;
  rising = in_order 0 (reasons ++ line ∷ []) rising;
}

one_of : (quotes : List Quote) (n : ℕ) (q quote : Quote) → slice_get quotes n ≡ Some q → quote ≡ q → Contains quotes quote
one_of [] n q quote e is = absurd (cc)
one_of (z ∷ quotes) zero q quote e is = contains_here z quotes quote (cc)
one_of (z ∷ quotes) (suc n) q quote e is = contains_later z quotes quote (one_of quotes n q quote e is)

abbrev at : ℕ → Observation → Quote
at n o = record { number = n; observation = o }

-- ---- first lines

none_in : (P : Observation → Type 0) → HasNoLine P []
none_in P other inside passes = contains_none other inside

none_more : (P : Observation → Type 0) (line : Quote) (lines : NumberedLog) → (P line.observation → ⊥)
    → HasNoLine P lines → HasNoLine P (line ∷ lines)
none_more P line lines here before other inside passes =
    elim (contains_cons line lines other inside) [
      | inl e ↦ here (subst (λ (q : Quote). P q.observation) (sym e) passes)
      | inr there ↦ before other there passes
    ]

-- the first submission is not that of the second command
not_second : Submits second (Submit set_a) → ⊥
not_second h =
    let commands : set_a ≡ h.0 = cc (h.1) in
    let clients = ap (λ (id : CommandId). id.client) (ap (λ (c : Command). c.id) commands ∙ h.2) in
    omega (arith, clients)

-- ---- OneCommand

abbrev line_1 : Quote
line_1 = at 1 (Submit set_a)

first_submitted : IsFirstLine (Submits first) (line_1 ∷ []) line_1
first_submitted = line_here (Submits first) line_1 [] (set_a, refl, refl) (none_in (Submits first))

abbrev other_command : Quote
other_command = at 2 (Submit (record { id = first; op = Set a y }))

of_two_commands : AreQuotes other_command (line_1 ∷ []) (violation.OneCommand first) (line_1 ∷ other_command ∷ [])
of_two_commands = quotes_are other_command (line_1 ∷ []) (violation.OneCommand first) (line_1 ∷ [])
    (omega arith, (omega arith, tt)) (there, tt)
    (λ quote h. one_of (line_1 ∷ other_command ∷ []) 0 line_1 quote refl
    (line_unique (Submits first) (other_command ∷ line_1 ∷ []) quote line_1 h there))
  where
    there : IsFirstLine (Submits first) (other_command ∷ line_1 ∷ []) line_1
    there = line_later (Submits first) other_command (line_1 ∷ []) line_1 first_submitted

-- ---- Submitted

of_unknown_command : AreQuotes (at 2 (Execute 0 second)) (line_1 ∷ []) (violation.Submitted second)
    (at 2 (Execute 0 second) ∷ [])
of_unknown_command = quotes_are (at 2 (Execute 0 second)) (line_1 ∷ []) (violation.Submitted second) []
    (omega arith, tt) tt (λ quote h. absurd h)

-- ---- Once: the command came with a snapshot

abbrev line_2 : Quote
line_2 = at 2 (Execute 0 first)

abbrev snapshot : Quote
snapshot = at 3 (Restore 7 0 1)

abbrev once_more : Quote
once_more = at 4 (Execute 7 first)

of_snapshot : AreQuotes once_more (snapshot ∷ line_2 ∷ line_1 ∷ []) (violation.Once 7 1 first) (snapshot ∷ once_more ∷ [])
of_snapshot = quotes_are once_more (snapshot ∷ line_2 ∷ line_1 ∷ []) (violation.Once 7 1 first) (snapshot ∷ [])
    (omega arith, (omega arith, tt)) ((0, omega arith, refl, there), tt)
    (λ quote h.
    let zero_is : h.0 ≡ 0 = omega (arith, h.1) in
    let gift : IsGift (once_more ∷ snapshot ∷ line_2 ∷ line_1 ∷ []) 7 0 quote =
    subst (λ (n : ℕ). IsGift (once_more ∷ snapshot ∷ line_2 ∷ line_1 ∷ []) 7 n quote) zero_is h.3 in
    one_of (snapshot ∷ once_more ∷ []) 0 snapshot quote refl
    (gift_unique 7 0 (once_more ∷ snapshot ∷ line_2 ∷ line_1 ∷ []) quote snapshot (refl, omega arith, tt) gift there))
  where
    there : IsGift (once_more ∷ snapshot ∷ line_2 ∷ line_1 ∷ []) 7 0 snapshot
    there = gift_later 7 0 once_more (snapshot ∷ line_2 ∷ line_1 ∷ []) snapshot
        (gift_here 7 0 snapshot (line_2 ∷ line_1 ∷ []) (omega arith) (omega arith))

-- ---- SameOrder

abbrev both_submitted : NumberedLog
both_submitted = at 2 (Submit cas_a) ∷ line_1 ∷ []

abbrev line_3 : Quote
line_3 = at 3 (Execute 0 first)

abbrev crossed : Quote
crossed = at 4 (Execute 1 second)

of_crossed_order : AreQuotes crossed (line_3 ∷ both_submitted) (violation.SameOrder 1 0 first second) (line_3 ∷ crossed ∷ [])
of_crossed_order = quotes_are crossed (line_3 ∷ both_submitted) (violation.SameOrder 1 0 first second) (line_3 ∷ [])
    (omega arith, (omega arith, tt)) (there, tt)
    (λ quote h. one_of (line_3 ∷ crossed ∷ []) 0 line_3 quote refl
    (lead_unique 0 (crossed ∷ line_3 ∷ both_submitted) quote line_3 tt h there))
  where
    there : IsFirstGift (crossed ∷ line_3 ∷ both_submitted) 0 line_3
    there = lead_later 0 crossed (line_3 ∷ both_submitted) line_3
        (lead_here 0 line_3 both_submitted 0 (λ p. omega arith) (omega arith))

-- ---- RealTime

abbrev acknowledged_2 : Quote
acknowledged_2 = at 2 (Reply first Done)

abbrev submitted_3 : Quote
submitted_3 = at 3 (Submit cas_a)

abbrev behind : NumberedLog
behind = submitted_3 ∷ acknowledged_2 ∷ line_1 ∷ []

of_left_out_command : AreQuotes crossed behind (violation.RealTime 1 0 second first)
    (line_1 ∷ acknowledged_2 ∷ submitted_3 ∷ crossed ∷ [])
of_left_out_command = quotes_are crossed behind (violation.RealTime 1 0 second first)
    (line_1 ∷ acknowledged_2 ∷ submitted_3 ∷ []) (omega arith, (omega arith, (omega arith, (omega arith, tt))))
    (inr (inl earlier), (inr (inr reply), (inl later, tt))) all
  where
    earlier : IsFirstLine (Submits first) (crossed ∷ behind) line_1
    earlier = line_later (Submits first) crossed behind line_1
        (line_later (Submits first) submitted_3 (acknowledged_2 ∷ line_1 ∷ []) line_1
        (line_later (Submits first) acknowledged_2 (line_1 ∷ []) line_1 first_submitted))

    reply : IsFirstLine (Replies first) (crossed ∷ behind) acknowledged_2
    reply = line_later (Replies first) crossed behind acknowledged_2
        (line_later (Replies first) submitted_3 (acknowledged_2 ∷ line_1 ∷ []) acknowledged_2
        (line_here (Replies first) acknowledged_2 (line_1 ∷ []) (Done, refl)
        (none_more (Replies first) line_1 [] (λ h. absurd (cc (h.1))) (none_in (Replies first)))))

    later : IsFirstLine (Submits second) (crossed ∷ behind) submitted_3
    later = line_later (Submits second) crossed behind submitted_3
        (line_here (Submits second) submitted_3 (acknowledged_2 ∷ line_1 ∷ []) (cas_a, refl, refl)
        (none_more (Submits second) acknowledged_2 (line_1 ∷ []) (λ h. absurd (cc (h.1)))
        (none_more (Submits second) line_1 [] not_second (none_in (Submits second)))))

    all : (quote : Quote) → IsReason (crossed ∷ behind) (violation.RealTime 1 0 second first) quote
        → Contains (line_1 ∷ acknowledged_2 ∷ submitted_3 ∷ crossed ∷ []) quote
    all quote (inl h) =
        one_of (line_1 ∷ acknowledged_2 ∷ submitted_3 ∷ crossed ∷ []) 2 submitted_3 quote refl
        (line_unique (Submits second) (crossed ∷ behind) quote submitted_3 h later)
    all quote (inr (inl h)) =
        one_of (line_1 ∷ acknowledged_2 ∷ submitted_3 ∷ crossed ∷ []) 0 line_1 quote refl
        (line_unique (Submits first) (crossed ∷ behind) quote line_1 h earlier)
    all quote (inr (inr h)) =
        one_of (line_1 ∷ acknowledged_2 ∷ submitted_3 ∷ crossed ∷ []) 1 acknowledged_2 quote refl
        (line_unique (Replies first) (crossed ∷ behind) quote acknowledged_2 h reply)

-- ---- OneReply

abbrev other_reply : Quote
other_reply = at 3 (Reply first (Held None))

of_two_replies : AreQuotes other_reply (acknowledged_2 ∷ line_1 ∷ []) (violation.OneReply first Done (Held None))
    (acknowledged_2 ∷ other_reply ∷ [])
of_two_replies = quotes_are other_reply (acknowledged_2 ∷ line_1 ∷ []) (violation.OneReply first Done (Held None))
    (acknowledged_2 ∷ []) (omega arith, (omega arith, tt)) (there, tt)
    (λ quote h. one_of (acknowledged_2 ∷ other_reply ∷ []) 0 acknowledged_2 quote refl
    (line_unique (Replies first) (other_reply ∷ acknowledged_2 ∷ line_1 ∷ []) quote acknowledged_2 h there))
  where
    there : IsFirstLine (Replies first) (other_reply ∷ acknowledged_2 ∷ line_1 ∷ []) acknowledged_2
    there = line_later (Replies first) other_reply (acknowledged_2 ∷ line_1 ∷ []) acknowledged_2
        (line_here (Replies first) acknowledged_2 (line_1 ∷ []) (Done, refl)
        (none_more (Replies first) line_1 [] (λ h. absurd (cc (h.1))) (none_in (Replies first))))

-- ---- Settled

abbrev acknowledged_3 : Quote
acknowledged_3 = at 3 (Reply first Done)

abbrev settled : Quote
settled = at 4 (Settle 1)

of_lost_command : AreQuotes settled (acknowledged_3 ∷ line_2 ∷ line_1 ∷ []) (violation.Settled 1 first)
    (acknowledged_3 ∷ settled ∷ [])
of_lost_command = quotes_are settled (acknowledged_3 ∷ line_2 ∷ line_1 ∷ []) (violation.Settled 1 first)
    (acknowledged_3 ∷ []) (omega arith, (omega arith, tt)) (there, tt)
    (λ quote h. one_of (acknowledged_3 ∷ settled ∷ []) 0 acknowledged_3 quote refl
    (line_unique (Replies first) (settled ∷ acknowledged_3 ∷ line_2 ∷ line_1 ∷ []) quote acknowledged_3 h there))
  where
    there : IsFirstLine (Replies first) (settled ∷ acknowledged_3 ∷ line_2 ∷ line_1 ∷ []) acknowledged_3
    there = line_later (Replies first) settled (acknowledged_3 ∷ line_2 ∷ line_1 ∷ []) acknowledged_3
        (line_here (Replies first) acknowledged_3 (line_2 ∷ line_1 ∷ []) (Done, refl)
        (none_more (Replies first) line_2 (line_1 ∷ []) (λ h. absurd (cc (h.1)))
        (none_more (Replies first) line_1 [] (λ h. absurd (cc (h.1))) (none_in (Replies first)))))

-- ---- Restore

abbrev restored : Quote
restored = at 3 (Restore 0 7 0)

of_second_history : AreQuotes restored (line_2 ∷ line_1 ∷ []) (violation.Restore 0 7 0) (line_2 ∷ restored ∷ [])
of_second_history = quotes_are restored (line_2 ∷ line_1 ∷ []) (violation.Restore 0 7 0) (line_2 ∷ [])
    (omega arith, (omega arith, tt)) (gift_later 0 0 restored (line_2 ∷ line_1 ∷ []) line_2 there, tt)
    (λ quote h. elim (gift_split 0 0 restored (line_2 ∷ line_1 ∷ []) quote h) [
      | inl here ↦ (let few = here.1 in absurd (omega (arith, few)))
      | inr gift ↦
          one_of (line_2 ∷ restored ∷ []) 0 line_2 quote refl
          (gift_unique 0 0 (line_2 ∷ line_1 ∷ []) quote line_2 tt gift there)
    ])
  where
    there : IsGift (line_2 ∷ line_1 ∷ []) 0 0 line_2
    there = gift_here 0 0 line_2 (line_1 ∷ []) (omega arith) (omega arith)

-- without a history before, no earlier line is a reason
abbrev too_few : Quote
too_few = at 3 (Restore 7 0 2)

of_short_source : AreQuotes too_few (line_2 ∷ line_1 ∷ []) (violation.Restore 7 0 2) (too_few ∷ [])
of_short_source = quotes_are too_few (line_2 ∷ line_1 ∷ []) (violation.Restore 7 0 2) [] (omega arith, tt) tt
    (λ quote h. elim (gift_split 7 0 too_few (line_2 ∷ line_1 ∷ []) quote h) [
      | inl here ↦ one_of (too_few ∷ []) 0 too_few quote refl here.0
      | inr gift ↦
          let some = gift_given 7 0 (line_2 ∷ line_1 ∷ []) quote tt gift in absurd (omega (arith, some))
    ])

-- ---- RightReply

abbrev submitted_2 : Quote
submitted_2 = at 2 (Submit cas_a)

abbrev executed_4 : Quote
executed_4 = at 4 (Execute 0 second)

abbrev wrong_reply : Quote
wrong_reply = at 5 (Reply second Failed)

abbrev executed : NumberedLog
executed = executed_4 ∷ line_3 ∷ submitted_2 ∷ line_1 ∷ []

-- the first command gave the key its text, and no other of the first n did
first_changed : (commands : List Command) → IsLastChange (held_by (set_a ∷ commands) a) 1 0
first_changed commands = record {
  within = omega arith;
  changes = λ e. let found : None ≡ Some x = sym nothing ∙ e ∙ text_x in absurd (cc);
  last = λ m low high. (let one : m ≡ 1 = omega (arith, low, high) in ap (held_by (set_a ∷ commands) a) one);
}

of_wrong_reply : AreQuotes wrong_reply executed (violation.RightReply second 1 (Some x) Failed)
    (line_1 ∷ submitted_2 ∷ executed_4 ∷ wrong_reply ∷ [])
of_wrong_reply = quotes_are wrong_reply executed (violation.RightReply second 1 (Some x) Failed)
    (line_1 ∷ submitted_2 ∷ executed_4 ∷ []) (omega arith, (omega arith, (omega arith, (omega arith, tt)))) (
      inr (inr (inr (0, omega arith, cas_a, refl, (0, first_changed (cas_a ∷ []), first, refl, earlier)))),
      (inl own, (inr (inr (inl lead)), tt)),
    ) all
  where
    earlier : IsFirstLine (Submits first) (wrong_reply ∷ executed) line_1
    earlier = line_later (Submits first) wrong_reply executed line_1
        (line_later (Submits first) executed_4 (line_3 ∷ submitted_2 ∷ line_1 ∷ []) line_1
        (line_later (Submits first) line_3 (submitted_2 ∷ line_1 ∷ []) line_1
        (line_later (Submits first) submitted_2 (line_1 ∷ []) line_1 first_submitted)))

    own : IsFirstLine (Submits second) (wrong_reply ∷ executed) submitted_2
    own = line_later (Submits second) wrong_reply executed submitted_2
        (line_later (Submits second) executed_4 (line_3 ∷ submitted_2 ∷ line_1 ∷ []) submitted_2
        (line_later (Submits second) line_3 (submitted_2 ∷ line_1 ∷ []) submitted_2
        (line_here (Submits second) submitted_2 (line_1 ∷ []) (cas_a, refl, refl)
        (none_more (Submits second) line_1 [] not_second (none_in (Submits second))))))

    lead : IsFirstGift (wrong_reply ∷ executed) 1 executed_4
    lead = lead_later 1 wrong_reply executed executed_4
        (lead_here 1 executed_4 (line_3 ∷ submitted_2 ∷ line_1 ∷ []) 0 (λ p. short (0 == p)) (omega arith))
      where
        short : (d : Bool) → length (cond {A = List CommandId} d (first ∷ []) []) ≤ 1
        short true = omega arith
        short false = omega arith

    reply : IsFirstLine (Replies second) (wrong_reply ∷ executed) wrong_reply
    reply = line_here (Replies second) wrong_reply executed (Failed, refl)
        (none_more (Replies second) executed_4 (line_3 ∷ submitted_2 ∷ line_1 ∷ []) (λ h. absurd (cc (h.1)))
        (none_more (Replies second) line_3 (submitted_2 ∷ line_1 ∷ []) (λ h. absurd (cc (h.1)))
        (none_more (Replies second) submitted_2 (line_1 ∷ []) (λ h. absurd (cc (h.1)))
        (none_more (Replies second) line_1 [] (λ h. absurd (cc (h.1))) (none_in (Replies second))))))

    begins : (d : Bool) (id : CommandId)
        → slice_get (cond d (cond d (first ∷ []) [] ++ second ∷ []) (cond d (first ∷ []) [])) 0 ≡ Some id → first ≡ id
    begins true id e = cc
    begins false id e = absurd (cc)

    all : (quote : Quote) → IsReason (wrong_reply ∷ executed) (violation.RightReply second 1 (Some x) Failed) quote
        → Contains (line_1 ∷ submitted_2 ∷ executed_4 ∷ wrong_reply ∷ []) quote
    all quote (inl h) =
        one_of (line_1 ∷ submitted_2 ∷ executed_4 ∷ wrong_reply ∷ []) 1 submitted_2 quote refl
        (line_unique (Submits second) (wrong_reply ∷ executed) quote submitted_2 h own)
    all quote (inr (inl h)) =
        one_of (line_1 ∷ submitted_2 ∷ executed_4 ∷ wrong_reply ∷ []) 3 wrong_reply quote refl
        (line_unique (Replies second) (wrong_reply ∷ executed) quote wrong_reply h reply)
    all quote (inr (inr (inl h))) =
        one_of (line_1 ∷ submitted_2 ∷ executed_4 ∷ wrong_reply ∷ []) 2 executed_4 quote refl
        (lead_unique 1 (wrong_reply ∷ executed) quote executed_4 tt h lead)
    all quote (inr (inr (inr h))) =
        let change = h.4 in
        let zero_is : change.0 ≡ 0 = omega (arith, change.1.within) in
        let same : first ≡ change.2 =
        begins (0 == h.0) change.2
        (subst (λ (n : ℕ). slice_get (history (log_of (wrong_reply ∷ executed)) h.0) n ≡ Some change.2) zero_is change.3) in
        one_of (line_1 ∷ submitted_2 ∷ executed_4 ∷ wrong_reply ∷ []) 0 line_1 quote refl
        (line_unique (Submits first) (wrong_reply ∷ executed) quote line_1
        (subst (λ (id : CommandId). IsFirstLine (Submits id) (wrong_reply ∷ executed) quote) (sym same) change.4) earlier)

-- ---- RightLookup

abbrev told : Quote
told = at 3 (Tell 1 0)

abbrev found_nothing : Quote
found_nothing = at 4 (Lookup 1 a None)

of_wrong_lookup : AreQuotes found_nothing (told ∷ line_2 ∷ line_1 ∷ []) (violation.RightLookup 1 a 1 1 None)
    (line_1 ∷ found_nothing ∷ [])
of_wrong_lookup = quotes_are found_nothing (told ∷ line_2 ∷ line_1 ∷ []) (violation.RightLookup 1 a 1 1 None)
    (line_1 ∷ []) (omega arith, (omega arith, tt)) ((0, refl, inl (first, 0, refl, refl, earlier)), tt) all
  where
    earlier : IsFirstLine (Submits first) (found_nothing ∷ told ∷ line_2 ∷ line_1 ∷ []) line_1
    earlier = line_later (Submits first) found_nothing (told ∷ line_2 ∷ line_1 ∷ []) line_1
        (line_later (Submits first) told (line_2 ∷ line_1 ∷ []) line_1
        (line_later (Submits first) line_2 (line_1 ∷ []) line_1 first_submitted))

    begins : (d : Bool) (n : ℕ) (id : CommandId) → n ≡ 0 → slice_get (cond d (first ∷ []) []) n ≡ Some id → first ≡ id
    begins true zero id is e = cc
    begins true (suc n) id is e = absurd (cc)
    begins false n id is e = absurd (cc)

    one : (quote : Quote) (id : CommandId) → first ≡ id
        → IsFirstLine (Submits id) (found_nothing ∷ told ∷ line_2 ∷ line_1 ∷ []) quote
        → Contains (line_1 ∷ found_nothing ∷ []) quote
    one quote id same h =
        one_of (line_1 ∷ found_nothing ∷ []) 0 line_1 quote refl
        (line_unique (Submits first) (found_nothing ∷ told ∷ line_2 ∷ line_1 ∷ []) quote line_1
        (subst (λ (i : CommandId). IsFirstLine (Submits i) (found_nothing ∷ told ∷ line_2 ∷ line_1 ∷ []) quote) (sym same) h)
        earlier)

    all : (quote : Quote)
        → IsReason (found_nothing ∷ told ∷ line_2 ∷ line_1 ∷ []) (violation.RightLookup 1 a 1 1 None) quote
        → Contains (line_1 ∷ found_nothing ∷ []) quote
    all quote h =
        elim h.2 [
          | inl seen ↦
              one quote seen.0 (begins (0 == h.0) seen.1 seen.0 (omega (arith, seen.2)) seen.3) seen.4
          | inr change ↦
              one quote change.2 (begins (0 == h.0) change.0 change.2 (omega (arith, change.1.within)) change.3) change.4
        ]
