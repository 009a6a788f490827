-- The line that gave a server a command, in a log with a further line.
use Rattle.std.proofs.Common.{◌≡◌, ◌⊎◌, inl, inr, ℕ, ◌<◌, ◌≤◌, [], ◌∷◌, ◌++◌, length, arith, refl, sym, subst, ap, ◌∙◌}
use Rattle.std.specs.List.{Contains}
use Rattle.mencius_judge.specs.declared.quote.Quote.{Quote}
use Rattle.mencius_judge.specs.Log.{history}
use Rattle.mencius_judge.specs.Promises.{WereRestored}
use Rattle.mencius_judge.specs.Quotes.{IsFirstGift, IsGift, NumberedLog, log_of}
use Rattle.mencius_judge.proofs.sources.Grows.{longer_rest, restored_before}
use Rattle.mencius_judge.proofs.sources.Places.{contains_middle, not_empty, same_head, same_tail}

no_line : (later : NumberedLog) (q : Quote) (earlier : NumberedLog) → [] ≡ later ++ q ∷ earlier → ⊥
no_line [] q earlier e = not_empty e
no_line (x ∷ later) q earlier e = not_empty e

-- ---- a server

-- the server has at most n commands
abbrev pub HasAtMost : NumberedLog → ℕ → ℕ → Type 0
HasAtMost lines p n = length (history (log_of lines) p) ≤ n

-- the line is this one, and the server had at most n commands before it, or it is the line of the others
abbrev pub IsGiftOf : ℕ → ℕ → Quote → NumberedLog → Quote → Type 0
IsGiftOf p n line lines q = ((q ≡ line) × HasAtMost lines p n) ⊎ IsGift lines p n q

module _ (p n : ℕ) (line : Quote) (lines : NumberedLog) where
  pub gift_later : (q : Quote) → IsGift lines p n q → IsGift (line ∷ lines) p n q
  gift_later q h = record {
    later = line ∷ h.later;
    earlier = h.earlier;
    are = ap (λ (xs : NumberedLog). line ∷ xs) h.are;
    before = h.before;
    after = h.after;
  }

  pub gift_here : HasAtMost lines p n → n < length (history (log_of (line ∷ lines)) p) → IsGift (line ∷ lines) p n line
  gift_here before after = record { later = []; earlier = lines; are = refl; before = before; after = after }

  pub gift_split : (q : Quote) → IsGift (line ∷ lines) p n q → IsGiftOf p n line lines q
  gift_split q h = by_later h.later h.are
    where
      by_later : (later : NumberedLog) → line ∷ lines ≡ later ++ q ∷ h.earlier → IsGiftOf p n line lines q
      by_later [] e =
          inl (sym (same_head e), subst (λ (xs : NumberedLog). HasAtMost xs p n) (sym (same_tail e)) h.before)
      by_later (x ∷ later) e = inr (record {
        later = later;
        earlier = h.earlier;
        are = same_tail e;
        before = h.before;
        after = h.after;
      })

module _ (p n : ℕ) where
  pub gift_contained : (lines : NumberedLog) (q : Quote) → IsGift lines p n q → Contains lines q
  gift_contained lines q h =
      subst (λ (xs : NumberedLog). Contains xs q) (sym h.are) (contains_middle h.later q h.earlier)

  -- after the line, the server keeps the command
  pub gift_given : (lines : NumberedLog) (q : Quote) → WereRestored (log_of lines) → IsGift lines p n q
      → n < length (history (log_of lines) p)
  gift_given lines q restored h =
      let more : length (history (log_of (q ∷ h.earlier)) p) ≤ length (history (log_of (h.later ++ q ∷ h.earlier)) p) =
      longer_rest h.later (q ∷ h.earlier) p (subst (λ (xs : NumberedLog). WereRestored (log_of xs)) h.are restored) in
      let size : length (history (log_of lines) p) ≡ length (history (log_of (h.later ++ q ∷ h.earlier)) p) =
      ap (λ (xs : NumberedLog). length (history (log_of xs) p)) h.are in
      let after = h.after in
      omega (arith, more, size, after)

  -- there is at most one such line
  pub gift_unique : (lines : NumberedLog) (a c : Quote) → WereRestored (log_of lines) → IsGift lines p n a
      → IsGift lines p n c → a ≡ c
  gift_unique [] a c restored h k = absurd (no_line h.later a h.earlier h.are)
  gift_unique (line ∷ lines) a c restored h k =
      let before : WereRestored (log_of lines) = restored_before line.observation (log_of lines) restored in
      by_cases before (λ f g. gift_unique lines a c before f g) (gift_split p n line lines a h)
      (gift_split p n line lines c k)
    where
      by_cases : WereRestored (log_of lines) → (IsGift lines p n a → IsGift lines p n c → a ≡ c)
          → IsGiftOf p n line lines a → IsGiftOf p n line lines c → a ≡ c
      by_cases kept before (inl f) (inl g) = f.0 ∙ sym g.0
      by_cases kept before (inl f) (inr g) =
          let given = gift_given lines c kept g in absurd (omega (arith, f.1, given))
      by_cases kept before (inr f) (inl g) =
          let given = gift_given lines a kept f in absurd (omega (arith, g.1, given))
      by_cases kept before (inr f) (inr g) = before f g

-- ---- any server

-- no server has more than n commands
abbrev pub HaveAtMost : NumberedLog → ℕ → Type 0
HaveAtMost lines n = (p : ℕ) → HasAtMost lines p n

-- the line is this one, and no server had more than n commands before it, or it is the line of the others
abbrev pub IsLeadOf : ℕ → Quote → NumberedLog → Quote → Type 0
IsLeadOf n line lines q = ((q ≡ line) × HaveAtMost lines n) ⊎ IsFirstGift lines n q

module _ (n : ℕ) (line : Quote) (lines : NumberedLog) where
  pub lead_later : (q : Quote) → IsFirstGift lines n q → IsFirstGift (line ∷ lines) n q
  lead_later q h = record {
    later = line ∷ h.later;
    earlier = h.earlier;
    are = ap (λ (xs : NumberedLog). line ∷ xs) h.are;
    before = h.before;
    server = h.server;
    after = h.after;
  }

  pub lead_here : (p : ℕ) → HaveAtMost lines n → n < length (history (log_of (line ∷ lines)) p)
      → IsFirstGift (line ∷ lines) n line
  lead_here p before after =
      record { later = []; earlier = lines; are = refl; before = before; server = p; after = after }

  pub lead_split : (q : Quote) → IsFirstGift (line ∷ lines) n q → IsLeadOf n line lines q
  lead_split q h = by_later h.later h.are
    where
      by_later : (later : NumberedLog) → line ∷ lines ≡ later ++ q ∷ h.earlier → IsLeadOf n line lines q
      by_later [] e =
          inl (sym (same_head e), subst (λ (xs : NumberedLog). HaveAtMost xs n) (sym (same_tail e)) h.before)
      by_later (x ∷ later) e = inr (record {
        later = later;
        earlier = h.earlier;
        are = same_tail e;
        before = h.before;
        server = h.server;
        after = h.after;
      })

module _ (n : ℕ) where
  pub lead_contained : (lines : NumberedLog) (q : Quote) → IsFirstGift lines n q → Contains lines q
  lead_contained lines q h =
      subst (λ (xs : NumberedLog). Contains xs q) (sym h.are) (contains_middle h.later q h.earlier)

  -- after the line, the server keeps the command
  pub lead_given : (lines : NumberedLog) (q : Quote) → WereRestored (log_of lines) → (h : IsFirstGift lines n q)
      → n < length (history (log_of lines) h.server)
  lead_given lines q restored h =
      let more : length (history (log_of (q ∷ h.earlier)) h.server)
      ≤ length (history (log_of (h.later ++ q ∷ h.earlier)) h.server) =
      longer_rest h.later (q ∷ h.earlier) h.server
      (subst (λ (xs : NumberedLog). WereRestored (log_of xs)) h.are restored) in
      let size : length (history (log_of lines) h.server)
      ≡ length (history (log_of (h.later ++ q ∷ h.earlier)) h.server) =
      ap (λ (xs : NumberedLog). length (history (log_of xs) h.server)) h.are in
      let after = h.after in
      omega (arith, more, size, after)

  -- there is at most one such line
  pub lead_unique : (lines : NumberedLog) (a c : Quote) → WereRestored (log_of lines) → IsFirstGift lines n a
      → IsFirstGift lines n c → a ≡ c
  lead_unique [] a c restored h k = absurd (no_line h.later a h.earlier h.are)
  lead_unique (line ∷ lines) a c restored h k =
      let before : WereRestored (log_of lines) = restored_before line.observation (log_of lines) restored in
      by_cases before (λ f g. lead_unique lines a c before f g) (lead_split n line lines a h)
      (lead_split n line lines c k)
    where
      by_cases : WereRestored (log_of lines) → (IsFirstGift lines n a → IsFirstGift lines n c → a ≡ c)
          → IsLeadOf n line lines a → IsLeadOf n line lines c → a ≡ c
      by_cases kept before (inl f) (inl g) = f.0 ∙ sym g.0
      by_cases kept before (inl f) (inr g) =
          let given = lead_given lines c kept g in
          let few = f.1 g.server in
          absurd (omega (arith, few, given))
      by_cases kept before (inr f) (inl g) =
          let given = lead_given lines a kept f in
          let few = g.1 f.server in
          absurd (omega (arith, few, given))
      by_cases kept before (inr f) (inr g) = before f g
