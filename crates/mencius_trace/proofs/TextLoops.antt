-- Each round of a loop that writes a text adds the next part of the text.
use Rattle.std.proofs.Common.{◌≡◌, ℕ, zero, suc, ◌+◌, Bool, true, false, List, [], ◌∷◌, ◌++◌, Option, Some, None, ◌||◌, ap, sym, ◌∙◌, refl, append-nil, append_assoc, arith, filter_map}
use Rattle.std.specs.Prelude.{codes, is_some}
use Rattle.std.specs.List.{cons_option, flat_map, range_with_len}
use Rattle.std.proofs.lemmas.List.Elements.{filter_map-append}
use Rattle.std.proofs.lemmas.Grind.{flat_map-append}
use Rattle.mencius_base.specs.Limits.{instance_count}
use Rattle.mencius_base.specs.Members.{numbers_below}
use Rattle.mencius_model.specs.Trace.{Trace}
use Rattle.mencius_model.specs.Server.{waiting_at, waiting_tickets}
use Rattle.mencius_model.proofs.trace.NumberLists.{below-more, instances-below}
use Rattle.mencius_trace.specs.LastLines.{ticket_in}
use Rattle.mencius_trace.specs.Words.{ticket_text, tickets_text}

-- a range with one more number ends with that number
pub range_last : (a n j : ℕ) → a + n ≡ j → range_with_len a (suc n) ≡ range_with_len a n ++ j ∷ []
range_last a zero j e = let same : a ≡ j = omega arith in ap (λ x. x ∷ []) same
range_last a (suc n) j e = ap (λ l. a ∷ l) (range_last (a + 1) n j (omega arith))

texts_more : (f : ℕ → List ℕ) (n : ℕ)
    → flat_map f (range_with_len 0 (n + 1)) ≡ flat_map f (range_with_len 0 n) ++ f n
texts_more f n =
    let on : n + 1 ≡ suc n = omega arith in
    let last : range_with_len 0 (suc n) ≡ range_with_len 0 n ++ n ∷ [] = range_last 0 n n (omega arith) in
    ap (λ x. flat_map f (range_with_len 0 x)) on ∙ ap (flat_map f) last
    ∙ flat_map-append f (range_with_len 0 n) (n ∷ [])
    ∙ ap (λ text. flat_map f (range_with_len 0 n) ++ text) (append-nil (f n))

-- a text with the first n parts has the first n + 1 parts after the next part is added
pub texts_further : (f : ℕ → List ℕ) (n : ℕ) (before old new : List ℕ)
    → old ≡ before ++ flat_map f (range_with_len 0 n) → new ≡ old ++ f n
    → new ≡ before ++ flat_map f (range_with_len 0 (n + 1))
texts_further f n before old new had got =
    got ∙ ap (λ text. text ++ f n) had ∙ append_assoc before (flat_map f (range_with_len 0 n)) (f n)
    ∙ ap (λ text. before ++ text) (sym (texts_more f n))

-- ---- tickets that wait

abbrev spaced_ticket : Trace → ℕ → List ℕ
spaced_ticket w t = 32 ∷ ticket_text w t

-- the tickets that wait at p because of an instance below n
abbrev pub waiting_below : Trace → ℕ → ℕ → List ℕ
waiting_below w p n = filter_map (waiting_at w p) (numbers_below n)

abbrev pub is_some_list : List ℕ → Bool
is_some_list [] = false
is_some_list (t ∷ ts) = true

-- `now` is `before` and the tickets that wait because of an instance below i, and `some` says whether there are any
pub record IsWaitingTo (w : Trace) (p i : ℕ) (some : Bool) (before now : List ℕ) : Type 0 where
  pub text : now ≡ before ++ flat_map (spaced_ticket w) (waiting_below w p i)
  pub some_is : some ≡ is_some_list (waiting_below w p i)

below_none : (w : Trace) (p : ℕ) → waiting_below w p 0 ≡ []
unfolding numbers_below
below_none w p = refl

pub waiting_start : (w : Trace) (p : ℕ) (before : List ℕ) → IsWaitingTo w p 0 false before before
waiting_start w p before = record {
  text = sym (ap (λ ts. before ++ flat_map (spaced_ticket w) ts) (below_none w p) ∙ append-nil before);
  some_is = sym (ap is_some_list (below_none w p));
}

waiting_more : (w : Trace) (p i : ℕ)
    → waiting_below w p (i + 1) ≡ waiting_below w p i ++ cons_option (waiting_at w p i) []
waiting_more w p i =
    ap (filter_map (waiting_at w p)) (below-more i) ∙ filter_map-append (waiting_at w p) (numbers_below i) (i ∷ [])

some_more : (xs : List ℕ) (o : Option ℕ) → (is_some o || is_some_list xs) ≡ is_some_list (xs ++ cons_option o [])
some_more xs None = ap is_some_list (sym (append-nil xs))
some_more [] (Some t) = refl
some_more (x ∷ xs) (Some t) = refl

one_more : (w : Trace) (o : Option ℕ) → ticket_in w o ≡ flat_map (spaced_ticket w) (cons_option o [])
one_more w None = refl
one_more w (Some t) = sym (append-nil (spaced_ticket w t))

pub waiting_next : (w : Trace) (p i : ℕ) (some one : Bool) (before old new : List ℕ)
    → IsWaitingTo w p i some before old → new ≡ old ++ ticket_in w (waiting_at w p i)
    → one ≡ is_some (waiting_at w p i) → IsWaitingTo w p (i + 1) (one || some) before new
waiting_next w p i some one before old new had got is =
    let o = waiting_at w p i in
    let xs = waiting_below w p i in
    let waiting_tickets = spaced_ticket w in
    record {
      text =
          got ∙ ap (λ text. text ++ ticket_in w o) had.text
          ∙ append_assoc before (flat_map waiting_tickets xs) (ticket_in w o)
          ∙ ap (λ text. before ++ (flat_map waiting_tickets xs ++ text)) (one_more w o)
          ∙ ap (λ text. before ++ text) (sym (ap (flat_map waiting_tickets) (waiting_more w p i)
          ∙ flat_map-append waiting_tickets xs (cons_option o [])));
      some_is = ap (λ a. a || some) is ∙ ap (λ a. is_some o || a) had.some_is ∙ some_more xs o
          ∙ ap is_some_list (sym (waiting_more w p i));
    }

all_below : (w : Trace) (p : ℕ) → waiting_below w p instance_count ≡ waiting_tickets w p
all_below w p = ap (filter_map (waiting_at w p)) (sym instances-below)

some_text : (w : Trace) (xs : List ℕ) → true ≡ is_some_list xs → flat_map (spaced_ticket w) xs ≡ tickets_text w xs
some_text w [] h = absurd (cc)
some_text w (x ∷ xs) h = refl

none_text : (w : Trace) (xs : List ℕ) → false ≡ is_some_list xs
    → flat_map (spaced_ticket w) xs ++ codes " -" ≡ tickets_text w xs
none_text w [] h = refl
none_text w (x ∷ xs) h = absurd (cc)

pub waiting_some : (w : Trace) (p : ℕ) (before now : List ℕ) → IsWaitingTo w p instance_count true before now
    → now ≡ before ++ tickets_text w (waiting_tickets w p)
waiting_some w p before now had =
    had.text ∙ ap (λ text. before ++ text) (some_text w (waiting_below w p instance_count) had.some_is)
    ∙ ap (λ ts. before ++ tickets_text w ts) (all_below w p)

pub waiting_none : (w : Trace) (p : ℕ) (before old new : List ℕ) → IsWaitingTo w p instance_count false before old
    → new ≡ old ++ codes " -" → new ≡ before ++ tickets_text w (waiting_tickets w p)
waiting_none w p before old new had got =
    let xs = waiting_below w p instance_count in
    got ∙ ap (λ text. text ++ codes " -") had.text ∙ append_assoc before (flat_map (spaced_ticket w) xs) (codes " -")
    ∙ ap (λ text. before ++ text) (none_text w xs had.some_is) ∙ ap (λ ts. before ++ tickets_text w ts) (all_below w p)
