use Rattle.mencius_app.proofs.Words.{◌≡◌, ◌∙◌, ℕ, zero, suc, ◌+◌, ◌≤◌, ◌++◌, List, [], ◌∷◌, ap, append-nil, append_assoc, arith, length, refl, string_bytes, sym, take, option_map_or, take_all, reply_of, Command, Trace, submitted_commands, trace_of, answer_line}
use Rattle.std.specs.List.{flat_map, slice_get}
use Rattle.mencius_base.specs.Numbers.{ServerId}
use Rattle.mencius_app.proofs.printed.push_replies.Goals as goal

-- the text of the items up to a place is the text of the items before it, followed by the text of the item there
one_more : {X : Type 0} (f : X → List ℕ) (n : ℕ) (xs : List X)
    → flat_map f (take (suc n) xs) ≡ flat_map f (take n xs) ++ option_map_or f (slice_get xs n) []
one_more f zero [] = refl
one_more f (suc n) [] = refl
one_more f zero (x ∷ xs) = append-nil (f x)
one_more f (suc n) (x ∷ xs) =
    ap (λ text. f x ++ text) (one_more f n xs)
    ∙ sym (append_assoc (f x) (flat_map f (take n xs)) (option_map_or f (slice_get xs n) []))

further : {X : Type 0} (f : X → List ℕ) (xs : List X) (n : ℕ) (before old new : List ℕ)
    → old ≡ before ++ flat_map f (take n xs) → new ≡ old ++ option_map_or f (slice_get xs n) []
    → new ≡ before ++ flat_map f (take (n + 1) xs)
further f xs n before old new had got =
    let on : suc n ≡ n + 1 = omega arith in
    got ∙ ap (λ text. text ++ option_map_or f (slice_get xs n) []) had
    ∙ append_assoc before (flat_map f (take n xs)) (option_map_or f (slice_get xs n) [])
    ∙ ap (λ text. before ++ text) (sym (one_more f n xs))
    ∙ ap (λ m. before ++ flat_map f (take m xs)) on

abbrev line_of : Trace → Command × ServerId → List ℕ
line_of w x = answer_line x.0.id (reply_of w x.0.id)

pub loop-ticket-preserved : goal.loop-ticket-preserved
loop-ticket-preserved c =
    let w = trace_of c.args.cluster.now in
    further (line_of w) (submitted_commands w) c.loop-ticket.ticket _ _ _ c.loop-ticket.invariant
    c.in_ok-push_reply.ensures

pub returns : goal.returns
returns c =
    let w = trace_of c.args.cluster.now in
    let past : length (submitted_commands w) ≤ c.loop-ticket.ticket =
    omega (arith, c.loop-ticket-test.false, c.commands-ticket-end.ensures) in
    c.loop-ticket.invariant
    ∙ ap (λ xs. string_bytes c.args.text.now ++ flat_map (line_of w) xs)
    (take_all c.loop-ticket.ticket (submitted_commands w) past)
