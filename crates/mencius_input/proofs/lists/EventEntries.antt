-- The entry of an event, stored after other entries, gives the event back after the other events.
use Rattle.std.proofs.Common.{◌≡◌, ℕ, zero, suc, ◌+◌, List, [], ◌∷◌, ◌++◌, drop, filter_map, length, length-append, refl, sym, ap, ap₂, ◌∙◌, arith}
use Rattle.std.specs.List.{range_with_len}
use Rattle.std.proofs.lemmas.List.Elements.{filter_map-append}
use Rattle.mencius_base.specs.CommandState.{CommandState}
use Rattle.mencius_base.specs.declared.event.Entry.{Entry}
use Rattle.mencius_base.specs.declared.event.Entry.TheVariants as entry
use Rattle.mencius_base.specs.declared.event.Event.{Event}
use Rattle.mencius_base.specs.declared.event.Event.TheVariants.{Submit, Deliver, Lose, Suspect, Retry, Execute}
use Rattle.mencius_input.specs.Events.{IsEntryOf, IsStored, IsWhole, command_in, commands_of_events, stored_events, ticket_in}

numbers_further : (a n k j m : ℕ) → a + n ≡ j → n + k ≡ m
    → range_with_len a m ≡ range_with_len a n ++ range_with_len j k
numbers_further a zero k j m from more = ap₂ range_with_len (omega (arith, from)) (omega (arith, more))
numbers_further a (suc n) k j zero from more = absurd (omega (arith, more))
numbers_further a (suc n) k j (suc m) from more =
    ap (λ ns. a ∷ ns) (numbers_further (a + 1) n k j m (omega (arith, from)) (omega (arith, more)))

-- entries of a whole list give their own events, and leave the other commands to the entries after them
further : (xs ys : List Entry) (cs ds : List CommandState) → IsWhole xs cs
    → stored_events (xs ++ ys) (cs ++ ds) ≡ stored_events xs cs ++ stored_events ys ds
further [] ys [] ds h = refl
further [] ys (c ∷ cs) ds h = absurd (cc)
further (entry.Submit s t ∷ xs) ys [] ds h = absurd (omega (arith, h.0))
further (entry.Submit s t ∷ xs) ys (c ∷ cs) ds h =
    ap (λ es. Submit s c ∷ es) (further xs ys cs ds (omega (arith, h.0), ap (drop 1) h.1))
further (entry.Deliver m s ∷ xs) ys cs ds h =
    ap (λ es. Deliver m s ∷ es) (further xs ys cs ds (omega (arith, h.0), h.1))
further (entry.Lose m s ∷ xs) ys cs ds h =
    ap (λ es. Lose m s ∷ es) (further xs ys cs ds (omega (arith, h.0), h.1))
further (entry.Suspect s other ∷ xs) ys cs ds h =
    ap (λ es. Suspect s other ∷ es) (further xs ys cs ds (omega (arith, h.0), h.1))
further (entry.Retry s ∷ xs) ys cs ds h =
    ap (λ es. Retry s ∷ es) (further xs ys cs ds (omega (arith, h.0), h.1))
further (entry.Execute s ∷ xs) ys cs ds h =
    ap (λ es. Execute s ∷ es) (further xs ys cs ds (omega (arith, h.0), h.1))

pub stored_more : (xs new : List Entry) (commands more : List CommandState) (e : Event) (x : Entry)
    → IsStored xs commands → IsEntryOf (length commands) e x → new ≡ xs ++ x ∷ []
    → more ≡ commands ++ commands_of_events (e ∷ [])
    → (stored_events new more ≡ stored_events xs commands ++ e ∷ []) × IsStored new more
stored_more xs new commands more e x h is list submitted =
    let own = commands_of_events (e ∷ []) in
    let es = stored_events xs commands in
    let all : stored_events (xs ++ x ∷ []) (commands ++ own) ≡ es ++ e ∷ [] =
    further xs (x ∷ []) commands own h.0 ∙ ap (λ rest. es ++ rest) is.0 in
    let count : length (es ++ e ∷ []) ≡ length (xs ++ x ∷ []) =
    omega (arith, length-append es (e ∷ []), length-append xs (x ∷ []), h.0.0) in
    let their : commands ++ own ≡ commands_of_events (es ++ e ∷ []) =
    ap (λ cs. cs ++ own) h.0.1 ∙ sym (filter_map-append command_in es (e ∷ [])) in
    let size : length commands + length own ≡ length (commands ++ own) = sym (length-append commands own) in
    let tickets : filter_map ticket_in (xs ++ x ∷ []) ≡ range_with_len 0 (length (commands ++ own)) =
    filter_map-append ticket_in xs (x ∷ []) ∙ ap₂ (λ front back. front ++ back) h.1 is.1
    ∙ sym (numbers_further 0 (length commands) (length own) (length commands) (length (commands ++ own)) (omega arith)
    size) in
    rw (list, submitted) (all, ((ap length all ∙ count, their ∙ ap commands_of_events (sym all)), tickets))
