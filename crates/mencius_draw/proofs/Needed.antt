-- The needed lines have the same elements as all lines.
use Rattle.std.proofs.Common.{◌≡◌, ℕ, Bool, true, false, List, [], ◌∷◌, ◌++◌, None, ap, subst, sym, refl, ◌∙◌, ◌||◌, append-nil, filter_map, if◌then◌else◌}
use Rattle.std.specs.List.{cons_option, flat_map}
use Rattle.std.proofs.lemmas.Grind.{flat_map-append}
use Rattle.std.proofs.lemmas.List.Elements.{filter_map-append}
use Rattle.mencius_draw.specs.declared.options.Options.{Options}
use Rattle.mencius_draw.specs.declared.layout.SentMessage.{SentMessage}
use Rattle.mencius_draw.specs.declared.facts.Fact.{Fact}
use Rattle.mencius_draw.specs.declared.facts.Fact.TheVariants.{Event, Sent, Outcome, Closing, Unheard, Other}
use Rattle.mencius_draw.specs.Layout.{Outline, if_needed, is_needed, is_told_below, lines_of, sent_as, sent_here, sents_of, shapes_of, start}
use Rattle.mencius_draw.specs.Picture.{ShowsTrace, arrow_by, arrow_of_way, elements_of, groups_by, groups_of, servers_of, way_of}
use Rattle.mencius_draw.specs.Svg.{Element, IsSvg, IsText, then_all}
use Rattle.mencius_draw.proofs.Passes.{are_joined}

left_false : (s t : Bool) → (s || t) ≡ false → s ≡ false
left_false true t e = absurd (cc)
left_false false t e = refl

right_false : (s t : Bool) → (s || t) ≡ false → t ≡ false
right_false true t e = absurd (cc)
right_false false t e = e

one : (f : Outline → List Element) (x : Outline) (b : Bool) → (b ≡ false → f x ≡ [])
    → flat_map f (if b then x ∷ [] else []) ≡ f x
one f x true h = append-nil (f x)
one f x false h = sym (h refl)

of_needed : (f : Outline → List Element) → ((x : Outline) → is_needed x ≡ false → f x ≡ []) → (xs : List Outline)
    → flat_map f (flat_map if_needed xs) ≡ flat_map f xs
of_needed f h [] = refl
of_needed f h (x ∷ xs) =
    flat_map-append f (if_needed x) (flat_map if_needed xs)
    ∙ ap (λ es. es ++ flat_map f (flat_map if_needed xs)) (one f x (is_needed x) (h x))
    ∙ ap (λ es. f x ++ es) (of_needed f h xs)

not_shown : (x : Outline) → is_needed x ≡ false → x.spot.is_shown ≡ false
not_shown x e = left_false x.spot.is_shown (is_told_below x.fact) e

no_arrow : (servers : ℕ) (sents : List SentMessage) (x : Outline) → is_needed x ≡ false → arrow_by servers sents x ≡ []
no_arrow servers sents x e = ap (λ b. if b then arrow_of_way servers sents x.spot (way_of x.fact) else []) (not_shown x e)

no_groups : (servers : ℕ) (x : Outline) → is_needed x ≡ false → groups_by servers x ≡ []
no_groups servers x e = ap (λ b. if b then groups_of servers x.spot x.fact else []) (not_shown x e)

-- ---- messages

no_sent_as : (fact : Fact) (spot : _) → is_told_below fact ≡ false → sent_as fact spot ≡ None
no_sent_as (Sent number kind from inst) spot e = absurd (cc)
no_sent_as (Closing at) spot e = refl
no_sent_as (Unheard number at) spot e = refl
no_sent_as (Outcome note) spot e = refl
no_sent_as (Event place act at is_refused) spot e = refl
no_sent_as Other spot e = refl

one_sent : (x : Outline) (b : Bool) → (b ≡ false → sent_here x ≡ None)
    → filter_map sent_here (if b then x ∷ [] else []) ≡ filter_map sent_here (x ∷ [])
one_sent x true h = refl
one_sent x false h = sym (ap (λ o. cons_option o []) (h refl))

sents : (xs : List Outline) → sents_of (flat_map if_needed xs) ≡ sents_of xs
sents [] = refl
sents (x ∷ xs) =
    filter_map-append sent_here (if_needed x) (flat_map if_needed xs)
    ∙ ap (λ ys. ys ++ filter_map sent_here (flat_map if_needed xs))
    (one_sent x (is_needed x)
    (λ e. no_sent_as x.fact x.spot (right_false x.spot.is_shown (is_told_below x.fact) e)))
    ∙ ap (λ ys. filter_map sent_here (x ∷ []) ++ ys) (sents xs) ∙ sym (filter_map-append sent_here (x ∷ []) xs)

-- ---- the picture

same_elements : (servers : ℕ) (xs : List Outline)
    → elements_of servers (flat_map if_needed xs) ≡ elements_of servers xs
same_elements servers xs =
    let ys = flat_map if_needed xs in
    ap (λ ss. flat_map (arrow_by servers ss) ys ++ flat_map (groups_by servers) ys) (sents xs)
    ∙ ap (λ es. es ++ flat_map (groups_by servers) ys) (of_needed (arrow_by servers (sents_of xs)) (no_arrow servers (sents_of xs)) xs)
    ∙ ap (λ es. flat_map (arrow_by servers (sents_of xs)) xs ++ es) (of_needed (groups_by servers) (no_groups servers) xs)

-- the elements of the lines are the arrows, made with the listed messages, and then the groups
pub with_sents : {text : List ℕ} {tags : List (List ℕ)} (servers : ℕ) (xs : List Outline) (ss : List SentMessage)
    → ss ≡ sents_of xs
    → IsText text tags (then_all (then_all [] (flat_map (arrow_by servers ss) xs)) (flat_map (groups_by servers) xs))
    → IsText text tags (elements_of servers xs)
with_sents {text = text} {tags = tags} servers xs ss e h =
    let arrows = flat_map (arrow_by servers ss) xs in
    let groups = flat_map (groups_by servers) xs in
    subst (λ (es : List Element). IsText text tags es)
    (ap (λ es. then_all es groups) (are_joined [] arrows) ∙ are_joined arrows groups
    ∙ ap (λ found. flat_map (arrow_by servers found) xs ++ groups) e)
    h

pub is_picture : (o : Options) (trace text : List ℕ) (servers : ℕ) (ys : List Outline)
    → servers ≡ servers_of (lines_of trace) → ys ≡ flat_map if_needed (shapes_of o start (lines_of trace))
    → IsSvg text (elements_of servers ys) → ShowsTrace o trace text
is_picture o trace text servers ys few made got =
    subst (λ (es : List Element). IsSvg text es)
    (ap (λ n. elements_of n ys) few ∙ ap (λ xs. elements_of (servers_of (lines_of trace)) xs) made
    ∙ same_elements (servers_of (lines_of trace)) (shapes_of o start (lines_of trace)))
    got
