-- Loops over the lines of a trace make its shapes, its messages and its last spot.
use Rattle.std.proofs.Common.{◌≡◌, ◌<◌, ◌≤◌, ◌==◌, ℕ, ◌+◌, ◌-◌, ◌^◌, Bool, true, false, List, [], ◌∷◌, ◌++◌, Option, Some, None, ap, sym, refl, subst, ◌∙◌, append-nil, append_assoc, arith, length, drop, get_or, filter_map, map, if◌then◌else◌}
use Rattle.std.proofs.lemmas.List.{drop_all}
use Rattle.std.proofs.lemmas.List.Splits.{length-slice_split}
use Rattle.std.proofs.lemmas.List.Sums.{count_by-le-length}
use Rattle.std.specs.List.{cons_option, count_by, flat_map}
use Rattle.mencius_draw.specs.declared.facts.Fact.{Fact}
use Rattle.mencius_draw.specs.declared.facts.Fact.TheVariants.{Event, Sent, Outcome, Closing, Unheard, Other}
use Rattle.mencius_draw.specs.declared.layout.Spot.{Spot}
use Rattle.mencius_draw.specs.declared.layout.Shape.{Shape}
use Rattle.mencius_draw.specs.declared.layout.SentMessage.{SentMessage}
use Rattle.mencius_draw.specs.declared.options.Options.{Options}
use Rattle.mencius_draw.specs.Words.{number, word}
use Rattle.mencius_draw.specs.Facts.{fact_of, note_of}
use Rattle.mencius_draw.specs.Layout.{Outline, end_of, event_spot, is_drawn, lines_of, if_needed, next_line, outcome_spot, outline, sent_here, shape_of, shapes_of, spot_after, start}
use Rattle.mencius_draw.proofs.Passes.{rest_begins_at}

-- ---- shapes

-- the level of the next outcome and the level of the next event are both at most n
pub record IsBelow (n : ℕ) (pen : Spot) : Type 0 where
  pub free : pen.free ≤ n
  pub next : pen.next ≤ n

event_below : (n : ℕ) (pen : Spot) (shown : Bool) (place server : ℕ) → IsBelow n pen
    → IsBelow (n + 1) (event_spot pen shown place server)
event_below n pen true place server h = record { free = omega (arith, h.next); next = omega (arith, h.next) }
event_below n pen false place server h = record { free = omega (arith, h.next); next = omega (arith, h.next) }

outcome_from : (n : ℕ) (pen : Spot) (shown : Bool) → IsBelow n pen
    → IsBelow (n + 1) (if shown then record pen { level = pen.free; free = pen.free + 1; next = pen.free + 1 } else pen)
outcome_from n pen true h = record { free = omega (arith, h.free); next = omega (arith, h.free) }
outcome_from n pen false h = record { free = omega (arith, h.free); next = omega (arith, h.next) }

outcome_below : (n : ℕ) (pen : Spot) → IsBelow n pen → IsBelow (n + 1) (outcome_spot pen)
outcome_below n pen h = outcome_from n pen pen.is_shown h

same_below : (n : ℕ) (pen : Spot) → IsBelow n pen → IsBelow (n + 1) pen
same_below n pen h = record { free = omega (arith, h.free); next = omega (arith, h.next) }

pub spot_below : (o : Options) (n : ℕ) (pen : Spot) (fact : Fact) → IsBelow n pen
    → IsBelow (n + 1) (spot_after o pen fact)
unfolding spot_after
spot_below o n pen (Event place act server is_refused) h = event_below n pen (is_drawn o place) place server h
spot_below o n pen (Sent number kind from inst) h = outcome_below n pen h
spot_below o n pen (Outcome note) h = outcome_below n pen h
spot_below o n pen (Closing server) h = same_below n pen h
spot_below o n pen (Unheard number server) h = same_below n pen h
spot_below o n pen Other h = same_below n pen h

-- ---- lines

pub first_of : (all : List (List ℕ)) (d : List ℕ) → 0 < length all → get_or all 0 d ≡ next_line all
first_of [] d h = absurd (omega (arith, h))
first_of (line ∷ ls) d h = refl

-- an empty line has no fact that a picture shows. The loops begin with an empty line before the first line
nothing_said : (next : List ℕ) → fact_of [] next ≡ Other
unfolding fact_of note_of word number
nothing_said next = refl

pub end_behind_nothing : (o : Options) (all : List (List ℕ)) → end_of o start ([] ∷ all) ≡ end_of o start all
unfolding spot_after
end_behind_nothing o all = ap (λ fact. end_of o (spot_after o start fact) all) (nothing_said (next_line all))

shapes_behind_nothing : (o : Options) (all : List (List ℕ))
    → flat_map if_needed (shapes_of o start ([] ∷ all)) ≡ flat_map if_needed (shapes_of o start all)
unfolding spot_after
shapes_behind_nothing o all =
    ap (λ fact.
    let x : Outline = record { line = []; fact = fact; spot = spot_after o start fact } in
    if_needed x ++ flat_map if_needed (shapes_of o x.spot all)) (nothing_said (next_line all))

-- i lines were read, and `line` is the last of them. The loop has not handled `line` yet, because it does not know the
-- next line. The spot after this line and the remaining lines is the spot after the whole trace. The levels so far are
-- at most i
pub record IsPassed (o : Options) (all : List (List ℕ)) (i : ℕ) (pen : Spot) (line : List ℕ) : Type 0 where
  pub end : end_of o pen (line ∷ drop i all) ≡ end_of o start ([] ∷ all)
  pub below : IsBelow i pen

none_passed : (o : Options) (all : List (List ℕ)) → IsPassed o all 0 start []
none_passed o all = record { end = refl; below = record { free = omega arith; next = omega arith } }

pub first_passed : (o : Options) (all : List (List ℕ)) (pen : Spot) → pen ≡ start → IsPassed o all 0 pen []
first_passed o all pen e = subst (λ (p : Spot). IsPassed o all 0 p []) (sym e) (none_passed o all)

line_begins : (all : List (List ℕ)) (i : ℕ) (next : List ℕ) → i < length all → next ≡ get_or all i next
    → drop i all ≡ next ∷ drop (i + 1) all
line_begins all i next h is = rest_begins_at all i next h ∙ ap (λ line. line ∷ drop (i + 1) all) (sym is)

passed_one : (o : Options) (all : List (List ℕ)) (i : ℕ) (pen new : Spot) (line next : List ℕ)
    → (i < length all) × (next ≡ get_or all i next) → new ≡ spot_after o pen (fact_of line next)
    → IsPassed o all i pen line → IsPassed o all (i + 1) new next
passed_one o all i pen new line next turn got had =
    let bound : IsBelow (i + 1) (spot_after o pen (fact_of line next)) = spot_below o i pen (fact_of line next) had.below in
    record {
      end =
          ap (λ p. end_of o p (next ∷ drop (i + 1) all)) got
          ∙ ap (λ ls. end_of o pen (line ∷ ls)) (sym (line_begins all i next turn.0 turn.1)) ∙ had.end;
      below = subst (λ (p : Spot). IsBelow (i + 1) p) (sym got) bound;
    }

pub passed_further : (o : Options) (all : List (List ℕ)) (i n : ℕ) (pen new : Spot) (line next : List ℕ) → n ≡ i + 1
    → (i < length all) × (next ≡ get_or all i next) → new ≡ spot_after o pen (fact_of line next)
    → IsPassed o all i pen line → IsPassed o all n new next
passed_further o all i n pen new line next e turn got had =
    subst (λ (m : ℕ). IsPassed o all m new next) (sym e) (passed_one o all i pen new line next turn got had)

pub passed_last : (o : Options) (all : List (List ℕ)) (i : ℕ) (pen new : Spot) (line : List ℕ) → i ≡ length all
    → new ≡ spot_after o pen (fact_of line []) → IsPassed o all i pen line → new ≡ end_of o start all
passed_last o all i pen new line e got had =
    got ∙ ap (λ ls. end_of o pen (line ∷ ls)) (sym (drop_all i all (omega (arith, e)))) ∙ had.end ∙ end_behind_nothing o all

-- a spot has room for another level
pub record HasRoom (pen : Spot) : Type 0 where
  pub free : pen.free < 2 ^ 64 - 1
  pub next : pen.next < 2 ^ 64 - 1

-- the spot after i lines of a text has room for another level, because a text has fewer than 2 ^ 63 bytes
pub is_room : (text : List ℕ) (i : ℕ) (pen : Spot) → length text < 2 ^ 63 → i ≤ length (lines_of text) → IsBelow i pen
    → HasRoom pen
is_room text i pen few passed below =
    let lines : length (lines_of text) ≡ count_by (λ b. b == 10) text + 1 = length-slice_split (λ b. b == 10) text in
    let breaks : count_by (λ b. b == 10) text ≤ length text = count_by-le-length (λ b. b == 10) text in
    record {
      free = omega (arith, few, passed, lines, breaks, below.free);
      next = omega (arith, few, passed, lines, breaks, below.next);
    }

-- the shapes so far and the needed shapes of the remaining lines are together the needed shapes of the whole trace
abbrev pub AreShapes : Options → List (List ℕ) → ℕ → Spot → List ℕ → List Shape → Type 0
AreShapes o all i pen line made =
    map outline made ++ flat_map if_needed (shapes_of o pen (line ∷ drop i all))
    ≡ flat_map if_needed (shapes_of o start ([] ∷ all))

pub first_shapes : (o : Options) (all : List (List ℕ)) (pen : Spot) (made : List Shape) → pen ≡ start → made ≡ []
    → AreShapes o all 0 pen [] made
first_shapes o all pen made e none =
    ap (λ xs. map outline xs ++ flat_map if_needed (shapes_of o pen ([] ∷ all))) none
    ∙ ap (λ p. flat_map if_needed (shapes_of o p ([] ∷ all))) e

shapes_one : (o : Options) (all : List (List ℕ)) (i : ℕ) (pen new : Spot) (line next : List ℕ)
    (made more : List Shape) → (i < length all) × (next ≡ get_or all i next)
    → new ≡ spot_after o pen (fact_of line next) → map outline more ≡ map outline made ++ if_needed (shape_of o pen line next)
    → AreShapes o all i pen line made → AreShapes o all (i + 1) new next more
shapes_one o all i pen new line next made more turn got added had =
    let x : Outline = shape_of o pen line next in
    let rest = next ∷ drop (i + 1) all in
    ap (λ xs. xs ++ flat_map if_needed (shapes_of o new rest)) added
    ∙ append_assoc (map outline made) (if_needed x) (flat_map if_needed (shapes_of o new rest))
    ∙ ap (λ p. map outline made ++ (if_needed x ++ flat_map if_needed (shapes_of o p rest))) got
    ∙ ap (λ ls. map outline made ++ flat_map if_needed (shapes_of o pen (line ∷ ls)))
    (sym (line_begins all i next turn.0 turn.1))
    ∙ had

pub shapes_further : (o : Options) (all : List (List ℕ)) (i n : ℕ) (pen new : Spot) (line next : List ℕ)
    (made more : List Shape) → n ≡ i + 1 → (i < length all) × (next ≡ get_or all i next)
    → new ≡ spot_after o pen (fact_of line next) → map outline more ≡ map outline made ++ if_needed (shape_of o pen line next)
    → AreShapes o all i pen line made → AreShapes o all n new next more
shapes_further o all i n pen new line next made more e turn got added had =
    subst (λ (m : ℕ). AreShapes o all m new next more) (sym e)
    (shapes_one o all i pen new line next made more turn got added had)

pub shapes_last : (o : Options) (all : List (List ℕ)) (i : ℕ) (pen : Spot) (line : List ℕ) (made more : List Shape)
    → i ≡ length all → map outline more ≡ map outline made ++ if_needed (shape_of o pen line [])
    → AreShapes o all i pen line made → map outline more ≡ flat_map if_needed (shapes_of o start all)
shapes_last o all i pen line made more e added had =
    added ∙ ap (λ xs. map outline made ++ xs) (sym (append-nil (if_needed (shape_of o pen line []))))
    ∙ ap (λ ls. map outline made ++ flat_map if_needed (shapes_of o pen (line ∷ ls))) (sym (drop_all i all (omega (arith, e)))) ∙ had
    ∙ shapes_behind_nothing o all

-- ---- messages

one_more : (old : List SentMessage) (o : Option SentMessage) (rest : List SentMessage)
    → (old ++ cons_option o []) ++ rest ≡ old ++ cons_option o rest
one_more old None rest = ap (λ xs. xs ++ rest) (append-nil old)
one_more old (Some s) rest = append_assoc old (s ∷ []) rest

-- if the message of the next shape is added, the messages so far and the remaining messages still make the whole list.
-- If the next shape is not a message, no message is added
pub sents_further : (xs : List Shape) (i : ℕ) (d : Shape) (old new whole : List SentMessage) → i < length xs
    → old ++ filter_map sent_here (map outline (drop i xs)) ≡ whole
    → new ≡ old ++ cons_option (sent_here (outline (get_or xs i d))) []
    → new ++ filter_map sent_here (map outline (drop (i + 1) xs)) ≡ whole
sents_further xs i d old new whole h had got =
    let rest = filter_map sent_here (map outline (drop (i + 1) xs)) in
    ap (λ ys. ys ++ rest) got ∙ one_more old (sent_here (outline (get_or xs i d))) rest
    ∙ ap (λ ys. old ++ filter_map sent_here (map outline ys)) (sym (rest_begins_at xs i d h)) ∙ had
