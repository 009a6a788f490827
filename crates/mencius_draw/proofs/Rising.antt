-- The drawn events of a trace have strictly rising levels within the picture, and so have its labels.
use Rattle.std.proofs.Common.{◌≡◌, refl, ℕ, zero, suc, ◌+◌, ◌<◌, ◌≤◌, Bool, true, false, List, [], ◌∷◌, Some, None, arith}
use native.Mathlib.Numerals.{unary_clauses}
use Rattle.std.proofs.lemmas.List.Elements.{All-cons}
use Rattle.std.specs.List.{All}
use Rattle.std.specs.List.Sorted.{IsStrictlyIncreasing}
use Rattle.mencius_draw.specs.declared.options.Options.{Options}
use Rattle.mencius_draw.specs.declared.facts.Act.{Act}
use Rattle.mencius_draw.specs.declared.layout.Spot.{Spot}
use Rattle.mencius_draw.specs.declared.facts.Fact.{Fact}
use Rattle.mencius_draw.specs.declared.facts.Fact.TheVariants.{Event, Sent, Outcome, Closing, Unheard, Other}
use Rattle.mencius_draw.specs.Facts.{fact_of}
use Rattle.mencius_draw.specs.Laws.{IsStack, KeepsApart, event_level, label_level, levels_by}
use Rattle.mencius_draw.specs.Layout.{Outline, end_of, event_spot, is_drawn, lines_of, next_line, outcome_spot, shapes_of, spot_after, start}

-- the numbers rise strictly, start at `least` or higher, and are less than `most`. If there are none, `least` is at
-- most `most`
abbrev Rises : ℕ → ℕ → List ℕ → Type 0
Rises least most [] = least ≤ most
Rises least most (x ∷ xs) = (least ≤ x) × Rises (x + 1) most xs

rises_from_less : (least more most : ℕ) (xs : List ℕ) → least ≤ more → Rises more most xs → Rises least most xs
rises_from_less least more most [] l h = omega (arith, h)
rises_from_less least more most (x ∷ xs) l h = (omega (arith, h.0), h.1)

limit_of_rises : (least most : ℕ) (xs : List ℕ) → Rises least most xs → least ≤ most
limit_of_rises least most [] h = h
limit_of_rises least most (x ∷ xs) h = omega (arith, h.0, limit_of_rises (x + 1) most xs h.1)

within_rises : (least most : ℕ) (xs : List ℕ) → Rises least most xs → All (λ x. x < most) xs
within_rises least most [] h = λ k d l. absurd (omega arith)
within_rises least most (x ∷ xs) h =
    All-cons (λ x. x < most) x xs (omega (arith, limit_of_rises (x + 1) most xs h.1)) (within_rises (x + 1) most xs h.1)

increasing_of_rises : (least most : ℕ) (xs : List ℕ) → Rises least most xs → IsStrictlyIncreasing xs
increasing_of_rises least most [] h k l = absurd (omega arith)
increasing_of_rises least most (x ∷ []) h k l = absurd (omega arith)
increasing_of_rises least most (x ∷ y ∷ ys) h zero l = let next : suc x ≤ y = omega (arith, h.1.0) in next
increasing_of_rises least most (x ∷ y ∷ ys) h (suc k) l =
    simp unary_clauses (simp unary_clauses at (increasing_of_rises (x + 1) most (y ∷ ys) h.1 k (omega arith)))

stack_of_rises : (least most : ℕ) (xs : List ℕ) → Rises least most xs → IsStack most xs
stack_of_rises least most xs h =
    record { increasing = increasing_of_rises least most xs h; within = within_rises least most xs h }

-- the level of the next event is either the level of the next outcome or the level after it
record IsPen (pen : Spot) : Type 0 where
  low : pen.free ≤ pen.next
  near : pen.next ≤ pen.free + 1

-- the events of these lines have rising levels from `pen.next` on, their labels have rising levels from `pen.free` on,
-- and all levels are less than `most`
record IsBelow (pen : Spot) (most : ℕ) (xs : List Outline) : Type 0 where
  events : Rises pen.next most (levels_by event_level xs)
  labels : Rises pen.free most (levels_by label_level xs)

-- from each spot at which the lines `rest` may begin, their levels rise and are less than the level `end`
record IsRest (rest : Spot → List Outline) (end : Spot → ℕ) : Type 0 where
  below : (pen : Spot) → IsPen pen → IsBelow pen (end pen) (rest pen)

abbrev put_line : List ℕ → Fact → Spot → (Spot → List Outline) → List Outline
put_line line fact spot rest = record { line = line; fact = fact; spot = spot } ∷ rest spot

event_line : (line : List ℕ) (pen : Spot) (place server : ℕ) (act : Act) (is_refused b : Bool) (rest : Spot → List Outline)
    (end : Spot → ℕ) → IsPen pen → IsRest rest end
    → let spot = event_spot pen b place server in
    IsBelow pen (end spot) (put_line line (Event place act server is_refused) spot rest)
event_line line pen place server act is_refused true rest end p h =
    let later = h.below (event_spot pen true place server) (record { low = omega arith; near = omega arith }) in
    record {
      events = (omega arith, later.events);
      labels = rises_from_less pen.free pen.next _ _ p.low later.labels;
    }
event_line line pen place server act is_refused false rest end p h =
    let later = h.below (event_spot pen false place server) (record { low = omega arith; near = omega arith }) in
    record { events = later.events; labels = rises_from_less pen.free pen.next _ _ p.low later.labels }

-- the spot `pen` with another value of `is_shown`
abbrev of_shown : Spot → Bool → Spot
of_shown pen is_shown = record pen { is_shown = is_shown }

label_line : (line : List ℕ) (fact : Fact) (pen : Spot) (is_shown : Bool) (rest : Spot → List Outline) (end : Spot → ℕ)
    → event_level fact pen.free ≡ None → label_level fact pen.free ≡ Some pen.free → IsPen pen → IsRest rest end
    → let spot = outcome_spot (of_shown pen is_shown) in IsBelow pen (end spot) (put_line line fact spot rest)
label_line line fact pen true rest end no_event a_label p h =
    let later = h.below (outcome_spot (of_shown pen true)) (record { low = omega arith; near = omega arith }) in
    record {
      events = rw no_event (rises_from_less pen.next (pen.free + 1) _ _ p.near later.events);
      labels = rw a_label (omega arith, later.labels);
    }
label_line line fact pen false rest end no_event a_label p h =
    let later = h.below (of_shown pen false) (record { low = p.low; near = p.near }) in
    record { events = later.events; labels = later.labels }

-- if a line has no event and no label, the levels still rise with this line in front of the rest
bare_line : (line : List ℕ) (fact : Fact) (pen : Spot) (is_shown : Bool) (rest : Spot → List Outline) (end : Spot → ℕ)
    → event_level fact pen.level ≡ None → label_level fact pen.level ≡ None → IsPen pen → IsRest rest end
    → let spot = of_shown pen is_shown in IsBelow pen (end spot) (put_line line fact spot rest)
bare_line line fact pen true rest end no_event no_label p h =
    let later = h.below (of_shown pen true) (record { low = p.low; near = p.near }) in
    record { events = rw no_event later.events; labels = rw no_label later.labels }
bare_line line fact pen false rest end no_event no_label p h =
    let later = h.below (of_shown pen false) (record { low = p.low; near = p.near }) in
    record { events = later.events; labels = later.labels }

any_line : (o : Options) (line : List ℕ) (fact : Fact) (pen : Spot) (rest : Spot → List Outline) (end : Spot → ℕ)
    → IsPen pen → IsRest rest end
    → let spot = spot_after o pen fact in IsBelow pen (end spot) (put_line line fact spot rest)
unfolding spot_after
any_line o line (Event place act server is_refused) pen rest end p h =
    event_line line pen place server act is_refused (is_drawn o place) rest end p h
any_line o line (Sent number kind from inst) pen rest end p h =
    label_line line (Sent number kind from inst) pen pen.is_shown rest end refl refl p h
any_line o line (Outcome note) pen rest end p h =
    label_line line (Outcome note) pen pen.is_shown rest end refl refl p h
any_line o line (Closing server) pen rest end p h =
    bare_line line (Closing server) pen pen.is_shown rest end refl refl p h
any_line o line (Unheard number server) pen rest end p h =
    bare_line line (Unheard number server) pen pen.is_shown rest end refl refl p h
any_line o line Other pen rest end p h = bare_line line Other pen pen.is_shown rest end refl refl p h

shapes_below : (o : Options) (ls : List (List ℕ)) (pen : Spot) → IsPen pen
    → IsBelow pen (end_of o pen ls).next (shapes_of o pen ls)
shapes_below o [] pen p = record { events = omega arith; labels = p.low }
shapes_below o (line ∷ ls) pen p =
    any_line o line (fact_of line (next_line ls)) pen (λ spot. shapes_of o spot ls) (λ spot. (end_of o spot ls).next) p
    (record { below = λ spot q. shapes_below o ls spot q })

pub all_apart : KeepsApart
all_apart o trace =
    let all = shapes_below o (lines_of trace) start (record { low = omega arith; near = omega arith }) in
    record { events = stack_of_rises _ _ _ all.events; labels = stack_of_rises _ _ _ all.labels }
