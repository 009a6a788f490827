-- The invariant of a run holds before the first turn and after each turn, and gives the result at the end.
use Rattle.std.specs.Prelude.{slice_get, IfErr, OnOk, if◌then◌else◌}
use Rattle.std.specs.Result.{is_ok}
use Rattle.std.proofs.Common.{◌≡◌, ◌≢◌, ℕ, zero, suc, ◌<◌, ◌≤◌, ◌==◌, Bool, true, false, List, [], ◌∷◌, Some, None, Result, Ok, Err, length, map, replicate, set, get_or, refl, sym, ◌∙◌, ap, subst, arith, ⊎_elim, inl, inr}
use Rattle.std.proofs.lemmas.Bool.{cases_eq, cases_lt}
use Rattle.std.proofs.lemmas.Bool.Decides.{nat_tests}
use Rattle.std.proofs.lemmas.List.{get_or-replicate, get_or-set_other, get_or_default, get_or_past, length-map, length-replicate, length-set}
use Rattle.std.proofs.lemmas.Grind.{get_or-set_at}
use Rattle.std.proofs.lemmas.Option.{slice_get_read}
use Rattle.mencius_base.specs.Members.{numbers_below}
use Rattle.mencius_model.proofs.trace.Lists.{length_below}
use Rattle.mencius_choices.specs.Choices.{ChooserState, first_chooser}
use Rattle.mencius_base.specs.Plan.{PlanState}
use Rattle.mencius_board.specs.declared.fault.BoardFault.{BoardFault}
use Rattle.mencius_board.specs.declared.fault.BoardFault.TheVariants.{NoWorker}
use Rattle.mencius_board.specs.Boards.{BoardState}
use Rattle.mencius_board.specs.Faults.{IsRunFault, IsTurnFault}
use Rattle.mencius_board.specs.Runs.{Befalls, HasFailed, HasRun, IsRun, TurnOf, Way, first_end, way_after, way_of}
use Rattle.mencius_board.specs.Turns.{TakesTurn, is_to_show}

abbrev none_taken : Way
none_taken = Ok 0

no_turns : (n i : ℕ) → get_or (replicate n none_taken) i none_taken ≡ none_taken
no_turns n i =
    ⊎_elim (λ (within : i < n). get_or-replicate n i none_taken none_taken within)
    (λ (past : n ≤ i).
    get_or_past (replicate n none_taken) i none_taken (omega (arith, past, length-replicate n none_taken)))
    (cases_lt i n)

-- the invariant holds for a run before its first turn
pub begun : (plan : PlanState) (board : BoardState) (choosers : List ChooserState) (ways : List Way) (turns : ℕ)
    → turns ≡ plan.turns → choosers ≡ map (first_chooser plan) (numbers_below plan.workers)
    → ways ≡ replicate plan.workers (Ok 0)
    → IsRun plan board board choosers ways turns
begun plan board choosers ways turns limit are none =
    let noted : (worker : ℕ) → get_or ways worker (Ok 0) ≡ Ok 0 =
    λ worker. ap (λ xs. get_or xs worker (Ok 0)) none ∙ no_turns plan.workers worker in
    record {
      limit = limit;
      seats = ap length are ∙ (length-map (numbers_below plan.workers) (first_chooser plan) ∙ length_below plan.workers);
      counts = ap length none ∙ length-replicate plan.workers none_taken;
      order = [];
      comes = ap (λ xs. record { board = board; choosers = xs }) are;
      counted = noted;
      faults = λ worker. subst (λ way. IfErr way (IsRunFault turns)) (sym (noted worker)) tt;
    }

noted_here : (ways : List Way) (seat : ℕ) (way : Way) (answer : Result (Unit {0}) BoardFault) (order : List TurnOf)
    (b : Bool) → (seat == seat) ≡ b → seat < length ways → way ≡ way_after answer (way_of seat order)
    → get_or (set ways seat way) seat (Ok 0) ≡ way_of seat ((seat, answer) ∷ order)
noted_here ways seat way answer order true same within is =
    rw same (get_or-set_at ways seat seat way (Ok 0) refl within ∙ is)
noted_here ways seat way answer order false same within is = absurd (grind (arith, nat_tests, same))

noted_there : (ways : List Way) (seat worker : ℕ) (way : Way) (answer : Result (Unit {0}) BoardFault)
    (order : List TurnOf) (b : Bool) → (seat == worker) ≡ b → worker ≢ seat
    → get_or ways worker (Ok 0) ≡ way_of worker order
    → get_or (set ways seat way) worker (Ok 0) ≡ way_of worker ((seat, answer) ∷ order)
noted_there ways seat worker way answer order false same other noted =
    rw same (get_or-set_other ways seat worker way (Ok 0) other ∙ noted)
noted_there ways seat worker way answer order true same other noted =
    absurd (grind (arith, nat_tests, same, other))

-- another turn changes only the way of the worker that took it
noted_more : (ways : List Way) (seat worker : ℕ) (way : Way) (answer : Result (Unit {0}) BoardFault)
    (order : List TurnOf) → seat < length ways → way ≡ way_after answer (way_of seat order)
    → get_or ways worker (Ok 0) ≡ way_of worker order
    → get_or (set ways seat way) worker (Ok 0) ≡ way_of worker ((seat, answer) ∷ order)
noted_more ways seat worker way answer order within is noted =
    ⊎_elim
    (λ (e : worker ≡ seat).
    subst (λ (w : ℕ). get_or (set ways seat way) w (Ok 0) ≡ way_of w ((seat, answer) ∷ order)) (sym e)
    (noted_here ways seat way answer order (seat == seat) refl within is))
    (λ (other : worker ≢ seat).
    noted_there ways seat worker way answer order (seat == worker) refl other noted)
    (cases_eq worker seat)

fault_more : (ways : List Way) (seat worker turns : ℕ) (way : Way) → seat < length ways → IfErr way (IsRunFault turns)
    → IfErr (get_or ways worker (Ok 0)) (IsRunFault turns)
    → IfErr (get_or (set ways seat way) worker (Ok 0)) (IsRunFault turns)
fault_more ways seat worker turns way within is was =
    ⊎_elim
    (λ (e : worker ≡ seat).
    subst (λ w. IfErr w (IsRunFault turns)) (sym (get_or-set_at ways seat worker way (Ok 0) e within)) is)
    (λ (other : worker ≢ seat).
    subst (λ w. IfErr w (IsRunFault turns)) (sym (get_or-set_other ways seat worker way (Ok 0) other)) was)
    (cases_eq worker seat)

-- the invariant holds after a turn, or after a thread could not be started
goes_on : (plan : PlanState) (first old new : BoardState) (choosers choosers' : List ChooserState)
    (ways : List Way) (turns seat taken : ℕ) (answer : Result (Unit {0}) BoardFault) (way : Way)
    → IsRun plan first old choosers ways turns → seat < plan.workers → get_or ways seat (Ok 0) ≡ Ok taken
    → Befalls seat taken answer (record { board = old; choosers = choosers })
    (record { board = new; choosers = choosers' })
    → length choosers' ≡ length choosers → way ≡ way_after answer (Ok taken) → IfErr way (IsRunFault turns)
    → IsRun plan first new choosers' (set ways seat way) turns
goes_on plan first old new choosers choosers' ways turns seat taken answer way run seated at befalls many is fault =
    let within : seat < length ways = omega (arith, run.counts, seated) in
    let came : way_of seat run.order ≡ Ok taken = sym (run.counted seat) ∙ at in
    let then_is : way ≡ way_after answer (way_of seat run.order) = is ∙ ap (way_after answer) (sym came) in
    record {
      limit = run.limit;
      seats = many ∙ run.seats;
      counts = length-set ways seat way ∙ run.counts;
      order = (seat, answer) ∷ run.order;
      comes = (record { board = old; choosers = choosers }, run.comes, taken, came, befalls);
      counted = λ worker. noted_more ways seat worker way answer run.order within then_is (run.counted worker);
      faults = λ worker. fault_more ways seat worker turns way within fault (run.faults worker);
    }

-- a way that was read from the list is the same with another default
read_way : (plan : PlanState) (first board : BoardState) (choosers : List ChooserState) (ways : List Way)
    (turns seat : ℕ) (read : Way) → IsRun plan first board choosers ways turns → seat < plan.workers
    → read ≡ get_or ways seat read → get_or ways seat (Ok 0) ≡ read
read_way plan first board choosers ways turns seat read run seated is =
    get_or_default ways seat (Ok 0) read (omega (arith, run.counts, seated)) ∙ sym is

-- the invariant holds after the next turn of a worker, with any result
pub turned : (plan : PlanState) (first board after : BoardState) (choosers : List ChooserState)
    (chooser next : ChooserState) (ways : List Way) (turns seat taken : ℕ) (read way : Way) (shows : Bool)
    (answer : Result (Unit {0}) BoardFault)
    → IsRun plan first board choosers ways turns → seat < plan.workers
    → chooser ≡ get_or choosers seat chooser → read ≡ get_or ways seat read → read ≡ Ok taken
    → shows ≡ is_to_show seat taken → TakesTurn chooser next board after shows answer
    → way ≡ way_after answer (Ok taken) → IfErr way (IsRunFault turns)
    → IsRun plan first after (set choosers seat next) (set ways seat way) turns
turned plan first board after choosers chooser next ways turns seat taken read way shows answer run seated there at came is turn then_is fault =
    let sits : slice_get choosers seat ≡ Some chooser =
    slice_get_read choosers plan.workers seat chooser (sym run.seats) seated there in
    goes_on plan first board after choosers (set choosers seat next) ways turns seat taken answer way run seated
    (read_way plan first board choosers ways turns seat read run seated at ∙ came)
    (inl (record {
      chooser = chooser;
      then_chooser = next;
      there = sits;
      turn = subst (λ b. TakesTurn chooser next board after b answer) is turn;
      rest = refl;
    }))
    (length-set choosers seat next) then_is fault

-- the invariant holds after the thread of a worker could not be started
pub refused : (plan : PlanState) (first board : BoardState) (choosers : List ChooserState) (ways : List Way)
    (turns seat : ℕ) (read : Way) (ok : Bool)
    → IsRun plan first board choosers ways turns → seat < plan.workers → read ≡ get_or ways seat read
    → ok ≡ is_ok read → ok ≡ true → IsRun plan first board choosers (set ways seat (Err NoWorker)) turns
refused plan first board choosers ways turns seat (Ok taken) ok run seated at is well =
    goes_on plan first board board choosers choosers ways turns seat taken (Err NoWorker) (Err NoWorker) run seated
    (read_way plan first board choosers ways turns seat (Ok taken) run seated at) (inr (refl, refl)) refl refl
    (inr (inl refl))
refused plan first board choosers ways turns seat (Err f) ok run seated at is well = absurd (cc)

-- a fault that a turn can have is a fault that a run can have
pub turn_is_run : (seat n turns : ℕ) (shows : Bool) (f : BoardFault) → shows ≡ is_to_show seat n → n < turns
    → IsTurnFault shows f → IsRunFault turns f
turn_is_run seat n turns shows f is below (inl memory) = inl memory
turn_is_run seat n turns shows f is below (inr refused) =
    let test : is_to_show seat n ≡ true = sym is ∙ refused.1 in
    inr (inr (refused.0, grind (arith, nat_tests, test, below)))

-- ---- the end of each worker

took : (turns taken : ℕ) (ways : List Way) (b : Bool) (end : Result (Unit {0}) BoardFault) → (taken == turns) ≡ b
    → (if b then first_end turns ways else None) ≡ Some end
    → (taken ≡ turns) × (first_end turns ways ≡ Some end)
took turns taken ways true end same e = (grind (arith, nat_tests, same), e)
took turns taken ways false end same e = absurd (cc)

all_took : (turns : ℕ) (ways : List Way) (worker : ℕ) (x : Unit {0}) → first_end turns ways ≡ Some (Ok x)
    → worker < length ways → get_or ways worker (Ok 0) ≡ Ok turns
all_took turns [] worker x e within = absurd (omega (arith, within))
all_took turns (Err f ∷ ways) worker x e within = absurd (cc)
all_took turns (Ok taken ∷ ways) zero x e within = ap Ok (took turns taken ways (taken == turns) (Ok x) refl e).0
all_took turns (Ok taken ∷ ways) (suc worker) x e within =
    all_took turns ways worker x (took turns taken ways (taken == turns) (Ok x) refl e).1 (omega (arith, within))

-- this worker is the first that did not take all turns, and it has this fault
abbrev IsFirst : ℕ → List Way → BoardFault → ℕ → Type 0
IsFirst turns ways f worker =
    (worker < length ways) × (get_or ways worker (Ok 0) ≡ Err f)
    × ((other : ℕ) → other < worker → get_or ways other (Ok 0) ≡ Ok turns)

before_next : (turns taken worker : ℕ) (ways : List Way) → taken ≡ turns
    → ((other : ℕ) → other < worker → get_or ways other (Ok 0) ≡ Ok turns) → (other : ℕ) → other < suc worker
    → get_or (Ok taken ∷ ways) other (Ok 0) ≡ Ok turns
before_next turns taken worker ways same least zero below = ap Ok same
before_next turns taken worker ways same least (suc other) below = least other (omega (arith, below))

first_failed : (turns : ℕ) (ways : List Way) (f : BoardFault) → first_end turns ways ≡ Some (Err f)
    → (worker : ℕ) × IsFirst turns ways f worker
first_failed turns [] f e = absurd (cc)
first_failed turns (Err g ∷ ways) f e = (0, (omega arith, cc, λ other below. absurd (omega (arith, below))))
first_failed turns (Ok taken ∷ ways) f e =
    let rest = took turns taken ways (taken == turns) (Err f) refl e in
    let next = first_failed turns ways f rest.1 in (
      suc next.0,
      (omega (arith, next.1.0), next.1.1, before_next turns taken next.0 ways rest.0 next.1.2),
    )

-- at the end of a run, either all workers have taken all turns, or the lowest worker that did not has a fault
pub ended : (plan : PlanState) (first board : BoardState) (choosers : List ChooserState) (ways : List Way) (turns : ℕ)
    (answer : Result (Unit {0}) BoardFault) → IsRun plan first board choosers ways turns
    → first_end turns ways ≡ Some answer
    → OnOk answer (HasRun plan first board) × IfErr answer (HasFailed plan first board)
    × IfErr answer (IsRunFault plan.turns)
ended plan first board choosers ways turns (Ok x) run is = (
  record {
    order = run.order;
    each = λ worker below.
        sym (run.counted worker)
        ∙ (all_took turns ways worker x is (omega (arith, run.counts, below)) ∙ ap Ok run.limit);
    choosers = choosers;
    comes = run.comes;
  },
  tt,
  tt,
)
ended plan first board choosers ways turns (Err f) run is =
    let found = first_failed turns ways f is in
    let worker : ℕ = found.0 in
    let of : IsRunFault turns f =
    subst (λ (way : Way). IfErr way (IsRunFault turns)) found.1.1 (run.faults worker) in (
      tt,
      record {
        order = run.order;
        choosers = choosers;
        comes = run.comes;
        worker = worker;
        there = omega (arith, run.counts, found.1.0);
        fault = sym (run.counted worker) ∙ found.1.1;
        least = λ other below. sym (run.counted other) ∙ (found.1.2 other below ∙ ap Ok run.limit);
      },
      subst (λ n. IsRunFault n f) run.limit of,
    )
