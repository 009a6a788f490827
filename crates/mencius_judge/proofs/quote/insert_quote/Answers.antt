use Rattle.std.proofs.Common.{◌≡◌, ◌≢◌, ◌≤◌, true, false, List, Some, None, arith, rules, length, slice_get, sym, subst, ap, ◌∙◌, ℕ}
use Rattle.std.proofs.lemmas.List.Sorted.{IsPartitionPoint-from_clause}
use Rattle.std.proofs.lemmas.Option.{slice_get-get_or, slice_get_past}
use Rattle.std.specs.List.Sorted.{IsPartitionPoint, IsPartitionedBy}
use Rattle.mencius_judge.specs.declared.quote.Quote.{Quote}
use Rattle.mencius_judge.specs.Added.{AreInOrder, HaveAlso}
use Rattle.mencius_judge.proofs.quoting.Inserted.{before_place, behind_place, inserted, is_before, is_there, parted}
use Rattle.mencius_judge.proofs.sources.Places.{none_some, same_some}
use Rattle.mencius_judge.proofs.quote.insert_quote.Goals as goal
use Rattle.mencius_judge.proofs.quote.insert_quote.Goals.{in-Some+else-other-quote, in_default}

-- the quotes before the place have lower numbers, and the others do not
abbrev IsPlaceOf : ℕ → List Quote → ℕ → Type 0
IsPlaceOf n quotes place =
    IsPartitionPoint (λ q. is_before n q ≡ true) (λ q. is_before n q ≡ false) quotes place

pub returns-then-other-quote : goal.returns-then-other-quote
returns-then-other-quote c lines inside numbered ordered =
    let quotes = c.args.quotes.now.items in
    let place = c.partition_point-place.result in
    let got = c.in-Some.ensures.lookup in
    let there : slice_get quotes place ≡ Some c.in-Some.other.now =
    ap (λ xs. slice_get xs place) (sym c.deref.ensures.value)
    ∙ slice_get-get_or c.deref.result.now place c.in-Some.other.now got.3.0 ∙ ap Some (sym got.1) in
    is_there lines quotes c.args.quote inside numbered ordered place c.in-Some.other.now there (omega arith)

pub returns : goal.returns
returns c lines inside numbered ordered =
    let quotes = c.args.quotes.now.items in
    let quote = c.args.quote in
    let place = c.partition_point-place.result in
    let parts : IsPartitionedBy (is_before quote.number) c.as_slice.result.now =
    subst (IsPartitionedBy (is_before quote.number)) (sym c.as_slice.ensures.value)
    (parted lines quotes quote.number ordered) in
    let point : IsPlaceOf quote.number quotes place =
    subst (λ (xs : List Quote). IsPlaceOf quote.number xs place)
    c.as_slice.ensures.value
    (IsPartitionPoint-from_clause (is_before quote.number) _ _ c.partition_point-place.ensures.partitioned
    parts (λ a r q k. search rules)) in
    let fits : place ≤ length quotes =
    subst (λ (xs : List Quote). place ≤ length xs) c.as_slice.ensures.value c.partition_point-place.ensures.bound in
    let other : (x : Quote) → slice_get quotes place ≡ Some x → x.number ≢ quote.number = λ x at.
    elim c.match-get.branch [
      | in-Some+else-other-quote w ↦
          let got = w.in-Some.ensures.lookup in
          let there : slice_get quotes place ≡ Some w.in-Some.other.now =
          ap (λ xs. slice_get xs place) (sym c.deref.ensures.value)
          ∙ slice_get-get_or c.deref.result.now place w.in-Some.other.now got.3.0 ∙ ap Some (sym got.1) in
          let one : w.in-Some.other.now ≡ x = same_some (sym there ∙ at) in
          (λ e. w.if-other-quote.false (ap (λ (q : Quote). q.number) one ∙ e))
      | in_default w ↦
          let past : slice_get c.deref.result.now place ≡ None =
          slice_get_past c.deref.result.now place w.in_default.ensures.lookup.3 in
          (λ e. none_some (sym past ∙ ap (λ xs. slice_get xs place) c.deref.ensures.value ∙ at))
    ] in
    subst (λ (xs : List Quote). AreInOrder lines xs × HaveAlso (λ (q : Quote). q ≡ quote) quotes xs)
    (sym c.in_ok-insert.ensures.items)
    (inserted lines quotes quote inside numbered ordered place fits (before_place quotes quote.number place point)
    (behind_place quotes quote.number place point lines ordered other))
