-- The calls of a board maintain its invariant.
use Rattle.std.proofs.Common.{◌≡◌, ◌≤◌, ℕ, List, [], ◌++◌, length, Option, Some, take, sym, ap, subst, ◌∙◌, arith}
use Rattle.std.proofs.lemmas.List.{append-nil, take-append-le}
use mathlib.Core.List.{IsPrefix}
use Rattle.mencius_base.specs.declared.command.Command.{Command}
use Rattle.mencius_cluster.specs.State.{ClusterState}
use Rattle.mencius_board.specs.declared.version.Operation.{Operation}
use Rattle.mencius_board.specs.Marks.{MarkState, VersionState, mark_of}
use Rattle.mencius_board.specs.Shown.{book_of}
use Rattle.mencius_board.specs.Pending.{AreHanded, IsMarked, added_commands}
use Rattle.mencius_board.specs.Boards.{IsBoardInside, IsSteady, longest_of}
use Rattle.mencius_model.proofs.trace.Prefixes.{prefix_empty, prefix_trans, prefix_length, take_begins}

-- commands that were handed over from a list were also handed over from each list that begins with it
handed_grows : (shown : List Command) (os : List Operation) (n : ℕ) (xs ys : List Command) → IsPrefix xs ys
    → AreHanded shown os n xs → AreHanded shown os n ys
handed_grows shown os n xs ys prefix h = record {
  many = omega (arith, h.many, prefix_length xs ys prefix);
  first = h.first ∙ (sym (take-append-le n xs prefix.0 h.many) ∙ ap (λ l. take n l) prefix.1);
}

-- the invariant still holds if the longest history of the board's cluster grows
pub sound_grows : (x y : ClusterState) (log opening : MarkState) (seen : Option MarkState) (shown : VersionState)
    (os : List Operation) (n : ℕ) → IsSteady y × IsPrefix (longest_of x) (longest_of y)
    → IsBoardInside x log opening seen shown os n → IsBoardInside y log opening seen shown os n
sound_grows x y log opening seen shown os n also s = record {
  steady = also.0;
  marked = s.marked;
  handed_is = handed_grows shown.list os n (longest_of x) (longest_of y) also.1 s.handed_is;
  begins = prefix_trans log.log (longest_of x) (longest_of y) s.begins also.1;
  opening_is = s.opening_is;
  seen_is = s.seen_is;
}

-- the shown list, followed by the pending commands, is a prefix of the longest history
pub shown_first : (x : ClusterState) (shown : List Command) (os : List Operation) (n : ℕ)
    → AreHanded shown os n (longest_of x) → IsPrefix (shown ++ added_commands os) (longest_of x)
shown_first x shown os n h = subst (λ (l : List Command). IsPrefix l (longest_of x)) (sym h.first)
    (take_begins n (longest_of x))

-- equal lists are prefixes of each other
pub all_begins : (xs ys : List Command) → xs ≡ ys → IsPrefix xs ys
all_begins xs ys same = ([], append-nil xs ∙ same)

-- the invariant holds for a new board, which shows the empty list
pub sound_new : (x : ClusterState) (log opening : MarkState) (seen : Option MarkState) (shown : VersionState)
    (os : List Operation) → IsSteady x → log.log ≡ [] → opening ≡ log
    → book_of seen ≡ Some opening.book → shown ≡ record { mark = opening; list = opening.log } → added_commands os ≡ []
    → IsBoardInside x log opening seen shown os 0
sound_new x log opening seen shown os steady empty same seen_is is none =
    let empty_mark : opening.log ≡ [] = ap (λ (m : MarkState). m.log) same ∙ empty in
    let list : shown.list ≡ [] = ap (λ (s : VersionState). s.list) is ∙ empty_mark in
    record {
      steady = steady;
      marked = record {
        book_is = ap (λ (s : VersionState). s.mark.book) is
            ∙ ap (λ (m : MarkState). m.book) same;
        log_is = ap (λ (s : VersionState). s.mark.log) is
            ∙ sym (ap (λ (s : VersionState). s.list) is);
      };
      handed_is = record { many = omega arith; first = ap (λ (l : List Command). l ++ added_commands os) list ∙ none };
      begins = subst (λ (l : List Command). IsPrefix l (longest_of x)) (sym empty) (prefix_empty (longest_of x));
      opening_is = same ∙ ap (λ (l : List Command). mark_of log.book l) empty;
      seen_is = seen_is ∙ ap (λ (m : MarkState). Some m.book) same;
    }

-- the invariant holds once the whole longest history is shown
pub sound_shown : (x : ClusterState) (log opening mark : MarkState) (seen : Option MarkState) (shown : VersionState)
    (os : List Operation) (n : ℕ) (list was : List Command) (waiting : List Operation) → IsSteady x
    → opening ≡ mark_of log.book [] → mark ≡ log → log.log ≡ list → list ≡ longest_of x → AreHanded was waiting n list
    → was ++ added_commands waiting ≡ list → shown ≡ record { mark = mark; list = mark.log } → added_commands os ≡ []
    → book_of seen ≡ Some mark.book → IsBoardInside x log opening seen shown os n
sound_shown x log opening mark seen shown os n list was waiting steady opening_is same whole all h handed is none
    seen_is =
    let list_is : shown.list ≡ list = ap (λ (s : VersionState). s.list) is
    ∙ (ap (λ (m : MarkState). m.log) same ∙ whole) in
    record {
      steady = steady;
      marked = record {
        book_is = ap (λ (s : VersionState). s.mark.book) is ∙ ap (λ (m : MarkState). m.book) same;
        log_is = ap (λ (s : VersionState). s.mark.log) is ∙ sym (ap (λ (s : VersionState). s.list) is);
      };
      handed_is = record {
        many = subst (λ (l : List Command). n ≤ length l) all h.many;
        first = ap (λ (l : List Command). shown.list ++ l) none
            ∙ (append-nil shown.list
            ∙ (list_is ∙ (sym handed ∙ (h.first ∙ ap (λ (l : List Command). take n l) all))));
      };
      begins = all_begins log.log (longest_of x) (whole ∙ all);
      opening_is = opening_is;
      seen_is = seen_is ∙ ap (λ (m : MarkState). Some m.book) same;
    }

-- the invariant still holds after some commands were handed over, because nothing else of the board changed
pub sound_handed : (x : ClusterState) (log opening : MarkState) (seen was_seen : Option MarkState)
    (shown was : VersionState) (os waiting : List Operation) (n m : ℕ) (list : List Command) → seen ≡ was_seen
    → shown ≡ was → AreHanded shown.list os n list → list ≡ longest_of x
    → IsBoardInside x log opening was_seen was waiting m → IsBoardInside x log opening seen shown os n
sound_handed x log opening seen was_seen shown was os waiting n m list same_seen same handed all s = record {
  steady = s.steady;
  marked = subst (λ (v : VersionState). IsMarked log.book v) (sym same) s.marked;
  handed_is = subst (λ (l : List Command). AreHanded shown.list os n l) all handed;
  begins = s.begins;
  opening_is = s.opening_is;
  seen_is = ap book_of same_seen ∙ s.seen_is;
}
