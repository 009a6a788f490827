-- The words of a text are the part before its first space, and then the words of the rest.
use Rattle.std.proofs.Common.{◌≡◌, ◌⊎◌, inl, inr, ℕ, ◌<◌, ◌==◌, List, [], ◌∷◌, length, Option, Some, None, Bool, true, false, cond, refl, ap, sym, ◌∙◌, arith, suc, get_or, ◌+◌, ◌-◌, ◌++◌, ◌≤◌, ltb, take, drop}
use Rattle.std.specs.Option.{unwrap_or}
use Rattle.std.specs.List.{slice_split, onto_first, list_all, position, position_or_len}
use Rattle.std.specs.Str.{bytes_eq}
use Rattle.std.specs.Char.{is_ascii_digit}
use Rattle.std.proofs.lemmas.Bool.{eqb-true, and_left, and_right, cases_Bool, both_ways, ltb-true, ltb-false}
use Rattle.std.proofs.Math.Seq.{get_or-append_seam, take-append_seam}
use Rattle.std.proofs.lemmas.List.{drop_more, length-append, take-append-drop}
use Rattle.std.proofs.lemmas.Slice.Eq.{bytes_eq-Decides}
use Rattle.std.proofs.lemmas.List.Quantifiers.{position-Some}
use Rattle.std.proofs.lemmas.List.Sums.{fails_before_first}
use Rattle.std.proofs.lemmas.List.Splits.{slice_split_first, slice_split-cons_no}
use Rattle.mencius_base.specs.Command.{is_name_byte}
use Rattle.mencius_format.specs.Words.{parts, is_number, number_of, single_word}
use Rattle.mencius_format.proofs.NumberWords.{number_digits}

-- ---- a cut

-- if some byte passes the test, `position_or_len` is the place of the first one, before the end of the text
pub at_place : (test : ℕ → Bool) (text : List ℕ) (n : ℕ) → position test text ≡ Some n
    → (n ≡ position_or_len test text) × (position_or_len test text < length text)
at_place test text n e = by_test (ltb (position_or_len test text) (length text)) refl e
  where
    by_test : (a : Bool) → ltb (position_or_len test text) (length text) ≡ a
        → cond a (Some (position_or_len test text)) None ≡ Some n
        → (n ≡ position_or_len test text) × (position_or_len test text < length text)
    by_test true less is = (ap (λ (o : Option ℕ). unwrap_or o 0) (sym is), ltb-true _ _ less)
    by_test false less is = absurd (cc)

pub found_byte : (mark : ℕ) (text : List ℕ) (n : ℕ) → position (λ byte. byte == mark) text ≡ Some n
    → (n < length text) × (get_or text n 0 ≡ mark)
found_byte mark text n e =
    let found = position-Some (λ byte. byte == mark) text n 0 e in (found.0, eqb-true _ _ found.1)

-- the parts of a text are the part before the first mark, and then the parts of the rest
pub found_parts : (mark : ℕ) (text : List ℕ) (n : ℕ) → position (λ byte. byte == mark) text ≡ Some n
    → parts mark text ≡ take n text ∷ parts mark (drop (n + 1) text)
found_parts mark text n e =
    let found = at_place (λ byte. byte == mark) text n e in
    rw found.0 (slice_split_first (λ byte. byte == mark) text 0 found.1)

uncut : (test : ℕ → Bool) (text : List ℕ) → ((n : ℕ) → n < length text → test (get_or text n 0) ≡ false)
    → slice_split test text ≡ text ∷ []
uncut test [] h = refl
uncut test (byte ∷ bytes) h = slice_split-cons_no test byte bytes (h 0 (omega arith))
    ∙ ap (onto_first byte) (uncut test bytes (λ n l. h (suc n) (omega arith)))

-- if no byte passes the test, `position_or_len` is not before the end of the text
pub no_place : (test : ℕ → Bool) (text : List ℕ) → position test text ≡ None → length text ≤ position_or_len test text
no_place test text e = by_test (ltb (position_or_len test text) (length text)) refl e
  where
    by_test : (a : Bool) → ltb (position_or_len test text) (length text) ≡ a
        → cond a (Some (position_or_len test text)) None ≡ None → length text ≤ position_or_len test text
    by_test true less is = absurd (cc)
    by_test false past is = ltb-false _ _ past

-- a text without the mark is one part
pub lacking_parts : (mark : ℕ) (text : List ℕ) → position (λ byte. byte == mark) text ≡ None
    → parts mark text ≡ text ∷ []
lacking_parts mark text e =
    let far = no_place (λ byte. byte == mark) text e in
    uncut (λ byte. byte == mark) text (λ n l. fails_before_first (λ byte. byte == mark) text n 0 (omega arith))

-- ---- a word that is the whole rest

first_part : (mark : ℕ) (text : List ℕ) → (xs : List ℕ) × (ps : List (List ℕ)) × (parts mark text ≡ xs ∷ ps)
first_part mark [] = ([], [], refl)
first_part mark (byte ∷ bytes) = by_test (byte == mark) (first_part mark bytes)
  where
    by_test : (a : Bool) → (xs : List ℕ) × (ps : List (List ℕ)) × (parts mark bytes ≡ xs ∷ ps)
        → (xs : List ℕ) × (ps : List (List ℕ))
        × (cond a ([] ∷ parts mark bytes) (onto_first byte (parts mark bytes)) ≡ xs ∷ ps)
    by_test true same = ([], parts mark bytes, refl)
    by_test false same = (byte ∷ same.0, same.1, ap (onto_first byte) same.2)

-- there are at least two parts, and a byte of the text fails the test
abbrev pub HasMore : (ℕ → Bool) → List ℕ → List (List ℕ) → Type 0
HasMore test text ps =
    (x : List ℕ) × (y : List ℕ) × (ys : List (List ℕ)) × (ps ≡ x ∷ y ∷ ys) × (list_all test text ≡ false)

one_or_more : (test : ℕ → Bool) (mark : ℕ) → test mark ≡ false → (text : List ℕ)
    → (parts mark text ≡ text ∷ []) ⊎ HasMore test text (parts mark text)
one_or_more test mark lacks [] = inl refl
one_or_more test mark lacks (byte ∷ bytes) =
    by_test (byte == mark) refl (one_or_more test mark lacks bytes) (first_part mark bytes)
  where
    by_test : (a : Bool) → (byte == mark) ≡ a → (parts mark bytes ≡ bytes ∷ []) ⊎ HasMore test bytes (parts mark bytes)
        → (xs : List ℕ) × (ps : List (List ℕ)) × (parts mark bytes ≡ xs ∷ ps)
        → (cond a ([] ∷ parts mark bytes) (onto_first byte (parts mark bytes)) ≡ (byte ∷ bytes) ∷ [])
        ⊎ HasMore test (byte ∷ bytes) (cond a ([] ∷ parts mark bytes) (onto_first byte (parts mark bytes)))
    by_test true is rest same =
        inr (
          [],
          same.0,
          same.1,
          ap (λ ps. [] ∷ ps) same.2,
          and_left (test byte) (list_all test bytes) (ap test (eqb-true byte mark is) ∙ lacks),
        )
    by_test false is (inl one) same = inl (ap (onto_first byte) one)
    by_test false is (inr more) same =
        inr (
          byte ∷ more.0,
          more.1,
          more.2,
          ap (onto_first byte) more.3,
          and_right (test byte) (list_all test bytes) more.4,
        )

-- if a reader rejects every text with the mark, it reads the only part of a text as it reads the whole text
single_rest : {X : Type 0} (test : ℕ → Bool) (read : List ℕ → Option X)
    → ((word : List ℕ) → list_all test word ≡ false → read word ≡ None) → (mark : ℕ) → test mark ≡ false
    → (text : List ℕ)
    → single_word read (parts mark text) ≡ read text
single_rest test read none mark lacks text = elim (one_or_more test mark lacks text) [
  | inl one ↦ ap (single_word read) one
  | inr more ↦ ap (single_word read) more.3 ∙ sym (none text more.4)
]

number_none : (word : List ℕ) → list_all is_ascii_digit word ≡ false → number_of word ≡ None
unfolding number_of
number_none word lacks = elim (cases_Bool (is_number word)) [
  | inl e ↦ absurd (both_ways _ lacks (number_digits word e))
  | inr e ↦ rw e refl
]

pub single_number : (mark : ℕ) → is_ascii_digit mark ≡ false → (text : List ℕ)
    → single_word number_of (parts mark text) ≡ number_of text
single_number = single_rest is_ascii_digit number_of number_none

-- a text is one word, or it has at least two words and is not a name
pub one_name_or_more : (text : List ℕ) → (parts 32 text ≡ text ∷ []) ⊎ HasMore is_name_byte text (parts 32 text)
one_name_or_more = one_or_more is_name_byte 32 refl

-- ---- a word at the start

pub begins_with : (text word front : List ℕ) (r : Bool) → front ≡ take (length word - 0) text
    → r ≡ bytes_eq front word
    → (r ≡ true → text ≡ word ++ drop (length word) text) × ((rest : List ℕ) → text ≡ word ++ rest → r ≡ true)
begins_with text word front r cut same =
    let whole : length word - 0 ≡ length word = omega arith in
    let is : front ≡ take (length word) text = cut ∙ ap (λ (n : ℕ). take n text) whole in
    let decides = bytes_eq-Decides front word in (
      λ e. sym (take-append-drop (length word) text)
          ∙ ap (λ (l : List ℕ). l ++ drop (length word) text) (sym is ∙ decides.0 (sym same ∙ e)),
      λ rest e. same ∙ decides.1 (is ∙ rw e (take-append_seam word rest)),
    )

pub text_behind : (word text : List ℕ) → text ≡ word ++ drop (length word) text → length word < length text
    → get_or text (length word) 0 ≡ 32 → text ≡ word ++ 32 ∷ drop (length word + 1) text
text_behind word text starts less space =
    starts
    ∙ ap (λ (l : List ℕ). word ++ l)
    (drop_more text (length word) 0 less ∙ ap (λ (byte : ℕ). byte ∷ drop (length word + 1) text) space)

pub word_below : (word rest text : List ℕ) → text ≡ word ++ 32 ∷ rest → length word < length text
word_below word rest text e = rw (e, length-append word (32 ∷ rest)) (omega arith)

pub space_behind : (word rest text : List ℕ) → text ≡ word ++ 32 ∷ rest → get_or text (length word) 0 ≡ 32
space_behind word rest text e = rw e (get_or-append_seam word 32 rest 0)

-- a word is not the first word of a text that does not begin with the word and a space
pub not_first : (word text : List ℕ) (n : ℕ) → position (λ byte. byte == 32) text ≡ Some n
    → ((rest : List ℕ) → text ≡ word ++ 32 ∷ rest → ⊥) → take n text ≡ word → ⊥
not_first word text n e none is =
    let found = found_byte 32 text n e in
    none (drop (n + 1) text)
    (sym (take-append-drop n text)
    ∙ ap (λ (l : List ℕ). l ++ drop n text) is
    ∙ ap (λ (l : List ℕ). word ++ l)
    (drop_more text n 0 found.0 ∙ ap (λ (first_byte : ℕ). first_byte ∷ drop (n + 1) text) found.1))

-- ---- another word

pub other_text : (word text : List ℕ) → (word ≡ text → ⊥) → bytes_eq word text ≡ false
other_text word text other = elim (cases_Bool (bytes_eq word text)) [
  | inl e ↦ absurd (let same = bytes_eq-Decides word text in other (same.0 e))
  | inr e ↦ e
]
