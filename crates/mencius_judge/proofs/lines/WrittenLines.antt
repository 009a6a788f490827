-- A written line is read as its observation, and a written log is read as that log.
use Rattle.std.proofs.Common.{◌≡◌, ◌≢◌, ◌==◌, ℕ, ◌+◌, ◌<◌, ◌≤◌, ◌^◌, ◌&&◌, List, [], ◌∷◌, ◌++◌, length, Bool, true, false, cond, Some, None, Option, option_map, Ok, refl, ap, subst, sym, arith, codes, nat_le, nat_lt, lit<}
use Rattle.std.specs.Prelude.{IsAscii, decimal}
use Rattle.std.specs.List.{list_all}
use Rattle.std.specs.Str.{is_utf8}
use Rattle.std.specs.Str.Parse.{AllDigits}
use Rattle.std.proofs.lemmas.Bool.{and_from, and_parts}
use Rattle.std.proofs.lemmas.Bool.Decides.{nat_tests}
use Rattle.std.proofs.lemmas.Fmt.{digits_decimal, length-decimal-le}
use Rattle.std.proofs.lemmas.List.{length-append}
use Rattle.std.proofs.lemmas.List.Folds.{list_all-append}
use Rattle.std.proofs.lemmas.Str.{IsUtf8-from_ascii, is_utf8-from_IsUtf8}
use Rattle.std.proofs.lemmas.Str.Ascii.{IsAscii-cons, IsAscii-nil}
use Rattle.std.proofs.lemmas.Str.Parse.{numerals_by_value, tells_digits, digit_from_value}
use Rattle.mencius_base.specs.Command.{bad_op, is_key_length, is_name, is_text_length}
use Rattle.mencius_base.specs.Limits.{most_text_bytes}
use Rattle.mencius_base.specs.declared.command.CommandId.{CommandId}
use Rattle.mencius_base.specs.declared.command.Op.{Op}
use Rattle.mencius_format.specs.Grammar.{id_of, is_id_within, newest_version, two_numbers}
use Rattle.mencius_format.specs.Operations.{op_text}
use Rattle.mencius_format.specs.Texts.{command_text, id_text, two_texts}
use Rattle.mencius_format.specs.Words.{words}
use Rattle.mencius_format.proofs.OperationWords.{both_hold, most_op_bytes, op_stands, op_word}
use Rattle.mencius_format.proofs.PlainWords.{ArePlain, is_plain, name_plain}
use Rattle.mencius_format.proofs.TextWords.{commands_read_back}
use Rattle.mencius_format.proofs.WrittenWords.{Lacks, cut_at, lacks_append, lacks_dot, lacks_space, name_again, named_lacks, number_again, uncut}
use Rattle.mencius_log.specs.declared.observation.Answer.{Answer}
use Rattle.mencius_log.specs.declared.observation.Answer.TheVariants.{Held, Done, Failed}
use Rattle.mencius_log.specs.declared.observation.Observation.{Observation}
use Rattle.mencius_log.specs.declared.observation.Observation.TheVariants.{Submit, Execute, Reply, Lookup, Tell, Settle, Restore}
use Rattle.mencius_judge.specs.declared.quote.Quote.{Quote}
use Rattle.mencius_log.specs.Lines.{IsInLine, answer_of, is_answer_within, is_passed_over, is_reply_within, line_said, most_line_bytes, observation_of, is_observation_within, reply_answer_of, without_return}
use Rattle.mencius_judge.specs.LogReader.{AddsLine}
use Rattle.mencius_log.specs.ObservationLines.{answer_text, held_text, observation_line, observation_text}
use Rattle.mencius_judge.specs.Written.{IsAnswer, IsIdentity, IsReplySayable, IsSayable, LogsReadBack, ObservationsReadBack}

-- ---- words

u32 : (n : ℕ) → n < 2 ^ 32 → n < 2 ^ 64
u32 n h = omega (arith, h)

id_again : (id : CommandId) → IsIdentity id → id_of (id_text id) ≡ Some id
unfolding id_of two_numbers
id_again id h =
    rw (
      cut_at 46 (decimal id.client) (decimal id.number) (lacks_dot id.client (u32 id.client h.0)) refl,
      uncut 46 (decimal id.number) (lacks_dot id.number (u32 id.number h.1)),
      number_again id.client (u32 id.client h.0),
      number_again id.number (u32 id.number h.1),
    ) refl

id_lacks : (id : CommandId) → IsIdentity id → Lacks 32 (id_text id)
id_lacks id h = lacks_append 32 (decimal id.client) (46 ∷ decimal id.number) (lacks_space id.client (u32 id.client h.0))
    (λ e. absurd (omega arith), lacks_space id.number (u32 id.number h.1))

answer_again : (text : Option (List ℕ)) → IsAnswer text → answer_of (held_text text) ≡ Some text
unfolding answer_of
answer_again None h = refl
answer_again (Some text) h = rw (name_again text h.0) refl

no_space : (x : ℕ) → 32 < x → x ≢ 32
no_space x less e = omega (arith, less, e)

answer_lacks : (text : Option (List ℕ)) → IsAnswer text → Lacks 32 (held_text text)
answer_lacks None h = (
  no_space 110 (lit< tt),
  (no_space 111 (lit< tt), (no_space 110 (lit< tt), (no_space 101 (lit< tt), tt))),
)
answer_lacks (Some text) h = (λ e. absurd (omega arith), named_lacks text h.0)

reply_again : (x : Answer) → IsReplySayable x → reply_answer_of (answer_text x) ≡ Some x
reply_again (Held None) h = ap (option_map Held) (answer_again None h)
reply_again (Held (Some text)) h = ap (option_map Held) (answer_again (Some text) h)
reply_again Done h = refl
reply_again Failed h = refl

reply_lacks : (x : Answer) → IsReplySayable x → Lacks 32 (answer_text x)
reply_lacks (Held text) h = answer_lacks text h
reply_lacks Done h = (no_space 111 (lit< tt), (no_space 107 (lit< tt), tt))
reply_lacks Failed h = (
  no_space 102 (lit< tt),
  (
    no_space 97 (lit< tt),
    (
      no_space 105 (lit< tt),
      (no_space 108 (lit< tt), (no_space 101 (lit< tt), (no_space 100 (lit< tt), tt))),
    ),
  ),
)

said_again : (o : Observation) → IsSayable o → observation_of (words (observation_text o)) ≡ Some o
unfolding observation_of two_numbers
said_again (Submit command) h = rw ((commands_read_back newest_version command h (op_stands command.op)).0) refl
said_again (Execute server id) h =
    rw (
      cut_at 32 (decimal server) (id_text id) (lacks_space server (u32 server h.0)) refl,
      uncut 32 (id_text id) (id_lacks id h.1),
      number_again server (u32 server h.0),
      id_again id h.1,
    ) refl
said_again (Reply id answer) h =
    rw (
      cut_at 32 (id_text id) (answer_text answer) (id_lacks id h.0) refl,
      uncut 32 (answer_text answer) (reply_lacks answer h.1),
      id_again id h.0,
      reply_again answer h.1,
    ) refl
said_again (Lookup reader key text) h =
    rw (
      cut_at 32 (decimal reader) (key ++ 32 ∷ held_text text) (lacks_space reader (u32 reader h.0)) refl,
      cut_at 32 key (held_text text) (named_lacks key h.1) refl,
      uncut 32 (held_text text) (answer_lacks text h.3),
      number_again reader (u32 reader h.0),
      name_again key h.1,
      answer_again text h.3,
    ) refl
said_again (Tell reader server) h =
    rw (
      cut_at 32 (decimal reader) (decimal server) (lacks_space reader (u32 reader h.0)) refl,
      uncut 32 (decimal server) (lacks_space server (u32 server h.1)),
      number_again reader (u32 reader h.0),
      number_again server (u32 server h.1),
    ) refl
said_again (Settle server) h =
    rw (uncut 32 (decimal server) (lacks_space server (u32 server h)), number_again server (u32 server h)) refl
said_again (Restore server source count) h =
    rw (
      cut_at 32 (decimal server) (two_texts source count) (lacks_space server (u32 server h.0)) refl,
      cut_at 32 (decimal source) (decimal count) (lacks_space source (u32 source h.1)) refl,
      uncut 32 (decimal count) (lacks_space count (u32 count h.2)),
      number_again server (u32 server h.0),
      number_again source (u32 source h.1),
      number_again count (u32 count h.2),
    ) refl

-- ---- limits

below_test : (n m : ℕ) → n < m → nat_lt n m ≡ true
below_test n m h = grind (arith, nat_tests)

id_fits : (id : CommandId) → IsIdentity id → is_id_within id ≡ true
id_fits id h = both_hold _ _ (below_test id.client (2 ^ 32) h.0) (below_test id.number (2 ^ 32) h.1)

answer_fits : (text : Option (List ℕ)) → IsAnswer text → is_answer_within text ≡ true
answer_fits None h = refl
answer_fits (Some text) h = h.1

reply_fits : (x : Answer) → IsReplySayable x → is_reply_within x ≡ true
reply_fits (Held text) h = answer_fits text h
reply_fits Done h = refl
reply_fits Failed h = refl

within_again : (o : Observation) → IsSayable o → is_observation_within o ≡ true
within_again (Submit command) h = (commands_read_back newest_version command h (op_stands command.op)).1
within_again (Execute server id) h = both_hold _ _ (below_test server (2 ^ 32) h.0) (id_fits id h.1)
within_again (Reply id answer) h = both_hold _ _ (id_fits id h.0) (reply_fits answer h.1)
within_again (Lookup reader key text) h =
    both_hold _ _ (below_test reader (2 ^ 32) h.0) (both_hold _ _ h.2 (answer_fits text h.3))
within_again (Tell reader server) h =
    both_hold _ _ (below_test reader (2 ^ 32) h.0) (below_test server (2 ^ 32) h.1)
within_again (Settle server) h = below_test server (2 ^ 32) h
within_again (Restore server source count) h =
    both_hold _ _ (below_test server (2 ^ 32) h.0)
    (both_hold _ _ (below_test source (2 ^ 32) h.1) (below_test count (2 ^ 32) h.2))

-- ---- the bytes of a line

-- the byte is ASCII and at least 32, so it is not a line feed
abbrev is_shown : ℕ → Bool
is_shown x = nat_le 32 x && nat_lt x 128

abbrev AreShown : List ℕ → Type 0
AreShown s = list_all is_shown s ≡ true

shown_ascii : (s : List ℕ) → AreShown s → IsAscii s
shown_ascii [] h = IsAscii-nil
shown_ascii (x ∷ xs) h =
    let parts = and_parts (is_shown x) (list_all is_shown xs) h in
    IsAscii-cons x xs (grind (arith, nat_tests, parts.0)) (shown_ascii xs parts.1)

shown_in_line : (s : List ℕ) → AreShown s → IsInLine s
shown_in_line [] h = tt
shown_in_line (x ∷ xs) h =
    let parts = and_parts (is_shown x) (list_all is_shown xs) h in
    (λ e. grind (arith, nat_tests, parts.0, e), shown_in_line xs parts.1)

-- such a text has no carriage return at its end
shown_kept : (s : List ℕ) → AreShown s → without_return s ≡ s
shown_kept [] h = refl
shown_kept (x ∷ []) h =
    let parts = and_parts (is_shown x) true h in
    let other : (x == 13) ≡ false = grind (arith, nat_tests, parts.0) in
    ap (λ d. cond d [] (x ∷ [])) other
shown_kept (x ∷ y ∷ s) h =
    let parts = and_parts (is_shown x) (list_all is_shown (y ∷ s)) h in
    ap (λ r. x ∷ r) (shown_kept (y ∷ s) parts.1)

-- each byte of the text is ASCII and at least 32, and there are at most `most` bytes
record IsShort (most : ℕ) (s : List ℕ) : Type 0 where
  shown : AreShown s
  short : length s ≤ most

beside : (m n : ℕ) (xs ys : List ℕ) → IsShort m xs → IsShort n ys → IsShort (m + n) (xs ++ ys)
beside m n xs ys h l = record {
  shown = rw (list_all-append is_shown xs ys, h.shown, l.shown) refl;
  short = omega (arith, length-append xs ys, h.short, l.short);
}

-- two short texts with a byte between them are a short text
around : (m n byte : ℕ) (xs ys : List ℕ) → is_shown byte ≡ true → IsShort m xs → IsShort n ys
    → IsShort (m + (1 + n)) (xs ++ byte ∷ ys)
around m n byte xs ys one h l =
    beside m (1 + n) xs (byte ∷ ys) h (record {
      shown = and_from (is_shown byte) (list_all is_shown ys) one l.shown;
      short = omega (arith, l.short);
    })

digit_shown : (x : ℕ) → 48 ≤ x → x < 58 → is_shown x ≡ true
digit_shown x l h = grind (arith, nat_tests)

digits_shown : (ds : List ℕ) → AllDigits 10 ds → AreShown ds
digits_shown [] h = refl
digits_shown (d ∷ ds) h =
    let r = digit_from_value d h.0 in
    and_from (is_shown d) (list_all is_shown ds) (digit_shown d (omega arith) (omega arith)) (digits_shown ds h.1)

number_short : (len n : ℕ) → 0 < len → n < 10 ^ len → n < 2 ^ 64 → IsShort len (decimal n)
number_short len n some fits small = record {
  shown = digits_shown (decimal n) (digits_decimal (numerals_by_value (AllDigits 10) tells_digits) n small);
  short = length-decimal-le len n some fits small;
}

u32_short : (n : ℕ) → n < 2 ^ 32 → IsShort 10 (decimal n)
u32_short n h = number_short 10 n (omega arith) (omega arith) (u32 n h)

id_short : (id : CommandId) → IsIdentity id → IsShort 21 (id_text id)
id_short id h =
    around 10 10 46 (decimal id.client) (decimal id.number) refl (u32_short id.client h.0) (u32_short id.number h.1)

plain_byte_shown : (x : ℕ) → is_plain x ≡ true → is_shown x ≡ true
plain_byte_shown x h = grind (arith, nat_tests)

plain_shown : (xs : List ℕ) → ArePlain xs → AreShown xs
plain_shown [] h = refl
plain_shown (x ∷ xs) h =
    let parts = and_parts (is_plain x) (list_all is_plain xs) h in
    and_from (is_shown x) (list_all is_shown xs) (plain_byte_shown x parts.0) (plain_shown xs parts.1)

name_shown : (xs : List ℕ) → is_name xs ≡ true → AreShown xs
name_shown xs h = plain_shown xs (name_plain xs h)

name_short : (most : ℕ) (xs : List ℕ) → is_name xs ≡ true → length xs ≤ most → IsShort most xs
name_short most xs h l = record { shown = name_shown xs h; short = l }

op_short : (o : Op) → bad_op o ≡ None → IsShort most_op_bytes (op_text o)
op_short o h = let word = op_word o h in record { shown = plain_shown (op_text o) word.plain; short = word.short }

answer_short : (text : Option (List ℕ)) → IsAnswer text → IsShort 257 (held_text text)
answer_short None h = record { shown = refl; short = omega arith }
answer_short (Some text) h = record { shown = name_shown text h.0; short = omega (arith, answer_length text h.1) }
  where
    answer_length : (s : List ℕ) → is_text_length s ≡ true → length s ≤ most_text_bytes
    answer_length s h = grind (arith, nat_tests)

reply_short : (x : Answer) → IsReplySayable x → IsShort 257 (answer_text x)
reply_short (Held text) h = answer_short text h
reply_short Done h = record { shown = refl; short = omega arith }
reply_short Failed h = record { shown = refl; short = omega arith }

-- a text after the word of its kind fits into a line
behind : (word text : List ℕ) (m n : ℕ) → IsShort m word → IsShort n text → m + n ≤ most_line_bytes
    → IsShort most_line_bytes (word ++ text)
behind word text m n h l le =
    let r = beside m n word text h l in record { shown = r.shown; short = omega (arith, r.short) }

line_short : (o : Observation) → IsSayable o → IsShort most_line_bytes (observation_text o)
line_short (Submit command) h = behind (codes "submit ") (command_text command) 7 (21 + (1 + most_op_bytes))
    (record { shown = refl; short = omega arith })
    (around 21 most_op_bytes 32 (id_text command.id) (op_text command.op) refl (id_short command.id (h.0, h.1))
    (op_short command.op h.2)) (omega arith)
line_short (Execute server id) h = behind (codes "execute ") (decimal server ++ 32 ∷ id_text id) 8 (10 + (1 + 21))
    (record { shown = refl; short = omega arith })
    (around 10 21 32 (decimal server) (id_text id) refl (u32_short server h.0) (id_short id h.1)) (omega arith)
line_short (Reply id answer) h = behind (codes "reply ") (id_text id ++ 32 ∷ answer_text answer) 6 (21 + (1 + 257))
    (record { shown = refl; short = omega arith })
    (around 21 257 32 (id_text id) (answer_text answer) refl (id_short id h.0) (reply_short answer h.1)) (omega arith)
line_short (Lookup reader key text) h =
    behind (codes "lookup ") (decimal reader ++ 32 ∷ (key ++ 32 ∷ held_text text)) 7 (10 + (1 + (64 + (1 + 257))))
    (record { shown = refl; short = omega arith })
    (around 10 (64 + (1 + 257)) 32 (decimal reader) (key ++ 32 ∷ held_text text) refl (u32_short reader h.0)
    (around 64 257 32 key (held_text text) refl (name_short 64 key h.1 (key_length key h.2))
    (answer_short text h.3))) (omega arith)
  where
    key_length : (s : List ℕ) → is_key_length s ≡ true → length s ≤ 64
    key_length s h = grind (arith, nat_tests)
line_short (Tell reader server) h = behind (codes "told ") (two_texts reader server) 5 (10 + (1 + 10))
    (record { shown = refl; short = omega arith })
    (around 10 10 32 (decimal reader) (decimal server) refl (u32_short reader h.0) (u32_short server h.1)) (omega arith)
line_short (Settle server) h =
    behind (codes "settled ") (decimal server) 8 10 (record { shown = refl; short = omega arith }) (u32_short server h)
    (omega arith)
line_short (Restore server source count) h =
    behind (codes "restore ") (decimal server ++ 32 ∷ two_texts source count) 8 (10 + (1 + (10 + (1 + 10))))
    (record { shown = refl; short = omega arith })
    (around 10 (10 + (1 + 10)) 32 (decimal server) (two_texts source count) refl (u32_short server h.0)
    (around 10 10 32 (decimal source) (decimal count) refl (u32_short source h.1) (u32_short count h.2))) (omega arith)

-- ---- the laws

no_remark : (o : Observation) → is_passed_over (observation_text o) ≡ false
no_remark (Submit command) = refl
no_remark (Execute server id) = refl
no_remark (Reply id answer) = refl
no_remark (Lookup reader key text) = refl
no_remark (Tell reader server) = refl
no_remark (Settle server) = refl
no_remark (Restore server source count) = refl

line_again : (line : List ℕ) (o : Observation) → IsShort most_line_bytes line → is_passed_over line ≡ false
    → observation_of (words line) ≡ Some o → is_observation_within o ≡ true → line_said line ≡ Ok (Some o)
line_again line o h seen said fits =
    let fit : nat_lt most_line_bytes (length line) ≡ false = grind (arith, nat_tests, h.short) in
    let utf8 : is_utf8 line ≡ true =
    is_utf8-from_IsUtf8 line (IsUtf8-from_ascii line (shown_ascii line h.shown)) in
    rw (fit, shown_kept line h.shown, seen, utf8, said, fits) refl

pub observations_read_back : ObservationsReadBack
observations_read_back o h =
    let bytes = line_short o h in (
      shown_in_line (observation_text o) bytes.shown,
      line_again (observation_text o) o bytes (no_remark o) (said_again o h) (within_again o h),
    )

pub logs_read_back : LogsReadBack
logs_read_back [] h = ([], [], refl, refl, refl)
logs_read_back (o ∷ w) h =
    let one = observations_read_back o h.0 in
    let rest = logs_read_back w h.1 in
    let line : Quote = record { number = length rest.0 + 1; observation = o } in (
      observation_text o ∷ rest.0,
      line ∷ rest.1,
      ap (λ xs. xs ++ observation_line o) rest.2,
      (
        one.0,
        rest.1,
        rest.3,
        subst (λ said. AddsLine said (length rest.0 + 1) rest.1 (line ∷ rest.1)) (sym one.1) refl,
      ),
      ap (λ u. o ∷ u) rest.4,
    )
