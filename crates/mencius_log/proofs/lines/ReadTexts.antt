-- A line that is read as an observation is the text of that observation.
use Rattle.std.proofs.Common.{◌≡◌, ◌==◌, ◌&&◌, ◌<◌, ◌^◌, ℕ, List, [], ◌∷◌, ◌++◌, Bool, true, false, cond, Option, Some, None, option_map, Ok, Err, length, get_or, refl, sym, subst, ap, ap₂, ◌∙◌, arith, codes, nat_lt}
use Rattle.std.specs.Prelude.{decimal}
use Rattle.std.specs.Option.{option_and_then, option_zip}
use Rattle.std.specs.List.{join_with_byte, list_all}
use Rattle.std.specs.Char.{is_ascii_digit}
use Rattle.std.specs.Str.{bytes_eq, is_utf8}
use Rattle.std.specs.Str.Parse.{AllDigits, digits_value}
use Rattle.std.proofs.lemmas.Bool.{and_parts, eqb-true}
use Rattle.std.proofs.lemmas.Bool.Decides.{nat_tests}
use Rattle.std.proofs.lemmas.Fmt.{decimal-digits_value}
use Rattle.std.proofs.lemmas.List.Splits.{join_with_byte-slice_split}
use Rattle.std.proofs.lemmas.Str.Parse.{numerals_by_value, tells_digits}
use Rattle.mencius_base.specs.Command.{is_name}
use Rattle.mencius_base.specs.declared.command.Command.{Command}
use Rattle.mencius_base.specs.declared.command.CommandId.{CommandId}
use Rattle.mencius_base.specs.declared.command.Op.{Op}
use Rattle.mencius_io.specs.declared.fault.IoFault.TheVariants.{BadLimit, BadShape}
use Rattle.mencius_format.specs.Grammar.{command_of, id_of, is_command_within, is_id_within, newest_version, two_numbers}
use Rattle.mencius_format.specs.Operations.{has_names, is_op_within, newest_op_of, op_of, op_text, op_version}
use Rattle.mencius_format.specs.Versions.{may_stand_in}
use Rattle.mencius_format.specs.Texts.{command_text, id_text}
use Rattle.mencius_format.specs.ValuesOrFaults.{map_ok, value_or_fault}
use Rattle.mencius_format.specs.Words.{is_number, is_u32, name_of, number_of, parts, words}
use Rattle.mencius_format.proofs.NumberWords.{all_digits, number_digits, number_length}
use Rattle.mencius_format.proofs.OperationWords.{chosen, newest_op_text, newest_op_word}
use Rattle.mencius_log.specs.declared.observation.Answer.{Answer}
use Rattle.mencius_log.specs.declared.observation.Answer.TheVariants.{Held, Done, Failed}
use Rattle.mencius_log.specs.declared.observation.Observation.{Observation}
use Rattle.mencius_log.specs.declared.observation.Observation.TheVariants.{Submit, Execute, Reply, Lookup, Tell, Settle, Restore}
use Rattle.mencius_log.specs.Lines.{answer_of, entry_words, execute_said, is_observation_within, is_passed_over, is_reply_within, line_said, lookup_said, most_line_bytes, observation_of, reply_answer_of, reply_said, restore_said, settle_said, submit_said, tell_said, text_said, without_return}
use Rattle.mencius_log.specs.ObservationLines.{answer_text, held_text, observation_text}

-- ---- values of parts

mapped : {X Y : Type 0} (f : X → Y) (o : Option X) (y : Y) → option_map f o ≡ Some y → (x : X) × (o ≡ Some x) × (f x ≡ y)
mapped f None y e = absurd (cc)
mapped f (Some x) y e = (x, refl, cc)

zipped : {X Y : Type 0} (o : Option X) (s : Option Y) (z : X × Y) → option_zip o s ≡ Some z
    → (o ≡ Some z.0) × (s ≡ Some z.1)
zipped None None z e = absurd (cc)
zipped None (Some y) z e = absurd (cc)
zipped (Some x) None z e = absurd (cc)
zipped {X} {Y} (Some x) (Some y) z e =
    let same : (x, y) ≡ z = cc in
    (ap (λ (p : X × Y). Some p.0) same, ap (λ (p : X × Y). Some p.1) same)

-- ---- numbers and names

fits_wide : (n : ℕ) → is_u32 n ≡ true → n < 2 ^ 64
fits_wide n h = let small : n < 2 ^ 32 = grind (arith, nat_tests, h) in omega (arith, small)

-- a number that begins with 0 has no other digit
zero_alone : (word : List ℕ) → is_number word ≡ true → get_or word 0 0 ≡ 48 → length word ≡ 1
zero_alone [] e is = absurd (cc)
zero_alone (byte ∷ bytes) e is =
    let alone : (length bytes == 0) ≡ true =
    subst (λ (b : ℕ). cond (b == 48) (length bytes == 0) (is_ascii_digit b && list_all is_ascii_digit bytes) ≡ true) is e in
    let none : length bytes ≡ 0 = eqb-true (length bytes) 0 alone in
    omega (arith, none)

number_word : (word : List ℕ) (m n : ℕ) → number_of word ≡ Some m → m ≡ n → is_u32 n ≡ true → word ≡ decimal n
unfolding number_of
number_word word m n e same fits = by_test (is_number word) refl e
  where
    by_test : (d : Bool) → is_number word ≡ d → cond d (Some (digits_value 10 word)) None ≡ Some m → word ≡ decimal n
    by_test true is g =
        let first : digits_value 10 word ≡ m = cc in
        let value : digits_value 10 word ≡ n = first ∙ same in
        sym (decimal-digits_value (numerals_by_value (AllDigits 10) tells_digits) word
        (all_digits word (number_digits word is)) (number_length word is) (zero_alone word is)
        (subst (λ (k : ℕ). k < 2 ^ 64) (sym value) (fits_wide n fits)))
        ∙ ap decimal value
    by_test false is g = absurd (cc)

name_word : (word text : List ℕ) → name_of word ≡ Some text → word ≡ text
unfolding name_of
name_word word text e = by_test (is_name word) e
  where
    by_test : (d : Bool) → cond d (Some word) None ≡ Some text → word ≡ text
    by_test true g = cc
    by_test false g = absurd (cc)

two_parts : (ws : List (List ℕ)) (z : ℕ × ℕ) → two_numbers ws ≡ Some z
    → (u : List ℕ) × (v : List ℕ) × (ws ≡ u ∷ v ∷ []) × (number_of u ≡ Some z.0) × (number_of v ≡ Some z.1)
unfolding two_numbers
two_parts [] z e = absurd (cc)
two_parts (u ∷ []) z e = let both = zipped (number_of u) None z e in absurd (cc (both.1))
two_parts (u ∷ v ∷ []) z e = let both = zipped (number_of u) (number_of v) z e in (u, v, refl, both.0, both.1)
two_parts (u ∷ v ∷ w ∷ ws) z e = let both = zipped (number_of u) None z e in absurd (cc (both.1))

id_word : (word : List ℕ) (x id : CommandId) → id_of word ≡ Some x → x ≡ id → is_id_within id ≡ true → word ≡ id_text id
unfolding id_of
id_word word x id e same fits =
    let pair = mapped (λ pair. record { client = pair.0; number = pair.1 }) (two_numbers (parts 46 word)) x e in
    let both = two_parts (parts 46 word) pair.0 pair.1 in
    let is = pair.2 ∙ same in
    let small = and_parts (is_u32 id.client) (is_u32 id.number) fits in
    sym (join_with_byte-slice_split 46 word) ∙ ap (join_with_byte 46) both.2
    ∙ ap₂ (λ (u v : List ℕ). u ++ 46 ∷ v)
    (number_word both.0 pair.0.0 id.client both.3 (ap (λ (i : CommandId). i.client) is) small.0)
    (number_word both.1 pair.0.1 id.number both.4 (ap (λ (i : CommandId). i.number) is) small.1)

-- ---- operations and commands

op_words : (ws : List (List ℕ)) (op : Op) → op_of newest_version ws ≡ Some op → newest_op_of ws ≡ Some op
unfolding op_of
op_words ws op e = by_op (newest_op_of ws) e
  where
    kept : (d : Bool) (x : Op) → cond d (Some x) None ≡ Some op → Some x ≡ Some op
    kept true x g = g
    kept false x g = absurd (cc)

    by_op : (o : Option Op)
        → option_and_then (λ x. cond (may_stand_in (op_version x) newest_version && has_names x) (Some x) None) o ≡ Some op
        → o ≡ Some op
    by_op None g = absurd (cc)
    by_op (Some x) g = kept (may_stand_in (op_version x) newest_version && has_names x) x g

-- the text of a word and of some words after it
put_before : (word : List ℕ) (ws : List (List ℕ)) (x : List ℕ) (xs : List (List ℕ)) → ws ≡ x ∷ xs
    → join_with_byte 32 (word ∷ ws) ≡ word ++ 32 ∷ join_with_byte 32 ws
put_before word ws x xs e =
    ap (λ vs. join_with_byte 32 (word ∷ vs)) e ∙ ap (λ vs. word ++ 32 ∷ join_with_byte 32 vs) (sym e)

command_words : (word : List ℕ) (ws : List (List ℕ)) (c : Command) → command_of newest_version (word ∷ ws) ≡ Some c
    → is_command_within c ≡ true → join_with_byte 32 (word ∷ ws) ≡ command_text c
unfolding command_of
command_words word ws c e fits =
    let made = mapped (λ pair. record { id = pair.0; op = pair.1 })
    (option_zip (id_of word) (op_of newest_version ws)) c e in
    let both = zipped (id_of word) (op_of newest_version ws) made.0 made.1 in
    let small = and_parts (is_id_within c.id) (is_op_within c.op) fits in
    let op = op_words ws made.0.1 both.1 in
    let some = newest_op_word ws made.0.1 op in
    put_before word ws some.0 some.1 some.2
    ∙ ap₂ (λ (u v : List ℕ). u ++ 32 ∷ v)
    (id_word word made.0.0 c.id both.0 (ap (λ (x : Command). x.id) made.2) small.0)
    (newest_op_text ws made.0.1 op ∙ ap (λ (x : Command). op_text x.op) made.2)

-- ---- answers

answer_word : (word : List ℕ) (x : Option (List ℕ)) → answer_of word ≡ Some x → word ≡ held_text x
unfolding answer_of
answer_word [] x e = absurd (cc)
answer_word (byte ∷ text) x e = by_test (byte == 61) refl e
  where
    by_test : (d : Bool) → (byte == 61) ≡ d
        → cond d (option_map Some (name_of text)) (cond (bytes_eq (byte ∷ text) (codes "none")) (Some None) None) ≡ Some x
        → byte ∷ text ≡ held_text x
    by_test true is g =
        let name = mapped Some (name_of text) x g in
        ap₂ (λ (b : ℕ) (s : List ℕ). b ∷ s) (eqb-true byte 61 is) (name_word text name.0 name.1) ∙ ap held_text name.2
    by_test false is g =
        chosen (byte ∷ text ≡ held_text x) (byte ∷ text) (codes "none") (Some None) None x g
        (λ word h. let same : None ≡ x = cc in word ∙ ap held_text same) (λ h. absurd (cc))

reply_word : (word : List ℕ) (x : Answer) → reply_answer_of word ≡ Some x → word ≡ answer_text x
reply_word word x e =
    chosen (word ≡ answer_text x) word (codes "ok") (Some Done) _ x e
    (λ is g. let same : Done ≡ x = cc in is ∙ ap answer_text same)
    (λ h. chosen (word ≡ answer_text x) word (codes "failed") (Some Failed) (option_map Held (answer_of word)) x h
    (λ is g. let same : Failed ≡ x = cc in is ∙ ap answer_text same)
    (λ g. let held = mapped Held (answer_of word) x g in
    answer_word word held.0 held.1 ∙ ap answer_text held.2))

-- ---- observations, by their words

no_command : (c : Command) → command_of newest_version [] ≡ Some c → ⊥
unfolding command_of
no_command c e = absurd (cc)

submit_text : (ws : List (List ℕ)) (o : Observation) → submit_said ws ≡ Some o → is_observation_within o ≡ true
    → join_with_byte 32 (codes "submit" ∷ ws) ≡ observation_text o
submit_text [] o e fits =
    let made = mapped Submit (command_of newest_version []) o e in absurd (no_command made.0 made.1)
submit_text (word ∷ ws) o e fits =
    let made = mapped Submit (command_of newest_version (word ∷ ws)) o e in
    let small : is_command_within made.0 ≡ true =
    subst (λ (x : Observation). is_observation_within x ≡ true) (sym made.2) fits in
    ap (λ text. codes "submit " ++ text) (command_words word ws made.0 made.1 small) ∙ ap observation_text made.2

execute_text : (ws : List (List ℕ)) (o : Observation) → execute_said ws ≡ Some o → is_observation_within o ≡ true
    → join_with_byte 32 (codes "execute" ∷ ws) ≡ observation_text o
execute_text [] o e fits = absurd (cc)
execute_text (server ∷ []) o e fits = absurd (cc)
execute_text (server ∷ id ∷ []) o e fits =
    let made = mapped (λ x. Execute x.0 x.1) (option_zip (number_of server) (id_of id)) o e in
    let both = zipped (number_of server) (id_of id) made.0 made.1 in
    let within = subst (λ (x : Observation). is_observation_within x ≡ true) (sym made.2) fits in
    let small = and_parts (is_u32 made.0.0) (is_id_within made.0.1) within in
    ap₂ (λ (u v : List ℕ). codes "execute " ++ (u ++ 32 ∷ v))
    (number_word server made.0.0 made.0.0 both.0 refl small.0) (id_word id made.0.1 made.0.1 both.1 refl small.1)
    ∙ ap observation_text made.2
execute_text (server ∷ id ∷ word ∷ ws) o e fits = absurd (cc)

reply_text : (ws : List (List ℕ)) (o : Observation) → reply_said ws ≡ Some o → is_observation_within o ≡ true
    → join_with_byte 32 (codes "reply" ∷ ws) ≡ observation_text o
reply_text [] o e fits = absurd (cc)
reply_text (id ∷ []) o e fits = absurd (cc)
reply_text (id ∷ answer ∷ []) o e fits =
    let made = mapped (λ x. Reply x.0 x.1) (option_zip (id_of id) (reply_answer_of answer)) o e in
    let both = zipped (id_of id) (reply_answer_of answer) made.0 made.1 in
    let within = subst (λ (x : Observation). is_observation_within x ≡ true) (sym made.2) fits in
    let small = and_parts (is_id_within made.0.0) (is_reply_within made.0.1) within in
    ap₂ (λ (u v : List ℕ). codes "reply " ++ (u ++ 32 ∷ v))
    (id_word id made.0.0 made.0.0 both.0 refl small.0) (reply_word answer made.0.1 both.1)
    ∙ ap observation_text made.2
reply_text (id ∷ answer ∷ word ∷ ws) o e fits = absurd (cc)

lookup_text : (ws : List (List ℕ)) (o : Observation) → lookup_said ws ≡ Some o → is_observation_within o ≡ true
    → join_with_byte 32 (codes "lookup" ∷ ws) ≡ observation_text o
lookup_text [] o e fits = absurd (cc)
lookup_text (reader ∷ ws) o e fits =
    let made = mapped (λ x. Lookup x.0 x.1.0 x.1.1) (option_zip (number_of reader) (entry_words ws)) o e in
    let both = zipped (number_of reader) (entry_words ws) made.0 made.1 in
    let within = subst (λ (x : Observation). is_observation_within x ≡ true) (sym made.2) fits in
    let small = and_parts (is_u32 made.0.0) _ within in
    by_entry ws made.0.1.0 made.0.1.1 both.1 made.0.0
    (number_word reader made.0.0 made.0.0 both.0 refl small.0) ∙ ap observation_text made.2
  where
    by_entry : (vs : List (List ℕ)) (key : List ℕ) (text : Option (List ℕ)) → entry_words vs ≡ Some (key, text)
        → (n : ℕ) → reader ≡ decimal n
        → join_with_byte 32 (codes "lookup" ∷ reader ∷ vs) ≡ observation_text (Lookup n key text)
    by_entry [] key text g n is = absurd (cc)
    by_entry (v ∷ []) key text g n is = absurd (cc)
    by_entry (v ∷ u ∷ []) key text g n is =
        let both = zipped (name_of v) (answer_of u) (key, text) g in
        ap (λ r. codes "lookup " ++ (r ++ 32 ∷ (v ++ 32 ∷ u))) is
        ∙ ap₂ (λ (k s : List ℕ). codes "lookup " ++ (decimal n ++ 32 ∷ (k ++ 32 ∷ s))) (name_word v key both.0)
        (answer_word u text both.1)
    by_entry (v ∷ u ∷ w ∷ vs) key text g n is = absurd (cc)

tell_text : (ws : List (List ℕ)) (o : Observation) → tell_said ws ≡ Some o → is_observation_within o ≡ true
    → join_with_byte 32 (codes "told" ∷ ws) ≡ observation_text o
tell_text [] o e fits = absurd (cc)
tell_text (reader ∷ []) o e fits = absurd (cc)
tell_text (reader ∷ server ∷ []) o e fits =
    let made = mapped (λ x. Tell x.0 x.1) (option_zip (number_of reader) (number_of server)) o e in
    let both = zipped (number_of reader) (number_of server) made.0 made.1 in
    let within = subst (λ (x : Observation). is_observation_within x ≡ true) (sym made.2) fits in
    let small = and_parts (is_u32 made.0.0) (is_u32 made.0.1) within in
    ap₂ (λ (u v : List ℕ). codes "told " ++ (u ++ 32 ∷ v))
    (number_word reader made.0.0 made.0.0 both.0 refl small.0) (number_word server made.0.1 made.0.1 both.1 refl small.1)
    ∙ ap observation_text made.2
tell_text (reader ∷ server ∷ word ∷ ws) o e fits = absurd (cc)

settle_text : (ws : List (List ℕ)) (o : Observation) → settle_said ws ≡ Some o → is_observation_within o ≡ true
    → join_with_byte 32 (codes "settled" ∷ ws) ≡ observation_text o
settle_text [] o e fits = absurd (cc)
settle_text (server ∷ []) o e fits =
    let made = mapped Settle (number_of server) o e in
    let small = subst (λ (x : Observation). is_observation_within x ≡ true) (sym made.2) fits in
    ap (λ u. codes "settled " ++ u) (number_word server made.0 made.0 made.1 refl small) ∙ ap observation_text made.2
settle_text (server ∷ word ∷ ws) o e fits = absurd (cc)

restore_text : (ws : List (List ℕ)) (o : Observation) → restore_said ws ≡ Some o → is_observation_within o ≡ true
    → join_with_byte 32 (codes "restore" ∷ ws) ≡ observation_text o
restore_text [] o e fits = absurd (cc)
restore_text (server ∷ ws) o e fits =
    let made = mapped (λ x. Restore x.0 x.1.0 x.1.1) (option_zip (number_of server) (two_numbers ws)) o e in
    let both = zipped (number_of server) (two_numbers ws) made.0 made.1 in
    let pair = two_parts ws made.0.1 both.1 in
    let within = subst (λ (x : Observation). is_observation_within x ≡ true) (sym made.2) fits in
    let small = and_parts (is_u32 made.0.0) (is_u32 made.0.1.0 && is_u32 made.0.1.1) within in
    let numbers = and_parts (is_u32 made.0.1.0) (is_u32 made.0.1.1) small.1 in
    ap (λ vs. join_with_byte 32 (codes "restore" ∷ server ∷ vs)) pair.2
    ∙ ap (λ u. codes "restore " ++ (u ++ 32 ∷ (pair.0 ++ 32 ∷ pair.1)))
    (number_word server made.0.0 made.0.0 both.0 refl small.0)
    ∙ ap₂ (λ (u v : List ℕ). codes "restore " ++ (decimal made.0.0 ++ 32 ∷ (u ++ 32 ∷ v)))
    (number_word pair.0 made.0.1.0 made.0.1.0 pair.3 refl numbers.0)
    (number_word pair.1 made.0.1.1 made.0.1.1 pair.4 refl numbers.1)
    ∙ ap observation_text made.2

observation_words : (ws : List (List ℕ)) (o : Observation) → observation_of ws ≡ Some o
    → is_observation_within o ≡ true → join_with_byte 32 ws ≡ observation_text o
unfolding observation_of
observation_words [] o e fits = absurd (cc)
observation_words (word ∷ ws) o e fits =
    pick (codes "submit") (submit_said ws) _ e (λ g. submit_text ws o g fits)
    (λ e2. pick (codes "execute") (execute_said ws) _ e2 (λ g. execute_text ws o g fits)
    (λ e3. pick (codes "reply") (reply_said ws) _ e3 (λ g. reply_text ws o g fits)
    (λ e4. pick (codes "lookup") (lookup_said ws) _ e4 (λ g. lookup_text ws o g fits)
    (λ e5. pick (codes "told") (tell_said ws) _ e5 (λ g. tell_text ws o g fits)
    (λ e6. pick (codes "settled") (settle_said ws) _ e6 (λ g. settle_text ws o g fits)
    (λ e7. pick (codes "restore") (restore_said ws) None e7 (λ g. restore_text ws o g fits) (λ g. absurd (cc))))))))
  where
    pick : (name : List ℕ) (said other : Option Observation) → cond (bytes_eq word name) said other ≡ Some o
        → (said ≡ Some o → join_with_byte 32 (name ∷ ws) ≡ observation_text o)
        → (other ≡ Some o → join_with_byte 32 (word ∷ ws) ≡ observation_text o)
        → join_with_byte 32 (word ∷ ws) ≡ observation_text o
    pick name said other g here there =
        chosen (join_with_byte 32 (word ∷ ws) ≡ observation_text o) word name said other o g
        (λ is h. ap (λ w. join_with_byte 32 (w ∷ ws)) is ∙ here h) there

-- ---- lines

found : (o : Observation) (r : Option Observation) → map_ok Some (value_or_fault is_observation_within r) ≡ Ok (Some o)
    → (r ≡ Some o) × (is_observation_within o ≡ true)
found o None e = absurd (cc)
found o (Some x) e = by_test (is_observation_within x) refl e
  where
    by_test : (d : Bool) → is_observation_within x ≡ d → map_ok Some (cond d (Ok x) (Err BadLimit)) ≡ Ok (Some o)
        → (Some x ≡ Some o) × (is_observation_within o ≡ true)
    by_test true is g =
        let same : x ≡ o = cc in
        (ap Some same, subst (λ (y : Observation). is_observation_within y ≡ true) same is)
    by_test false is g = absurd (cc)

-- a line that is read as an observation is its text, and perhaps a carriage return
pub line_is_text : (line : List ℕ) (o : Observation) → line_said line ≡ Ok (Some o)
    → without_return line ≡ observation_text o
line_is_text line o e =
    let text = without_return line in
    by_tests (nat_lt most_line_bytes (length line)) (is_passed_over text) (is_utf8 text) e
  where
    by_tests : (a d u : Bool)
        → cond a (Err BadLimit) (cond d (Ok None) (cond u (text_said (without_return line)) (Err BadShape))) ≡ Ok (Some o)
        → without_return line ≡ observation_text o
    by_tests true d u g = absurd (cc)
    by_tests false true u g = absurd (cc)
    by_tests false false false g = absurd (cc)
    by_tests false false true g =
        let read = found o (observation_of (words (without_return line))) g in
        sym (join_with_byte-slice_split 32 (without_return line))
        ∙ observation_words (words (without_return line)) o read.0 read.1
