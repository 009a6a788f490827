use Rattle.std.proofs.Common.{◌<◌, ◌≤◌, ◌∷◌, ℕ, List, arith, length}
use Rattle.std.proofs.lemmas.Bool.{both_ways}
use Rattle.std.proofs.lemmas.Str.{IsCharBoundary-after_ascii}
use Rattle.mencius_format.proofs.CutWords.{begins_with, space_behind, text_behind, word_below}
use Rattle.mencius_format.proofs.words.behind.Goals.{else-place-bytes-via-then-place-bytes+then-bytes-place-eq32+else-eq, else-place-bytes-via-then-place-bytes+else-bytes-place-eq32, else-place-bytes-via-else-place-bytes}
use Rattle.mencius_format.proofs.words.behind.Goals as goal

pub range_from-requires : goal.range_from-requires
range_from-requires c _ =
    let less : length c.args.word.now < length c.args.text.now =
    rw (← c.as_bytes-bytes.ensures.value) c.if-place-bytes.true in
    IsCharBoundary-after_ascii c.args.text.now (length c.args.word.now) c.utf8.text less
    (rw (← c.as_bytes-bytes.ensures.value, c.if-bytes-place-eq32.true) (omega arith))

pub returns-then-eq : goal.returns-then-eq
returns-then-eq c =
    let text : List ℕ = c.args.text.now in
    let word : List ℕ = c.args.word.now in
    let less : length c.args.word.now < length c.args.text.now =
    rw (← c.as_bytes-bytes.ensures.value) c.if-place-bytes.true in
    let begins = begins_with text word c.range.result.now c.eq.result c.range.ensures.value c.eq.ensures in
    rw c.range_from.ensures.value
    (text_behind word text (begins.0 c.if-eq.true) less
    (rw (← c.as_bytes-bytes.ensures.value) c.if-bytes-place-eq32.true))

pub returns : goal.returns
returns c = elim c.else-place-bytes.branch [
  | else-place-bytes-via-then-place-bytes+then-bytes-place-eq32+else-eq way ↦
      λ rest e.
      let begins = begins_with c.args.text.now c.args.word.now way.range.result.now way.eq.result
      way.range.ensures.value way.eq.ensures in
      both_ways _ way.if-eq.false (begins.1 (32 ∷ rest) e)
  | else-place-bytes-via-then-place-bytes+else-bytes-place-eq32 way ↦
      λ rest e.
      way.if-bytes-place-eq32.false
      (rw c.as_bytes-bytes.ensures.value (space_behind c.args.word.now rest c.args.text.now e))
  | else-place-bytes-via-else-place-bytes way ↦ λ rest e.
      let less = word_below c.args.word.now rest c.args.text.now e in
      let past : length c.args.text.now ≤ length c.args.word.now =
      rw (← c.as_bytes-bytes.ensures.value) way.if-place-bytes.false in
      absurd (omega arith)
]
