use Rattle.std.proofs.Common.{◌≤◌, slice_index_or, subst}
use Rattle.mencius_format.proofs.NumberWords.{number_read}
use Rattle.mencius_format.proofs.words.read_u32.Goals as goal

pub returns-in-Ok : goal.returns-in-Ok
returns-in-Ok c =
    let same = c.as_bytes-bytes.ensures.value in
    number_read c.args.word.now c.in-Ok.n c.in-Ok.ensures.value.0.0.0 c.in-Ok.ensures.value.0.1
    (subst (λ bytes. 49 ≤ slice_index_or bytes 0 0) same c.if-bytes-lt49.false)
    (subst (λ bytes. slice_index_or bytes 0 0 ≤ 57) same c.if-bytes-gt57.false)
