-- The text that a picture shows in place of any bytes has no byte that XML reserves.
use Rattle.std.proofs.Common.{◌≡◌, ◌≢◌, ◌∙◌, ℕ, Bool, true, false, List, ap, arith, refl, sym, if◌then◌else◌}
use Rattle.std.proofs.lemmas.List.Elements.{All-map}
use Rattle.std.specs.List.{All}
use Rattle.std.specs.Prelude.{◌==◌, slice_index_or}
use Rattle.mencius_draw.specs.Svg.{IsHarmless, IsInTag}
use Rattle.mencius_draw.specs.Words.{is_plain, plain_byte, plain_text, tag_byte, tag_text}

-- a byte that passes a test differs from a byte that does not
by_test : (test : ℕ → Bool) (b c : ℕ) → test b ≡ true → test c ≡ false → b ≢ c
by_test test b c allowed other = λ same. let both : true ≡ false = sym allowed ∙ ap test same ∙ other in absurd (cc)

other_than : (b c : ℕ) → is_plain b ≡ true → is_plain c ≡ false → b ≢ c
other_than b c allowed reserved = by_test is_plain b c allowed reserved

harmless_if : (b : ℕ) (t : Bool) → is_plain b ≡ t → IsHarmless (if t then b else 63)
harmless_if b true e = record {
  less = other_than b 60 e refl;
  greater = other_than b 62 e refl;
  ampersand = other_than b 38 e refl;
  apostrophe = other_than b 39 e refl;
  quote = other_than b 34 e refl;
}
harmless_if b false e = record {
  less = λ same. absurd (omega (arith, same));
  greater = λ same. absurd (omega (arith, same));
  ampersand = λ same. absurd (omega (arith, same));
  apostrophe = λ same. absurd (omega (arith, same));
  quote = λ same. absurd (omega (arith, same));
}

harmless_byte : (b : ℕ) → IsHarmless (plain_byte b)
unfolding plain_byte
harmless_byte b = harmless_if b (is_plain b) refl

pub all_harmless : (bytes : List ℕ) → All IsHarmless (plain_text bytes)
all_harmless bytes =
    All-map IsHarmless plain_byte bytes (λ k d below. harmless_byte (slice_index_or bytes k d))

plain_if : (b : ℕ) (t : Bool) → (b == 47) ≡ false → (if t then b else 63) ≢ 47
plain_if b true e = λ same. let both : true ≡ false = sym (ap (λ n. n == 47) same) ∙ e in absurd (cc)
plain_if b false e = λ same. absurd (omega (arith, same))

plain_no_slash : (b : ℕ) → (b == 47) ≡ false → plain_byte b ≢ 47
unfolding plain_byte
plain_no_slash b e = plain_if b (is_plain b) e

no_slash : (b : ℕ) (t : Bool) → (b == 47) ≡ t → IsInTag (if t then 63 else plain_byte b)
no_slash b true e = record {
  less = λ same. absurd (omega (arith, same));
  greater = λ same. absurd (omega (arith, same));
  ampersand = λ same. absurd (omega (arith, same));
  slash = λ same. absurd (omega (arith, same));
}
no_slash b false e =
    let h = harmless_byte b in
    record { less = h.less; greater = h.greater; ampersand = h.ampersand; slash = plain_no_slash b e }

in_tag_if : (b : ℕ) (t : Bool) → (b == 39) ≡ t → IsInTag (if t then b else (if b == 47 then 63 else plain_byte b))
in_tag_if b true e = record {
  less = by_test (λ n. n == 39) b 60 e refl;
  greater = by_test (λ n. n == 39) b 62 e refl;
  ampersand = by_test (λ n. n == 39) b 38 e refl;
  slash = by_test (λ n. n == 39) b 47 e refl;
}
in_tag_if b false e = no_slash b (b == 47) refl

in_tag_byte : (b : ℕ) → IsInTag (tag_byte b)
unfolding tag_byte
in_tag_byte b = in_tag_if b (b == 39) refl

pub all_in_tag : (bytes : List ℕ) → All IsInTag (tag_text bytes)
all_in_tag bytes =
    All-map IsInTag tag_byte bytes (λ k d below. in_tag_byte (slice_index_or bytes k d))
