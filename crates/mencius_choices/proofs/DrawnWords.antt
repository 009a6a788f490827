-- Drawing three more words takes the generator three steps further.
use Rattle.std.proofs.Common.{◌≡◌, ℕ, zero, suc, ◌+◌, ◌*◌, refl, ap, sym, ◌∙◌, arith}
use Rattle.rand_pcg.specs.Lcg.{Lcg, advance, next_state, state_after, started, increment_of}
use Rattle.rand_pcg.specs.Pcg.{multiplier_64}
use Rattle.mencius_choices.specs.Choices.{after_one_word, after_three_words, after_words, drawing_after, first_drawing}

one_later : (x m add n s : ℕ) → state_after x m add (suc n) s ≡ next_state x m add (state_after x m add n s)
unfolding state_after
one_later x m add zero s = refl
one_later x m add (suc n) s = one_later x m add n (next_state x m add s)

advance_more : (n : ℕ) (g : Lcg) → advance 64 multiplier_64 (suc n) g ≡ after_one_word (advance 64 multiplier_64 n g)
advance_more n g = ap (λ (s : ℕ). record g { state = s }) (one_later 64 multiplier_64 g.increment n g.state)

three_more : (turns : ℕ) (g : Lcg)
    → after_three_words (advance 64 multiplier_64 (3 * turns) g) ≡ advance 64 multiplier_64 (3 * (turns + 1)) g
three_more turns g =
    let n : ℕ = 3 * turns in
    let up : 3 * (turns + 1) ≡ suc (suc (suc n)) = omega arith in
    sym (ap (λ (m : ℕ). advance 64 multiplier_64 m g) up
    ∙ (advance_more (suc (suc n)) g
    ∙ (ap after_one_word (advance_more (suc n) g)
    ∙ ap (λ (h : Lcg). after_one_word (after_one_word h)) (advance_more n g))))

none_yet : (g : Lcg) → advance 64 multiplier_64 (3 * 0) g ≡ g
unfolding state_after
none_yet g = refl

-- the state of a worker before its first turn is its state after 0 turns
pub first_is : (seed worker : ℕ) → first_drawing seed worker ≡ drawing_after seed worker 0
first_is seed worker = ap (λ (g : Lcg). record { worker = worker; generator = g })
    (sym (none_yet (started 64 multiplier_64 seed (increment_of 64 worker))))

-- drawing three words after t turns gives the state after t + 1 turns
pub turn_more : (seed worker t : ℕ) → after_words (drawing_after seed worker t) ≡ drawing_after seed worker (t + 1)
turn_more seed worker t = ap (λ (g : Lcg). record { worker = worker; generator = g })
    (three_more t (started 64 multiplier_64 seed (increment_of 64 worker)))
