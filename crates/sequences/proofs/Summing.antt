-- Sequences summed up in a buffer one after another: nothing after it is cleared, one more with each addition, and in the end the whole sum.
use mathlib.Core.Path.{◌≡◌, refl, sym, ap, subst, ◌∙◌}
use mathlib.Core.List.{List}
use Prim.Native.Nat.{ℕ, ◌+◌, ◌-◌, ◌≤◌}
use native.Mathlib.Omega.{arith}
use lib.Bits.{bit_xor, xor_zero_r}
use lib.ListN.{length, get_or, take, drop}
use Rattle.letters.specs.Algebra.{xors}
use Rattle.letters.specs.Places.{letter}
use Rattle.letters.proofs.Places.{letter_of_part}
use Rattle.letters.proofs.Sums.{sum_more, sum_none_terms}
use Rattle.sequences.specs.Lists.{run}
use Rattle.sequences.specs.Moved.{moved}
use Rattle.sequences.specs.Steps.Windows.{Zeros, Adds, Seen, Summed}
use Rattle.sequences.proofs.Lists.{is_run}

-- what a run adds is what the sequence adds that it holds
pub adds_same :
    (x y : ℕ → ℕ) (skip lead : ℕ) (before after : List ℕ) → ((p : ℕ) → x p ≡ y p) → Adds x skip lead before after → Adds y skip lead before after
adds_same x y skip lead before after e a =
    record {
      same_length = a.same_length;
      letters = λ q h. a.letters q h ∙ ap (bit_xor (get_or before q 0)) (e ((q + 1 + skip) - lead));
    }

-- a sequence of zeros adds nothing
pub adds_nothing : (x : ℕ → ℕ) (skip lead : ℕ) (before : List ℕ) → ((p : ℕ) → x p ≡ 0) → Adds x skip lead before before
adds_nothing x skip lead before e =
    record {
      same_length = refl;
      letters = λ q h. sym (xor_zero_r (get_or before q 0)) ∙ ap (bit_xor (get_or before q 0)) (sym (e ((q + 1 + skip) - lead)));
    }

-- a part of a list adds the sequence that stands there
pub part_adds :
    (xs : List ℕ) (x : ℕ → ℕ) (start n end skip lead lead' : ℕ) (before after : List ℕ) → start + n ≤ length xs → end ≡ start + n → lead ≡ lead'
    → ((p : ℕ) → letter 0 xs start n p ≡ x p) → Seen (take (end - start) (drop start xs)) skip lead before after → Adds x skip lead' before after
part_adds xs x start n end skip lead lead' before after fits e same is seen =
    let size : end - start ≡ n = omega arith in
    adds_same (letter 0 (take n (drop start xs)) 0 (length (take n (drop start xs)))) x skip lead' before after
    (λ p. letter_of_part 0 xs start n p fits ∙ is p)
    (subst (λ m. Seen (take m (drop start xs)) skip lead' before after) size (subst (λ m. Seen (take (end - start) (drop start xs)) skip m before after) same seen))

pub summed_none : (skip : ℕ) (shift : ℕ → ℕ) (x : ℕ → ℕ → ℕ) (letters : List ℕ) → Zeros letters → Summed 0 skip shift x letters
unfolding moved
summed_none skip shift x letters z =
    record { sums = λ q h. z.zero q ∙ sym (sum_none_terms xors (λ u. x u ((q + 1 + skip) - shift u))) }

pub summed_more :
    (n skip : ℕ) (shift : ℕ → ℕ) (x : ℕ → ℕ → ℕ) (before after : List ℕ) → Summed n skip shift x before
    → Adds (x (n + 1)) skip (shift (n + 1)) before after → Summed (n + 1) skip shift x after
unfolding moved
summed_more n skip shift x before after s a =
    record {
      sums =
          λ q h.
          a.letters q (omega (arith, a.same_length))
          ∙ ap (λ z. bit_xor z (x (n + 1) ((q + 1 + skip) - shift (n + 1)))) (s.sums q (omega (arith, a.same_length)))
          ∙ sym (sum_more xors n (λ u. x u ((q + 1 + skip) - shift u)));
    }

pub summed_run :
    (n d skip : ℕ) (shift : ℕ → ℕ) (x : ℕ → ℕ → ℕ) (f : ℕ → ℕ) (buffer : List ℕ) → length buffer ≡ n → Summed d skip shift x buffer
    → ((p : ℕ) → f p ≡ moved xors d shift x (p + skip)) → buffer ≡ run n f
summed_run n d skip shift x f buffer long s e =
    is_run 0 n f buffer long (λ q h. s.sums q (omega arith) ∙ sym (e (q + 1)))
