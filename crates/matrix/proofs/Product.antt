-- Laws of the matrix and of the packets: the matrix is symmetric with a zero corner, and what a node holds is letter for letter the product.
use mathlib.Core.Path.{◌≡◌, refl, sym, ap, ◌∙◌}
use mathlib.Core.Bool.{Bool, true, false, cond}
use mathlib.Core.List.{List}
use mathlib.Core.Logic.{⊎_elim}
use Prim.Native.Nat.{ℕ, ◌+◌, ◌-◌, ◌*◌, ◌≤◌, ◌<◌, min, max}
use native.Mathlib.Nat.{min_comm, max_comm, eq-or-lt_of_le}
use native.Mathlib.Omega.{arith}
use lib.Dec.{leb}
use lib.ListN.{length, get_or}
use borrow.Author.Tests.{le-leb, lt-leb}
use Rattle.letters.specs.Algebra.{Adding, counts, sum}
use Rattle.letters.specs.Places.{letter}
use Rattle.letters.proofs.Places.{place_cases, letter_inside, letter_zero, letter_above}
use Rattle.letters.proofs.Sums.{sum_none, sum_more, sum_none_terms}
use Rattle.shifts.specs.Rule.{t}
use Rattle.shifts.proofs.Rule.{refined}
use Rattle.system.specs.System.{sequence, Sequences}
use Rattle.system.proofs.System as system
use Rattle.group.specs.declared.Group.{Group}
use Rattle.lengths.specs.Lengths.{packet_length, packet_start, node_letters}
use Rattle.lengths.proofs.Sizes.{packet_start_lem}
use Rattle.matrix.specs.Matrix.{entry_number, matrix, packet_letter, packet, packets}
use Rattle.sequences.specs.Moved.{moved}
use Rattle.matrix.specs.Repair.{held_letter}
use Rattle.sequences.proofs.Lists.{length_run, get_d_run, ListStarts, length_joined, get_d_joined}

-- the shifts of a node rise with the column
pub shift_rises : (i u d : ℕ) → 1 ≤ i → 1 ≤ u → u ≤ d → t i u ≤ t i d
shift_rises i u d li lu h =
    ⊎_elim (λ e. omega (arith, ap (t i) e)) (λ l. refined.rising i u d li lu l) (eq-or-lt_of_le h)

-- the packets of a node are of one length
pub packet_same : (g : Group) (i j j' : ℕ) → packet_length g i j ≡ packet_length g i j'
unfolding packet_length
packet_same g i j j' = refl

-- L + t(i,d), of which the packets and what the node holds are made up
pub wide_packet : (g : Group) (i m : ℕ) → m ≡ g.l + t i g.d → m ≡ packet_length g i 1
unfolding packet_length
wide_packet g i m e = e

pub wide_node : (g : Group) (i m : ℕ) → m ≡ g.l + t i g.d → g.d * m ≡ node_letters g i
unfolding node_letters
wide_node g i m e = ap (λ n. g.d * n) e

-- one packet ends where the next starts
pub packet_next : (g : Group) (i j : ℕ) → 1 ≤ j → packet_start g i (j + 1) ≡ packet_start g i j + packet_length g i j
unfolding packet_start
packet_next g i j lo =
    ap (λ m. sum counts m (packet_length g i)) more ∙ sum_more counts (j - 1) (packet_length g i) ∙ ap (λ m. sum counts (j - 1) (packet_length g i) + packet_length g i m) back
  where
    more : j + 1 - 1 ≡ j - 1 + 1
    more = omega arith

    back : j - 1 + 1 ≡ j
    back = omega arith

pub packet_first : (g : Group) (i : ℕ) → packet_start g i 1 ≡ 0
unfolding packet_start
packet_first g i = sum_none_terms counts (packet_length g i)

pub packet_last : (g : Group) (i : ℕ) → packet_start g i (g.d + 1) ≡ node_letters g i
unfolding node_letters
packet_last g i = packet_start_lem g i (g.d + 1) ∙ ap (λ m. m * (g.l + t i g.d)) back
  where
    back : g.d + 1 - 1 ≡ g.d
    back = omega arith

module _ {A : Type 0} (𝓐 : Adding A) (g : Group) (file : List A) where
  pub symmetric : (v u p : ℕ) → matrix 𝓐 g file v u p ≡ matrix 𝓐 g file u v p
  unfolding matrix
  symmetric v u p = rw (min_comm v u, max_comm v u)

  pub corner : (v u p : ℕ) → g.k < v → g.k < u → matrix 𝓐 g file v u p ≡ 𝓐.none
  unfolding matrix
  corner v u p hv hu =
      let out : g.k < min v u = omega arith in
      simp (lt-leb (min v u) g.k out)

  pub free :
      (v u p : ℕ) → v ≤ u → v ≤ g.k → matrix 𝓐 g file v u p ≡ sequence 𝓐.none file g.l (entry_number g.k v u) p
  unfolding matrix
  free v u p h hk =
      let lower : min v u ≡ v = omega arith in
      let upper : max v u ≡ u = omega arith in
      simp (lower, upper, le-leb v g.k hk)

  -- an entry is a sequence: nothing stands outside 1..L
  pub entries : (u : ℕ) → Sequences 𝓐.none g.l (λ v. matrix 𝓐 g file v u)
  unfolding matrix
  entries u =
      record {
        nothing_below = λ v. all_none (leb (min v u) g.k) (seqs.nothing_below (entry_number g.k (min v u) (max v u)));
        nothing_above = λ v p h. all_none (leb (min v u) g.k) (seqs.nothing_above (entry_number g.k (min v u) (max v u)) p h);
      }
    where
      seqs : Sequences 𝓐.none g.l (sequence 𝓐.none file g.l)
      seqs = system.sequences 𝓐.none file g.l

      all_none : (b : Bool) {x : A} → x ≡ 𝓐.none → cond b x 𝓐.none ≡ 𝓐.none
      all_none true e = e
      all_none false e = refl

  pub packet_below : (i j : ℕ) → packet_letter 𝓐 g file i j 0 ≡ 𝓐.none
  unfolding packet_letter moved
  packet_below i j =
      sum_none 𝓐 g.d (λ u. matrix 𝓐 g file u j (0 - t i u))
      (λ u lo hi. ap (matrix 𝓐 g file u j) (none_left (t i u)) ∙ (entries j).nothing_below u)
    where
      none_left : (m : ℕ) → 0 - m ≡ 0
      none_left m = omega arith

  pub packet_above : (i j p : ℕ) → 1 ≤ i → packet_length g i j < p → packet_letter 𝓐 g file i j p ≡ 𝓐.none
  unfolding packet_letter moved packet_length
  packet_above i j p li h =
      sum_none 𝓐 g.d (λ u. matrix 𝓐 g file u j (p - t i u))
      (λ u lo hi. (entries j).nothing_above u (p - t i u) (omega (arith, shift_rises i u g.d li lo hi)))

  pub length_packet : (i j : ℕ) → length (packet 𝓐 g file i j) ≡ packet_length g i j
  unfolding packet
  length_packet i j = length_run (packet_length g i j) (packet_letter 𝓐 g file i j)

  pub packet_at :
      (i j p : ℕ) → 1 ≤ p → p ≤ packet_length g i j → get_or (packet 𝓐 g file i j) (p - 1) 𝓐.none ≡ packet_letter 𝓐 g file i j p
  unfolding packet
  packet_at i j p lo hi =
      get_d_run (packet_length g i j) (packet_letter 𝓐 g file i j) 𝓐.none (p - 1) (omega arith)
      ∙ ap (packet_letter 𝓐 g file i j) (place p lo)
    where
      place : (p : ℕ) → 1 ≤ p → p - 1 + 1 ≡ p
      place p lo = omega arith

  -- where the packets of a node stand
  pub packets_start : (i : ℕ) → ListStarts g.d (packet 𝓐 g file i) (packet_start g i)
  packets_start i =
      record {
        first = packet_first g i;
        next = λ j lo hi. packet_next g i j lo ∙ ap (λ m. packet_start g i j + m) (sym (length_packet i j));
      }

  pub length_packets : (i : ℕ) → length (packets 𝓐 g file i) ≡ node_letters g i
  unfolding packets
  length_packets i = length_joined g.d (packet 𝓐 g file i) (packet_start g i) (packets_start i) ∙ packet_last g i

  pub packets_at :
      (i j q : ℕ) → 1 ≤ j → j ≤ g.d → q < packet_length g i j
      → get_or (packets 𝓐 g file i) (packet_start g i j + q) 𝓐.none ≡ get_or (packet 𝓐 g file i j) q 𝓐.none
  unfolding packets
  packets_at i j q lo hi h =
      get_d_joined g.d (packet 𝓐 g file i) (packet_start g i) 𝓐.none (packets_start i) j q lo hi (rw length_packet h)

  -- letter p of packet j of what node i holds is the product's, also outside the packet
  pub held_packets :
      (i j p : ℕ) → 1 ≤ i → 1 ≤ j → j ≤ g.d → held_letter 𝓐 g i (packets 𝓐 g file i) j p ≡ packet_letter 𝓐 g file i j p
  unfolding held_letter
  held_packets i j p li lo hi =
      ⊎_elim
      (λ w.
      letter_inside 𝓐.none (packets 𝓐 g file i) (packet_start g i j) (packet_length g i j) p w.0 w.1
      ∙ packets_at i j (p - 1) lo hi (omega arith)
      ∙ packet_at i j p w.0 w.1)
      (λ out.
      ⊎_elim
      (λ z.
      letter_zero 𝓐.none (packets 𝓐 g file i) (packet_start g i j) (packet_length g i j) p z
      ∙ sym (ap (packet_letter 𝓐 g file i j) z ∙ packet_below i j))
      (λ h.
      letter_above 𝓐.none (packets 𝓐 g file i) (packet_start g i j) (packet_length g i j) p h
      ∙ sym (packet_above i j p li h))
      out)
      (place_cases (packet_length g i j) p)

-- an entry's letters as they stand in the file
pub entry_letter :
    {A : Type 0} (𝓐 : Adding A) (g : Group) (file : List A) (v u p : ℕ) → min v u ≤ g.k
    → letter 𝓐.none file ((entry_number g.k (min v u) (max v u) - 1) * g.l) g.l p ≡ matrix 𝓐 g file v u p
unfolding matrix sequence
entry_letter 𝓐 g file v u p h = simp (le-leb (min v u) g.k h)
