-- Any d nodes rebuild a lost one: since the matrix is symmetric, what a helper sends is a part of the lost node's own packets, and the d parts have one solution.
use mathlib.Core.Path.{◌≡◌, refl, sym, ap, ◌∙◌}
use mathlib.Core.List.{List}
use Prim.Native.Nat.{ℕ, ◌+◌, ◌-◌, ◌*◌, ◌≤◌}
use native.Mathlib.Omega.{arith}
use lib.ListN.{length}
use Rattle.letters.specs.Algebra.{Adding, Letters, sum}
use Rattle.letters.specs.Places.{letter}
use Rattle.letters.proofs.Sums.{sum_same, sum_swap}
use Rattle.shifts.specs.Rule.{t}
use Rattle.system.specs.System.{part, sequence}
use Rattle.group.specs.declared.Group.{Group}
use Rattle.group.specs.Ranges.{NodeOf}
use Rattle.lengths.specs.Lengths.{packet_length, node_letters, repair_letters, repair_buffer}
use Rattle.lengths.proofs.Sizes.{packet_start_lem}
use Rattle.sequences.specs.Lists.{run, joined, ranked}
use Rattle.sequences.specs.Moved.{moved}
use Rattle.matrix.specs.Matrix.{matrix, packet_letter, packets}
use Rattle.matrix.specs.Pieces.{Chosen}
use Rattle.matrix.specs.Repair.{held_letter, helper_sum, helping, equations}
use Rattle.matrix.specs.Chain.{Holds, encoded, repaired}
use Rattle.sequences.proofs.Lists.{run_same, joined_same}
use Rattle.sequences.specs.Parts.{parts_of}
use Rattle.sequences.proofs.Parts.{one_buffer}
use Rattle.matrix.proofs.Product.{symmetric, length_packets, held_packets}
use Rattle.matrix.proofs.Reading.{shifts, ordered}

-- what a node holds is d packets of the length of a repair piece for it
pub same_letters : (g : Group) (i : ℕ) → node_letters g i ≡ g.d * repair_letters g i
unfolding node_letters repair_letters
same_letters g i = refl

pub same_buffer : (g : Group) (f : ℕ) → repair_buffer g f ≡ g.d * repair_letters g f
unfolding repair_buffer
same_buffer g f = refl

module _ {A : Type 0} (𝓐 : Adding A) (g : Group) (file : List A) where
  -- r is the sum over the helper's packets moved by the lost node's shifts, and also the sum over the lost node's packets moved by the helper's
  pub swapped :
      (lost helper p : ℕ) → 1 ≤ lost → 1 ≤ helper
      → helper_sum 𝓐 g lost helper (packets 𝓐 g file helper) p ≡ moved 𝓐 g.d (t helper) (packet_letter 𝓐 g file lost) p
  unfolding helper_sum moved packet_letter
  swapped lost helper p ll lh =
      sum_same 𝓐 g.d (λ j. held_letter 𝓐 g helper (packets 𝓐 g file helper) j (p - t lost j))
      (λ j. packet_letter 𝓐 g file helper j (p - t lost j)) (λ j lo hi. held_packets 𝓐 g file helper j (p - t lost j) lh lo hi)
      ∙ sum_swap 𝓐 g.d g.d (λ j u. matrix 𝓐 g file u j ((p - t lost j) - t helper u))
      ∙ sum_same 𝓐 g.d (λ u. sum 𝓐 g.d (λ j. matrix 𝓐 g file u j ((p - t lost j) - t helper u)))
      (λ u. sum 𝓐 g.d (λ j. matrix 𝓐 g file j u ((p - t helper u) - t lost j)))
      (λ u lo hi.
      sum_same 𝓐 g.d (λ j. matrix 𝓐 g file u j ((p - t lost j) - t helper u))
      (λ j. matrix 𝓐 g file j u ((p - t helper u) - t lost j))
      (λ j lo hi. symmetric 𝓐 g file u j ((p - t lost j) - t helper u) ∙ ap (matrix 𝓐 g file j u) (either_first p (t lost j) (t helper u))))
    where
      either_first : (p a b : ℕ) → (p - a) - b ≡ (p - b) - a
      either_first p a b = omega arith

  -- a packet of L' letters is a sequence of them
  stored : (lost : ℕ) (held : List A) (j p : ℕ) → sequence 𝓐.none held (repair_letters g lost) j p ≡ held_letter 𝓐 g lost held j p
  unfolding sequence held_letter packet_length repair_letters
  stored lost held j p = ap (λ start. letter 𝓐.none held start (repair_letters g lost) p) (sym (packet_start_lem g lost j))

  honest_letter :
      (lost helper u p : ℕ) → 1 ≤ lost → 1 ≤ helper
      → moved 𝓐 g.d (t helper) (sequence 𝓐.none (packets 𝓐 g file lost) (repair_letters g lost)) p
      ≡ helper_sum 𝓐 g lost helper (packets 𝓐 g file helper) p
  unfolding moved
  honest_letter lost helper u p ll lh =
      sum_same 𝓐 g.d (λ a. sequence 𝓐.none (packets 𝓐 g file lost) (repair_letters g lost) a (p - t helper a))
      (λ a. packet_letter 𝓐 g file lost a (p - t helper a))
      (λ a lo hi.
      stored lost (packets 𝓐 g file lost) a (p - t helper a) ∙ held_packets 𝓐 g file lost a (p - t helper a) ll lo hi)
      ∙ sym (swapped lost helper p ll lh)

  -- so the pieces of honest helpers are the equations of the lost node's packets
  pub honest :
      (lost : ℕ) (helpers : List ℕ) → NodeOf g lost → Chosen g g.d helpers
      → equations 𝓐 g lost helpers (packets 𝓐 g file lost)
      ≡ joined g.d (λ u. helping 𝓐 g lost (ranked helpers u) u (packets 𝓐 g file (ranked helpers u)))
  unfolding equations parts_of helping part moved
  honest lost helpers node chosen =
      joined_same g.d
      (λ u. run (repair_letters g lost) (part 𝓐 g.d (shifts helpers) (sequence 𝓐.none (packets 𝓐 g file lost) (repair_letters g lost)) u))
      (λ u. helping 𝓐 g lost (ranked helpers u) u (packets 𝓐 g file (ranked helpers u)))
      (λ u lo hi.
      run_same 𝓐.none (repair_letters g lost)
      (part 𝓐 g.d (shifts helpers) (sequence 𝓐.none (packets 𝓐 g file lost) (repair_letters g lost)) u)
      (λ p. helper_sum 𝓐 g lost (ranked helpers u) (packets 𝓐 g file (ranked helpers u)) (p + t (ranked helpers u) u))
      (λ p lp hp.
      honest_letter lost (ranked helpers u) u (p + t (ranked helpers u) u) node.low (chosen.nodes.falling.from_one u lo hi)))

module _ {A : Type 0} (𝓛 : Letters A) (g : Group) (lost : ℕ) (helpers : List ℕ) (chosen : Chosen g g.d helpers) where
  -- what the d equations give of one list of packets they give of no other
  pub one_repair :
      (rebuilt other : List A) → length rebuilt ≡ g.d * repair_letters g lost → length other ≡ g.d * repair_letters g lost
      → equations 𝓛.adding g lost helpers rebuilt ≡ equations 𝓛.adding g lost helpers other → rebuilt ≡ other
  unfolding equations
  one_repair = one_buffer 𝓛 g.d (repair_letters g lost) (shifts helpers) (ordered g g.d helpers chosen)

  -- the pieces of d honest helpers are rebuilt into exactly the lost node's packets
  pub rebuilds :
      (file rebuilt : List A) → NodeOf g lost → length rebuilt ≡ g.d * repair_letters g lost
      → equations 𝓛.adding g lost helpers rebuilt
      ≡ joined g.d (λ u. helping 𝓛.adding g lost (ranked helpers u) u (packets 𝓛.adding g file (ranked helpers u)))
      → rebuilt ≡ packets 𝓛.adding g file lost
  rebuilds file rebuilt node long e =
      one_repair rebuilt (packets 𝓛.adding g file lost) long (length_packets 𝓛.adding g file lost ∙ whole)
      (e ∙ sym (honest 𝓛.adding g file lost helpers node chosen))
    where
      whole : node_letters g lost ≡ g.d * repair_letters g lost
      whole = same_letters g lost

-- Demand 3's chain: whatever a node holds, by the encoding or by any number of repairs, is the packets of the file.
pub chain :
    {A : Type 0} (𝓛 : Letters A) (g : Group) (file : List A) {i : ℕ} {held : List A} → Holds 𝓛.adding g file i held
    → held ≡ packets 𝓛.adding g file i
chain 𝓛 g file (encoded node) = refl
chain 𝓛 g file (repaired {lost = f} {rebuilt = r} helpers held node chosen holds long e) =
    rebuilds 𝓛 g f helpers chosen file r node long
    (e
    ∙ joined_same g.d (λ u. helping 𝓛.adding g f (ranked helpers u) u (held u))
    (λ u. helping 𝓛.adding g f (ranked helpers u) u (packets 𝓛.adding g file (ranked helpers u)))
    (λ u lo hi. ap (helping 𝓛.adding g f (ranked helpers u) u) (chain 𝓛 g file (holds u lo hi))))
