-- A lost node rebuilt from d helpers: document 01's "Repair" (docs/SCHEME.md, 7).
use Rattle.std.specs.Prelude.{List, ℕ, ◌+◌}
use Rattle.letters.specs.Algebra.{Adding}
use Rattle.letters.specs.Places.{letter}
use Rattle.shifts.specs.Rule.{t}
use Rattle.system.specs.Order.{ruled}
use Rattle.group.specs.declared.Group.{Group}
use Rattle.lengths.specs.Lengths.{packet_length, packet_start, repair_letters}
use Rattle.sequences.specs.Lists.{run, ranked}
use Rattle.sequences.specs.Moved.{moved}
use Rattle.sequences.specs.Parts.{parts_of}

module _ {A : Type 0} (𝓐 : Adding A) (g : Group) where
  -- letter p of packet j of what node i holds
  unfoldable pub held_letter : ℕ → List A → ℕ → ℕ → A
  unfolding letter packet_start packet_length
  held_letter i held j p = letter 𝓐.none held (packet_start g i j) (packet_length g i j) p

  module _ (lost : ℕ) where
    -- letter p of r: the sum over j of the helper's packet j moved right by t(f,j)
    unfoldable pub helper_sum : ℕ → List A → ℕ → A
    unfolding moved held_letter t
    helper_sum helper held p = moved 𝓐 g.d (t lost) (held_letter helper held) p

    -- the piece that the helper of rank u sends: letters t(h,u)+1 .. t(h,u)+L' of r
    unfoldable pub helping : ℕ → ℕ → List A → List A
    unfolding run helper_sum repair_letters t
    helping helper u held = run (repair_letters g lost) (λ p. helper_sum helper held (p + t helper u))

    -- what the d equations, cut to their windows, give of packets of L' letters each: the pieces one after another
    unfoldable pub equations : List ℕ → List A → List A
    unfolding parts_of repair_letters ranked t
    equations helpers rebuilt = parts_of 𝓐 g.d (repair_letters g lost) (ruled t (ranked helpers)) rebuilt
