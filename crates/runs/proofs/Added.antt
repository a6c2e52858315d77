-- Two more laws of runs that are added, under one roof with the calls: a part more of a run from one of its letters on, and what stays behind a run.
use mathlib.Core.Path.{◌≡◌, refl, sym, ap, ap₂, ◌∙◌}
use mathlib.Core.List.{List}
use Prim.Native.Nat.{ℕ, ◌+◌, ◌-◌, ◌≤◌, ◌<◌}
use native.Mathlib.Omega.{arith}
use lib.ListN.{length, take, drop, length-drop}
use lib.Seq.{ext_get_or, get_or-drop, drop-drop}
use Rattle.letters.specs.Algebra.{Adding}
use Rattle.letters.specs.Runs.{added}
use Rattle.letters.proofs.Runs.{length_added, added_after, added_then}

module _ {A : Type 0} (𝓐 : Adding A) where
  -- a part more of a run, as one step follows another, from its letter s on
  pub added_past :
      (xs ys zs : List A) (at : ℕ) (run : List A) (s i c : ℕ) → s ≤ i → i ≤ length run → ys ≡ added 𝓐 xs (at + s) (take (i - s) (drop s run))
      → zs ≡ added 𝓐 ys (at + i) (take c (drop i run)) → zs ≡ added 𝓐 xs (at + s) (take (i + c - s) (drop s run))
  added_past xs ys zs at run s i c order h before step =
      added_then 𝓐 xs ys zs (at + s) (drop s run) (i - s) c (simp length-drop (omega arith)) before
      (step ∙ ap₂ (added 𝓐 ys) place (ap (take c) (ap (λ n. drop n run) back ∙ sym (drop-drop (i - s) s run))))
      ∙ ap (λ n. added 𝓐 xs (at + s) (take n (drop s run))) further
    where
      place : at + i ≡ at + s + (i - s)
      place = omega arith

      back : i ≡ s + (i - s)
      back = omega arith

      further : i - s + c ≡ i + c - s
      further = omega arith

  -- past the run's end all is as it was
  pub drop_added :
      (xs : List A) (at : ℕ) (ys : List A) (a : ℕ) → at + length ys ≤ a → drop a (added 𝓐 xs at ys) ≡ drop a xs
  drop_added xs at ys a h =
      ext_get_or 𝓐.none (drop a (added 𝓐 xs at ys)) (drop a xs) (simp (length-drop, length_added 𝓐) refl)
      (λ i l.
      let l' : i < length xs - a = rw (sym (length_added 𝓐 xs at ys), ← length-drop) l in
      get_or-drop a (added 𝓐 xs at ys) i 𝓐.none
      ∙ added_after 𝓐 xs at ys (a + i) (omega arith) (omega arith)
      ∙ sym (get_or-drop a xs i 𝓐.none))
