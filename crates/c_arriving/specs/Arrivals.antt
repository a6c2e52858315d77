-- What starting and taking bytes return and leave, for C.
use Rattle.std.specs.Prelude.{◌≡◌, List, [], ℕ, length}
use Rattle.arriving.specs.declared.Arriving.{Arriving}
use Rattle.arriving.specs.States.{state_of}
use Rattle.arriving.specs.Calls.{Takes}
use Rattle.c_state.specs.Words.{state_in, nine}

-- starting: the state of no bytes; an array of another length is 5, before anything else, and everything stays as it was
pub data StartsWords (words : List ℕ) : ℕ → List ℕ → Type 0 where
  started : length words ≡ 9 → StartsWords words 0 (nine (state_of []))
  unfit : (length words ≡ 9 → ⊥) → StartsWords words 5 words

-- taking bytes
pub data TakesWords (words bytes : List ℕ) : ℕ → List ℕ → Type 0 where
  taken : length words ≡ 9 → (after : Arriving) → Takes (state_in words) bytes after → TakesWords words bytes 0 (nine after)
  unfit : (length words ≡ 9 → ⊥) → TakesWords words bytes 5 words
