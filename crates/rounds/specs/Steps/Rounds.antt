-- What the small tables of a system hold, and which ranks have a letter in which rounds.
use Rattle.std.specs.Prelude.{◌≡◌, List, ℕ, ◌+◌, ◌-◌, ◌*◌, ◌≤◌, ◌<◌, length}
use Rattle.system.specs.Order.{delay}
use Rattle.equation.specs.Rows.{shift_in}
use Rattle.one_turn.specs.Tables.{nth, even_shift}

-- the exponents of s ranks
pub record Exponents (s : ℕ) (rows exps : List ℕ) : Type 0 where
  pub size : length exps ≡ 16
  pub each : (b : ℕ) → 1 ≤ b → b ≤ s → nth exps b ≡ shift_in rows b 2

-- the delays that follow from them
pub record Waits (s : ℕ) (exps delays : List ℕ) : Type 0 where
  pub size : length delays ≡ 16
  pub each : (b : ℕ) → 1 ≤ b → b ≤ s → nth delays b ≡ delay (even_shift exps) b

-- where the runs of a tile start
pub record RunStarts (n : ℕ) (delays : List ℕ) (below hi done : ℕ) (starts : List ℕ) : Type 0 where
  pub size : length starts ≡ 16
  pub each : (b : ℕ) → below < b → b ≤ hi → nth starts b ≡ (b - 1) * n + (done - nth delays b)

-- r of the s ranks have begun after so many rounds, and of the first `looked` no more
pub record Begun (s : ℕ) (delays : List ℕ) (looked done r : ℕ) : Type 0 where
  pub within : r ≤ s
  pub begun : 1 ≤ r → nth delays r ≤ done
  pub next : r < looked → done < nth delays (r + 1)

-- r of the hi ranks that have begun have ended, and of the first `looked` no more
pub record Ended (n hi : ℕ) (delays : List ℕ) (looked done r : ℕ) : Type 0 where
  pub within : r ≤ hi
  pub ended : 1 ≤ r → n + nth delays r ≤ done
  pub next : r < looked → done < n + nth delays (r + 1)

-- a tile may end after round r
pub record Cut (s n : ℕ) (delays : List ℕ) (below hi done r : ℕ) : Type 0 where
  pub onward : done < r
  pub lasting : r ≤ n + nth delays (below + 1)
  pub before_next : hi < s → r ≤ nth delays (hi + 1)
