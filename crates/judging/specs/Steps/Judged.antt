-- What the place of the first wrong byte tells.
use Rattle.std.specs.Prelude.{Ok, Err, cond, ℕ, ltb, eqb}
use Rattle.group.specs.declared.Refusal.TheVariants.{Unfinished}
use Rattle.records.specs.Records.{size_for}
use Rattle.heads.specs.declared.Head.{Head}
use Rattle.judging.specs.declared.Fault.{Fault}
use Rattle.judging.specs.Judging.{Judgment}
use Rattle.refusing.specs.Steps.Refusing.{refusal_at}

-- the judgment of so many bytes that stand up to this index, with a head of this size: all of them do where there is no more
abbrev pub judgment_at : ℕ → Head → ℕ → ℕ → ℕ → Judgment
judgment_at front h letters at count =
    cond (ltb at count) (Err (Fault.Malformed (refusal_at front letters at) at))
    (cond (eqb count (size_for front letters)) (Ok h) (Err (Fault.Refused Unfinished)))
