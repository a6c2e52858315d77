-- A part of a lent slice that is handed back, uncopied.
use Rattle.std.specs.Prelude.{◌≡◌, List, [], ℕ, ◌+◌, ◌≤◌, take, drop}
use Rattle.std.specs.Borrow.{Bor}
use Rattle.group.specs.Answers.{Answer}
use Rattle.group.specs.Answers.{number_of, value_of, if_fine}

-- so many letters of what was lent, from the start on, where they stand in it; a refused request hands back the empty part
pub record PartOf (refusal start count : ℕ) (lent part : Bor (List ℕ)) : Type 0 where
  pub letters : part.now ≡ if_fine refusal (take count (drop start lent.now)) []
  pub block : part.ref_ptr.0 ≡ lent.ref_ptr.0
  pub offset : part.ref_ptr.1 ≡ lent.ref_ptr.1 + if_fine refusal start 0

-- so many letters from the index on that is answered lie within so many, unless it is refused
pub record Within (start : Answer) (count long : ℕ) : Type 0 where
  pub fits : number_of start ≡ 0 → value_of start + count ≤ long
