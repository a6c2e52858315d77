-- `pieces::piece` meets its contract: the part starts where the companion says, or is empty.
use native.Mathlib.Omega.{arith}
use Rattle.group.proofs.Called.{fine_number, fine_value}
use Rattle.handing.proofs.Handed.{part_of}
use Rattle.sending.proofs.Called.{piece_fits}
use Rattle.sending.proofs.Handing.{handed_of}
use Rattle.sending.proofs.pieces.piece.Goals as goal

pub part-requires : goal.part-requires
part-requires c =
    let told = c.piece_start-start.ensures in
    record { fits = λ z. omega (arith, fine_value _ _ _ told z, piece_fits _ _ _ _ _ (fine_number _ _ _ told z)) }

pub returns : goal.returns
returns c = handed_of _ _ _ _ _ _ (part_of _ _ _ _ _ _ c.piece_start-start.ensures c.part.ensures)
