-- Why the sum of a helper's packets is its piece.
mod HeldRuns
