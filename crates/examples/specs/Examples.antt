-- The night-desk examples P1 to P12 of document 01 (docs/SCHEME.md, 12): what an example is, the list, and what it means that one holds.
use Rattle.std.specs.Prelude.{◌≡◌, List, [], ◌∷◌, ◌++◌, ℕ, ◌<◌, length, take, replicate}
use Rattle.letters.specs.Algebra.{xors}
use Rattle.group.specs.declared.Group.{Group}
use Rattle.group.specs.Answers.{Outcome}
use Rattle.sequences.specs.Lists.{joined, ranked}
use Rattle.matrix.specs.Matrix.{packets}
use Rattle.matrix.specs.Pieces.{reading}
use Rattle.matrix.specs.Counts.{recovery_count}
use Rattle.matrix.specs.Repair.{helping, equations}
use Rattle.layout.specs.Share.{share_of}
use Rattle.heads.specs.declared.Head.{Head}
use Rattle.heads.specs.Heads.{heads}
use Rattle.share.specs.Calls.{head_for}
use Rattle.judging.specs.Judging.{Judges}

pub data Example : Type 0 where
  -- the packets that a node holds of a file
  packets_of : (g : Group) (file : List ℕ) (node : ℕ) (held : List ℕ) → Example
  -- the buffer that becomes the file, and the count
  recovery : (g : Group) (file ids buffer : List ℕ) (count : ℕ) → Example
  -- the helpers' pieces, which become the lost node's packets
  repair : (g : Group) (file : List ℕ) (lost : ℕ) (helpers pieces : List ℕ) → Example
  -- the share of a node's packets, of so many bytes
  share : (g : Group) (file : List ℕ) (node batch : ℕ) (bytes : List ℕ) (size : ℕ) → Example
  -- bytes and what judging them gives, whatever the one byte is that they may name
  judgment : (bytes : ℕ → List ℕ) (found : Outcome Head) → Example

-- the pieces that the helpers make of what they hold, one after another
abbrev pub pieces : Group → List ℕ → ℕ → List ℕ → List ℕ
pieces g file lost helpers =
    joined g.d (λ u. helping xors g lost (ranked helpers u) u (packets xors g file (ranked helpers u)))

-- what it means that an example holds
abbrev pub Agrees : Example → Type 0
Agrees (Example.packets_of g file node held) = packets xors g file node ≡ held
Agrees (Example.recovery g file ids buffer count) = (reading xors g file ids ≡ buffer) × (recovery_count g ids file ≡ count)
Agrees (Example.repair g file lost helpers sent) =
    (pieces g file lost helpers ≡ sent) × (equations xors g lost helpers (packets xors g file lost) ≡ sent)
Agrees (Example.share g file node batch bytes size) =
    (share_of heads (head_for g node batch) (packets xors g file node) ≡ bytes) × (length bytes ≡ size)
    × Judges bytes (Outcome.fine (head_for g node batch))
Agrees (Example.judgment bytes found) = (any : ℕ) → any < 256 → Judges (bytes any) found

-- all of a list do
unfoldable pub AllHold : List Example → Type 0
AllHold [] = Unit {0}
AllHold (example ∷ examples) = Agrees example × AllHold examples

-- [3,2,2], L = 2, and its file
abbrev pub two : Group
two = record { n = 3; k = 2; d = 2; l = 2 }

abbrev pub file : List ℕ
file = 0x01 ∷ 0x02 ∷ 0x10 ∷ 0x20 ∷ 0x40 ∷ 0x80 ∷ []

-- the same with L = 1
abbrev pub one : Group
one = record { n = 3; k = 2; d = 2; l = 1 }

abbrev pub short : List ℕ
short = 0x01 ∷ 0x10 ∷ 0x40 ∷ []

-- the bytes of P9
abbrev pub stored : List ℕ
stored =
    0x01 ∷ 0x03 ∷ 0x02 ∷ 0x02 ∷ 0x01 ∷ 0x01 ∷ 0x00 ∷ 0x07 ∷ 0x00 ∷ 0x00 ∷ 0x00
    ∷ 0x03 ∷ 0x11 ∷ 0x50
    ∷ (replicate 62 0x00 ++ (0x04 ∷ 0x02 ∷ 0x00 ∷ 0x00 ∷ 0x00 ∷ []))

-- P1 to P12; P11's refusal is 12 since Ask 2, and the byte after the share is the first wrong one
unfoldable pub twelve : List Example
twelve =
    Example.packets_of two file 1 (0x11 ∷ 0x22 ∷ 0x50 ∷ 0xA0 ∷ [])
    ∷ Example.packets_of two file 2 (0x01 ∷ 0x12 ∷ 0x20 ∷ 0x10 ∷ 0x60 ∷ 0x80 ∷ [])
    ∷ Example.packets_of two file 3 (0x01 ∷ 0x02 ∷ 0x10 ∷ 0x20 ∷ 0x10 ∷ 0x20 ∷ 0x40 ∷ 0x80 ∷ [])
    ∷ Example.recovery two file (3 ∷ 1 ∷ []) (0x01 ∷ 0x02 ∷ 0x10 ∷ 0x20 ∷ 0x50 ∷ 0xA0 ∷ []) 2
    ∷ Example.recovery two file (2 ∷ 1 ∷ []) (0x01 ∷ 0x12 ∷ 0x10 ∷ 0x60 ∷ 0x50 ∷ 0xA0 ∷ []) 4
    ∷ Example.recovery two file (3 ∷ 2 ∷ []) (0x01 ∷ 0x02 ∷ 0x10 ∷ 0x20 ∷ 0x60 ∷ 0x80 ∷ []) 1
    ∷ Example.repair two file 2 (3 ∷ 1 ∷ []) (0x01 ∷ 0x12 ∷ 0x30 ∷ 0x11 ∷ 0x72 ∷ 0xA0 ∷ [])
    ∷ Example.recovery one short (3 ∷ 2 ∷ []) short 0
    ∷ Example.share one short 1 7 stored 81
    ∷ Example.judgment (λ any. take 80 stored) (Outcome.refused 7)
    ∷ Example.judgment (λ any. stored ++ (any ∷ [])) (Outcome.wrong 12 81)
    ∷ Example.judgment (λ any. []) (Outcome.refused 7)
    ∷ []
