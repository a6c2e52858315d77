-- Demands 2 and 3 for previews as theorems about what the calls' contracts say, in their order.
use mathlib.Core.Path.{◌≡◌, sym, ap, ap₂, ◌∙◌}
use mathlib.Core.List.{List}
use Prim.Native.Nat.{ℕ, ◌+◌, ◌-◌, ◌*◌, ◌≤◌}
use lib.ListN.{length, take, drop}
use Rattle.letters.specs.Algebra.{bytes, xors}
use Rattle.letters.specs.Runs.{xored}
use Rattle.shifts.specs.Rule.{preview_shift}
use Rattle.worth.specs.Worth.{NoZero}
use Rattle.group.specs.declared.Group.{Group}
use Rattle.group.specs.Answers.{Answer}
use Rattle.group.specs.Answers.{number_of, value_of}
use Rattle.group.proofs.Refusals.{if_fine_lem}
use Rattle.group.proofs.Called.{fine_number, fine_value, called_fine, answer_at_most}
use Rattle.sequences.specs.Lists.{run, ranked}
use Rattle.sequences.proofs.Lists.{length_run}
use Rattle.sequences.proofs.Sequences.{placed_run, is_runs}
use Rattle.preview_numbers.specs.Previews.{preview_file, preview_packet, PreviewNode}
use Rattle.preview_product.specs.Preview.{preview_letter, preview_letters, preview_piece, preview_reading, preview_piece_in, preview_count, preview_cost, PreviewReaders}
use Rattle.preview_product.proofs.Linear.{previews_linear}
use Rattle.preview_product.proofs.Ranks.{preview_count_at_most, preview_count_all}
use Rattle.preview_product.proofs.Theorems.{length_preview_letters, preview_once, preview_handed}
use Rattle.preview_packets.specs.Calls.{PreviewEncoded}
use Rattle.preview_pieces.specs.Calls.{preview_piece_refusal, preview_entry_refusal}
use Rattle.preview_pieces.proofs.Called.{of_preview_piece, of_preview_entry}
use Rattle.preview_recovering.specs.Calls.{preview_readers_refusal, PreviewRecovered}
use Rattle.preview_recovering.proofs.RecoverCalls.{preview_readers_of, preview_recover_of, of_preview_recover}
use Rattle.preview.specs.Reading.{PreviewCollects}

-- ---- demand 2: packets are the product

pub preview_encoded :
    (g : Group) (node : ℕ) (file before after : List ℕ) (r : Answer) → PreviewEncoded g node file before after r → number_of r ≡ 0
    → after ≡ preview_letters xors g file node
preview_encoded g node file before after r c z = called_fine _ _ _ before after r c z

-- ---- demand 3: reading and recovering undo each other

module _ (g : Group) (ids : List ℕ) (readers : PreviewReaders g ids) (file : List ℕ) (held : ℕ → List ℕ)
    (honest : (v : ℕ) → 1 ≤ v → v ≤ g.k → held v ≡ preview_letters xors g file (ranked ids v)) (buffer : List ℕ)
    (c : PreviewCollects g ids held buffer) where
  -- rank v is a node
  node_of_rank : (v : ℕ) → 1 ≤ v → v ≤ g.k → PreviewNode g (ranked ids v)
  node_of_rank v lv hv =
      record { group = readers.group; low = readers.nodes.falling.from_one v lv hv; high = readers.nodes.known v lv hv }

  -- what `piece` handed back is the piece of the file
  handed_piece : (v : ℕ) → 1 ≤ v → v ≤ g.k → (c.part v).now ≡ preview_piece xors g file ids v
  handed_piece v lv hv =
      (c.handed v lv hv).letters
      ∙ if_fine_lem _ (preview_piece_in g (ranked ids v) v (c.lent v).now) _
      (ap (λ m. preview_piece_refusal g (ranked ids v) v m) long ∙ of_preview_piece g (ranked ids v) v (node_of_rank v lv hv) lv hv)
      ∙ ap (preview_piece_in g (ranked ids v) v) lends
      ∙ preview_handed xors g file ids v (node_of_rank v lv hv) lv hv
    where
      lends : (c.lent v).now ≡ preview_letters xors g file (ranked ids v)
      lends = c.holds v lv hv ∙ honest v lv hv

      long : length (c.lent v).now ≡ preview_packet g (ranked ids v)
      long = ap length lends ∙ length_preview_letters xors g file (ranked ids v)

  -- letter p of the piece of rank v
  abbrev sent : ℕ → ℕ → ℕ
  sent v p = preview_letter xors g file (ranked ids v) (p + preview_shift (ranked ids v) v)

  -- it has L letters, and stands where its sequence starts
  laid : (v : ℕ) → 1 ≤ v → v ≤ g.k → take g.l (drop ((v - 1) * g.l) buffer) ≡ run g.l (sent v)
  unfolding preview_piece
  laid v lv hv =
      ap₂ (λ n start. take n (drop start buffer)) (sym long) (sym place) ∙ c.stands v lv hv ∙ handed_piece v lv hv
    where
      long : length (c.part v).now ≡ g.l
      long = ap length (handed_piece v lv hv) ∙ length_run g.l (sent v)

      place : value_of (c.place v) ≡ (v - 1) * g.l
      place =
          (c.placed v lv hv).valued
          ∙ if_fine_lem (preview_entry_refusal g v) ((v - 1) * g.l) 0 (of_preview_entry g v readers.group lv hv)

  -- the buffer is the reading of the file
  pub preview_collected : buffer ≡ preview_reading xors g file ids
  unfolding preview_reading preview_piece preview_file
  preview_collected =
      is_runs 0 g.k g.l sent buffer c.long
      (λ v p lv hv lp hp. placed_run 0 buffer g.l v (sent v) (laid v lv hv) p lp hp)

-- read, then recover: the buffer at exit is the file, and the answer is the number of terms of document 01's sum whose letter of the file isn't zero (docs/SCHEME.md, 8)
pub preview_read_then_recover :
    (g : Group) (ids file : List ℕ) (held : ℕ → List ℕ) (buffer after : List ℕ) (r : Answer) → preview_readers_refusal g ids ≡ 0
    → length file ≡ preview_file g → ((v : ℕ) → 1 ≤ v → v ≤ g.k → held v ≡ preview_letters xors g file (ranked ids v))
    → PreviewCollects g ids held buffer → PreviewRecovered g ids buffer after r
    → (number_of r ≡ 0) × (value_of r ≡ preview_count g ids file) × (after ≡ file)
preview_read_then_recover g ids file held buffer after r allowed long honest c rec =
    let readers = (preview_readers_of g ids allowed).readers in
    let fine = of_preview_recover g ids (length buffer) allowed c.long in
    let z = rec.answer.number ∙ fine in
    let same =
    preview_once bytes g ids readers after file (rec.same_length ∙ c.long) long
    (sym (if_fine_lem _ (preview_reading xors g after ids) after fine)
    ∙ rec.holds
    ∙ preview_collected g ids readers file held honest buffer c) in
    (z, fine_value r _ _ rec.answer z ∙ ap (preview_count g ids) same, same)

-- the answer is never more than document 01's sum, whatever letters come in, and that sum if no letter of the file that comes out is zero
pub preview_recover_never_more :
    (g : Group) (ids before after : List ℕ) (r : Answer) → PreviewRecovered g ids before after r → value_of r ≤ preview_cost g ids
preview_recover_never_more g ids before after r rec = answer_at_most r _ _ _ rec.answer (λ fine. preview_count_at_most g ids after)

pub preview_recover_every :
    (g : Group) (ids before after : List ℕ) (r : Answer) → PreviewRecovered g ids before after r → number_of r ≡ 0 → NoZero after
    → value_of r ≡ preview_cost g ids
preview_recover_every g ids before after r rec z some =
    let w = preview_recover_of g ids (length before) (fine_number r _ _ rec.answer z) in
    fine_value r _ _ rec.answer z ∙ preview_count_all g ids after (rec.same_length ∙ w.1) some

-- recover, then read: the pieces that were there
pub preview_recover_then_read :
    (g : Group) (ids before after : List ℕ) (r : Answer) (held : ℕ → List ℕ) (buffer : List ℕ) → PreviewRecovered g ids before after r
    → number_of r ≡ 0 → ((v : ℕ) → 1 ≤ v → v ≤ g.k → held v ≡ preview_letters xors g after (ranked ids v)) → PreviewCollects g ids held buffer
    → buffer ≡ before
preview_recover_then_read g ids before after r held buffer rec z honest c =
    let fine = fine_number r _ _ rec.answer z in
    let readers = (preview_recover_of g ids (length before) fine).0.readers in
    preview_collected g ids readers after held honest buffer c ∙ sym (if_fine_lem _ (preview_reading xors g after ids) after fine) ∙ rec.holds

-- ---- demand 3: the packets of two files XORed, through three calls of encode

pub preview_encode_xored :
    (g : Group) (node : ℕ) (file file' room room' room'' held held' held'' : List ℕ) (r r' r'' : Answer) → length file ≡ length file'
    → PreviewEncoded g node file room held r → PreviewEncoded g node file' room' held' r'
    → PreviewEncoded g node (xored xors file file') room'' held'' r'' → number_of r ≡ 0 → number_of r' ≡ 0 → number_of r'' ≡ 0
    → held'' ≡ xored xors held held'
preview_encode_xored g node file file' room room' room'' held held' held'' r r' r'' same c c' c'' z z' z'' =
    preview_encoded g node (xored xors file file') room'' held'' r'' c'' z''
    ∙ previews_linear xors g file file' same node
    ∙ ap₂ (xored xors) (sym (preview_encoded g node file room held r c z)) (sym (preview_encoded g node file' room' held' r' c' z'))
