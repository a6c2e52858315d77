-- The three demands (README, "What is proved") as theorems about what the calls' contracts say, in their order.
use mathlib.Core.Path.{◌≡◌, refl, sym, ap, ap₂, ◌∙◌}
use mathlib.Core.Bool.{Bool, true, false, cond}
use mathlib.Core.List.{List}
use mathlib.Core.Logic.{◌⊎◌, inl, inr}
use Prim.Native.Nat.{ℕ, ◌-◌, ◌*◌, ◌^◌, ◌≤◌, ◌<◌}
use native.Mathlib.Omega.{arith}
use lib.Dec.{eqb}
use lib.ListN.{length, take, drop}
use borrow.Author.Tests.{eqb-true}
use Rattle.letters.specs.Algebra.{bytes, xors}
use Rattle.letters.specs.Runs.{xored}
use Rattle.worth.specs.Worth.{NoZero}
use Rattle.group.specs.declared.Group.{Group}
use Rattle.group.specs.Answers.{Answer}
use Rattle.group.specs.Answers.{refusal_number, Outcome, number_of, value_of}
use Rattle.group.specs.Ranges.{NodeOf}
use Rattle.lengths.specs.Lengths.{file_letters, node_letters}
use Rattle.group.proofs.Refusals.{if_fine_lem}
use Rattle.group.proofs.Called.{fine_number, fine_value, called_fine, answer_at_most}
use Rattle.sequences.specs.Lists.{run, joined, ranked}
use Rattle.sequences.proofs.Lists.{length_run, joined_same}
use Rattle.sequences.proofs.Sequences.{placed_run}
use Rattle.matrix.specs.Matrix.{entry_number, packets, Free}
use Rattle.matrix.specs.Pieces.{piece_in, piece_letter, piece, reading, Chosen}
use Rattle.matrix.specs.Repair.{helping, equations}
use Rattle.matrix.specs.Counts.{recovery_count, repair_count, recovery_cost, repair_cost}
use Rattle.matrix.proofs.Files.{is_as_file}
use Rattle.matrix.proofs.Product.{length_packets}
use Rattle.matrix.proofs.Linear.{packets_linear}
use Rattle.matrix.proofs.Theorems.{reading_once, piece_handed}
use Rattle.matrix.proofs.Rebuilt.{rebuilds, same_buffer}
use Rattle.matrix.proofs.CostSums.{recovery_at_most, recovery_all, repair_at_most, repair_all}
use Rattle.group.specs.declared.Refusal.TheVariants.{Unfinished}
use Rattle.nodes.specs.Calls.{Encoded}
use Rattle.sending.specs.Calls.{piece_refusal, entry_refusal}
use Rattle.helpers.specs.Calls.{Helped}
use Rattle.sending.proofs.Called.{of_piece, of_entry}
use Rattle.recovering.specs.Calls.{readers_refusal, Recovered}
use Rattle.recovering.proofs.RecoverCalls.{readers_of, recover_of, of_recover}
use Rattle.rebuilding.specs.Calls.{Repaired}
use Rattle.rebuilding.proofs.RepairCalls.{repair_of}
use Rattle.letters.specs.Lanes.{Bytes}
use Rattle.layout.specs.Share.{ShareOf}
use Rattle.layout.proofs.Judgments.{cut_is_beginning}
use Rattle.heads.specs.declared.Head.{Head}
use Rattle.heads.specs.Heads.{heads}
use Rattle.heads.proofs.HeadLaws.{lawful}
use Rattle.reading.specs.Reading.{Reads}
use Rattle.share.specs.Calls.{Written}
use Rattle.judging.specs.Judging.{Judges}
use Rattle.reading.proofs.Outcomes.{same_reading}
use Rattle.judging.proofs.Outcomes.{same_judging}
use Rattle.share.proofs.RoundTrip.{written}
use Rattle.store.specs.Reading.{Collects}
use Rattle.store.specs.Repairing.{Rebuilds}
use Rattle.store.specs.Chain.{Has, letters, nothing, State, but, Fresh, lost, rebuilt, Steps, none, then}

-- ---- demand 1: a share that was cut short anywhere is never taken as complete

module _ (h : Head) (packets room share : List ℕ) (r : Answer) (batch : h.batch < 2 ^ 32) (b : Bytes packets) (w : Written h packets room r share) (z : number_of r ≡ 0) where
  -- what `write` wrote is a share
  wrote : ShareOf heads h packets share
  wrote = written h packets room share r batch b (fine_number r _ _ w.answered z) w

  -- cut anywhere: `judge` gives 7,
  pub cut_judged : (m : ℕ) → m < length share → (found : Outcome Head) → Judges (take m share) found → found ≡ Outcome.refused (refusal_number Unfinished)
  cut_judged m l found j = same_judging j (Judges.unfinished (cut_is_beginning heads lawful share m (h, packets, wrote) l))

  -- and so does `read`, with the buffer as it was
  pub cut_read :
      (m : ℕ) → m < length share → (buffer after : List ℕ) (found : Outcome Head) → Reads (take m share) buffer found after
      → (found ≡ Outcome.refused (refusal_number Unfinished)) × (after ≡ buffer)
  cut_read m l buffer after found s =
      same_reading s (Reads.unfinished (cut_is_beginning heads lawful share m (h, packets, wrote) l))

  -- whole: `judge` gives the head,
  pub whole_judged : (found : Outcome Head) → Judges share found → found ≡ Outcome.fine h
  whole_judged found j = same_judging j (Judges.complete h packets wrote)

  -- and `read` the head and the letters
  pub whole_read :
      (buffer after : List ℕ) (found : Outcome Head) → length buffer ≡ length packets → Reads share buffer found after
      → (found ≡ Outcome.fine h) × (after ≡ packets)
  whole_read buffer after found l s = same_reading s (Reads.complete h packets wrote l)

-- ---- demand 2: packets are the product

pub encoded_packets :
    (g : Group) (node : ℕ) (file before after : List ℕ) (r : Answer) → Encoded g node file before after r → number_of r ≡ 0
    → after ≡ packets xors g file node
encoded_packets g node file before after r c z = called_fine _ _ _ before after r c z

pub helped_piece :
    (g : Group) (f helper u : ℕ) (held before after : List ℕ) (r : Answer) → Helped g f helper u held before after r → number_of r ≡ 0
    → after ≡ helping xors g f helper u held
helped_piece g f helper u held before after r c z = called_fine _ _ _ before after r c z

-- ---- demand 3: reading and recovering undo each other

module _ (g : Group) (ids : List ℕ) (chosen : Chosen g g.k ids) where
  -- rank v is a node, and an entry that is read is free
  node_of_rank : (v : ℕ) → 1 ≤ v → v ≤ g.k → NodeOf g (ranked ids v)
  node_of_rank v lv hv = record { group = chosen.group; low = chosen.nodes.falling.from_one v lv hv; high = chosen.nodes.known v lv hv }

  free_entry : (v u : ℕ) → 1 ≤ v → v ≤ g.k → v ≤ u → u ≤ g.d → Free g v u
  free_entry v u lv hv h hu = record { group = chosen.group; row = lv; within = h; upper = hv; column = hu }

  module _ (file : List ℕ) (held : ℕ → List ℕ) (honest : (v : ℕ) → 1 ≤ v → v ≤ g.k → held v ≡ packets xors g file (ranked ids v))
      (buffer : List ℕ) (c : Collects g ids held buffer) where
    -- what `piece` handed back is the piece of the file
    handed_piece : (v u : ℕ) → 1 ≤ v → v ≤ g.k → v ≤ u → u ≤ g.d → (c.part v u).now ≡ piece xors g file ids v u
    handed_piece v u lv hv h hu =
        (c.handed v u lv hv h hu).letters
        ∙ if_fine_lem _ (piece_in g (ranked ids v) v u (c.lent v).now) _
        (ap (λ m. piece_refusal g (ranked ids v) v u m) long ∙ of_piece g (ranked ids v) v u (node_of_rank v lv hv) (free_entry v u lv hv h hu))
        ∙ ap (piece_in g (ranked ids v) v u) lends
        ∙ piece_handed xors g file ids v u (node_of_rank v lv hv) (free_entry v u lv hv h hu)
      where
        lends : (c.lent v).now ≡ packets xors g file (ranked ids v)
        lends = c.holds v lv hv ∙ honest v lv hv

        long : length (c.lent v).now ≡ node_letters g (ranked ids v)
        long = ap length lends ∙ length_packets xors g file (ranked ids v)

    -- it has L letters, and stands where its entry starts
    laid :
        (v u : ℕ) → 1 ≤ v → v ≤ g.k → v ≤ u → u ≤ g.d
        → take g.l (drop ((entry_number g.k v u - 1) * g.l) buffer) ≡ run g.l (piece_letter xors g file ids v u)
    unfolding piece
    laid v u lv hv h hu =
        ap₂ (λ n start. take n (drop start buffer)) (sym long) (sym place)
        ∙ c.stands v u lv hv h hu
        ∙ handed_piece v u lv hv h hu
      where
        long : length (c.part v u).now ≡ g.l
        long = ap length (handed_piece v u lv hv h hu) ∙ length_run g.l (piece_letter xors g file ids v u)

        place : value_of (c.place v u) ≡ (entry_number g.k v u - 1) * g.l
        place =
            (c.placed v u lv hv h hu).valued
            ∙ if_fine_lem (entry_refusal g v u) ((entry_number g.k v u - 1) * g.l) 0 (of_entry g v u (free_entry v u lv hv h hu))

    -- the buffer is the reading of the file
    pub collected_reading : buffer ≡ reading xors g file ids
    unfolding reading
    collected_reading =
        is_as_file 0 g chosen.group (piece_letter xors g file ids) buffer c.long
        (λ u v p lu hu lv hv lp hp.
        placed_run 0 buffer g.l (entry_number g.k v u) (piece_letter xors g file ids v u) (laid v u lv (omega arith) (omega arith) hu) p lp hp)

-- read, then recover: the buffer at exit is the file, and the answer is the number of terms of document 01's sums whose letter of the file isn't zero (docs/SCHEME.md, 8)
pub read_then_recover :
    (g : Group) (ids file : List ℕ) (held : ℕ → List ℕ) (buffer after : List ℕ) (r : Answer) → readers_refusal g ids ≡ 0
    → length file ≡ file_letters g → ((v : ℕ) → 1 ≤ v → v ≤ g.k → held v ≡ packets xors g file (ranked ids v))
    → Collects g ids held buffer → Recovered g ids buffer after r
    → (number_of r ≡ 0) × (value_of r ≡ recovery_count g ids file) × (after ≡ file)
read_then_recover g ids file held buffer after r allowed long honest c rec =
    let chosen = (readers_of g ids allowed).chosen in
    let fine = of_recover g ids (length buffer) allowed c.long in
    let z = rec.answer.number ∙ fine in
    let same =
    reading_once bytes g ids chosen after file (rec.same_length ∙ c.long) long
    (sym (if_fine_lem _ (reading xors g after ids) after fine)
    ∙ rec.holds
    ∙ collected_reading g ids chosen file held honest buffer c) in
    (z, fine_value r _ _ rec.answer z ∙ ap (recovery_count g ids) same, same)

-- the answer of a recovery is never more than document 01's sum, whatever letters come in, and that sum if no letter of the file that comes out is zero
pub recover_never_more : (g : Group) (ids before after : List ℕ) (r : Answer) → Recovered g ids before after r → value_of r ≤ recovery_cost g ids
recover_never_more g ids before after r rec =
    answer_at_most r _ _ _ rec.answer (λ fine. recovery_at_most g ids after (recover_of g ids (length before) fine).0.chosen)

pub recover_every :
    (g : Group) (ids before after : List ℕ) (r : Answer) → Recovered g ids before after r → number_of r ≡ 0 → NoZero after → value_of r ≡ recovery_cost g ids
recover_every g ids before after r rec z some =
    let w = recover_of g ids (length before) (fine_number r _ _ rec.answer z) in
    fine_value r _ _ rec.answer z ∙ recovery_all g ids after w.0.chosen (rec.same_length ∙ w.1) some

-- recover, then read: the pieces that were there
pub recover_then_read :
    (g : Group) (ids before after : List ℕ) (r : Answer) (held : ℕ → List ℕ) (buffer : List ℕ) → Recovered g ids before after r → number_of r ≡ 0
    → ((v : ℕ) → 1 ≤ v → v ≤ g.k → held v ≡ packets xors g after (ranked ids v)) → Collects g ids held buffer → buffer ≡ before
recover_then_read g ids before after r held buffer rec z honest c =
    let fine = fine_number r _ _ rec.answer z in
    let chosen = (recover_of g ids (length before) fine).0.chosen in
    collected_reading g ids chosen after held honest buffer c ∙ sym (if_fine_lem _ (reading xors g after ids) after fine) ∙ rec.holds

-- ---- demand 3: the packets of two files XORed, through three calls of encode

pub encode_xored :
    (g : Group) (node : ℕ) (file file' room room' room'' held held' held'' : List ℕ) (r r' r'' : Answer) → length file ≡ length file'
    → Encoded g node file room held r → Encoded g node file' room' held' r' → Encoded g node (xored xors file file') room'' held'' r''
    → number_of r ≡ 0 → number_of r' ≡ 0 → number_of r'' ≡ 0 → held'' ≡ xored xors held held'
encode_xored g node file file' room room' room'' held held' held'' r r' r'' same c c' c'' z z' z'' =
    encoded_packets g node (xored xors file file') room'' held'' r'' c'' z''
    ∙ packets_linear xors g file file' same node
    ∙ ap₂ (xored xors) (sym (encoded_packets g node file room held r c z)) (sym (encoded_packets g node file' room' held' r' c' z'))

-- ---- demand 3: any d nodes rebuild a lost one

-- d nodes that hold the file's packets, help of each, then repair: the buffer at exit is the lost node's packets, and the answer is the number of terms of document 01's sum whose letter of those isn't zero (docs/SCHEME.md, 8)
pub help_then_repair :
    (g : Group) (f : ℕ) (helpers file : List ℕ) (held : ℕ → List ℕ) (after : List ℕ) (r : Answer)
    → ((u : ℕ) → 1 ≤ u → u ≤ g.d → held u ≡ packets xors g file (ranked helpers u)) → Rebuilds g f helpers held after r
    → (value_of r ≡ repair_count g f helpers (packets xors g file f)) × (after ≡ packets xors g file f)
help_then_repair g f helpers file held after r honest c =
    let fine = fine_number r _ _ c.repaired.answer c.not_refused in
    let w = repair_of g f helpers (length (joined g.d c.piece)) fine in
    let same =
    rebuilds bytes g f helpers w.0.chosen file after w.0.node (c.repaired.same_length ∙ w.1 ∙ same_buffer g f)
    (sym (if_fine_lem _ (equations xors g f helpers after) after fine)
    ∙ c.repaired.holds
    ∙ joined_same g.d c.piece (λ u. helping xors g f (ranked helpers u) u (packets xors g file (ranked helpers u)))
    (λ u lo hi.
    helped_piece g f (ranked helpers u) u (held u) (c.room u) (c.piece u) (c.answer u) (c.helped u lo hi) (c.none_refused u lo hi)
    ∙ ap (helping xors g f (ranked helpers u) u) (honest u lo hi))) in
    (fine_value r _ _ c.repaired.answer c.not_refused ∙ ap (repair_count g f helpers) same, same)

-- the answer of a repair is never more than document 01's sum, whatever letters come in, and that sum if no letter of the packets that come out is zero
pub repair_never_more :
    (g : Group) (f : ℕ) (helpers before after : List ℕ) (r : Answer) → Repaired g f helpers before after r → value_of r ≤ repair_cost g f helpers
repair_never_more g f helpers before after r rep = answer_at_most r _ _ _ rep.answer (λ fine. repair_at_most g f helpers after)

pub repair_every :
    (g : Group) (f : ℕ) (helpers before after : List ℕ) (r : Answer) → Repaired g f helpers before after r → number_of r ≡ 0 → NoZero after
    → value_of r ≡ repair_cost g f helpers
repair_every g f helpers before after r rep z some =
    let w = repair_of g f helpers (length before) (fine_number r _ _ rep.answer z) in
    fine_value r _ _ rep.answer z ∙ repair_all g f helpers after (rep.same_length ∙ w.1 ∙ same_buffer g f) some

-- ---- demand 3: any chain of losses and repairs

-- a node has nothing, or the packets of the file
abbrev Honest : Group → List ℕ → ℕ → Has → Type 0
Honest g file i has = (has ≡ nothing) ⊎ (has ≡ letters (packets xors g file i))

-- an honest node that has letters has those packets
honest_letters : (g : Group) (file : List ℕ) (i : ℕ) (has : Has) (held : List ℕ) → has ≡ letters held → Honest g file i has → held ≡ packets xors g file i
honest_letters g file i has held e (inl gone) = let z : ◌≡◌ {A = ℕ} 0 1 = cc in absurd (omega arith)
honest_letters g file i has held e (inr is) = cc

-- one node's change keeps every node honest, if what it then has is
but_honest :
    (g : Group) (file : List ℕ) (state : State) (j : ℕ) (has : Has) (i : ℕ) → (i ≡ j → Honest g file i has) → Honest g file i (state i)
    → Honest g file i (but state j has i)
but_honest g file state j has i new old = go (eqb i j) refl
  where
    go : (b : Bool) → eqb i j ≡ b → Honest g file i (cond b has (state i))
    go true e = new (eqb-true i j e)
    go false e = old

-- a node that honest ones rebuild has its packets again
rebuilt_honest :
    (g : Group) (file : List ℕ) (state : State) (f : ℕ) (helpers : List ℕ) (held : ℕ → List ℕ) (after : List ℕ) (r : Answer)
    → ((i : ℕ) → NodeOf g i → Honest g file i (state i)) → ((u : ℕ) → 1 ≤ u → u ≤ g.d → state (ranked helpers u) ≡ letters (held u))
    → Rebuilds g f helpers held after r → after ≡ packets xors g file f
rebuilt_honest g file state f helpers held after r honest stand calls =
    (help_then_repair g f helpers file held after r
    (λ u lo hi.
    honest_letters g file (ranked helpers u) (state (ranked helpers u)) (held u) (stand u lo hi)
    (honest (ranked helpers u) (record { group = chosen.group; low = chosen.nodes.falling.from_one u lo hi; high = chosen.nodes.known u lo hi })))
    calls).1
  where
    chosen : Chosen g g.d helpers
    chosen = (repair_of g f helpers (length (joined g.d calls.piece)) (fine_number r _ _ calls.repaired.answer calls.not_refused)).0.chosen

-- after any list of steps each node that stands holds the packets of the file
pub chain_of_calls :
    (g : Group) (file : List ℕ) (start state : State) → Fresh g file start → Steps g start state
    → (i : ℕ) → NodeOf g i → (state i ≡ nothing) ⊎ (state i ≡ letters (packets xors g file i))
chain_of_calls g file start state fresh none i node =
    inr (fresh.stands i node ∙ ap letters (encoded_packets g i file (fresh.room i) (fresh.packets i) (fresh.answer i) (fresh.encoded i node) (fresh.none_refused i node)))
chain_of_calls g file start state fresh (then {between = s} steps (lost j)) i node =
    but_honest g file s j nothing i (λ e. inl refl) (chain_of_calls g file start s fresh steps i node)
chain_of_calls g file start state fresh (then {between = s} steps (rebuilt j helpers held after r stand calls)) i node =
    but_honest g file s j (letters after) i
    (λ e.
    inr (ap letters (rebuilt_honest g file s j helpers held after r (chain_of_calls g file start s fresh steps) stand calls ∙ ap (packets xors g file) (sym e))))
    (chain_of_calls g file start s fresh steps i node)
