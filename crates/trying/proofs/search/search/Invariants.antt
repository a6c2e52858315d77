-- `search::search` meets its contract: the tries without the ranks after `without` all failed.
use mathlib.Core.Path.{◌≡◌}
use lib.ListN.{length}
use Rattle.lengths.specs.Lengths.{file_letters}
use Rattle.present.specs.Steps.Places.{Present}
use Rattle.trying.proofs.Searching.{AllFailed}
use Rattle.trying.proofs.search.search.Given as goal

abbrev pub invariant-loop-without : goal.invariant-loop-without
invariant-loop-without l = (length l.file ≡ file_letters l.nodes.g) × ((here : Present l.nodes.g l.nodes.ids.now l.nodes.packets.now) → AllFailed l.nodes.g l.nodes.ids.now l.nodes.packets.now here l.without)
