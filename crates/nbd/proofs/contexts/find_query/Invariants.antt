use Rattle.std.proofs.Common.{◌≡◌, option_map}
use Rattle.std.specs.List.{list_any}
use Rattle.nbd.specs.Contexts.{is_query_for, texts_in}
use Rattle.nbd.proofs.Querying.{asked_after}
use Rattle.nbd.proofs.contexts.find_query.Given as goal

abbrev pub invariant-loop-left : goal.invariant-loop-left
invariant-loop-left l =
    asked_after l.found (is_query_for l.chooses) (texts_in l.left l.rest) ≡ option_map (list_any (is_query_for l.chooses)) (texts_in l.count l.bytes)

abbrev pub decreases-loop-left : goal.decreases-loop-left
decreases-loop-left l = l.left
