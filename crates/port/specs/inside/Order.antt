-- The order of a list of rooms says nothing.
use Rattle.std.proofs.Common.{List, arith}
use Rattle.std.specs.List.Sorted.{IsPermutation}
use Rattle.std.proofs.lemmas.List.Sorted.{length_permutation, All-permutation}
use Rattle.adapter.specs.View.{AdapterView}
use Rattle.machine.specs.declared.Request.{Request}
use Rattle.port.specs.inside.TableView.{TableView}
use Rattle.port.specs.Shown.{rules_of}
use Rattle.port.specs.inside.Invariant.{PortKept, IsInHand, IsRoom}

pub kept_any_order : (b : TableView) (v : AdapterView) (some others : List Request) → IsPermutation some others → PortKept b v some → PortKept b v others
kept_any_order b v some others same h = record {
  adapter = h.adapter;
  sizes = h.sizes;
  started = h.started;
  waiting = h.waiting;
  in_turn = h.in_turn;
  at_work = h.at_work;
  ended = h.ended;
  reserved = h.reserved;
  rooms_out = All-permutation (IsRoom (rules_of b.sizes) v) _ _ same h.rooms_out;
  spots = h.spots;
  taken = h.taken;
  removing = h.removing;
  distinct = h.distinct;
  places = let a = length_permutation _ _ same in let c = h.places in omega arith;
  submitted = h.submitted;
  accepted = h.accepted;
  numbered = h.numbered;
  labels = h.labels;
}

pub any_order_lem : (b : TableView) (v : AdapterView) (some others : List Request) → IsPermutation some others → IsInHand b v some → IsInHand b v others
any_order_lem b v some others same h = record { kept = kept_any_order b v some others same h.kept; busy = h.busy; orderly = h.orderly }
