-- What is certain of a sector once requests were answered SUCCESS.
use Rattle.std.proofs.Common.{◌≡◌, ◌<◌, inl, inr, ℕ, ◌+◌, true, List, [], ◌∷◌, refl, sym, ap, subst, ◌∙◌, arith, Bool, true, false}
use Rattle.std.specs.Prelude.{if◌then◌else◌}
use Rattle.std.proofs.lemmas.Bool.Decides.{eqb_tells}
use Rattle.std.proofs.lemmas.List.Elements.{All-contains}
use Rattle.srb.specs.declared.Kind.{Kind}
use Rattle.srb.specs.declared.Kind.TheVariants.{Write, Flush}
use Rattle.srb.specs.Fate.{is_fresh}
use Rattle.srb.specs.declared.Class.TheVariants.{Good, Busy, Bad}
use Rattle.srb.specs.declared.DeviceLabel.TheVariants.{Start, Act, Fault, Return}
use Rattle.machine.specs.declared.ClientRequest.{ClientRequest}
use Rattle.machine.specs.declared.Label.{Label}
use Rattle.machine.specs.declared.Label.TheVariants.{Call, Device, Answer, Cancel, Pause, Resume, Remove, Surprise, Removed}
use Rattle.machine.specs.Rules.{Rules, place_count}
use Rattle.machine.specs.State.{Piece, State}
use Rattle.machine_laws.proofs.Serving.{IsMine}
use Rattle.loss.specs.Held.{Change, Puts, Secures, Tries, Syncs, Doubts, Held, act_changes, changed_by, fault_changes, return_changes}
use Rattle.loss.specs.Moved.{ActsOn, Moves, Table, TableRun, work_of}
use Rattle.loss.specs.Sessions.{MayBeLeft}
use Rattle.loss.specs.Laws.{AtWork, Brings, BringsSurely, Changes, Each, GivesOnly, Is, LeavesOnly, Meanwhile, OthersAway, Succeeds, Throughout, sector_of, value_for}
use Rattle.loss.proofs.Along.{gives_along, leaves_after, leaves_along, move_keeps, reached_before}
use Rattle.loss.proofs.Places.{IsAt, act_brings, at_place, each_nothing, fault_brings, flush_leaves, own_value, through_leaves, write_gives}
use Rattle.loss.proofs.Sectors.{IsDue, due_of_before, keeps_due}
use Rattle.loss.proofs.Succeeding.{IsServed, ShowAll, ShowsHere, Shows, called_served, goal_met, served_step}

-- what brings such a value and no doubt brings such a value
sure_brings : (Such : List ℕ → Type 0) (change : Change) → BringsSurely Such change → Brings Such change
sure_brings Such (Puts value) brings = brings
sure_brings Such (Secures value) brings = brings
sure_brings Such (Tries value) brings = brings
sure_brings Such (Syncs number) brings = tt
sure_brings Such Doubts brings = tt

each_brings : (Such : List ℕ → Type 0) (changes : List Change) → Each (BringsSurely Such) changes → Each (Brings Such) changes
each_brings Such [] each = tt
each_brings Such (change ∷ changes) each = (sure_brings Such change each.0, each_brings Such changes each.1)

module _ (rules : Rules) (i : ℕ) (Such : List ℕ → Type 0) where
  label_brings : (s : State) (label : Label) → Changes rules i (BringsSurely Such) s label → Changes rules i (Brings Such) s label
  label_brings s (Device (Act number bytes)) brings = λ piece owner out. each_brings Such (act_changes rules.sector_size number (work_of rules owner.request piece.places) i) (brings piece owner out)
  label_brings s (Device (Fault number)) brings = λ piece owner out. each_brings Such (fault_changes rules.sector_size (work_of rules owner.request piece.places) i) (brings piece owner out)
  label_brings s (Device (Start number tag block)) brings = tt
  label_brings s (Device (Return number (Bad completion))) brings = λ piece owner out.
      each_brings Such (return_changes rules.sector_size piece.fate (work_of rules owner.request piece.places) i) (brings piece owner out)
  label_brings s (Device (Return number Good)) brings = tt
  label_brings s (Device (Return number Busy)) brings = tt
  label_brings s (Call number q) brings = tt
  label_brings s (Answer number status informed bytes) brings = tt
  label_brings s (Cancel number) brings = tt
  label_brings s Pause brings = tt
  label_brings s Resume brings = tt
  label_brings s Remove brings = tt
  label_brings s Surprise brings = tt
  label_brings s Removed brings = tt

  run_brings : (s : State) (t : Table) (labels : List Label) (s' : State) (t' : Table) (run : TableRun rules s t labels s' t') → Throughout (Changes rules i (BringsSurely Such)) rules s t labels s' t' run
      → Throughout (Changes rules i (Brings Such)) rules s t labels s' t' run
  run_brings s t [] s' t' run brings = tt
  run_brings s t (label ∷ labels) s' t' run brings = (label_brings s label brings.0, run_brings run.0 run.1 labels s' t' run.4 brings.1)

-- WRITES

module _ (rules : Rules) (number : ℕ) (q : ClientRequest) (first place : ℕ) (is_write : q.kind ≡ Write) (end : Table) where
  abbrev i : ℕ
  i = sector_of rules q place

  abbrev value : List ℕ
  value = value_for rules q place

  abbrev ReadGoal : ℕ → Type 0
  ReadGoal k = k ≡ place → GivesOnly (Is value) (end i)

  abbrev LeftGoal : ℕ → Type 0
  LeftGoal k = k ≡ place → LeavesOnly (Is value) (end i)

  act_gives : (s : State) (n : ℕ) (bytes : List ℕ) (t t' : Table) (m : ActsOn rules s n bytes t t') → m.owner.request ≡ q → (j : ℕ) → j < m.piece.places.count → m.piece.places.first + j ≡ place → GivesOnly (Is value) (t' i)
  act_gives s n bytes t t' m request_is j low same =
      let at : IsAt rules q m.piece.places place = at_place rules q m.piece.places place j (sym same) low in
      subst (λ (h : Held). GivesOnly (Is value) h) (sym (m.after i))
      (subst (λ (r : ClientRequest). GivesOnly (Is value) (changed_by s.next_piece (act_changes rules.sector_size n (work_of rules r m.piece.places) i) (t i))) (sym request_is)
      (write_gives (Is value) rules.sector_size s.next_piece n (work_of rules q m.piece.places) i (t i) is_write at.there at.value))

  read_here : (s : State) (label : Label) (t t' : Table) (m : Moves rules s label t t') → (GivesOnly (Is value) (t' i) → GivesOnly (Is value) (end i)) → ShowsHere rules number q first ReadGoal s label t t' m
  read_here s (Device (Act n bytes)) t t' m onwards = λ late request_is j low same. onwards (act_gives s n bytes t t' m request_is j low same)
  read_here s (Device (Start n tag block)) t t' m onwards = tt
  read_here s (Device (Fault n)) t t' m onwards = tt
  read_here s (Device (Return n class)) t t' m onwards = tt
  read_here s (Call n r) t t' m onwards = tt
  read_here s (Answer n status informed bytes) t t' m onwards = tt
  read_here s (Cancel n) t t' m onwards = tt
  read_here s Pause t t' m onwards = tt
  read_here s Resume t t' m onwards = tt
  read_here s Remove t t' m onwards = tt
  read_here s Surprise t t' m onwards = tt
  read_here s Removed t t' m onwards = tt

  read_all : (s : State) (t : Table) (labels : List Label) (s' : State) (run : TableRun rules s t labels s' end) → Throughout (Changes rules i (BringsSurely (Is value))) rules s t labels s' end run
      → ShowAll rules number q first ReadGoal s t labels s' end run
  read_all s t [] s' run brings = tt
  read_all s t (label ∷ labels) s' run brings =
      (read_here s label t run.1 run.3 (λ all. gives_along rules i (Is value) run.0 run.1 labels s' end run.4 brings.1 all), read_all run.0 run.1 labels s' run.4 brings.1)

  act_leaves : (through : q.through ≡ true) (s : State) (n : ℕ) (bytes : List ℕ) (t t' : Table) (m : ActsOn rules s n bytes t t') → m.owner.request ≡ q → (j : ℕ) → j < m.piece.places.count → m.piece.places.first + j ≡ place
      → LeavesOnly (Is value) (t' i)
  act_leaves through s n bytes t t' m request_is j low same =
      let at : IsAt rules q m.piece.places place = at_place rules q m.piece.places place j (sym same) low in
      subst (λ (h : Held). LeavesOnly (Is value) h) (sym (m.after i))
      (subst (λ (r : ClientRequest). LeavesOnly (Is value) (changed_by s.next_piece (act_changes rules.sector_size n (work_of rules r m.piece.places) i) (t i))) (sym request_is)
      (through_leaves (Is value) rules.sector_size s.next_piece n (work_of rules q m.piece.places) i (t i) is_write through at.there at.value))

  left_here : (through : q.through ≡ true) (s : State) (label : Label) (t t' : Table) (m : Moves rules s label t t') → (LeavesOnly (Is value) (t' i) → LeavesOnly (Is value) (end i)) → ShowsHere rules number q first LeftGoal s label t t' m
  left_here through s (Device (Act n bytes)) t t' m onwards = λ late request_is j low same. onwards (act_leaves through s n bytes t t' m request_is j low same)
  left_here through s (Device (Start n tag block)) t t' m onwards = tt
  left_here through s (Device (Fault n)) t t' m onwards = tt
  left_here through s (Device (Return n class)) t t' m onwards = tt
  left_here through s (Call n r) t t' m onwards = tt
  left_here through s (Answer n status informed bytes) t t' m onwards = tt
  left_here through s (Cancel n) t t' m onwards = tt
  left_here through s Pause t t' m onwards = tt
  left_here through s Resume t t' m onwards = tt
  left_here through s Remove t t' m onwards = tt
  left_here through s Surprise t t' m onwards = tt
  left_here through s Removed t t' m onwards = tt

  left_all : (through : q.through ≡ true) (s : State) (t : Table) (labels : List Label) (s' : State) (run : TableRun rules s t labels s' end) → Throughout (Changes rules i (Brings (Is value))) rules s t labels s' end run
      → ShowAll rules number q first LeftGoal s t labels s' end run
  left_all through s t [] s' run brings = tt
  left_all through s t (label ∷ labels) s' run brings =
      (left_here through s label t run.1 run.3 (λ all. leaves_along rules i (Is value) run.0 run.1 labels s' end run.4 brings.1 all), left_all through run.0 run.1 labels s' run.4 brings.1)

pub success_is_read : (rules : Rules) (number : ℕ) (q : ClientRequest) (place : ℕ) (before : State) (t : Table) (ended : State) (t' : Table) (h : Succeeds rules number q before t ended t')
    → q.kind ≡ Write → place < place_count rules q
    → Meanwhile (BringsSurely (Is (value_for rules q place))) rules number q (sector_of rules q place) before t ended t' h
    → GivesOnly (Is (value_for rules q place)) (t' (sector_of rules q place))
success_is_read rules number q place before t ended t' h is_write low brings =
    goal_met rules number q before t ended t' h (ReadGoal rules number q before.next_piece place is_write t')
    (read_all rules number q before.next_piece place is_write t' h.called t h.labels ended h.run brings) place low refl

pub through_is_left : (rules : Rules) (number : ℕ) (q : ClientRequest) (place : ℕ) (before : State) (t : Table) (ended : State) (t' : Table) (h : Succeeds rules number q before t ended t')
    → q.kind ≡ Write → q.through ≡ true → place < place_count rules q
    → Meanwhile (Brings (Is (value_for rules q place))) rules number q (sector_of rules q place) before t ended t' h
    → LeavesOnly (Is (value_for rules q place)) (t' (sector_of rules q place))
through_is_left rules number q place before t ended t' h is_write through low brings =
    goal_met rules number q before t ended t' h (LeftGoal rules number q before.next_piece place is_write t')
    (left_all rules number q before.next_piece place is_write t' through h.called t h.labels ended h.run brings) place low refl

-- A FLUSH

module _ (rules : Rules) (number : ℕ) (f : ClientRequest) (first at : ℕ) (bytes : List ℕ) (is_flush : f.kind ≡ Flush) (end : Table) where
  abbrev FlushGoal : ℕ → Type 0
  FlushGoal k = LeavesOnly (Is bytes) (end at)

  flush_here : (s : State) (label : Label) (t t' : Table) (m : Moves rules s label t t') → IsDue (Is bytes) first (t at) → (LeavesOnly (Is bytes) (t' at) → LeavesOnly (Is bytes) (end at))
      → ShowsHere rules number f first FlushGoal s label t t' m
  flush_here s (Device (Act n handed)) t t' m due onwards = λ late request_is j low.
      onwards (subst (λ (h : Held). LeavesOnly (Is bytes) h) (sym (m.after at))
      (flush_leaves (Is bytes) rules.sector_size s.next_piece n (work_of rules m.owner.request m.piece.places) at (t at) first
      (ap (λ (r : ClientRequest). r.kind) request_is ∙ is_flush) late due))
  flush_here s (Device (Start n tag block)) t t' m due onwards = tt
  flush_here s (Device (Fault n)) t t' m due onwards = tt
  flush_here s (Device (Return n class)) t t' m due onwards = tt
  flush_here s (Call n r) t t' m due onwards = tt
  flush_here s (Answer n status informed given) t t' m due onwards = tt
  flush_here s (Cancel n) t t' m due onwards = tt
  flush_here s Pause t t' m due onwards = tt
  flush_here s Resume t t' m due onwards = tt
  flush_here s Remove t t' m due onwards = tt
  flush_here s Surprise t t' m due onwards = tt
  flush_here s Removed t t' m due onwards = tt

  due_step : (s : State) (label : Label) (t t' : Table) → Moves rules s label t t' → Changes rules at (BringsSurely (Is bytes)) s label → IsDue (Is bytes) first (t at) → IsDue (Is bytes) first (t' at)
  due_step = move_keeps rules at (BringsSurely (Is bytes)) (λ next h. IsDue (Is bytes) first h) (λ next c h brings due. keeps_due (Is bytes) first next c h brings due) (λ next more h low due. due)

  flush_all : (s : State) (t : Table) (labels : List Label) (s' : State) (run : TableRun rules s t labels s' end) → IsDue (Is bytes) first (t at)
      → Throughout (Changes rules at (BringsSurely (Is bytes))) rules s t labels s' end run → ShowAll rules number f first FlushGoal s t labels s' end run
  flush_all s t [] s' run due brings = tt
  flush_all s t (label ∷ labels) s' run due brings = (
    flush_here s label t run.1 run.3 due
        (λ all. leaves_along rules at (Is bytes) run.0 run.1 labels s' end run.4 (run_brings rules at (Is bytes) run.0 run.1 labels s' end run.4 brings.1) all),
    flush_all run.0 run.1 labels s' run.4 (due_step s label t run.1 run.3 brings.0 due) brings.1,
  )

pub flush_is_left : (rules : Rules) (number : ℕ) (q : ClientRequest) (i : ℕ) (value : List ℕ) (before : State) (t : Table) (ended : State) (t' : Table) (h : Succeeds rules number q before t ended t')
    → q.kind ≡ Flush → GivesOnly (Is value) (t i)
    → Meanwhile (BringsSurely (Is value)) rules number q i before t ended t' h
    → LeavesOnly (Is value) (t' i)
flush_is_left rules number q i value before t ended t' h is_flush gives brings =
    let due : IsDue (Is value) before.next_piece (t i) =
    record { gives = gives; older = due_of_before (Is value) before.next_piece (t i).older (reached_before rules before t i h.reached) } in
    goal_met rules number q before t ended t' h (FlushGoal rules number q before.next_piece i value is_flush t')
    (flush_all rules number q before.next_piece i value is_flush t' h.called t h.labels ended h.run due brings) 0
    (subst (λ (n : ℕ). 0 < n) (sym (counted q.kind is_flush)) (omega arith))
  where
    counted : (kind : Kind) → q.kind ≡ Flush → place_count rules q ≡ 1
    counted kind e = rw e refl

-- THE WHOLE

pub success_is_left : (rules : Rules) (number : ℕ) (q : ClientRequest) (place : ℕ) (s0 : State) (t0 : Table) (s1 : State) (t1 : Table) (write : Succeeds rules number q s0 t0 s1 t1)
    (labels : List Label) (s2 : State) (t2 : Table) (between : TableRun rules s1 t1 labels s2 t2)
    (flush : ℕ) (f : ClientRequest) (s3 : State) (t3 : Table) (flushed : Succeeds rules flush f s2 t2 s3 t3)
    (labels' : List Label) (s4 : State) (t4 : Table) (later : TableRun rules s3 t3 labels' s4 t4) (after : List ℕ)
    → q.kind ≡ Write → place < place_count rules q → f.kind ≡ Flush
    → Meanwhile (BringsSurely (Is (value_for rules q place))) rules number q (sector_of rules q place) s0 t0 s1 t1 write
    → Throughout (Changes rules (sector_of rules q place) (BringsSurely (Is (value_for rules q place)))) rules s1 t1 labels s2 t2 between
    → Meanwhile (BringsSurely (Is (value_for rules q place))) rules flush f (sector_of rules q place) s2 t2 s3 t3 flushed
    → Throughout (Changes rules (sector_of rules q place) (Brings (Is (value_for rules q place)))) rules s3 t3 labels' s4 t4 later
    → AtWork rules (sector_of rules q place) (Is (value_for rules q place)) s4
    → MayBeLeft rules s4 t4 (sector_of rules q place) after → after ≡ value_for rules q place
success_is_left rules number q place s0 t0 s1 t1 write labels s2 t2 between flush f s3 t3 flushed labels' s4 t4 later after is_write low is_flush alone alone1 alone2 alone3 at_work may =
    let at : ℕ = sector_of rules q place in
    let value : List ℕ = value_for rules q place in
    let read : GivesOnly (Is value) (t1 at) = success_is_read rules number q place s0 t0 s1 t1 write is_write low alone in
    let still : GivesOnly (Is value) (t2 at) = gives_along rules at (Is value) s1 t1 labels s2 t2 between alone1 read in
    let certain : LeavesOnly (Is value) (t3 at) = flush_is_left rules flush f at value s2 t2 s3 t3 flushed is_flush still alone2 in
    leaves_after rules at (Is value) s4 t4 after (leaves_along rules at (Is value) s3 t3 labels' s4 t4 later alone3 certain) at_work may

-- NO OTHER WRITE

module _ (rules : Rules) (number : ℕ) (q : ClientRequest) (first place : ℕ) where
  abbrev Any : ℕ → Type 0
  Any k = Unit {0}

  abbrev IsOwn : List ℕ → Type 0
  IsOwn v = v ≡ value_for rules q place

  own_act : (r : ClientRequest) (n : ℕ) (piece : Piece) → r ≡ q → Each (Brings IsOwn) (act_changes rules.sector_size n (work_of rules r piece.places) (sector_of rules q place))
  own_act r n piece e =
      subst (λ (x : ClientRequest). Each (Brings IsOwn) (act_changes rules.sector_size n (work_of rules x piece.places) (sector_of rules q place))) (sym e)
      (act_brings IsOwn rules.sector_size (work_of rules q piece.places) (sector_of rules q place) (own_value rules q piece.places place) n)

  own_fault : (r : ClientRequest) (piece : Piece) → r ≡ q → Each (Brings IsOwn) (fault_changes rules.sector_size (work_of rules r piece.places) (sector_of rules q place))
  own_fault r piece e =
      subst (λ (x : ClientRequest). Each (Brings IsOwn) (fault_changes rules.sector_size (work_of rules x piece.places) (sector_of rules q place))) (sym e)
      (fault_brings IsOwn rules.sector_size (work_of rules q piece.places) (sector_of rules q place) (own_value rules q piece.places place))

  own_return : (r : ClientRequest) (piece : Piece) → r ≡ q → Each (Brings IsOwn) (return_changes rules.sector_size piece.fate (work_of rules r piece.places) (sector_of rules q place))
  own_return r piece e = by_fate (is_fresh piece.fate) (own_fault r piece e)
    where
      by_fate : (b : Bool) → Each (Brings IsOwn) (fault_changes rules.sector_size (work_of rules r piece.places) (sector_of rules q place))
          → Each (Brings IsOwn) (if b then fault_changes rules.sector_size (work_of rules r piece.places) (sector_of rules q place) else [])
      by_fate true brings = brings
      by_fate false brings = tt

  brings_label : (s : State) (label : Label) → IsServed rules number q first Any s → OthersAway rules (sector_of rules q place) number s label → Changes rules (sector_of rules q place) (Brings IsOwn) s label
  brings_label s (Device (Act n bytes)) k away = λ piece owner out.
      elim (eqb_tells owner.number number) [
        | inl same ↦ own_act owner.request n piece (All-contains (IsMine number q (Shows rules number q first Any s.arrays)) s.requests owner k.serves.mine out.is_open same.1).request
        | inr other ↦ each_nothing IsOwn (act_changes rules.sector_size n (work_of rules owner.request piece.places) (sector_of rules q place)) (away piece owner out other.1)
      ]
  brings_label s (Device (Fault n)) k away = λ piece owner out.
      elim (eqb_tells owner.number number) [
        | inl same ↦ own_fault owner.request piece (All-contains (IsMine number q (Shows rules number q first Any s.arrays)) s.requests owner k.serves.mine out.is_open same.1).request
        | inr other ↦ each_nothing IsOwn (fault_changes rules.sector_size (work_of rules owner.request piece.places) (sector_of rules q place)) (away piece owner out other.1)
      ]
  brings_label s (Device (Start n tag block)) k away = tt
  brings_label s (Device (Return n (Bad completion))) k away = λ piece owner out.
      elim (eqb_tells owner.number number) [
        | inl same ↦ own_return owner.request piece (All-contains (IsMine number q (Shows rules number q first Any s.arrays)) s.requests owner k.serves.mine out.is_open same.1).request
        | inr other ↦ each_nothing IsOwn (return_changes rules.sector_size piece.fate (work_of rules owner.request piece.places) (sector_of rules q place)) (away piece owner out other.1)
      ]
  brings_label s (Device (Return n Good)) k away = tt
  brings_label s (Device (Return n Busy)) k away = tt
  brings_label s (Call n r) k away = tt
  brings_label s (Answer n status informed bytes) k away = tt
  brings_label s (Cancel n) k away = tt
  brings_label s Pause k away = tt
  brings_label s Resume k away = tt
  brings_label s Remove k away = tt
  brings_label s Surprise k away = tt
  brings_label s Removed k away = tt

  any_here : (s : State) (label : Label) (t t' : Table) (m : Moves rules s label t t') → ShowsHere rules number q first Any s label t t' m
  any_here s (Device (Act n bytes)) t t' m = λ late same j low. tt
  any_here s (Device (Start n tag block)) t t' m = tt
  any_here s (Device (Fault n)) t t' m = tt
  any_here s (Device (Return n class)) t t' m = tt
  any_here s (Call n r) t t' m = tt
  any_here s (Answer n status informed bytes) t t' m = tt
  any_here s (Cancel n) t t' m = tt
  any_here s Pause t t' m = tt
  any_here s Resume t t' m = tt
  any_here s Remove t t' m = tt
  any_here s Surprise t t' m = tt
  any_here s Removed t t' m = tt

  brings_run : (s : State) (t : Table) (labels : List Label) (s' : State) (t' : Table) (run : TableRun rules s t labels s' t') → IsServed rules number q first Any s
      → Throughout (OthersAway rules (sector_of rules q place) number) rules s t labels s' t' run
      → Throughout (Changes rules (sector_of rules q place) (Brings IsOwn)) rules s t labels s' t' run
  brings_run s t [] s' t' run k away = tt
  brings_run s t (label ∷ labels) s' t' run k away =
      (brings_label s label k away.0, brings_run run.0 run.1 labels s' t' run.4 (served_step rules number q first Any s t label labels s' t' run k (any_here s label t run.1 run.3)) away.1)

pub own_is_brought : (rules : Rules) (number : ℕ) (q : ClientRequest) (place : ℕ) (before : State) (t : Table) (ended : State) (t' : Table) (h : Succeeds rules number q before t ended t')
    → q.kind ≡ Write → Throughout (OthersAway rules (sector_of rules q place) number) rules h.called t h.labels ended t' h.run
    → Meanwhile (Brings (Is (value_for rules q place))) rules number q (sector_of rules q place) before t ended t' h
own_is_brought rules number q place before t ended t' h is_write away =
    brings_run rules number q before.next_piece place h.called t h.labels ended t' h.run
    (called_served rules number q before t ended t' h (Any rules number q before.next_piece place)) away
