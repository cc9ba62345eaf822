-- What a keeper notices.
use Rattle.std.proofs.Common.{◌≡◌, ℕ, ◌+◌, ◌<◌, ◌≤◌, true, false, List, [], ◌∷◌, ◌++◌, length, map, Some, None, refl, sym, ap, ◌∙◌, subst, arith, append_assoc, length-append, inl, inr}
use Rattle.host.proofs.Common.{slice_get, Label, as_label, InsufficientResources, Reply, ManagerView, Event, IsNoAct, call_handle, TraceEntry, AreRowed, entry, row_of, noted, noted_all, owners_after, is_handle_event, AreNoCalls, TracedView, IsServed, log_of, Notice, Minor, Receipt, AreBelow}
use Rattle.machine.specs.declared.Label.TheVariants.{Call, Device, Answer, Cancel, Pause as PauseLabel, Resume, Remove as RemoveLabel, Surprise as SurpriseLabel, Removed as RemovedLabel}
use Rattle.io_manager.specs.declared.Reply.TheVariants.{Ok as OkReply, Refused}
use Rattle.io_manager.specs.Right.{QueryReplies, RemoveReplies, SurpriseReplies, Told, as_answer, end_labels, labels_of}
use Rattle.host.specs.declared.notice.Notice.TheVariants.{Pause, Remove as RemoveNotice, Surprise as SurpriseNotice, Removed}
use Rattle.host.specs.declared.notice.Minor.TheVariants.{QueryRemove, Remove as RemoveDevice, SurpriseRemove}
use Rattle.host.specs.Keepers.{HasNone, HasNoted, HasRemoved, IsNoticed, event_of, is_notice, label_of, notice_of}
use Rattle.host.proofs.Answering.{rowed_at, some_same}
use Rattle.host.proofs.Calling.{get_behind}
use Rattle.host.proofs.Keeping.{below_more}
use Rattle.host.proofs.Quiet.{Still, quiet, rest_calls_none}

-- such a label stands in no row
in_no_row : (notice : Notice) (owners : List ℕ) (e : TraceEntry) → is_notice notice e.label ≡ true → e.row ≡ row_of owners e.label → e ≡ entry (label_of notice) None
in_no_row notice owners e is rowed = go notice e.label is rowed
  where
    go : (n : Notice) (l : Label) → is_notice n l ≡ true → e.row ≡ row_of owners l → entry l e.row ≡ entry (label_of n) None
    go Pause PauseLabel is rowed = ap (entry PauseLabel) rowed
    go RemoveNotice RemoveLabel is rowed = ap (entry RemoveLabel) rowed
    go SurpriseNotice SurpriseLabel is rowed = ap (entry SurpriseLabel) rowed
    go Removed RemovedLabel is rowed = ap (entry RemovedLabel) rowed
    go _ _ is rowed = absurd (cc)

-- a claim on the place where one was found
pub noticed : (notice : Notice) (owners : List ℕ) (es : List TraceEntry) (from place : ℕ) (claim : List Receipt) → AreRowed owners es
    → (from ≤ place) × ((e : TraceEntry) × (slice_get es place ≡ Some e) × (is_notice notice e.label ≡ true)) → (e : TraceEntry) × (slice_get es place ≡ Some e) × (claim ≡ (place, e) ∷ [])
    → IsNoticed from (label_of notice) claim
noticed notice owners es from place claim rowed found claimed =
    let x : TraceEntry = found.1.0 in
    let e : TraceEntry = claimed.0 in
    let same : e ≡ x = some_same (sym claimed.1 ∙ found.1.1) in
    let is : x ≡ entry (label_of notice) None = in_no_row notice owners x found.1.2 (rowed_at owners es place x rowed found.1.1) in
    record { place = place; late = found.0; claim_is = claimed.2 ∙ ap (λ (y : TraceEntry). (place, y) ∷ []) (same ∙ is) }

-- the label that a step tells first stands behind all that was told before
first_stands : (notice : Notice) (label : Label) (rest : List Label) (old mid new : TracedView) (labels : List Label) → is_notice notice label ≡ true → Still old mid → AreNoCalls rest → labels ≡ label ∷ rest
    → new.entries ≡ (noted_all 0 (log_of mid) labels).entries → HasNone notice (length old.entries) new.entries → ⊥
first_stands notice label rest old mid new labels is still calls first noted_is none = apart (sym is ∙ none (length mid.entries + 0) told late at)
  where
    apart : true ≡ false → ⊥
    apart e = absurd (cc)

    told : TraceEntry
    told = entry label (row_of (owners_after 0 mid.owners label) label)

    late : length old.entries ≤ length mid.entries + 0
    late = let l = ap length still.entries ∙ length-append old.entries still.more in omega arith

    at : slice_get new.entries (length mid.entries + 0) ≡ Some told
    at =
        let q = quiet 0 (noted 0 (log_of mid) label) rest calls in
        let entries : new.entries ≡ mid.entries ++ (told ∷ q.more) =
        noted_is ∙ ap (λ ls. (noted_all 0 (log_of mid) ls).entries) first ∙ q.entries ∙ append_assoc mid.entries (told ∷ []) q.more in
        ap (λ es. slice_get es (length mid.entries + 0)) entries ∙ get_behind mid.entries (told ∷ q.more) 0

own_stands : (notice : Notice) (label : Label) (old mid new : TracedView) (stepped : ManagerView) (told : Told) → is_notice notice label ≡ true → Still old mid → stepped.labels ≡ labels_of told → told.own ≡ label ∷ []
    → new.entries ≡ (noted_all 0 (log_of mid) stepped.labels).entries → HasNone notice (length old.entries) new.entries → ⊥
own_stands notice label old mid new stepped told is still order own noted_is none =
    first_stands notice label ((map as_label told.device ++ map as_answer told.answers) ++ end_labels told.ends) old mid new stepped.labels is still (rest_calls_none told)
    (order ∙ ap (λ own. ((own ++ map as_label told.device) ++ map as_answer told.answers) ++ end_labels told.ends) own) noted_is none

not_refused : {A : Type 0} (bytes : List ℕ) (reply : Reply) → reply ≡ OkReply → reply ≡ Refused InsufficientResources bytes → A
not_refused bytes reply ok refused =
    let e : OkReply ≡ Refused InsufficientResources bytes = sym ok ∙ refused in
    absurd (cc)

-- an accepted call of a keeper tells of it behind all that was told before
pub begun_stands : (minor : Minor) (old mid new : TracedView) (reply : Reply) → Still old mid → IsServed 0 mid (event_of minor) reply new → reply ≡ OkReply
    → HasNone (notice_of minor) (length old.entries) new.entries → ⊥
begun_stands QueryRemove old mid new reply still (inl c) ok none =
    let valid = subst (λ (r : Reply). QueryReplies mid.stack r c.stepped c.right.told) ok c.right.replies in
    own_stands Pause PauseLabel old mid new c.stepped c.right.told refl still c.right.by.in_order valid.tells.own c.entries none
begun_stands RemoveDevice old mid new reply still (inl c) ok none =
    let valid = subst (λ (r : Reply). RemoveReplies mid.stack r c.stepped c.right.told) ok c.right.replies in
    own_stands RemoveNotice RemoveLabel old mid new c.stepped c.right.told refl still c.right.by.in_order valid.tells.own c.entries none
begun_stands SurpriseRemove old mid new reply still (inl c) ok none =
    let valid = subst (λ (r : Reply). SurpriseReplies mid.stack r c.stepped c.right.told) ok c.right.replies in
    own_stands SurpriseNotice SurpriseLabel old mid new c.stepped c.right.told refl still c.right.by.in_order valid.tells.own c.entries none
begun_stands QueryRemove old mid new reply still (inr wants) ok none = not_refused [] reply ok wants.replies
begun_stands RemoveDevice old mid new reply still (inr wants) ok none = not_refused [] reply ok wants.replies
begun_stands SurpriseRemove old mid new reply still (inr wants) ok none = not_refused [] reply ok wants.replies

-- such a call is no act, and of no handle
pub is_keepers : (minor : Minor) (event : Event) → event ≡ event_of minor → IsNoAct event × (is_handle_event event ≡ false) × (call_handle event ≡ None)
is_keepers minor event is = subst (λ e. IsNoAct e × (is_handle_event e ≡ false) × (call_handle e ≡ None)) (sym is) (go minor)
  where
    go : (m : Minor) → IsNoAct (event_of m) × (is_handle_event (event_of m) ≡ false) × (call_handle (event_of m) ≡ None)
    go QueryRemove = (tt, refl, refl)
    go _ = (tt, refl, refl)

-- a receipt more
pub noted_one : (label : Label) (from : ℕ) (old claim new : List Receipt) → AreBelow from old → IsNoticed from label claim → new ≡ old ++ claim → HasNoted label old new
noted_one label from old claim new below n is = record {
  place = n.place;
  above = below_more from n.place old below n.late;
  adds = is ∙ ap (λ c. old ++ c) n.claim_is;
}

below_both : (place : ℕ) (rs more : List Receipt) → AreBelow place rs → AreBelow place more → AreBelow place (rs ++ more)
below_both place [] more a b = b
below_both place (r ∷ rs) more a b = (a.0, below_both place rs more a.1 b)

-- all receipts are below a place behind the last
pub below_noted : (from place : ℕ) (old claim new : List Receipt) → AreBelow from old → from ≤ place → AreBelow (place + 1) claim → new ≡ old ++ claim → AreBelow (place + 1) new
below_noted from place old claim new below late one is = subst (AreBelow (place + 1)) (sym is) (below_both (place + 1) old claim (below_more from (place + 1) old below (omega arith)) one)

last_below : (place : ℕ) (rs : List Receipt) (r : Receipt) → AreBelow place (rs ++ r ∷ []) → r.0 < place
last_below place [] r b = b.0
last_below place (x ∷ rs) r b = last_below place rs r b.1

-- a removal, and its end
pub removed_after : (label : Label) (old mid new : List Receipt) → HasNoted label old mid → HasNoted RemovedLabel mid new → HasRemoved label old new
removed_after label old mid new one two = record {
  begun = one.place;
  ended = two.place;
  above = one.above;
  behind = last_below two.place old (one.place, entry label None) (subst (AreBelow two.place) one.adds two.above);
  adds = two.adds ∙ ap (λ rs. rs ++ (two.place, entry RemovedLabel None) ∷ []) one.adds ∙ append_assoc old ((one.place, entry label None) ∷ []) ((two.place, entry RemovedLabel None) ∷ []);
}
