-- The marks of a history: what they show in full, and that they are in order.
use Rattle.std.proofs.Common.{◌≡◌, ℕ, ◌==◌, ◌||◌, Bool, true, false, List, [], ◌∷◌, ◌++◌, Option, Some, None, refl, sym, ◌∙◌, ap, subst, map, append_assoc}
use Rattle.std.specs.Prelude.{if◌then◌else◌}
use Rattle.ntstatus.specs.declared.NtStatus.{NtStatus}
use Rattle.ntstatus.specs.declared.NtStatus.TheVariants.{Success}
use Rattle.srb.specs.declared.Kind.{Kind}
use Rattle.srb.specs.declared.Kind.TheVariants.{Read, Write, Flush}
use Rattle.machine.specs.declared.Label.{Label}
use Rattle.machine.specs.declared.Label.TheVariants.{Call, Device, Answer, Cancel, Pause, Resume, Remove, Surprise, Removed}
use Rattle.machine.specs.Rules.{Rules}
use Rattle.loss.specs.Sessions.{Line, Told, Lost, Ended}
use Rattle.register_loss.specs.declared.What.{What}
use Rattle.register_loss.specs.declared.What.TheVariants.{Sync, Flush as Flushes}
use Rattle.register_loss.specs.declared.Sight.{Sight}
use Rattle.register_loss.specs.declared.Sight.TheVariants.{Call as CallSight, Elsewhere, Lost as LostSight, Ended as EndedSight}
use Rattle.history_loss_sights.specs.Sights.{end_of, moves_of, sights_of, success_bytes, success_of, syncs}
use Rattle.history_loss_shown.specs.Steady.{steady_sights_of, steady_syncs}
use Rattle.history_loss_kept.specs.Kept.{is_success, step}
use Rattle.history_loss_kept.proofs.Marks.{AreSecured, Begins, Called, Ends, Flushed, Mark, Other, Secured, end_sight, full, last_sight, will_be_done}
use Rattle.history_loss_kept.proofs.Items.{Item, answered, any_own, any_sync, call_items, session_answered, session_called, session_of}
use Rattle.history_loss_kept.proofs.Dues.{end_good, sync_marks}

module _ (code : List ℕ → ℕ) (rules : Rules) (i : ℕ) where
  abbrev pub after : List Item → Label → List Item
  after its (Call n q) = its ++ call_items code rules i n q
  after its (Answer n status informed bytes) = answered code rules n (success_bytes status bytes) status its
  after its _ = its

  pub session_step : (its : List Item) (label : Label) → session_of (after its label) ≡ step code rules i (session_of its) label
  session_step its (Call n q) = session_called code rules i n q its
  session_step its (Answer n status informed bytes) = session_answered code rules n (success_bytes status bytes) status its
  session_step its (Device label) = refl
  session_step its (Cancel n) = refl
  session_step its Pause = refl
  session_step its Resume = refl
  session_step its Remove = refl
  session_step its Surprise = refl
  session_step its Removed = refl

  abbrev pub keeps : ℕ → Option (List ℕ) → List Item → Bool
  keeps n bytes its = any_sync code rules n bytes its || any_own code rules n bytes its

  abbrev pub label_marks : Bool → List Item → Label → List Line → List Mark
  label_marks all its (Call n q) lines = sync_marks all n q.kind q.through (success_of n lines) ++ map (Called n) (moves_of code rules i q (success_of n lines))
  label_marks all its (Answer n status informed bytes) lines = Ends (keeps n (success_bytes status bytes) its) n (is_success status) ∷ []
  label_marks all its _ lines = []

  abbrev pub marks_of : Bool → List Item → List Line → List Mark
  marks_of all its [] = []
  marks_of all its (Lost ∷ lines) = Begins true ∷ marks_of all [] lines
  marks_of all its (Ended ∷ lines) = Begins false ∷ marks_of all [] lines
  marks_of all its (Told label ∷ lines) = label_marks all its label lines ++ marks_of all (after its label) lines

-- WHAT THEY SHOW

full_append : (xs ys : List Mark) → full (xs ++ ys) ≡ full xs ++ full ys
full_append [] ys = refl
full_append (Other n ∷ xs) ys = ap (λ zs. Elsewhere n ∷ zs) (full_append xs ys)
full_append (Secured n ∷ xs) ys = ap (λ zs. CallSight n Sync ∷ zs) (full_append xs ys)
full_append (Called n what ∷ xs) ys = ap (λ zs. CallSight n what ∷ zs) (full_append xs ys)
full_append (Flushed n ∷ xs) ys = ap (λ zs. Elsewhere n ∷ CallSight n Flushes ∷ zs) (full_append xs ys)
full_append (Ends keeps n good ∷ xs) ys = ap (λ zs. end_sight good n ∷ zs) (full_append xs ys)
full_append (Begins lost ∷ xs) ys = ap (λ zs. last_sight lost ∷ zs) (full_append xs ys)

full_calls : (n : ℕ) (ws : List What) → full (map (Called n) ws) ≡ map (CallSight n) ws
full_calls n [] = refl
full_calls n (w ∷ ws) = ap (λ zs. CallSight n w ∷ zs) (full_calls n ws)

full_all : (n : ℕ) (kind : Kind) (through : Bool) (answer : Option (List ℕ)) (ws : List What) → full (sync_marks true n kind through answer ++ map (Called n) ws) ≡ Elsewhere n ∷ map (CallSight n) (syncs through kind ++ ws)
full_all n Read through answer ws = ap (λ zs. Elsewhere n ∷ zs) (full_calls n ws)
full_all n Write false answer ws = ap (λ zs. Elsewhere n ∷ zs) (full_calls n ws)
full_all n Write true (Some bytes) ws = ap (λ zs. Elsewhere n ∷ CallSight n Sync ∷ zs) (full_calls n ws)
full_all n Write true None ws = ap (λ zs. Elsewhere n ∷ CallSight n Sync ∷ zs) (full_calls n ws)
full_all n Flush through (Some bytes) ws = ap (λ zs. Elsewhere n ∷ CallSight n Flushes ∷ zs) (full_calls n ws)
full_all n Flush through None ws = ap (λ zs. Elsewhere n ∷ CallSight n Flushes ∷ zs) (full_calls n ws)

full_steady : (n : ℕ) (kind : Kind) (through : Bool) (answer : Option (List ℕ)) (ws : List What)
    → full (sync_marks false n kind through answer ++ map (Called n) ws) ≡ Elsewhere n ∷ map (CallSight n) (steady_syncs through kind answer ++ ws)
full_steady n Read through None ws = ap (λ zs. Elsewhere n ∷ zs) (full_calls n ws)
full_steady n Read through (Some bytes) ws = ap (λ zs. Elsewhere n ∷ zs) (full_calls n ws)
full_steady n Write false None ws = ap (λ zs. Elsewhere n ∷ zs) (full_calls n ws)
full_steady n Write false (Some bytes) ws = ap (λ zs. Elsewhere n ∷ zs) (full_calls n ws)
full_steady n Write true (Some bytes) ws = ap (λ zs. Elsewhere n ∷ CallSight n Sync ∷ zs) (full_calls n ws)
full_steady n Write true None ws = ap (λ zs. Elsewhere n ∷ zs) (full_calls n ws)
full_steady n Flush through (Some bytes) ws = ap (λ zs. Elsewhere n ∷ CallSight n Flushes ∷ zs) (full_calls n ws)
full_steady n Flush through None ws = ap (λ zs. Elsewhere n ∷ zs) (full_calls n ws)

module _ (code : List ℕ → ℕ) (rules : Rules) (i : ℕ) where
  full_label : (ms rest : List Mark) (xs ys : List Sight) → full ms ≡ xs → full rest ≡ ys → full (ms ++ rest) ≡ xs ++ ys
  full_label ms rest xs ys e f = full_append ms rest ∙ ap (λ x. x ++ full rest) e ∙ ap (λ y. xs ++ y) f

  pub shows_all : (its : List Item) (lines : List Line) → full (marks_of code rules i true its lines) ≡ sights_of code rules i lines
  shows_all its [] = refl
  shows_all its (Lost ∷ lines) = ap (λ zs. LostSight ∷ zs) (shows_all [] lines)
  shows_all its (Ended ∷ lines) = ap (λ zs. EndedSight ∷ zs) (shows_all [] lines)
  shows_all its (Told (Call n q) ∷ lines) =
      full_label (label_marks code rules i true its (Call n q) lines) (marks_of code rules i true (after code rules i its (Call n q)) lines)
      (Elsewhere n ∷ map (CallSight n) (syncs q.through q.kind ++ moves_of code rules i q (success_of n lines))) (sights_of code rules i lines)
      (full_all n q.kind q.through (success_of n lines) (moves_of code rules i q (success_of n lines))) (shows_all (after code rules i its (Call n q)) lines)
  shows_all its (Told (Answer n status informed bytes) ∷ lines) =
      full_label (label_marks code rules i true its (Answer n status informed bytes) lines) (marks_of code rules i true (after code rules i its (Answer n status informed bytes)) lines)
      (end_of n status ∷ []) (sights_of code rules i lines) (ap (λ x. x ∷ []) (end_good n status)) (shows_all (after code rules i its (Answer n status informed bytes)) lines)
  shows_all its (Told (Device label) ∷ lines) = shows_all its lines
  shows_all its (Told (Cancel n) ∷ lines) = shows_all its lines
  shows_all its (Told Pause ∷ lines) = shows_all its lines
  shows_all its (Told Resume ∷ lines) = shows_all its lines
  shows_all its (Told Remove ∷ lines) = shows_all its lines
  shows_all its (Told Surprise ∷ lines) = shows_all its lines
  shows_all its (Told Removed ∷ lines) = shows_all its lines

  pub shows_steady : (its : List Item) (lines : List Line) → full (marks_of code rules i false its lines) ≡ steady_sights_of code rules i lines
  shows_steady its [] = refl
  shows_steady its (Lost ∷ lines) = ap (λ zs. LostSight ∷ zs) (shows_steady [] lines)
  shows_steady its (Ended ∷ lines) = ap (λ zs. EndedSight ∷ zs) (shows_steady [] lines)
  shows_steady its (Told (Call n q) ∷ lines) =
      full_label (label_marks code rules i false its (Call n q) lines) (marks_of code rules i false (after code rules i its (Call n q)) lines)
      (Elsewhere n ∷ map (CallSight n) (steady_syncs q.through q.kind (success_of n lines) ++ moves_of code rules i q (success_of n lines))) (steady_sights_of code rules i lines)
      (full_steady n q.kind q.through (success_of n lines) (moves_of code rules i q (success_of n lines))) (shows_steady (after code rules i its (Call n q)) lines)
  shows_steady its (Told (Answer n status informed bytes) ∷ lines) =
      full_label (label_marks code rules i false its (Answer n status informed bytes) lines) (marks_of code rules i false (after code rules i its (Answer n status informed bytes)) lines)
      (end_of n status ∷ []) (steady_sights_of code rules i lines) (ap (λ x. x ∷ []) (end_good n status)) (shows_steady (after code rules i its (Answer n status informed bytes)) lines)
  shows_steady its (Told (Device label) ∷ lines) = shows_steady its lines
  shows_steady its (Told (Cancel n) ∷ lines) = shows_steady its lines
  shows_steady its (Told Pause ∷ lines) = shows_steady its lines
  shows_steady its (Told Resume ∷ lines) = shows_steady its lines
  shows_steady its (Told Remove ∷ lines) = shows_steady its lines
  shows_steady its (Told Surprise ∷ lines) = shows_steady its lines
  shows_steady its (Told Removed ∷ lines) = shows_steady its lines

-- SYNCS THAT WILL BE DONE

will_syncs : (all : Bool) (n m : ℕ) (kind : Kind) (through : Bool) (answer : Option (List ℕ)) (ms : List Mark) → will_be_done n (full (sync_marks all m kind through answer ++ ms)) ≡ will_be_done n (full ms)
will_syncs all n m Read through answer ms = refl
will_syncs all n m Write false answer ms = refl
will_syncs all n m Write true (Some bytes) ms = refl
will_syncs true n m Write true None ms = refl
will_syncs false n m Write true None ms = refl
will_syncs all n m Flush through (Some bytes) ms = refl
will_syncs true n m Flush through None ms = refl
will_syncs false n m Flush through None ms = refl

will_calls : (n m : ℕ) (ws : List What) (ms : List Mark) → will_be_done n (full (map (Called m) ws ++ ms)) ≡ will_be_done n (full ms)
will_calls n m [] ms = refl
will_calls n m (w ∷ ws) ms = will_calls n m ws ms

secured_calls : (n : ℕ) (ws : List What) (ms : List Mark) → AreSecured ms → AreSecured (map (Called n) ws ++ ms)
secured_calls n [] ms a = a
secured_calls n (w ∷ ws) ms a = secured_calls n ws ms a

secured_syncs : (all : Bool) (n : ℕ) (kind : Kind) (through : Bool) (answer : Option (List ℕ)) (ms : List Mark) → ((bytes : List ℕ) → answer ≡ Some bytes → will_be_done n (full ms) ≡ true) → AreSecured ms → AreSecured (sync_marks all n kind through answer ++ ms)
secured_syncs all n Read through answer ms will a = a
secured_syncs all n Write false answer ms will a = a
secured_syncs all n Write true (Some bytes) ms will a = (will bytes refl, a)
secured_syncs true n Write true None ms will a = a
secured_syncs false n Write true None ms will a = a
secured_syncs all n Flush through (Some bytes) ms will a = a
secured_syncs true n Flush through None ms will a = a
secured_syncs false n Flush through None ms will a = a

module _ (code : List ℕ → ℕ) (rules : Rules) (i : ℕ) (all : Bool) where
  will_end : (n m : ℕ) (status : NtStatus) (bytes found : List ℕ) (later : Option (List ℕ)) (keep : Bool) (ms : List Mark) → (if m == n then success_bytes status bytes else later) ≡ Some found
      → (later ≡ Some found → will_be_done n (full ms) ≡ true) → will_be_done n (full (Ends keep m (is_success status) ∷ ms)) ≡ true
  will_end n m status bytes found later keep ms e rest = by (m == n) refl
    where
      here : (st : NtStatus) → success_bytes st bytes ≡ Some found → (m == n) ≡ true → will_be_done n (end_sight (is_success st) m ∷ full ms) ≡ true
      here Success some is = ap (λ (b : Bool). if b then true else will_be_done n (full ms)) is
      here _ some is = absurd (cc (some))

      there : (good : Bool) → (m == n) ≡ false → will_be_done n (full ms) ≡ true → will_be_done n (end_sight good m ∷ full ms) ≡ true
      there true apart will = ap (λ (b : Bool). if b then true else will_be_done n (full ms)) apart ∙ will
      there false apart will = ap (λ (b : Bool). if b then false else will_be_done n (full ms)) apart ∙ will

      by : (b : Bool) → (m == n) ≡ b → will_be_done n (end_sight (is_success status) m ∷ full ms) ≡ true
      by true is = here status (sym (ap (λ (b : Bool). if b then success_bytes status bytes else later) is) ∙ e) is
      by false apart = there (is_success status) apart (rest (sym (ap (λ (b : Bool). if b then success_bytes status bytes else later) apart) ∙ e))

  success_will : (n : ℕ) (found : List ℕ) (lines : List Line) (its : List Item) → success_of n lines ≡ Some found → will_be_done n (full (marks_of code rules i all its lines)) ≡ true
  success_will n found [] its e = absurd (cc (e))
  success_will n found (Lost ∷ lines) its e = absurd (cc (e))
  success_will n found (Ended ∷ lines) its e = absurd (cc (e))
  success_will n found (Told (Call m q) ∷ lines) its e =
      ap (λ ms. will_be_done n (full ms)) (append_assoc (sync_marks all m q.kind q.through (success_of m lines)) (map (Called m) (moves_of code rules i q (success_of m lines))) (marks_of code rules i all (after code rules i its (Call m q)) lines))
      ∙ will_syncs all n m q.kind q.through (success_of m lines) (map (Called m) (moves_of code rules i q (success_of m lines)) ++ marks_of code rules i all (after code rules i its (Call m q)) lines)
      ∙ will_calls n m (moves_of code rules i q (success_of m lines)) (marks_of code rules i all (after code rules i its (Call m q)) lines)
      ∙ success_will n found lines (after code rules i its (Call m q)) e
  success_will n found (Told (Answer m status informed bytes) ∷ lines) its e =
      will_end n m status bytes found (success_of n lines) (keeps code rules i m (success_bytes status bytes) its) (marks_of code rules i all (after code rules i its (Answer m status informed bytes)) lines) e
      (success_will n found lines (after code rules i its (Answer m status informed bytes)))
  success_will n found (Told (Device label) ∷ lines) its e = success_will n found lines its e
  success_will n found (Told (Cancel m) ∷ lines) its e = success_will n found lines its e
  success_will n found (Told Pause ∷ lines) its e = success_will n found lines its e
  success_will n found (Told Resume ∷ lines) its e = success_will n found lines its e
  success_will n found (Told Remove ∷ lines) its e = success_will n found lines its e
  success_will n found (Told Surprise ∷ lines) its e = success_will n found lines its e
  success_will n found (Told Removed ∷ lines) its e = success_will n found lines its e

  pub are_secured : (lines : List Line) (its : List Item) → AreSecured (marks_of code rules i all its lines)
  are_secured [] its = tt
  are_secured (Lost ∷ lines) its = are_secured lines []
  are_secured (Ended ∷ lines) its = are_secured lines []
  are_secured (Told (Call n q) ∷ lines) its =
      subst AreSecured (sym (append_assoc (sync_marks all n q.kind q.through (success_of n lines)) (map (Called n) (moves_of code rules i q (success_of n lines))) (marks_of code rules i all (after code rules i its (Call n q)) lines)))
      (secured_syncs all n q.kind q.through (success_of n lines) (map (Called n) (moves_of code rules i q (success_of n lines)) ++ marks_of code rules i all (after code rules i its (Call n q)) lines)
      (λ found e. will_calls n n (moves_of code rules i q (success_of n lines)) (marks_of code rules i all (after code rules i its (Call n q)) lines) ∙ success_will n found lines (after code rules i its (Call n q)) e)
      (secured_calls n (moves_of code rules i q (success_of n lines)) (marks_of code rules i all (after code rules i its (Call n q)) lines) (are_secured lines (after code rules i its (Call n q)))))
  are_secured (Told (Answer n status informed bytes) ∷ lines) its = are_secured lines (after code rules i its (Answer n status informed bytes))
  are_secured (Told (Device label) ∷ lines) its = are_secured lines its
  are_secured (Told (Cancel n) ∷ lines) its = are_secured lines its
  are_secured (Told Pause ∷ lines) its = are_secured lines its
  are_secured (Told Resume ∷ lines) its = are_secured lines its
  are_secured (Told Remove ∷ lines) its = are_secured lines its
  are_secured (Told Surprise ∷ lines) its = are_secured lines its
  are_secured (Told Removed ∷ lines) its = are_secured lines its
