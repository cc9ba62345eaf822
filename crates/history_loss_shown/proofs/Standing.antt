-- A register that a sector can follow: the sector has as much, and what waits in the register is open.
use Rattle.std.proofs.Common.{◌≡◌, ◌≢◌, ◌≤◌, ◌⊎◌, inl, inr, ℕ, Bool, true, false, List, [], ◌∷◌, Some, refl, ◌∙◌, subst}
use Rattle.std.specs.Prelude.{All, Contains}
use Rattle.std.proofs.lemmas.List.Elements.{All-nil, All-cons, All-weaker}
use Rattle.srb.specs.declared.Kind.TheVariants.{Read, Write, Flush}
use Rattle.machine.specs.declared.ClientRequest.{ClientRequest}
use Rattle.machine.specs.declared.Label.TheVariants.{Call}
use Rattle.machine.specs.Rules.{Rules}
use Rattle.machine_laws.specs.Sectors.{part_of}
use Rattle.loss.specs.Held.{Held, HeldOf, IsOneOf, OlderOf}
use Rattle.loss.specs.Sessions.{Line, Told}
use Rattle.loss.specs.Laws.{value_for}
use Rattle.history_loss.specs.Schedules.{Event, Seen, Effect, Fails, IsAt, IsNoAnswer, IsNoEffect, IsNoFailure, TookEffect, next_number}
use Rattle.history_loss.proofs.Mirroring.{further, newest}
use Rattle.register_loss.specs.declared.What.{What}
use Rattle.register_loss.specs.declared.What.TheVariants.{Read as Reads, Write as Writes, Flush as Flushes, Sync}
use Rattle.register_loss.specs.declared.Open.{Open}
use Rattle.register_loss.specs.Schedules.{is_flush, is_sync}
use Rattle.register_loss_search.specs.Covering.{Wider}
use Rattle.history_loss_sights.specs.Sights.{place_of, success_of}
use Rattle.history_loss_sights.proofs.Coding.{coded}
use Rattle.history_loss_sights.proofs.Standing.{Called}

-- NO FAILURE

abbrev pub IsNoFault : ℕ → Event → Type 0
IsNoFault n (Seen line) = Unit {0}
IsNoFault n (Effect number sector) = Unit {0}
IsNoFault n (Fails number place) = number ≢ n

-- neither an effect nor a failure of this number
abbrev pub IsQuiet : ℕ → Event → Type 0
IsQuiet n e = IsNoEffect n e × IsNoFault n e

pub sound_at : (n place : ℕ) (past : List Event) → All (IsNoFault n) past → All (IsNoFailure n place) past
sound_at n place past all = All-weaker (IsNoFault n) (IsNoFailure n place) weaker past all
  where
    weaker : (e : Event) → IsNoFault n e → IsNoFailure n place e
    weaker (Seen line) h = tt
    weaker (Effect number sector) h = tt
    weaker (Fails number k) h = λ same. absurd (h same)

pub none_failed : (n : ℕ) (past : List Event) → ((place : ℕ) → Contains past (Fails n place) → ⊥) → All (IsNoFault n) past
none_failed n [] h = All-nil (IsNoFault n)
none_failed n (Seen line ∷ past) h = All-cons (IsNoFault n) (Seen line) past tt (none_failed n past (λ place there. h place (further (Seen line) past (Fails n place) there)))
none_failed n (Effect m sector ∷ past) h = All-cons (IsNoFault n) (Effect m sector) past tt (none_failed n past (λ place there. h place (further (Effect m sector) past (Fails n place) there)))
none_failed n (Fails m k ∷ past) h =
    All-cons (IsNoFault n) (Fails m k) past (λ same. h k (subst (λ j. Contains (Fails m k ∷ past) (Fails j k)) same (newest (Fails m k) past)))
    (none_failed n past (λ place there. h place (further (Fails m k) past (Fails n place) there)))

-- WHAT WAITS

module _ (code : List ℕ → ℕ) (rules : Rules) (i : ℕ) where
  pub record IsWrite (past : List Event) (n v : ℕ) (through failed : Bool) : Type 0 where
    pub request : ClientRequest
    pub called : Called past n request
    pub awaits : All (IsNoAnswer n) past
    pub kind : request.kind ≡ Write
    pub at : IsAt rules i request (place_of rules i request)
    pub value : v ≡ code (value_for rules request (place_of rules i request))
    pub same : through ≡ request.through
    pub idle : failed ≡ false → All (IsNoEffect n) past × All (IsNoFault n) past

  pub record IsRead (past : List Event) (lines : List Line) (n v : ℕ) : Type 0 where
    pub request : ClientRequest
    pub called : Called past n request
    pub awaits : All (IsNoAnswer n) past
    pub kind : request.kind ≡ Read
    pub at : IsAt rules i request (place_of rules i request)
    pub bytes : List ℕ
    pub success : success_of n lines ≡ Some bytes
    pub only : (s : List ℕ) → v ≡ code s → part_of rules bytes (place_of rules i request) ≡ s
    pub sound : All (IsNoFault n) past
    pub free : All (IsNoEffect n) past ⊎ TookEffect rules past n request (place_of rules i request) bytes

  -- it will succeed, so it did not fail
  pub record IsSync (past : List Event) (lines : List Line) (n : ℕ) (failed : Bool) : Type 0 where
    pub awaits : All (IsNoAnswer n) past
    pub bytes : List ℕ
    pub success : success_of n lines ≡ Some bytes
    pub sound : failed ≡ false

  abbrev pub IsKnown : List Event → List Line → ℕ → Bool → What → Type 0
  IsKnown past lines n failed (Writes v through) = IsWrite past n v through failed
  IsKnown past lines n failed (Reads v) = IsRead past lines n v
  IsKnown past lines n failed Flushes = IsSync past lines n failed
  IsKnown past lines n failed Sync = IsSync past lines n failed

  pub took_more : (e : Event) (past : List Event) (n : ℕ) (q : ClientRequest) (place : ℕ) (bytes : List ℕ) → TookEffect rules past n q place bytes → TookEffect rules (e ∷ past) n q place bytes
  took_more e past n q place bytes t = record { sector = t.sector; before = further e past (Effect n t.sector) t.before; hands_over = t.hands_over }

  sync_more : (e : Event) (past : List Event) (lines : List Line) (n : ℕ) (failed : Bool) → IsNoAnswer n e → IsSync past lines n failed → IsSync (e ∷ past) lines n failed
  sync_more e past lines n failed other k = record { awaits = All-cons (IsNoAnswer n) e past other k.awaits; bytes = k.bytes; success = k.success; sound = k.sound }

  pub known_more : (e : Event) (past : List Event) (lines : List Line) (n : ℕ) (failed : Bool) (what : What) → IsNoAnswer n e → (is_sync what ≡ false → IsQuiet n e) → IsKnown past lines n failed what → IsKnown (e ∷ past) lines n failed what
  known_more e past lines n failed (Writes v through) other quiet k = record {
    request = k.request;
    called = further e past (Seen (Told (Call n k.request))) k.called;
    awaits = All-cons (IsNoAnswer n) e past other k.awaits;
    kind = k.kind;
    at = k.at;
    value = k.value;
    same = k.same;
    idle = λ f.
        let old : All (IsNoEffect n) past × All (IsNoFault n) past = k.idle f in
        let apart : IsQuiet n e = quiet refl in
        (All-cons (IsNoEffect n) e past apart.0 old.0, All-cons (IsNoFault n) e past apart.1 old.1);
  }
  known_more e past lines n failed (Reads v) other quiet k = record {
    request = k.request;
    called = further e past (Seen (Told (Call n k.request))) k.called;
    awaits = All-cons (IsNoAnswer n) e past other k.awaits;
    kind = k.kind;
    at = k.at;
    bytes = k.bytes;
    success = k.success;
    only = k.only;
    sound = let apart : IsQuiet n e = quiet refl in All-cons (IsNoFault n) e past apart.1 k.sound;
    free = let apart : IsQuiet n e = quiet refl in
        elim k.free [ inl none ↦ inl (All-cons (IsNoEffect n) e past apart.0 none) | inr took ↦ inr (took_more e past n k.request (place_of rules i k.request) k.bytes took) ];
  }
  known_more e past lines n failed Flushes other quiet k = sync_more e past lines n failed other k
  known_more e past lines n failed Sync other quiet k = sync_more e past lines n failed other k

  sync_lines : (past : List Event) (lines lines' : List Line) (n : ℕ) (failed : Bool) → success_of n lines' ≡ success_of n lines → IsSync past lines n failed → IsSync past lines' n failed
  sync_lines past lines lines' n failed same k = record { awaits = k.awaits; bytes = k.bytes; success = same ∙ k.success; sound = k.sound }

  pub same_lines : (past : List Event) (lines lines' : List Line) (n : ℕ) (failed : Bool) (what : What) → success_of n lines' ≡ success_of n lines → IsKnown past lines n failed what → IsKnown past lines' n failed what
  same_lines past lines lines' n failed (Writes v through) same k = k
  same_lines past lines lines' n failed (Reads v) same k = record {
    request = k.request;
    called = k.called;
    awaits = k.awaits;
    kind = k.kind;
    at = k.at;
    bytes = k.bytes;
    success = same ∙ k.success;
    only = k.only;
    sound = k.sound;
    free = k.free;
  }
  same_lines past lines lines' n failed Flushes same k = sync_lines past lines lines' n failed same k
  same_lines past lines lines' n failed Sync same k = sync_lines past lines lines' n failed same k

  -- what moves the sector was called with this request
  pub move_called : (past : List Event) (lines : List Line) (n : ℕ) (failed : Bool) (what : What) → is_sync what ≡ false → IsKnown past lines n failed what → (q : ClientRequest) × Called past n q
  move_called past lines n failed (Writes v through) move k = (k.request, k.called)
  move_called past lines n failed (Reads v) move k = (k.request, k.called)
  move_called past lines n failed Flushes move k = absurd (cc (move))
  move_called past lines n failed Sync move k = absurd (cc (move))

  -- ALL OF IT

  abbrev pub HasMove : ℕ → List Open → Type 0
  HasMove n ops = (o : Open) × IsOneOf o ops × (o.number ≡ n) × (is_sync o.what ≡ false)

  abbrev pub HasFlush : ℕ → List Open → Type 0
  HasFlush n ops = (o : Open) × IsOneOf o ops × (o.number ≡ n) × (is_flush o.what ≡ true)

  pub record Stands (past : List Event) (h : Held) (lines : List Line) (next : ℕ) (held : HeldOf ℕ) (ops : List Open) : Type 0 where
    pub counts : next ≡ next_number past
    pub holds : Wider held (coded code h)
    pub dated : (o : OlderOf ℕ) → IsOneOf o held.older → o.behind ≤ next
    pub known : (o : Open) → IsOneOf o ops → IsKnown past lines o.number o.failed o.what
    -- a request that will succeed had its effect, or is still to have it
    pub moves : (n : ℕ) (q : ClientRequest) (bytes : List ℕ) → Called past n q → IsAt rules i q (place_of rules i q) → All (IsNoAnswer n) past → success_of n lines ≡ Some bytes
        → TookEffect rules past n q (place_of rules i q) bytes ⊎ HasMove n ops
    pub flushes : (n : ℕ) (q : ClientRequest) (bytes : List ℕ) → Called past n q → q.kind ≡ Flush → All (IsNoAnswer n) past → success_of n lines ≡ Some bytes → HasFlush n ops
    -- what failed waits until it is answered
    pub failures : (n place : ℕ) → Contains past (Fails n place) → All (IsNoAnswer n) past → HasMove n ops
