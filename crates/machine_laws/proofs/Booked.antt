-- Entries that are of the acts of a trace by its labels are so by its run.
use Rattle.std.proofs.Common.{◌≡◌, ◌≢◌, ◌<◌, ◌≤◌, inl, inr, ℕ, zero, suc, ◌+◌, Bool, true, false, IsTrue, List, [], ◌∷◌, Option, Some, None, refl, sym, ◌∙◌, ap, subst, arith, get_or, if◌then◌else◌}
use Rattle.machine_laws.proofs.Common.{IsPermutation, All, Contains, is_none, unwrap_or, IsPermutation-sym, All-permutation, All-nil, All-head, All-tail, All-cons, All-weaker, All-contains, All-contains_itself, NtStatus, InvalidHandle, none_first, Extent, Read10, Write10, Sync10, Read16, Write16, Sync16, Means, means_once, Entry, Kind, Read, Write, Flush, Start, Act, Fault, Return, Fate, Acted, Faulted, ClientRequest, Label, Call, Device, Answer, Cancel, Pause, Resume, Remove, Surprise, Removed, Rules, is_transfer, first_sector, home, Mark, Done, OpenRequest, Piece, State, opening, refusal, Admits, Starts, Acts, new_piece, with_fate, command_for, request_number, AreDistinct, IsGiven, Step, Run, distinct_first, IsEntryOf, StepTakes, AreActsOf, IsTransfer, IsAskedBy, IsOfAct, TakesEntry, AreOfActs, EntriesAreOfRuns}
use Rattle.machine_laws.specs.NumberLaws.{StartsOnce}
use Rattle.machine_laws.proofs.Opened.{brings_step}
use Rattle.machine_laws.proofs.Serving.{IsRightMark, IsRightFate, IsMine, PieceFits, Serves, Serves-Step}
use Rattle.machine_laws.proofs.Sound.{Anything, IsSound, IsSound-Step, IsSound-opening, act_anyhow}

-- STARTS HAVE NUMBERS OF THEIR OWN

-- a start has at least this number
abbrev pub IsStartFrom : ℕ → Label → Type 0
IsStartFrom n (Device (Start piece tag block)) = n ≤ piece
IsStartFrom n (Device (Act piece bytes)) = Unit {0}
IsStartFrom n (Device (Fault piece)) = Unit {0}
IsStartFrom n (Device (Return piece class)) = Unit {0}
IsStartFrom n (Call number q) = Unit {0}
IsStartFrom n (Answer number status informed bytes) = Unit {0}
IsStartFrom n (Cancel number) = Unit {0}
IsStartFrom n Pause = Unit {0}
IsStartFrom n Resume = Unit {0}
IsStartFrom n Remove = Unit {0}
IsStartFrom n Surprise = Unit {0}
IsStartFrom n Removed = Unit {0}

lower : (n m : ℕ) → n ≤ m → (label : Label) → IsStartFrom m label → IsStartFrom n label
lower n m less (Device (Start piece tag block)) h = omega (arith, less, h)
lower n m less (Device (Act piece bytes)) h = tt
lower n m less (Device (Fault piece)) h = tt
lower n m less (Device (Return piece class)) h = tt
lower n m less (Call number q) h = tt
lower n m less (Answer number status informed bytes) h = tt
lower n m less (Cancel number) h = tt
lower n m less Pause h = tt
lower n m less Resume h = tt
lower n m less Remove h = tt
lower n m less Surprise h = tt
lower n m less Removed h = tt

-- the number of the next piece rises
same_or_more : {a b : ℕ} → a ≡ b → b ≤ a
same_or_more e = omega (arith, e)

pieces_rise : (rules : Rules) (s : State) (label : Label) (s' : State) → Step rules s label s' → s.next_piece ≤ s'.next_piece
pieces_rise rules s (Device (Start piece tag block)) s' (inl h) = let e : s'.next_piece ≡ s.next_piece + 1 = h.1.after.next_piece in omega (arith, e)
pieces_rise rules s (Device (Act piece bytes)) s' (inl h) = same_or_more h.1.after.next_piece
pieces_rise rules s (Device (Fault piece)) s' (inl h) = same_or_more h.1.after.next_piece
pieces_rise rules s (Device (Return piece class)) s' (inl h) = same_or_more h.1.after.next_piece
pieces_rise rules s (Call number q) s' (inl h) = by_answer (refusal rules s q) h.1.admits
  where
    by_answer : (answer : Option NtStatus) → Admits rules s number q answer s' → s.next_piece ≤ s'.next_piece
    by_answer None a = same_or_more a.after.next_piece
    by_answer (Some status) a = same_or_more a.after.next_piece
pieces_rise rules s (Answer number status informed bytes) s' (inl h) = same_or_more h.1.answers.after.next_piece
pieces_rise rules s (Cancel number) s' (inl h) = same_or_more h.1.after.next_piece
pieces_rise rules s Pause s' (inl h) = same_or_more h.1.after.next_piece
pieces_rise rules s Resume s' (inl h) = same_or_more h.1.after.next_piece
pieces_rise rules s Remove s' (inl h) = same_or_more h.1.after.next_piece
pieces_rise rules s Surprise s' (inl h) = same_or_more h.1.drains.next_piece
pieces_rise rules s Removed s' (inl h) = same_or_more h.1.after.next_piece
pieces_rise rules s (Answer number status informed bytes) s' (inr h) = same_or_more h.after.next_piece
pieces_rise rules s _ s' (inr h) = absurd h

first_from : (rules : Rules) (s : State) (label : Label) (s' : State) → Step rules s label s' → IsStartFrom s.next_piece label
first_from rules s (Device (Start piece tag block)) s' (inl h) = let e : piece ≡ s.next_piece = h.1.next_number in omega (arith, e)
first_from rules s (Device (Start piece tag block)) s' (inr h) = absurd h
first_from rules s (Device (Act piece bytes)) s' h = tt
first_from rules s (Device (Fault piece)) s' h = tt
first_from rules s (Device (Return piece class)) s' h = tt
first_from rules s (Call number q) s' h = tt
first_from rules s (Answer number status informed bytes) s' h = tt
first_from rules s (Cancel number) s' h = tt
first_from rules s Pause s' h = tt
first_from rules s Resume s' h = tt
first_from rules s Remove s' h = tt
first_from rules s Surprise s' h = tt
first_from rules s Removed s' h = tt

starts_from : (rules : Rules) (s : State) (labels : List Label) (s' : State) → Run rules s labels s' → All (IsStartFrom s.next_piece) labels
starts_from rules s [] s' run = All-nil (IsStartFrom s.next_piece)
starts_from rules s (label ∷ labels) s' (mid, step, rest) =
    let rises : s.next_piece ≤ mid.next_piece = pieces_rise rules s label mid step in
    All-cons (IsStartFrom s.next_piece) label labels (first_from rules s label mid step)
    (All-weaker (IsStartFrom mid.next_piece) (IsStartFrom s.next_piece) (lower s.next_piece mid.next_piece rises) labels (starts_from rules mid labels s' rest))

-- what a start says
pub record Said : Type 0 where
  pub tag : ℕ
  pub block : List ℕ

abbrev said : Label → Said
said (Device (Start piece tag block)) = record { tag = tag; block = block }
said _ = record { tag = 0; block = [] }

above_next : (rules : Rules) (s : State) (label : Label) (mid : State) (piece tag : ℕ) (block : List ℕ) → label ≡ Device (Start piece tag block) → Step rules s label mid → piece < mid.next_piece
above_next rules s label mid piece tag block is step = by_step (subst (λ l. Step rules s l mid) is step)
  where
    by_step : Step rules s (Device (Start piece tag block)) mid → piece < mid.next_piece
    by_step (inl h) = let e : mid.next_piece ≡ s.next_piece + 1 = h.1.after.next_piece in let f : piece ≡ s.next_piece = h.1.next_number in omega (arith, e, f)
    by_step (inr h) = absurd h

never_behind : (n piece tag : ℕ) (block : List ℕ) (labels : List Label) → All (IsStartFrom n) labels → piece < n → ¬ Contains labels (Device (Start piece tag block))
never_behind n piece tag block labels all low there = let from : n ≤ piece = All-contains (IsStartFrom n) labels (Device (Start piece tag block)) all there in absurd (omega (arith, from, low))

-- two starts of one piece in a trace say the same
said_once : (rules : Rules) (s : State) (labels : List Label) (s' : State) → Run rules s labels s' → (piece tag tag' : ℕ) (block block' : List ℕ)
    → Contains labels (Device (Start piece tag block)) → Contains labels (Device (Start piece tag' block')) → said (Device (Start piece tag block)) ≡ said (Device (Start piece tag' block'))
said_once rules s [] s' run piece tag tag' block block' (k, low, is) other = absurd (omega (arith, low))
said_once rules s (label ∷ labels) s' (mid, step, rest) piece tag tag' block block' (zero, low, is) (zero, low', is') = ap said (sym is ∙ is')
said_once rules s (label ∷ labels) s' (mid, step, rest) piece tag tag' block block' (zero, low, is) (suc k, low', is') =
    absurd (never_behind mid.next_piece piece tag' block' labels (starts_from rules mid labels s' rest) (above_next rules s label mid piece tag block is step) (k, omega (arith, low'), is'))
said_once rules s (label ∷ labels) s' (mid, step, rest) piece tag tag' block block' (suc k, low, is) (zero, low', is') =
    absurd (never_behind mid.next_piece piece tag block labels (starts_from rules mid labels s' rest) (above_next rules s label mid piece tag' block' is' step) (k, omega (arith, low), is))
said_once rules s (label ∷ labels) s' (mid, step, rest) piece tag tag' block block' (suc k, low, is) (suc k', low', is') =
    said_once rules mid labels s' rest piece tag tag' block block' (k, omega (arith, low), is) (k', omega (arith, low'), is')

pub starts_once : StartsOnce
starts_once rules s labels s' run piece tag other block same one two =
    let e : said (Device (Start piece tag block)) ≡ said (Device (Start piece other same)) = said_once rules s labels s' run piece tag other block same one two in
    (ap (λ (x : Said). x.tag) e, ap (λ (x : Said). x.block) e)

-- EACH OPEN REQUEST HAS A PARTITION

abbrev pub IsKnown : OpenRequest → Type 0
IsKnown o = is_none o.request.partition ≡ false

known_step : (rules : Rules) (s : State) (label : Label) (s' : State) → All IsKnown s.requests → Step rules s label s' → All IsKnown s'.requests
known_step rules s label s' = brings_step (λ number q. is_none q.partition ≡ false) rules s label s' (λ number q e admitted. (none_first (is_none q.partition) InvalidHandle _ admitted).0)

-- WHAT EACH PIECE OUT WAS STARTED FOR

pub record HasStart (rules : Rules) (trace : List Label) (s : State) (p : Piece) : Type 0 where
  pub block : List ℕ
  pub q : ClientRequest
  pub started : Contains trace (Device (Start p.number p.tag block))
  pub asks : Means block (command_for rules q p.places q.kind)
  pub serves : Serves rules p.owner q Anything s

any_mark : (j : ℕ) (m : Mark) → IsRightMark (λ k sector. Unit {0}) j m
any_mark j (Done sector) = tt
any_mark j _ = tt

any_fate : (first : ℕ) (fate : Fate) → IsRightFate (λ k sector. Unit {0}) first fate
any_fate first (Acted sectors) = λ k d low. tt
any_fate first _ = tt

-- an open request is served as what it is
any_serves : (rules : Rules) (s : State) (o : OpenRequest) (others : List OpenRequest) → IsSound rules s → IsPermutation s.requests (o ∷ others) → Serves rules o.number o.request Anything s
any_serves rules s o others sound is_open =
    let k = sound.1 in
    let differ : All (λ x. x.number ≢ o.number) others = distinct_first request_number s.requests o others sound.0.requests is_open in
    record {
      given = All-head (IsGiven s.next_request) o others (All-permutation (IsGiven s.next_request) _ _ is_open sound.0.given);
      whole = k.whole;
      sized = k.sized;
      mine = All-permutation (IsMine o.number o.request (Anything s.arrays)) _ _ (IsPermutation-sym _ _ is_open)
          (All-cons (IsMine o.number o.request (Anything s.arrays)) o others (λ e. record { request = refl; right = λ j d low. any_mark j (get_or o.marks j d) })
          (All-weaker (λ x. x.number ≢ o.number) (IsMine o.number o.request (Anything s.arrays)) (λ x other e. absurd (other e)) others differ));
      pieces = All-weaker (PieceFits rules 0 (Anything s.arrays) s.next_request s.requests) (PieceFits rules o.number (Anything s.arrays) s.next_request s.requests)
          (λ p f. record { given = f.given; fills = f.fills; inside = f.inside; right = λ e. any_fate p.places.first p.fate }) s.pieces k.pieces;
    }

module _ (rules : Rules) (trace : List Label) where
  keeps_start : (s : State) (label : Label) (s' : State) → AreDistinct s → Step rules s label s' → (p : Piece) → HasStart rules trace s p → HasStart rules trace s' p
  keeps_start s label s' d h p k = record {
    block = k.block;
    q = k.q;
    started = k.started;
    asks = k.asks;
    serves = Serves-Step rules p.owner k.q Anything s label s' d (act_anyhow rules p.owner s label s') k.serves h;
  }

  any_fated : (s : State) (p : Piece) (fate : Fate) → HasStart rules trace s p → HasStart rules trace s (with_fate fate p)
  any_fated s p fate k = record { block = k.block; q = k.q; started = k.started; asks = k.asks; serves = k.serves }

  abbrev pub AllStarted : State → List Piece → Type 0
  AllStarted s ps = All (HasStart rules trace s) ps

  pub pieces_same : (s : State) (ps ps' : List Piece) → IsPermutation ps' ps → AllStarted s ps → AllStarted s ps'
  pieces_same s ps ps' p all = All-permutation (HasStart rules trace s) _ _ (IsPermutation-sym _ _ p) all

  pieces_fated : (s : State) (ps ps' others : List Piece) (p : Piece) (fate : Fate) → IsPermutation ps (p ∷ others) → IsPermutation ps' (with_fate fate p ∷ others) → AllStarted s ps → AllStarted s ps'
  pieces_fated s ps ps' others p fate before after all =
      let were : AllStarted s (p ∷ others) = All-permutation (HasStart rules trace s) _ _ before all in
      pieces_same s (with_fate fate p ∷ others) ps' after
      (All-cons (HasStart rules trace s) (with_fate fate p) others (any_fated s p fate (All-head (HasStart rules trace s) p others were)) (All-tail (HasStart rules trace s) p others were))

  -- a piece that starts
  new_start : (s : State) (piece tag : ℕ) (block : List ℕ) (s' : State) → IsSound rules s → Contains trace (Device (Start piece tag block)) → (h : Starts rules s piece tag block s')
      → Step rules s (Device (Start piece tag block)) s' → HasStart rules trace s' (new_piece s tag h.owner h.places)
  new_start s piece tag block s' sound there h step = record {
    block = block;
    q = h.owner.request;
    started = subst (λ n. Contains trace (Device (Start n tag block))) h.next_number there;
    asks = h.asks;
    serves = Serves-Step rules h.owner.number h.owner.request Anything s (Device (Start piece tag block)) s' sound.0 (act_anyhow rules h.owner.number s (Device (Start piece tag block)) s') (any_serves rules s h.owner h.others sound h.is_open) step;
  }

  pub started_step : (s : State) (label : Label) (s' : State) → IsSound rules s → Contains trace label → Step rules s label s' → AllStarted s s.pieces → AllStarted s' s'.pieces
  started_step s label s' sound there step all = moved s label s' sound there step (All-weaker (HasStart rules trace s) (HasStart rules trace s') (keeps_start s label s' sound.0 step) s.pieces all)
    where
      moved : (s : State) (label : Label) (s' : State) → IsSound rules s → Contains trace label → Step rules s label s' → AllStarted s' s.pieces → AllStarted s' s'.pieces
      moved s (Call number q) s' sound there (inl h) all = by_answer (refusal rules s q) h.1.admits
        where
          by_answer : (answer : Option NtStatus) → Admits rules s number q answer s' → AllStarted s' s'.pieces
          by_answer None a = pieces_same s' _ _ a.after.pieces all
          by_answer (Some status) a = pieces_same s' _ _ a.after.pieces all
      moved s (Device (Start piece tag block)) s' sound there (inl h) all =
          pieces_same s' _ _ h.1.after.pieces (All-cons (HasStart rules trace s') (new_piece s tag h.1.owner h.1.places) s.pieces (new_start s piece tag block s' sound there h.1 (inl h)) all)
      moved s (Device (Act piece bytes)) s' sound there (inl h) all = pieces_fated s' _ _ h.1.other_pieces h.1.piece (Acted h.1.sectors) h.1.fresh.is_out h.1.after.pieces all
      moved s (Device (Fault piece)) s' sound there (inl h) all = pieces_fated s' _ _ h.1.other_pieces h.1.piece Faulted h.1.fresh.is_out h.1.after.pieces all
      moved s (Device (Return piece class)) s' sound there (inl h) all =
          pieces_same s' _ _ h.1.after.pieces (All-tail (HasStart rules trace s') h.1.piece h.1.other_pieces (All-permutation (HasStart rules trace s') _ _ h.1.is_out all))
      moved s (Answer number status informed bytes) s' sound there (inl h) all = pieces_same s' _ _ h.1.answers.after.pieces all
      moved s (Cancel number) s' sound there (inl h) all = pieces_same s' _ _ h.1.after.pieces all
      moved s Pause s' sound there (inl h) all = pieces_same s' _ _ h.1.after.pieces all
      moved s Resume s' sound there (inl h) all = pieces_same s' _ _ h.1.after.pieces all
      moved s Remove s' sound there (inl h) all = pieces_same s' _ _ h.1.after.pieces all
      moved s Surprise s' sound there (inl h) all = pieces_same s' _ _ h.1.drains.pieces all
      moved s Removed s' sound there (inl h) all = pieces_same s' _ _ h.1.after.pieces all
      moved s (Answer number status informed bytes) s' sound there (inr h) all = pieces_same s' _ _ h.after.pieces all
      moved s _ s' sound there (inr h) all = absurd h

-- THE ENTRY OF AN ACT

-- what an entry has that a command for a request's places asks for
record Fits (rules : Rules) (q : ClientRequest) (places : Extent) (kind : Kind) (entry : Entry) : Type 0 where
  kind_is : entry.kind ≡ kind
  place : IsTrue (is_transfer kind) → entry.extent.first ≡ home rules q.partition (first_sector rules q + places.first)
  count : IsTrue (is_transfer kind) → entry.extent.count ≡ places.count

asked_read : (entry : Entry) (lba count : ℕ) (fua b : Bool) → IsAskedBy entry (if b then Read10 lba count fua else Read16 lba count fua) → IsTransfer entry Read lba count
asked_read entry lba count fua true h = h
asked_read entry lba count fua false h = h

asked_write : (entry : Entry) (lba count : ℕ) (fua b : Bool) → IsAskedBy entry (if b then Write10 lba count fua else Write16 lba count fua) → IsTransfer entry Write lba count
asked_write entry lba count fua true h = h
asked_write entry lba count fua false h = h

asked_flush : (entry : Entry) (b : Bool) → IsAskedBy entry (if b then Sync10 0 0 else Sync16 0 0) → entry.kind ≡ Flush
asked_flush entry true h = h
asked_flush entry false h = h

fits : (rules : Rules) (q : ClientRequest) (places : Extent) (kind : Kind) (entry : Entry) → IsAskedBy entry (command_for rules q places kind) → Fits rules q places kind entry
fits rules q places Read entry h = let t = asked_read entry _ places.count q.through _ h in record { kind_is = t.0; place = λ _. t.1; count = λ _. t.2 }
fits rules q places Write entry h = let t = asked_write entry _ places.count q.through _ h in record { kind_is = t.0; place = λ _. t.1; count = λ _. t.2 }
fits rules q places Flush entry h = record { kind_is = asked_flush entry _ h; place = λ e. absurd (cc (e)); count = λ e. absurd (cc (e)) }

known_home : (rules : Rules) (partition : Option ℕ) (i : ℕ) → is_none partition ≡ false → home rules partition i ≡ home rules (Some (unwrap_or partition 0)) i
known_home rules None i e = absurd (cc (e))
known_home rules (Some p) i e = refl

module _ (rules : Rules) (arrays : List (List (List ℕ))) (trace : List Label) (end : State) (whole_run : Run rules (opening arrays) trace end) where
  entry_is : (s : State) (piece : ℕ) (bytes : List ℕ) (s' : State) (h : Acts rules s piece bytes s') (entry : Entry) → All IsKnown s.requests → AllStarted rules trace s s.pieces → IsOfAct trace piece bytes entry
      → IsEntryOf rules s piece bytes s' h entry
  entry_is s piece bytes s' h entry known all mine =
      let k : HasStart rules trace s h.piece = All-head (HasStart rules trace s) h.piece h.other_pieces (All-permutation (HasStart rules trace s) _ _ h.fresh.is_out all) in
      let there : Contains trace (Device (Start piece h.piece.tag k.block)) = subst (λ n. Contains trace (Device (Start n h.piece.tag k.block))) h.fresh.is_number k.started in
      let once : said (Device (Start piece entry.tag mine.block)) ≡ said (Device (Start piece h.piece.tag k.block)) =
      said_once rules (opening arrays) trace end whole_run piece entry.tag h.piece.tag mine.block k.block mine.started there in
      let same_block : mine.block ≡ k.block = ap (λ (x : Said). x.block) once in
      let same_command : mine.command ≡ command_for rules k.q h.piece.places k.q.kind = means_once k.block mine.command _ (subst (λ b. Means b mine.command) same_block mine.means) k.asks in
      let fit : Fits rules k.q h.piece.places k.q.kind entry = fits rules k.q h.piece.places k.q.kind entry (subst (IsAskedBy entry) same_command mine.asked) in
      let same_request : h.owner.request ≡ k.q = (All-contains (IsMine h.piece.owner k.q (Anything s.arrays)) s.requests h.owner k.serves.mine h.is_open h.is_owner).request in
      let has : is_none h.owner.request.partition ≡ false = All-contains IsKnown s.requests h.owner known h.is_open in
      let fit' : Fits rules h.owner.request h.piece.places h.owner.request.kind entry = subst (λ q. Fits rules q h.piece.places q.kind entry) (sym same_request) fit in
      record {
        piece = mine.is_piece;
        tag = ap (λ (x : Said). x.tag) once;
        kind = fit'.kind_is;
        place = λ t. fit'.place t ∙ known_home rules h.owner.request.partition _ has;
        count = fit'.count;
        bytes_are = mine.bytes_are;
      }

  step_takes : (s : State) (label : Label) (s' : State) (h : Step rules s label s') (entries left : List Entry) → All IsKnown s.requests → AllStarted rules trace s s.pieces → TakesEntry trace label entries left
      → StepTakes rules s label s' h entries left
  step_takes s (Device (Act piece bytes)) s' (inl h) entries left known all (entry, is, mine) = (entry, is, entry_is s piece bytes s' h.1 entry known all mine)
  step_takes s (Device (Act piece bytes)) s' (inr h) entries left known all takes = absurd h
  step_takes s (Device (Start piece tag block)) s' (inl h) entries left known all takes = takes
  step_takes s (Device (Start piece tag block)) s' (inr h) entries left known all takes = absurd h
  step_takes s (Device (Fault piece)) s' (inl h) entries left known all takes = takes
  step_takes s (Device (Fault piece)) s' (inr h) entries left known all takes = absurd h
  step_takes s (Device (Return piece class)) s' (inl h) entries left known all takes = takes
  step_takes s (Device (Return piece class)) s' (inr h) entries left known all takes = absurd h
  step_takes s (Call number q) s' (inl h) entries left known all takes = takes
  step_takes s (Call number q) s' (inr h) entries left known all takes = takes
  step_takes s (Answer number status informed bytes) s' (inl h) entries left known all takes = takes
  step_takes s (Answer number status informed bytes) s' (inr h) entries left known all takes = takes
  step_takes s (Cancel number) s' (inl h) entries left known all takes = takes
  step_takes s (Cancel number) s' (inr h) entries left known all takes = takes
  step_takes s Pause s' (inl h) entries left known all takes = takes
  step_takes s Pause s' (inr h) entries left known all takes = takes
  step_takes s Resume s' (inl h) entries left known all takes = takes
  step_takes s Resume s' (inr h) entries left known all takes = takes
  step_takes s Remove s' (inl h) entries left known all takes = takes
  step_takes s Remove s' (inr h) entries left known all takes = takes
  step_takes s Surprise s' (inl h) entries left known all takes = takes
  step_takes s Surprise s' (inr h) entries left known all takes = takes
  step_takes s Removed s' (inl h) entries left known all takes = takes
  step_takes s Removed s' (inr h) entries left known all takes = takes

  acts_along : (s : State) (labels : List Label) (s' : State) (run : Run rules s labels s') (entries : List Entry) → IsSound rules s → All IsKnown s.requests → AllStarted rules trace s s.pieces → All (Contains trace) labels
      → AreOfActs trace labels entries → AreActsOf rules s labels s' run entries
  acts_along s [] s' run entries sound known all there acts = acts
  acts_along s (label ∷ labels) s' run entries sound known all there (left, takes, rest) =
      let here : Contains trace label = All-head (Contains trace) label labels there in (
        left,
        step_takes s label run.0 run.1 entries left known all takes,
        acts_along run.0 labels s' run.2 left (IsSound-Step rules s label run.0 sound run.1) (known_step rules s label run.0 known run.1) (started_step rules trace s label run.0 sound here run.1 all)
            (All-tail (Contains trace) label labels there) rest,
      )

pub entries_are_of_runs : EntriesAreOfRuns
entries_are_of_runs rules arrays trace s' run entries whole acts =
    acts_along rules arrays trace s' run (opening arrays) trace s' run entries (IsSound-opening rules arrays whole) (All-nil IsKnown) (All-nil (HasStart rules trace (opening arrays))) (All-contains_itself trace) acts
