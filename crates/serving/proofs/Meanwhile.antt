-- What a client was told as done is kept at each later moment of its session.
use Rattle.serving.proofs.Common.{◌≡◌, ◌<◌, ℕ, true, false, List, [], ◌∷◌, ◌++◌, Some, slice_get, refl, sym, ap, subst, ◌∙◌, append_assoc, All, All-append, Rules, Extent, Label, FiledView, call_on, extents_of, rules_over, opening, IsTold, All-weaker}
use Rattle.settings.specs.declared.Config.{Config as Settings}
use Rattle.srb.specs.declared.Kind.TheVariants.{Write as WriteKind, Flush as FlushKind}
use Rattle.machine_laws.specs.Reached.{AreWhole}
use Rattle.volume.specs.Shown.{extent_at}
use Rattle.file_disk.specs.Calls.{Call}
use Rattle.loss.specs.Held.{sector_in}
use Rattle.loss.specs.Sessions.{Moment}
use Rattle.nbd.specs.Requests.{command_in}
use Rattle.nbd.specs.Session.{Exchange}
use Rattle.file_sessions.specs.Behind.{IsFiledBehind, LaterMomentsAreSessions}
use Rattle.file_sessions.specs.Deeds.{DeedRun}
use Rattle.file_sessions.specs.OneByOne.{FlushedSurvives, IsAway, IsRound, Round, SecuredSurvives, UntouchedSurvives, labels_of, labels_of_all, AnsweredRemains, RemainsSurvive}
use Rattle.file_sessions.specs.Sessions.{IsSession}
use Rattle.file_sessions.specs.Stored.{Content, IsKept, Survives, under_way, Remains}
use Rattle.serving.specs.Telling.{of_found, of_run}
use Rattle.serving.specs.Keeping.{FlushedIsKeptMeanwhile, HasSynced, IsElsewhere, IsFlush, IsMoment, IsWrite, SecuredIsKeptMeanwhile, UntouchedIsKeptMeanwhile, sector_on, AnsweredIsKeptMeanwhile, HasNoSync}
use Rattle.serving.proofs.Keeping.{IsDoneRound, Parted, away_there, flush_kind, flushed, known_of, parted, put, there, written, wrote}
use Rattle.serving.proofs.Lasting.{Lasts, run_lasts}
use Rattle.serving.proofs.Rounds.{IsHeld, all_labels, held_on, run_rounds, Keeps}

module _ (c : Settings) (p : ℕ) (opened : List Call) (old new : FiledView) (told since : List Call) (call : Call) (before left : Content) (front later : List Exchange) (m : IsMoment c p opened old front later new told since call) (some : 0 < c.sector_size)
    (kept : IsKept c.sector_size before (since ++ told)) (survives : Survives c.sector_size c.sectors before (under_way call ∷ (since ++ told)) left) (law : LaterMomentsAreSessions) where
  abbrev rules : Rules
  rules = rules_over false false c

  lasts : Lasts (of_run old.sizes old front m.seen m.told_of) old m.seen
  lasts = run_lasts old.sizes old front m.seen m.told_of

  more : Lasts (of_run old.sizes m.seen later new m.onwards) m.seen new
  more = run_lasts old.sizes m.seen later new m.onwards

  abbrev shown : List Label
  shown = m.opens.trace ++ of_run old.sizes old front m.seen m.told_of

  told_then : IsTold m.opens.arrays shown lasts.deeds m.seen.carried.stack
  told_then = lasts.told m.opens.arrays m.opens.trace [] m.opens.begins

  told_all : IsTold m.opens.arrays (shown ++ of_run old.sizes m.seen later new m.onwards) (lasts.deeds ++ more.deeds) new.carried.stack
  told_all = more.told m.opens.arrays shown lasts.deeds told_then

  filed : IsFiledBehind rules m.opens.arrays shown (of_run old.sizes m.seen later new m.onwards) new.carried.stack.state told (m.rest ++ call ∷ (since ++ told))
  filed = record {
    apart = refl;
    some = some;
    deeds = lasts.deeds;
    more = more.deeds;
    run = subst (λ (r : Rules). DeedRun r (opening m.opens.arrays) (shown ++ of_run old.sizes m.seen later new m.onwards) new.carried.stack.state (lasts.deeds ++ more.deeds)) (more.same_rules ∙ lasts.same_rules ∙ m.opens.rules) told_all.did;
    seen = m.seen.carried.stack.state;
    front_run = subst (λ (r : Rules). DeedRun r (opening m.opens.arrays) shown m.seen.carried.stack.state lasts.deeds) (lasts.same_rules ∙ m.opens.rules) told_then.did;
    old = old.carried.disk;
    between = m.seen.carried.disk;
    new = new.carried.disk;
    size = m.opens.stands.sector_size ∙ ap (λ (r : Rules). r.sector_size) m.opens.rules;
    files = lasts.files;
    onwards = more.files;
    told_are = m.told_are;
    calls_are = m.calls_are;
  }

  -- the session up to the moment
  record Now (labels : List Label) : Type 0 where
    first : List Label
    rest : List Label
    end : Moment
    split : of_run old.sizes m.seen later new m.onwards ≡ first ++ rest
    session : IsSession rules m.opens.arrays before (under_way call ∷ (since ++ told)) (labels ++ first) end

  now : (labels : List Label) → of_run old.sizes old front m.seen m.told_of ≡ labels → Now labels
  now labels is =
      let s = law rules m.opens.arrays before shown (of_run old.sizes m.seen later new m.onwards) new.carried.stack.state told (m.rest ++ call ∷ (since ++ told)) m.rest since call filed refl kept in
      record {
        first = s.0;
        rest = s.1;
        end = s.2;
        split = s.3;
        session =
            subst (λ (ls : List Label). IsSession rules m.opens.arrays before (under_way call ∷ (since ++ told)) (ls ++ s.0) s.2) (ap (λ (ls : List Label). ls ++ of_run old.sizes old front m.seen m.told_of) m.opens.none_called ∙ is) s.4;
      }

  abbrev extent : Extent
  extent = extent_at (extents_of c) p

  known : slice_get (extents_of c) p ≡ Some extent
  known = known_of c p opened old m.opens

  abbrev Held : FiledView → Type 0
  Held v = IsHeld rules p extent known some v

  held : Held old
  held = record { rules_are = m.opens.rules; on = m.opens.on.is_open }

  whole : AreWhole rules m.opens.arrays
  whole = subst (λ (r : Rules). AreWhole r m.opens.arrays) m.opens.rules m.opens.begins.whole

  -- the rounds behind, and those of later requests
  both_labels : (xs ys : List Round) (first rest : List Label) → labels_of_all ys ≡ first ++ rest → labels_of_all (xs ++ ys) ≡ (labels_of_all xs ++ first) ++ rest
  both_labels xs ys first rest is = all_labels rules p extent known some xs ys ∙ ap (λ (ls : List Label). labels_of_all xs ++ ls) is ∙ sym (append_assoc (labels_of_all xs) first rest)

  untouched : UntouchedSurvives → (k : ℕ) → All (IsElsewhere old.sizes k) front → All (IsElsewhere old.sizes k) later → sector_on c p k < c.sectors → left (sector_on c p k) ≡ before (sector_on c p k)
  untouched law' k away away_later on_disk =
      let fs = run_rounds rules p extent known some true old.sizes m.opens.block old front m.seen m.told_of held in
      let ls = run_rounds rules p extent known some true old.sizes m.opens.block m.seen later new m.onwards (held_on rules p extent known some old m.seen fs.steady held) in
      let s : Now (labels_of_all fs.rounds) = now (labels_of_all fs.rounds) fs.labels_are in
      law' rules m.opens.arrays before left (under_way call ∷ (since ++ told)) s.end (fs.rounds ++ ls.rounds) (labels_of_all fs.rounds ++ s.first) s.rest (sector_on c p k) s.session whole (All-append IsRound fs.rounds ls.rounds fs.are ls.are)
      (both_labels fs.rounds ls.rounds s.first s.rest (sym ls.labels_are ∙ s.split)) (All-append (IsAway rules (sector_on c p k)) fs.rounds ls.rounds (fs.away k away) (ls.away k away_later)) on_disk survives

pub untouched_meanwhile : LaterMomentsAreSessions → UntouchedSurvives → UntouchedIsKeptMeanwhile
untouched_meanwhile law law' c p opened old new told since call before left front later k m some kept away away_later on_disk survives =
    untouched c p opened old new told since call before left front later m some kept survives law law' k away away_later on_disk

module _ (c : Settings) (p : ℕ) (opened : List Call) (old new : FiledView) (told since : List Call) (call : Call) (before left : Content) (w : Exchange) (place k : ℕ) (is_write : IsWrite old.sizes w place k) (on_disk : sector_on c p k < c.sectors) (later : List Exchange)
    (away_later : All (IsElsewhere old.sizes k) later) (some : 0 < c.sector_size) (kept : IsKept c.sector_size before (since ++ told)) (survives : Survives c.sector_size c.sectors before (under_way call ∷ (since ++ told)) left) (law : LaterMomentsAreSessions) where
  abbrev w_rules : Rules
  w_rules = rules_over false false c

  abbrev w_extent : Extent
  w_extent = extent_at (extents_of c) p

  secured : SecuredSurvives → (first behind : List Exchange) → IsMoment c p opened old (first ++ w ∷ behind) later new told since call → is_write.through ≡ true → All (IsElsewhere old.sizes k) behind → left (sector_on c p k) ≡ sector_in c.sector_size place w.payload
  secured law' first behind m through away =
      let known' : slice_get (extents_of c) p ≡ Some w_extent = known_of c p opened old m.opens in
      let held' : IsHeld w_rules p w_extent known' some old = record { rules_are = m.opens.rules; on = m.opens.on.is_open } in
      let a : Parted old.sizes old first (w ∷ behind) m.seen m.told_of = parted old.sizes old first (w ∷ behind) m.seen m.told_of in
      let fs = run_rounds w_rules p w_extent known' some true old.sizes m.opens.block old first a.mid a.first held' in
      let held_a : IsHeld w_rules p w_extent known' some a.mid = held_on w_rules p w_extent known' some old a.mid fs.steady held' in
      let d : IsDoneRound a.mid a.rest.0 (call_on a.mid.carried.stack a.mid.handle WriteKind is_write.offset w.payload is_write.through) (of_found old.sizes (command_in old.sizes.block old.sizes.bytes w.request) w.payload a.mid w.outcome a.rest.0 a.rest.1.serves) =
      wrote old.sizes w (command_in old.sizes.block old.sizes.bytes w.request) a.mid a.rest.0 is_write.offset is_write.count is_write.through is_write.command is_write.done a.rest.1.serves in
      let held_d : IsHeld w_rules p w_extent known' some a.rest.0 = held_on w_rules p w_extent known' some a.mid a.rest.0 (record { same_rules = d.same_rules; same_handles = d.same_handles; same_handle = d.same_handle }) held_a in
      let bs = run_rounds w_rules p w_extent known' some true old.sizes m.opens.block a.rest.0 behind m.seen a.rest.2 held_d in
      let ls = run_rounds w_rules p w_extent known' some true old.sizes m.opens.block m.seen later new m.onwards (held_on w_rules p w_extent known' some a.rest.0 m.seen bs.steady held_d) in
      let labels : of_run old.sizes old (first ++ w ∷ behind) m.seen m.told_of ≡ labels_of_all fs.rounds ++ (labels_of d.round ++ labels_of_all bs.rounds) = a.labels ∙ rw (fs.labels_are, d.labels_are, bs.labels_are) refl in
      let s = now c p opened old new told since call before left (first ++ w ∷ behind) later m some kept survives law (labels_of_all fs.rounds ++ (labels_of d.round ++ labels_of_all bs.rounds)) labels in
      there c p known' some old.sizes m.opens.block w place k is_write on_disk a.mid held_a d.round d.called d.succeeds a.rest.1.long left
      (law' w_rules m.opens.arrays before left (under_way call ∷ (since ++ told)) s.end fs.rounds d.round (bs.rounds ++ ls.rounds) (labels_of_all bs.rounds ++ s.first) s.rest place
      (subst (λ (x : List Label). IsSession w_rules m.opens.arrays before (under_way call ∷ (since ++ told)) x s.end)
      (append_assoc (labels_of_all fs.rounds) (labels_of d.round ++ labels_of_all bs.rounds) s.first ∙ ap (λ (x : List Label). labels_of_all fs.rounds ++ x) (append_assoc (labels_of d.round) (labels_of_all bs.rounds) s.first)) s.session)
      (whole c p opened old new told since call before left (first ++ w ∷ behind) later m some kept survives law) fs.are d.is_round (All-append IsRound bs.rounds ls.rounds bs.are ls.are)
      (both_labels c p opened old new told since call before left (first ++ w ∷ behind) later m some kept survives law bs.rounds ls.rounds s.first s.rest (sym ls.labels_are ∙ s.split))
      (written c p known' some old.sizes m.opens.block w place k is_write on_disk a.mid held_a d.round d.called d.succeeds a.rest.1.long)
      ((put c p known' some old.sizes m.opens.block w place k is_write on_disk a.mid held_a d.round d.called d.succeeds a.rest.1.long).through_is ∙ through)
      (away_there c p known' some old.sizes m.opens.block w place k is_write on_disk a.mid held_a d.round d.called d.succeeds a.rest.1.long (bs.rounds ++ ls.rounds)
      (All-append (IsAway w_rules (sector_on c p k)) bs.rounds ls.rounds (bs.away k away) (ls.away k away_later))) survives)

  remaining : AnsweredRemains → (first behind : List Exchange) → IsMoment c p opened old (first ++ w ∷ behind) later new told since call → All (IsElsewhere old.sizes k) behind → All (HasSynced old.sizes) behind → All (HasNoSync old.sizes) later
      → Remains c.sector_size c.sectors before (under_way call ∷ (since ++ told)) left → left (sector_on c p k) ≡ sector_in c.sector_size place w.payload
  remaining law' first behind m away well none remains =
      let known' : slice_get (extents_of c) p ≡ Some w_extent = known_of c p opened old m.opens in
      let held' : IsHeld w_rules p w_extent known' some old = record { rules_are = m.opens.rules; on = m.opens.on.is_open } in
      let a : Parted old.sizes old first (w ∷ behind) m.seen m.told_of = parted old.sizes old first (w ∷ behind) m.seen m.told_of in
      let fs = run_rounds w_rules p w_extent known' some true old.sizes m.opens.block old first a.mid a.first held' in
      let held_a : IsHeld w_rules p w_extent known' some a.mid = held_on w_rules p w_extent known' some old a.mid fs.steady held' in
      let d : IsDoneRound a.mid a.rest.0 (call_on a.mid.carried.stack a.mid.handle WriteKind is_write.offset w.payload is_write.through) (of_found old.sizes (command_in old.sizes.block old.sizes.bytes w.request) w.payload a.mid w.outcome a.rest.0 a.rest.1.serves) =
      wrote old.sizes w (command_in old.sizes.block old.sizes.bytes w.request) a.mid a.rest.0 is_write.offset is_write.count is_write.through is_write.command is_write.done a.rest.1.serves in
      let held_d : IsHeld w_rules p w_extent known' some a.rest.0 = held_on w_rules p w_extent known' some a.mid a.rest.0 (record { same_rules = d.same_rules; same_handles = d.same_handles; same_handle = d.same_handle }) held_a in
      let bs = run_rounds w_rules p w_extent known' some true old.sizes m.opens.block a.rest.0 behind m.seen a.rest.2 held_d in
      let ls = run_rounds w_rules p w_extent known' some false old.sizes m.opens.block m.seen later new m.onwards (held_on w_rules p w_extent known' some a.rest.0 m.seen bs.steady held_d) in
      let labels : of_run old.sizes old (first ++ w ∷ behind) m.seen m.told_of ≡ labels_of_all fs.rounds ++ (labels_of d.round ++ labels_of_all bs.rounds) = a.labels ∙ rw (fs.labels_are, d.labels_are, bs.labels_are) refl in
      let s = now c p opened old new told since call before left (first ++ w ∷ behind) later m some kept survives law (labels_of_all fs.rounds ++ (labels_of d.round ++ labels_of_all bs.rounds)) labels in
      there c p known' some old.sizes m.opens.block w place k is_write on_disk a.mid held_a d.round d.called d.succeeds a.rest.1.long left
      (law' w_rules m.opens.arrays before left (under_way call ∷ (since ++ told)) s.end fs.rounds d.round bs.rounds ls.rounds s.first s.rest place
      (subst (λ (x : List Label). IsSession w_rules m.opens.arrays before (under_way call ∷ (since ++ told)) x s.end)
      (append_assoc (labels_of_all fs.rounds) (labels_of d.round ++ labels_of_all bs.rounds) s.first ∙ ap (λ (x : List Label). labels_of_all fs.rounds ++ x) (append_assoc (labels_of d.round) (labels_of_all bs.rounds) s.first)) s.session)
      (whole c p opened old new told since call before left (first ++ w ∷ behind) later m some kept survives law) fs.are d.is_round bs.are ls.are (sym ls.labels_are ∙ s.split)
      (written c p known' some old.sizes m.opens.block w place k is_write on_disk a.mid held_a d.round d.called d.succeeds a.rest.1.long)
      (away_there c p known' some old.sizes m.opens.block w place k is_write on_disk a.mid held_a d.round d.called d.succeeds a.rest.1.long bs.rounds (bs.away k away)) (bs.well well)
      (away_there c p known' some old.sizes m.opens.block w place k is_write on_disk a.mid held_a d.round d.called d.succeeds a.rest.1.long ls.rounds (ls.away k away_later)) (ls.well (All-weaker (HasNoSync old.sizes) (Keeps false old.sizes) (λ x h command e sync. let no : true ≡ false = sym sync ∙ h command e in cc (no)) later none)) remains)

  flush_kept : FlushedSurvives → (first between : List Exchange) (f : Exchange) (behind : List Exchange) → IsMoment c p opened old (first ++ w ∷ (between ++ f ∷ behind)) later new told since call → IsFlush old.sizes f → All (IsElsewhere old.sizes k) between
      → All (HasSynced old.sizes) between → All (IsElsewhere old.sizes k) behind → left (sector_on c p k) ≡ sector_in c.sector_size place w.payload
  flush_kept law' first between f behind m is_flush away_between well away =
      let known' : slice_get (extents_of c) p ≡ Some w_extent = known_of c p opened old m.opens in
      let held' : IsHeld w_rules p w_extent known' some old = record { rules_are = m.opens.rules; on = m.opens.on.is_open } in
      let a : Parted old.sizes old first (w ∷ (between ++ f ∷ behind)) m.seen m.told_of = parted old.sizes old first (w ∷ (between ++ f ∷ behind)) m.seen m.told_of in
      let fs = run_rounds w_rules p w_extent known' some true old.sizes m.opens.block old first a.mid a.first held' in
      let held_a : IsHeld w_rules p w_extent known' some a.mid = held_on w_rules p w_extent known' some old a.mid fs.steady held' in
      let d : IsDoneRound a.mid a.rest.0 (call_on a.mid.carried.stack a.mid.handle WriteKind is_write.offset w.payload is_write.through) (of_found old.sizes (command_in old.sizes.block old.sizes.bytes w.request) w.payload a.mid w.outcome a.rest.0 a.rest.1.serves) =
      wrote old.sizes w (command_in old.sizes.block old.sizes.bytes w.request) a.mid a.rest.0 is_write.offset is_write.count is_write.through is_write.command is_write.done a.rest.1.serves in
      let held_d : IsHeld w_rules p w_extent known' some a.rest.0 = held_on w_rules p w_extent known' some a.mid a.rest.0 (record { same_rules = d.same_rules; same_handles = d.same_handles; same_handle = d.same_handle }) held_a in
      let b : Parted old.sizes a.rest.0 between (f ∷ behind) m.seen a.rest.2 = parted old.sizes a.rest.0 between (f ∷ behind) m.seen a.rest.2 in
      let ts = run_rounds w_rules p w_extent known' some true old.sizes m.opens.block a.rest.0 between b.mid b.first held_d in
      let held_b : IsHeld w_rules p w_extent known' some b.mid = held_on w_rules p w_extent known' some a.rest.0 b.mid ts.steady held_d in
      let e : IsDoneRound b.mid b.rest.0 (call_on b.mid.carried.stack b.mid.handle FlushKind 0 [] false) (of_found old.sizes (command_in old.sizes.block old.sizes.bytes f.request) f.payload b.mid f.outcome b.rest.0 b.rest.1.serves) =
      flushed old.sizes f (command_in old.sizes.block old.sizes.bytes f.request) b.mid b.rest.0 is_flush.command is_flush.done b.rest.1.serves in
      let held_e : IsHeld w_rules p w_extent known' some b.rest.0 = held_on w_rules p w_extent known' some b.mid b.rest.0 (record { same_rules = e.same_rules; same_handles = e.same_handles; same_handle = e.same_handle }) held_b in
      let bs = run_rounds w_rules p w_extent known' some true old.sizes m.opens.block b.rest.0 behind m.seen b.rest.2 held_e in
      let ls = run_rounds w_rules p w_extent known' some true old.sizes m.opens.block m.seen later new m.onwards (held_on w_rules p w_extent known' some b.rest.0 m.seen bs.steady held_e) in
      let all : List Label = labels_of_all fs.rounds ++ (labels_of d.round ++ (labels_of_all ts.rounds ++ (labels_of e.round ++ labels_of_all bs.rounds))) in
      let labels : of_run old.sizes old (first ++ w ∷ (between ++ f ∷ behind)) m.seen m.told_of ≡ all =
      a.labels ∙ ap (λ (x : List Label). of_run old.sizes old first a.mid a.first ++ (of_found old.sizes (command_in old.sizes.block old.sizes.bytes w.request) w.payload a.mid w.outcome a.rest.0 a.rest.1.serves ++ x)) b.labels
      ∙ rw (fs.labels_are, d.labels_are, ts.labels_are, e.labels_are, bs.labels_are) refl in
      let s = now c p opened old new told since call before left (first ++ w ∷ (between ++ f ∷ behind)) later m some kept survives law all labels in
      there c p known' some old.sizes m.opens.block w place k is_write on_disk a.mid held_a d.round d.called d.succeeds a.rest.1.long left
      (law' w_rules m.opens.arrays before left (under_way call ∷ (since ++ told)) s.end fs.rounds d.round ts.rounds e.round (bs.rounds ++ ls.rounds) (labels_of_all bs.rounds ++ s.first) s.rest place
      (subst (λ (x : List Label). IsSession w_rules m.opens.arrays before (under_way call ∷ (since ++ told)) x s.end)
      (four (labels_of_all fs.rounds) (labels_of d.round) (labels_of_all ts.rounds) (labels_of e.round) (labels_of_all bs.rounds) s.first) s.session)
      (whole c p opened old new told since call before left (first ++ w ∷ (between ++ f ∷ behind)) later m some kept survives law) fs.are d.is_round ts.are e.is_round (All-append IsRound bs.rounds ls.rounds bs.are ls.are)
      (both_labels c p opened old new told since call before left (first ++ w ∷ (between ++ f ∷ behind)) later m some kept survives law bs.rounds ls.rounds s.first s.rest (sym ls.labels_are ∙ s.split))
      (written c p known' some old.sizes m.opens.block w place k is_write on_disk a.mid held_a d.round d.called d.succeeds a.rest.1.long) (record { is_flush = flush_kind _ e.round e.called; succeeds = e.succeeds })
      (away_there c p known' some old.sizes m.opens.block w place k is_write on_disk a.mid held_a d.round d.called d.succeeds a.rest.1.long ts.rounds (ts.away k away_between)) (ts.well well)
      (away_there c p known' some old.sizes m.opens.block w place k is_write on_disk a.mid held_a d.round d.called d.succeeds a.rest.1.long (bs.rounds ++ ls.rounds)
      (All-append (IsAway w_rules (sector_on c p k)) bs.rounds ls.rounds (bs.away k away) (ls.away k away_later))) survives)
    where
      four : (x1 x2 x3 x4 x5 x6 : List Label) → (x1 ++ (x2 ++ (x3 ++ (x4 ++ x5)))) ++ x6 ≡ x1 ++ (x2 ++ (x3 ++ (x4 ++ (x5 ++ x6))))
      four x1 x2 x3 x4 x5 x6 = simp append_assoc

pub flushed_meanwhile : LaterMomentsAreSessions → FlushedSurvives → FlushedIsKeptMeanwhile
flushed_meanwhile law law' c p opened old new told since call before left first w between f behind later place k m some kept is_write is_flush away_between well away away_later on_disk survives =
    flush_kept c p opened old new told since call before left w place k is_write on_disk later away_later some kept survives law law' first between f behind m is_flush away_between well away

pub secured_meanwhile : LaterMomentsAreSessions → SecuredSurvives → SecuredIsKeptMeanwhile
secured_meanwhile law law' c p opened old new told since call before left first w behind later place k m some kept is_write through away away_later on_disk survives =
    secured c p opened old new told since call before left w place k is_write on_disk later away_later some kept survives law law' first behind m through away

pub answered_meanwhile : LaterMomentsAreSessions → RemainsSurvive → AnsweredRemains → AnsweredIsKeptMeanwhile
answered_meanwhile law less law' c p opened old new told since call before left first w behind later place k m some kept is_write away well away_later none on_disk remains =
    remaining c p opened old new told since call before left w place k is_write on_disk later away_later some kept (less c.sector_size c.sectors before left (under_way call ∷ (since ++ told)) remains) law law' first behind m away well none remains
