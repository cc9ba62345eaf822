-- What is said of lines.
use Rattle.std.proofs.Common.{◌≡◌, ◌<◌, ◌≤◌, ℕ, ◌+◌, List, [], ◌∷◌, ◌++◌, Option, Some, None, refl, sym, ◌∙◌, ap, subst, arith, length, get_or, map, take, drop}
use Rattle.std.specs.Prelude.{All, MatchOption, slice_get}
use Rattle.std.proofs.lemmas.List.{take_all, take-append-drop}
use Rattle.std.proofs.lemmas.List.Elements.{filter_map-append}
use Rattle.std.proofs.lemmas.Option.{slice_get-get_or}
use Rattle.machine.specs.Rules.{Rules}
use Rattle.loss.specs.Held.{HeldOf}
use Rattle.sector_judge.specs.declared.Event.{Event}
use Rattle.sector_judge.specs.Happened.{CanHappen, HappenAll}
use Rattle.disk_judge.specs.declared.Happening.{Happening}
use Rattle.disk_judge.specs.Disks.{CanHappenTo, IsRefusal, IsRight as IsRightOfDisk, event_at, events_at}
use Rattle.disk_judge.specs.declared.Verdict.{Verdict as DiskVerdict}
use Rattle.disk_judge.specs.declared.Verdict.TheVariants as disk
use Rattle.session_judge.specs.declared.walk.Line.{Line}
use Rattle.session_judge.specs.declared.walk.Stop.{Stop}
use Rattle.session_judge.specs.declared.walk.Stop.TheVariants as stop
use Rattle.session_judge.specs.declared.walk.Walk.{Walk}
use Rattle.session_judge.specs.declared.deeds.Deed.{Deed}
use Rattle.session_judge.specs.declared.judging.Reading.{Reading}
use Rattle.session_judge.specs.declared.judging.Verdict.{Verdict}
use Rattle.session_judge.specs.declared.judging.Verdict.TheVariants.{Passed, Breaks, Refused, Unnamed}
use Rattle.session_judge.specs.Numbers.{IsNumbered, happening_of}
use Rattle.session_judge.specs.Verdicts.{IsRight, Passes, StopsAt}
use Rattle.session_judge.specs.Walks.{AreDeedsOf, IsBroken}
use Rattle.session_judge.specs.inside.Reading.{CanHave, CantHave, HasRead, IsRead, IsSaid, IsStopOf, verdict_by}
use Rattle.session_judge.specs.inside.Walking.{HasWalked, StopsWalk, WalksOn}
use Rattle.session_judge.proofs.Walking.{deeds_of}

-- READ

pub read_to : (rules : Rules) (lines : List Line) (index : ℕ) (d : Line) (old new : Walk) (why : Stop) (reading : Reading) → index < length lines → HasWalked rules (take index lines) old
    → StopsWalk rules (get_or lines index d) old new why → reading.deeds ≡ new.deeds → reading.count ≡ index → reading.stop ≡ Some why → IsRead rules lines reading
read_to rules lines index d old new why reading low h stops deeds count stop = record {
  within = omega (arith, low, count);
  are_deeds = subst (λ n. AreDeedsOf rules (take n lines) reading.deeds.items) (sym count) (subst (λ all. AreDeedsOf rules (take index lines) all.items) (sym (deeds ∙ stops.kept)) (deeds_of rules (take index lines) old h));
  has_read = subst (λ s. HasRead rules lines reading.count s) (sym stop) (subst (λ n. IsStopOf rules lines n why) (sym count)
      (record { line = get_or lines index d; is_line = slice_get-get_or lines index d low; is_stop = stops.is (take index lines) h }));
}

pub read_by : (rules : Rules) (lines : List Line) (index : ℕ) (item : Line) (old new : Walk) (found : Option Stop) (why : Stop) (reading : Reading) → index < length lines → item ≡ get_or lines index item
    → HasWalked rules (take index lines) old → MatchOption found (WalksOn rules item old new) (StopsWalk rules item old new) → found ≡ Some why → reading.deeds ≡ new.deeds → reading.count ≡ index
    → reading.stop ≡ Some why → IsRead rules lines reading
read_by rules lines index item old new found why reading low is h tells some deeds count stop =
    read_to rules lines index item old new why reading low h
    (subst (λ l. StopsWalk rules l old new why) is (subst (λ (f : Option Stop). MatchOption f (WalksOn rules item old new) (StopsWalk rules item old new)) some tells)) deeds count stop

pub read_all : (rules : Rules) (lines : List Line) (index : ℕ) (walk : Walk) (reading : Reading) → length lines ≤ index → HasWalked rules (take index lines) walk → reading.deeds ≡ walk.deeds → reading.count ≡ length lines
    → reading.stop ≡ None → IsRead rules lines reading
read_all rules lines index walk reading high h deeds count stop =
    let all : HasWalked rules lines walk = subst (λ ls. HasWalked rules ls walk) (take_all index lines high) h in
    record {
      within = omega (arith, count);
      are_deeds = subst (λ n. AreDeedsOf rules (take n lines) reading.deeds.items) (sym count)
          (subst (λ ls. AreDeedsOf rules ls reading.deeds.items) (sym (take_all (length lines) lines (omega arith))) (subst (λ ds. AreDeedsOf rules lines ds.items) (sym deeds) (deeds_of rules lines walk all)));
      has_read = subst (λ s. HasRead rules lines reading.count s) (sym stop) count;
    }

-- SAID

-- what happens, happens up to any moment
happened_first : (h h' : HeldOf ℕ) (xs ys : List Event) → HappenAll h (xs ++ ys) h' → (mid : HeldOf ℕ) × HappenAll h xs mid
happened_first h h' [] ys run = (h, refl)
happened_first h h' (x ∷ xs) ys run = let later = happened_first run.0 h' xs ys run.2 in (later.0, (run.0, run.1, later.1))

can_first : (xs ys : List Event) → CanHappen (xs ++ ys) → CanHappen xs
can_first xs ys can = let front = happened_first _ can.1 xs ys can.2 in (can.0, front.0, front.1)

pub cant_have : (tables : List (List (List ℕ))) (deeds : List Deed) (happenings : List Happening) (taken sector : ℕ) → happenings ≡ map (happening_of tables) deeds
    → (CanHappen (events_at sector (take taken happenings)) → ⊥) → CantHave deeds sector
cant_have tables deeds happenings taken sector are never = record {
  tables = tables;
  never = λ can. never
      (can_first (events_at sector (take taken happenings)) (events_at sector (drop taken happenings))
      (subst (λ es. CanHappen es) (ap (λ hs. events_at sector hs) (sym are ∙ sym (take-append-drop taken happenings)) ∙ filter_map-append (event_at sector) (take taken happenings) (drop taken happenings)) can));
}

pub can_have : (tables : List (List (List ℕ))) (deeds : List Deed) (happenings : List Happening) (count : ℕ) → happenings ≡ map (happening_of tables) deeds → count ≡ length tables → All (IsNumbered tables) deeds
    → CanHappenTo count happenings → CanHave deeds
can_have tables deeds happenings count are counted numbered can = record {
  tables = tables;
  numbered = numbered;
  can_happen = subst (λ n. CanHappenTo n (map (happening_of tables) deeds)) counted (subst (λ hs. CanHappenTo count hs) are can);
}

said_by : (deeds : List Deed) (count : ℕ) (why : Option Stop) → CanHave deeds → IsSaid deeds count why (verdict_by count why)
said_by deeds count None can = (can, refl)
said_by deeds count (Some (stop.Breaks rule)) can = (can, refl)
said_by deeds count (Some stop.Unnamed) can = (can, refl)

pub said : (deeds : List Deed) (count : ℕ) (why : Option Stop) (verdict : Verdict) → verdict ≡ verdict_by count why → CanHave deeds → IsSaid deeds count why verdict
said deeds count why verdict is can = subst (λ v. IsSaid deeds count why v) (sym is) (said_by deeds count why can)

pub cant_by : (tables : List (List (List ℕ))) (deeds shown : List Deed) (happenings judged : List Happening) (count taken sector : ℕ) (verdict : DiskVerdict) → shown ≡ deeds → happenings ≡ map (happening_of tables) shown
    → judged ≡ happenings → IsRightOfDisk count judged verdict → verdict ≡ disk.Refused taken sector → CantHave deeds sector
cant_by tables deeds shown happenings judged count taken sector verdict same are whole right is =
    let refusal : IsRefusal count judged taken sector = subst (λ v. IsRightOfDisk count judged v) is right in
    cant_have tables deeds judged taken sector (whole ∙ are ∙ ap (λ (ds : List Deed). map (happening_of tables) ds) same) refusal.never

pub can_by : (tables : List (List (List ℕ))) (deeds shown : List Deed) (happenings judged : List Happening) (count : ℕ) (verdict : DiskVerdict) → shown ≡ deeds → happenings ≡ map (happening_of tables) shown
    → judged ≡ happenings → IsRightOfDisk count judged verdict → verdict ≡ disk.Passed → count ≡ length tables → All (IsNumbered tables) shown → CanHave deeds
can_by tables deeds shown happenings judged count verdict same are whole right is counted numbered =
    can_have tables deeds judged count (whole ∙ are ∙ ap (λ (ds : List Deed). map (happening_of tables) ds) same) counted (subst (λ ds. All (IsNumbered tables) ds) same numbered)
    (subst (λ v. IsRightOfDisk count judged v) is right)

-- THE WHOLE

passes_by : (rules : Rules) (lines : List Line) (deeds : List Deed) → AreDeedsOf rules lines deeds → CanHave deeds → Passes rules lines
passes_by rules lines deeds are can = record { deeds = deeds; are_deeds = are; tables = can.tables; numbered = can.numbered; can_happen = can.can_happen }

right_by : (rules : Rules) (lines : List Line) (deeds : List Deed) (count : ℕ) (why : Option Stop) → AreDeedsOf rules (take count lines) deeds → HasRead rules lines count why → CanHave deeds
    → IsRight rules lines (verdict_by count why)
right_by rules lines deeds count None are read can =
    passes_by rules lines deeds (subst (λ ls. AreDeedsOf rules ls deeds) (ap (λ (n : ℕ). take n lines) read ∙ take_all (length lines) lines (omega arith)) are) can
right_by rules lines deeds count (Some (stop.Breaks rule)) are read can = record { passes = passes_by rules (take count lines) deeds are can; line = read.line; is_line = read.is_line; stops = read.is_stop }
right_by rules lines deeds count (Some stop.Unnamed) are read can = tt

pub right : (rules : Rules) (lines : List Line) (reading : Reading) (verdict : Verdict) → IsRead rules lines reading → IsSaid reading.deeds.items reading.count reading.stop verdict → IsRight rules lines verdict
right rules lines reading (Refused line sector) read h =
    record { count = reading.count; within = read.within; deeds = reading.deeds.items; are_deeds = read.are_deeds; tables = h.tables; never = h.never }
right rules lines reading Passed read h = subst (λ v. IsRight rules lines v) (sym h.1) (right_by rules lines reading.deeds.items reading.count reading.stop read.are_deeds read.has_read h.0)
right rules lines reading (Breaks line rule) read h = subst (λ v. IsRight rules lines v) (sym h.1) (right_by rules lines reading.deeds.items reading.count reading.stop read.are_deeds read.has_read h.0)
right rules lines reading (Unnamed line) read h = subst (λ v. IsRight rules lines v) (sym h.1) (right_by rules lines reading.deeds.items reading.count reading.stop read.are_deeds read.has_read h.0)
