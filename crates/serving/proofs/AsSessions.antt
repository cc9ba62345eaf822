-- A session over a file, as a session of the table.
use Rattle.serving.proofs.Common.{◌≡◌, ◌<◌, ℕ, Bool, List, [], ◌++◌, Option, refl, subst, ap, ◌∙◌, Label, Rules, IsTold}
use Rattle.settings.specs.declared.Config.{Config as Settings}
use Rattle.std.specs.Prelude.{false, true}
use Rattle.machine.specs.State.{opening}
use Rattle.startup.specs.Started.{rules_over}
use Rattle.file_sessions.specs.Deeds.{DeedRun}
use Rattle.file_disk.specs.Calls.{Call}
use Rattle.file_sessions.specs.Laws.{IsFiled, MomentsAreSessions, RunsAreSessions}
use Rattle.serving.specs.declared.faults.Error.{Error}
use Rattle.serving.specs.Filed.{FiledView}
use Rattle.serving.specs.Lasting.{ServedAreSessions, ServedMomentsAreSessions, told_in}
use Rattle.serving.specs.OnDisk.{IsFileSession, IsOpenedFor}
use Rattle.serving.specs.Telling.{of_session}
use Rattle.serving.specs.Tracing.{TracedAreSessions, TracedMomentsAreSessions, told_traced}
use Rattle.serving.proofs.Lasting.{Lasts, session_lasts}

module _ (keeps : Bool) (c : Settings) (p : ℕ) (opened : List Call) (old : FiledView) (input out : Option (List ℕ)) (fault : Option Error) (new : FiledView) (after : Option (List ℕ)) (calls : List Call)
    (opens : IsOpenedFor keeps c p opened old) (session : IsFileSession old input out fault new after) (calls_are : new.carried.disk.calls ≡ calls ++ old.carried.disk.calls) (some : 0 < c.sector_size) where
  lasts : Lasts (of_session old.sizes old input out session.end new after session.session) old new
  lasts = session_lasts old.sizes old input out session.end new after session.session

  abbrev all : List Label
  all = opens.trace ++ of_session old.sizes old input out session.end new after session.session

  told : IsTold opens.arrays all lasts.deeds new.carried.stack
  told = lasts.told opens.arrays opens.trace [] opens.begins

  rules_are : new.carried.stack.rules ≡ rules_over false keeps c
  rules_are = lasts.same_rules ∙ opens.rules

  size_is : old.carried.disk.sector_size ≡ c.sector_size
  size_is = opens.stands.sector_size ∙ ap (λ (r : Rules). r.sector_size) opens.rules

  pub filed : IsFiled (rules_over false keeps c) opens.arrays all new.carried.stack.state calls
  filed = record {
    apart = refl;
    some = some;
    deeds = lasts.deeds;
    run = subst (λ (r : Rules). DeedRun r (opening opens.arrays) all new.carried.stack.state lasts.deeds) rules_are told.did;
    old = old.carried.disk;
    new = new.carried.disk;
    size = size_is;
    files = lasts.files;
    calls_are = calls_are;
  }

pub sessions : RunsAreSessions → ServedAreSessions
sessions law c p opened old input out fault new after calls before h some kept =
    let s = law (rules_over false false c) h.opens.arrays before calls (told_in c p opened old input out fault new after calls h) new.carried.stack.state
    (filed false c p opened old input out fault new after calls h.opens h.session h.calls_are some) kept in
    (record { machine = new.carried.stack.state; table = s.0 }, s.1)

pub moments : MomentsAreSessions → ServedMomentsAreSessions
moments law c p opened old input out fault new after calls later earlier call before h some parts kept =
    law (rules_over false false c) h.opens.arrays before calls (told_in c p opened old input out fault new after calls h) new.carried.stack.state later earlier call
    (filed false c p opened old input out fault new after calls h.opens h.session h.calls_are some) parts kept

pub traced : RunsAreSessions → TracedAreSessions
traced law c p opened old input out fault new after calls before h some kept =
    let s = law (rules_over false true c) h.opens.arrays before calls (told_traced c p opened old input out fault new after calls h) new.carried.stack.state
    (filed true c p opened old input out fault new after calls h.opens h.session h.calls_are some) kept in
    (record { machine = new.carried.stack.state; table = s.0 }, s.1)

pub traced_moments : MomentsAreSessions → TracedMomentsAreSessions
traced_moments law c p opened old input out fault new after calls later earlier call before h some parts kept =
    law (rules_over false true c) h.opens.arrays before calls (told_traced c p opened old input out fault new after calls h) new.carried.stack.state later earlier call
    (filed true c p opened old input out fault new after calls h.opens h.session h.calls_are some) parts kept
