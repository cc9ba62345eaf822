-- Sessions over a file, one behind the other.
use Rattle.serving.proofs.Common.{◌≡◌, ◌<◌, ℕ, Bool, List, [], ◌∷◌, ◌++◌, Option, refl, sym, subst, Label}
use Rattle.std.proofs.Common.{append-nil}
use Rattle.std.specs.Prelude.{false, true}
use Rattle.settings.specs.declared.Config.{Config as Settings}
use Rattle.startup.specs.Started.{rules_over}
use Rattle.file_disk.specs.Calls.{Call}
use Rattle.loss.specs.Sessions.{Moment}
use Rattle.file_sessions.specs.Arrays.{AnyArraysDo, over}
use Rattle.file_sessions.specs.Laws.{SeriesAreSessions}
use Rattle.file_sessions.specs.Sessions.{AreSessions, IsSession, Outlives, Part}
use Rattle.file_sessions.specs.Stored.{Content, under_way}
use Rattle.serving.specs.declared.faults.Error.{Error}
use Rattle.serving.specs.Filed.{FiledView}
use Rattle.serving.specs.Lasting.{ServedAreSessions, ServedMomentsAreSessions, told_in}
use Rattle.serving.specs.Series.{Gets, Leaves, ServedSeriesAreSessions, ServesBy, ServesSeries, TellsSeries, all_told}
use Rattle.serving.specs.Tracing.{TracedAreSessions, TracedMomentsAreSessions, told_traced}

-- some first labels of these make a session over some arrays, and all of them where it wasn't cut off
record Makes (traced cut_off : Bool) (c : Settings) (before : Content) (got : List Call) (told : List Label) : Type 0 where
  pub first : List Label
  pub rest : List Label
  pub labels_are : told ≡ first ++ rest
  pub whole : cut_off ≡ false → rest ≡ []
  pub arrays : List (List (List ℕ))
  pub end : Moment
  pub session : IsSession (rules_over false traced c) arrays before got first end

module _ (all : ServedAreSessions) (moments : ServedMomentsAreSessions) (traced_all : TracedAreSessions) (traced_moments : TracedMomentsAreSessions) where
  module _ (c : Settings) (p : ℕ) (opened : List Call) (old : FiledView) (input out : Option (List ℕ)) (fault : Option Error) (new : FiledView) (after : Option (List ℕ)) (calls : List Call) (before : Content) (some : 0 < c.sector_size) where
    as_whole : (traced : Bool) (got : List Call) (told : List Label) (arrays : List (List (List ℕ))) → got ≡ calls → (s : (end : Moment) × IsSession (rules_over false traced c) arrays before calls told end)
        → Makes traced false c before got told
    as_whole traced got told arrays is s = record {
      first = told;
      rest = [];
      labels_are = sym (append-nil told);
      whole = λ _. refl;
      arrays = arrays;
      end = s.0;
      session = subst (λ (g : List Call). IsSession (rules_over false traced c) arrays before g told s.0) (sym is) s.1;
    }

    as_cut : (traced : Bool) (got : List Call) (told : List Label) (arrays : List (List (List ℕ))) (call : Call) (earlier : List Call) → got ≡ under_way call ∷ earlier
        → (s : (first : List Label) × (rest : List Label) × (end : Moment) × (told ≡ first ++ rest) × IsSession (rules_over false traced c) arrays before (under_way call ∷ earlier) first end)
        → Makes traced true c before got told
    as_cut traced got told arrays call earlier is s = record {
      first = s.0;
      rest = s.1;
      labels_are = s.3;
      whole = λ no. absurd (cc (no));
      arrays = arrays;
      end = s.2;
      session = subst (λ (g : List Call). IsSession (rules_over false traced c) arrays before g s.0 s.2) (sym is) s.4;
    }

    makes : (traced cut_off : Bool) (got : List Call) (h : ServesBy traced c p opened old input out fault new after calls) → Gets cut_off c.sector_size before calls got
        → Makes traced cut_off c before got (all_told traced c p opened old input out fault new after calls h)
    makes true true got h g =
        as_cut true got (told_traced c p opened old input out fault new after calls h) h.opens.arrays g.call g.earlier g.got_are
        (traced_moments c p opened old input out fault new after calls g.later g.earlier g.call before h some g.calls_are g.kept)
    makes true false got h g =
        as_whole true got (told_traced c p opened old input out fault new after calls h) h.opens.arrays g.got_are
        (traced_all c p opened old input out fault new after calls before h some g.kept)
    makes false true got h g =
        as_cut false got (told_in c p opened old input out fault new after calls h) h.opens.arrays g.call g.earlier g.got_are
        (moments c p opened old input out fault new after calls g.later g.earlier g.call before h some g.calls_are g.kept)
    makes false false got h g =
        as_whole false got (told_in c p opened old input out fault new after calls h) h.opens.arrays g.got_are
        (all c p opened old input out fault new after calls before h some g.kept)

  module _ (any : AnyArraysDo) (traced : Bool) (c : Settings) (arrays : List (List (List ℕ))) (some : 0 < c.sector_size) where
    outlives : (lost : Bool) (before left : Content) (labels : List Label) (got : List Call) → Leaves lost c before got left
        → Outlives (rules_over false traced c) before (record { labels = labels; calls = got; lost = lost }) left
    outlives true before left labels got h = h
    outlives false before left labels got h = h

    record Joined (before : Content) (mids : List Content) (left : Content) (h : ServesSeries traced c before mids left) : Type 0 where
      pub parts : List Part
      pub tells : TellsSeries traced c before mids left h parts
      pub are_sessions : AreSessions (rules_over false traced c) arrays before parts left

    then_more : (before mid : Content) (mids : List Content) (left : Content) (h : ServesSeries traced c before (mid ∷ mids) left)
        → Makes traced h.0.cut_off c before h.0.got (all_told traced c h.0.p h.0.opened h.0.old h.0.input h.0.out h.0.fault h.0.new h.0.after h.0.calls h.0.serves)
        → Joined mid mids left h.1 → Joined before (mid ∷ mids) left h
    then_more before mid mids left h made joined = record {
      parts = record { labels = made.first; calls = h.0.got; lost = h.0.lost } ∷ joined.parts;
      tells = (record { rest = made.rest; labels_are = made.labels_are; whole = made.whole; calls_are = refl; lost_so = refl }, joined.tells);
      are_sessions = (
        over arrays made.end,
        mid,
        any (rules_over false traced c) made.arrays arrays before h.0.got made.first made.end refl made.session,
        outlives h.0.lost before mid made.first h.0.got h.0.leaves,
        joined.are_sessions,
      );
    }

    joins : (before : Content) (mids : List Content) (left : Content) (h : ServesSeries traced c before mids left) → Joined before mids left h
    joins before [] left h = record { parts = []; tells = tt; are_sessions = h }
    joins before (mid ∷ mids) left h =
        then_more before mid mids left h
        (makes c h.0.p h.0.opened h.0.old h.0.input h.0.out h.0.fault h.0.new h.0.after h.0.calls before some traced h.0.cut_off h.0.got h.0.serves h.0.gets)
        (joins mid mids left h.1)

  pub served_series : AnyArraysDo → SeriesAreSessions → ServedSeriesAreSessions
  served_series any series traced c arrays before mids left some h =
      let joined : Joined any traced c arrays some before mids left h = joins any traced c arrays some before mids left h in
      record {
        parts = joined.parts;
        tells = joined.tells;
        are_sessions = joined.are_sessions;
        trace = series (rules_over false traced c) arrays before joined.parts left joined.are_sessions;
      }
