-- What a text comes to that is judged for a cut.
use Rattle.std.proofs.Common.{◌≡◌, ◌&&◌, ℕ, Bool, true, false, List, Option, None, Some, Result, Ok, Err, IfOk, IfSome, MatchOption, refl, subst, sym}
use Rattle.std.specs.Bool.{OnTrue}
use Rattle.std.specs.Str.Lines.{lines}
use Rattle.std.specs.Io.KnownBytes.{Appends}
use Rattle.startup.specs.Reading.{IsAllOf}
use Rattle.startup.specs.declared.ending.Verdict.{Verdict}
use Rattle.startup.specs.declared.ending.Verdict.TheVariants.{Passed, Failed}
use Rattle.judging.specs.Cutting.{IsCutDown, IsRefusedIn, IsRunIn, PrintsCut}
use Rattle.judging.specs.declared.cutting.Remnant.{Remnant}
use Rattle.judging.specs.declared.faults.Error.{Error}
use Rattle.judging.specs.inside.Cut.{IsCut, SaysRun, WritesLeast, left_of, stop_of}
use Rattle.judging.specs.Told.{AreTold}
use Rattle.judging.specs.declared.course.Course.{Course}
use Rattle.judging.specs.declared.course.Course.TheVariants.{Legal, Refused}
use Rattle.judging.specs.declared.course.Stop.{Stop}
use Rattle.judging.specs.declared.course.Trial.{Trial}
use Rattle.judging.specs.declared.opened.Standard.{Standard}
use Rattle.judging.specs.inside.Checked.{IsCourseOf}
use Rattle.judging.proofs.Courses.{is_run}

pub legal_in : (c : Standard) (text : List ℕ) (a b : Option (List ℕ)) (trial : Trial) → IsCourseOf c (Some text) a b (Legal trial) → IsRunIn c text
legal_in c text a b trial h = record {
  told_lines = h.told_lines;
  numbers = h.numbers;
  are_told = subst (λ t. AreTold (lines t) h.told_lines h.numbers) h.all h.are_told;
  run = is_run c h.told_lines trial h.is.0;
}

pub refused_in : (c : Standard) (text : List ℕ) (a b : Option (List ℕ)) (stop : Stop) → IsCourseOf c (Some text) a b (Refused stop) → IsRefusedIn c text stop.line stop.misstep
refused_in c text a b stop h = record {
  told_lines = h.told_lines;
  numbers = h.numbers;
  are_told = subst (λ t. AreTold (lines t) h.told_lines h.numbers) h.all h.are_told;
  first = h.is.0;
}

by_course : (c : Standard) (text : List ℕ) (a b : Option (List ℕ)) (course : Course) → IsCourseOf c (Some text) a b course
    → MatchOption (stop_of course) (IsRunIn c text) (λ stop. IsRefusedIn c text stop.line stop.misstep)
by_course c text a b (Legal trial) h = legal_in c text a b trial h
by_course c text a b (Refused stop) h = refused_in c text a b stop h

pub found_in : (c : Standard) (text : List ℕ) (a b : Option (List ℕ)) (course : Course) (found : Option Stop) → IsCourseOf c (Some text) a b course → found ≡ stop_of course
    → MatchOption found (IsRunIn c text) (λ stop. IsRefusedIn c text stop.line stop.misstep)
found_in c text a b course found h is =
    subst (λ (f : Option Stop). MatchOption f (IsRunIn c text) (λ stop. IsRefusedIn c text stop.line stop.misstep)) (sym is) (by_course c text a b course h)

pub same_by : (P : Type 0) (same alike : Bool) → OnTrue same P → OnTrue (same && alike) P
same_by P false alike h = h
same_by P true false h = tt
same_by P true true h = h

-- what is left of a text that is refused, or the text itself
left : (c : Standard) (trace a b : Option (List ℕ)) (text : List ℕ) (stop : Stop) (least : Option Remnant) → IsAllOf trace text → IsRefusedIn c text stop.line stop.misstep
    → IfSome least (IsCut c stop.misstep) → Appends a b (left_of text least) → IsCutDown c trace a b
left c trace a b text stop None all refused h appends = record {
  text = text;
  all = all;
  number = stop.line;
  misstep = stop.misstep;
  refused = refused;
  left = text;
  last = stop.line;
  why = stop.misstep;
  refused_too = refused;
  same = refl;
  appends = appends;
}
left c trace a b text stop (Some cut) all refused h appends = record {
  text = text;
  all = all;
  number = stop.line;
  misstep = stop.misstep;
  refused = refused;
  left = cut.text.items;
  last = cut.stop.line;
  why = cut.stop.misstep;
  refused_too = h.refused;
  same = h.same;
  appends = appends;
}

pub cut_down : (c : Standard) (trace a b : Option (List ℕ)) (text : List ℕ) (stop : Stop) (least : Option Remnant) (result : Result Verdict Error) → IsAllOf trace text
    → IsRefusedIn c text stop.line stop.misstep → IfSome least (IsCut c stop.misstep) → IfOk result (WritesLeast (left_of text least) a b) → IfOk result (PrintsCut c trace a b)
cut_down c trace a b text stop least (Ok verdict) all refused h writes =
    subst (PrintsCut c trace a b) (sym writes.0) (left c trace a b text stop least all refused h writes.1)
cut_down c trace a b text stop least (Err fault) all refused h writes = tt

pub not_cut : (c : Standard) (trace a b : Option (List ℕ)) (text : List ℕ) (result : Result Verdict Error) → IsAllOf trace text → IsRunIn c text → IfOk result (SaysRun a b)
    → IfOk result (PrintsCut c trace a b)
not_cut c trace a b text (Ok verdict) all run says =
    subst (PrintsCut c trace a b) (sym says.0) (record { text = text; all = all; run = run; appends = says.1 })
not_cut c trace a b text (Err fault) all run says = tt
