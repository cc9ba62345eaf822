-- What is certain survives in the file.
use Rattle.std.proofs.Common.{◌≡◌, ℕ, List, [], ◌∷◌, sym, ap, subst}
use Rattle.loss.specs.Held.{Held, surely}
use Rattle.loss.specs.Laws.{CertainIsLeft, CertainStays, SuccessIsLeft, ThroughIsLeft, sector_of, value_for}
use Rattle.loss.specs.Sessions.{Ended, LineStep, Lost, MayBeLeft, MayRemain}
use Rattle.file_sessions.specs.Sessions.{beginning}
use Rattle.file_sessions.specs.Laws.{CertainSurvives, RemainsAreLeft, SuccessSurvives, SurvivorsAreLeft, ThroughSurvives}

abbrev first_in : List (List ℕ) → List ℕ
first_in [] = []
first_in (v ∷ vs) = v

abbrev first_of : Held → List ℕ
first_of h = first_in h.now

first_is : (a b : List ℕ) → surely a ≡ surely b → a ≡ b
first_is a b e = ap first_of e

pub survivors_are_left : SurvivorsAreLeft
survivors_are_left rules arrays before calls labels end i after session low survives =
    let line : LineStep rules end Lost (beginning arrays after) = session.lost after survives in
    subst (λ (value : List ℕ). MayBeLeft rules end.machine end.table i value) (sym (first_is (after i) (line.disk i) (line.table i))) (line.chosen i low)

pub remains_are_left : RemainsAreLeft
remains_are_left rules arrays before calls labels end i after session low remains =
    let line : LineStep rules end Ended (beginning arrays after) = session.ended after remains in
    subst (λ (value : List ℕ). MayRemain rules end.machine end.table i value) (sym (first_is (after i) (line.disk i) (line.table i))) (line.chosen i low)

pub certain_survives : CertainIsLeft → CertainSurvives
certain_survives certain rules arrays before calls labels end i value after session low leaves work survives =
    certain rules i value end.machine end.table (after i) leaves work (survivors_are_left rules arrays before calls labels end i after session low survives)

pub through_survives : ThroughIsLeft → CertainStays → CertainIsLeft → ThroughSurvives
through_survives left stays certain rules number q place s0 t0 s1 t1 write labels end later arrays before calls all after kind through low own rest work session inside survives =
    certain_survives certain rules arrays before calls all end (sector_of rules q place) (value_for rules q place) after session inside
    (stays rules (sector_of rules q place) (value_for rules q place) s1 t1 labels end.machine end.table later (left rules number q place s0 t0 s1 t1 write kind through low own) rest)
    work survives

pub success_survives : SuccessIsLeft → SuccessSurvives
success_survives left rules number q place s0 t0 s1 t1 write labels s2 t2 between flush f s3 t3 flushed labels' end later arrays before calls all after kind low flushes own among meanwhile rest work session inside survives =
    left rules number q place s0 t0 s1 t1 write labels s2 t2 between flush f s3 t3 flushed labels' end.machine end.table later (after (sector_of rules q place)) kind low flushes own among meanwhile rest work
    (survivors_are_left rules arrays before calls all end (sector_of rules q place) after session inside survives)
