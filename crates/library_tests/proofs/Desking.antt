-- One thing that happens at the desk, from each stage to the next.
use Rattle.std.proofs.Common.{◌≡◌, ◌≢◌, ℕ, List, [], ◌∷◌, Option, Some, None, refl, sym, subst, arith}
use Rattle.std.specs.Prelude.{IsPermutation}
use Rattle.std.proofs.lemmas.List.Sorted.{IsPermutation-refl}
use Rattle.nbd.specs.declared.beside.Happening.{Happening}
use Rattle.nbd.specs.declared.beside.Happening.TheVariants.{Answered, Read}
use Rattle.nbd.specs.Replies.{success}
use Rattle.nbd.specs.Beside.{Account, IsTaken, taken_bytes}
use Rattle.nbd.specs.Desks.{GoesFrom, Happens, ReadsOne, TellsOne}
use Rattle.library_tests.specs.declared.desk.Stage.{Stage}
use Rattle.library_tests.specs.declared.desk.Stage.TheVariants.{Fresh, OneRead, BothRead, PassedOn, OneTold, BothTold}
use Rattle.library_tests.specs.Desks.{failed, read_named, said_at}

is_taken_7 : IsTaken (read_named 7)
is_taken_7 = record {
  is_request = record { long = refl; magic = refl; fields = refl };
  goes_on = λ (e : 0 ≡ 2). absurd (cc (e));
  long = refl;
}

is_taken_8 : IsTaken (read_named 8)
is_taken_8 = record {
  is_request = record { long = refl; magic = refl; fields = refl };
  goes_on = λ (e : 0 ≡ 2). absurd (cc (e));
  long = refl;
}

pub goes_from : {S : Type 0} (stage : S → Stage) (first old new : S) (a : Account) (happening : Happening) → a ≡ said_at (stage old) → Happens None (said_at (stage old)) happening None (said_at (stage new))
    → GoesFrom (λ _. None) (λ _ account desk. account ≡ said_at (stage desk)) first old a happening new
goes_from stage first old new a happening is h = record { next = said_at (stage new); happens = subst (λ b. Happens None b happening None (said_at (stage new))) (sym is) h; since = refl }

pub reads_first : ReadsOne None (said_at Fresh) None (said_at OneRead)
reads_first = record { one = read_named 7; is_taken = is_taken_7; bytes = tt; more = refl; same = refl; due = IsPermutation-refl _ }

pub reads_second : ReadsOne None (said_at OneRead) None (said_at BothRead)
reads_second = record { one = read_named 8; is_taken = is_taken_8; bytes = tt; more = refl; same = refl; due = IsPermutation-refl _ }

pub tells_second : TellsOne None (said_at PassedOn) failed None (said_at OneTold)
tells_second = record { of_one = record { one = read_named 8; at_place = refl; named = refl }; more = refl; same = refl; due = IsPermutation-refl _; unread = refl }

pub tells_first : (bytes : List ℕ) → bytes ≡ [] → TellsOne None (said_at OneTold) (record { place = 0; cookie = 7; outcome = success bytes }) None (said_at BothTold)
tells_first bytes none = subst (λ (b : List ℕ). TellsOne None (said_at OneTold) (record { place = 0; cookie = 7; outcome = success b }) None (said_at BothTold)) (sym none)
    (record { of_one = record { one = read_named 7; at_place = refl; named = refl }; more = refl; same = refl; due = IsPermutation-refl _; unread = refl })
