-- One call more.
use Rattle.std.proofs.Common.{◌≡◌, ◌≤◌, ℕ, ◌+◌, ◌-◌, List, [], ◌∷◌, ◌++◌, length, take, drop, Ok, Result, refl, sym, ◌∙◌, ap, subst, arith, take-take, take-add, take_at, drop_at, take_all, length-take-le, length-drop, slice_range}
use Rattle.std.proofs.lemmas.Slice.{take-put_mid}
use borrow.Rule.Slice.PartMut.{put_mid}
use Rattle.file_disk.specs.declared.storage.Failure.{Failure}
use Rattle.file_disk.specs.Calls.{Call, ReadAt, WriteAt, GaveNothing, Reads, ReadsAll, Since, StopsReading, StopsWriting, TookNothing, Writes, WritesAll}

pub none_yet : (calls : List Call) (Made : List Call → Type 0) → Made [] → Since calls calls Made
none_yet calls Made made = record { calls = []; after = refl; made = made }

-- READS

pub reads_none : (offset count : ℕ) (buffer : List ℕ) → Reads offset count (take 0 buffer) []
reads_none offset count buffer = refl

module _ (old now new : List Call) (offset count done asked : ℕ) (buffer part : List ℕ) (long : length buffer ≡ count) (within : done ≤ count) (whole : length part ≡ count - done) (asks : asked ≡ count - done)
    (since : Since old now (Reads offset count (take done buffer))) where
  at_is : offset + done ≡ offset + length (take done buffer)
  at_is = omega (arith, length-take-le done buffer (omega arith))

  asked_is : asked ≡ count - length (take done buffer)
  asked_is = omega (arith, length-take-le done buffer (omega arith))

  pub more_read : (k n : ℕ) → n ≤ length part → new ≡ ReadAt (offset + done) asked (Ok (take n part)) ∷ now
      → Since old new (Reads offset count (take (done + n) (put_mid done k buffer part)))
  more_read k n few noted = record {
    calls = ReadAt (offset + done) asked (Ok (take n part)) ∷ since.calls;
    after = noted ∙ ap (λ (calls : List Call). ReadAt (offset + done) asked (Ok (take n part)) ∷ calls) since.after;
    made = (take done buffer, taken, at_is, asked_is, since.made);
  }
    where
      cut : take (done + length part) (put_mid done k buffer part) ≡ take done buffer ++ part
      cut = take-put_mid done k buffer part (done + length part) refl (omega arith)

      taken : take (done + n) (put_mid done k buffer part) ≡ take done buffer ++ take n part
      taken =
          sym (take-take (done + n) (done + length part) (put_mid done k buffer part) (omega arith)) ∙ ap (λ (l : List ℕ). take (done + n) l) cut ∙ take-add done n (take done buffer ++ part)
          ∙ ap (λ (l : List ℕ). l ++ take n (drop done (take done buffer ++ part))) (take_at (take done buffer) part done (length-take-le done buffer (omega arith)))
          ∙ ap (λ (l : List ℕ). take done buffer ++ take n l) (drop_at (take done buffer) part done (length-take-le done buffer (omega arith)))

  pub stops_reading : (gave : Result (List ℕ) Failure) (why : Failure) → GaveNothing gave why → new ≡ ReadAt (offset + done) asked gave ∷ now → Since old new (StopsReading offset count why)
  stops_reading gave why nothing noted = record {
    calls = ReadAt (offset + done) asked gave ∷ since.calls;
    after = noted ∙ ap (λ (calls : List Call). ReadAt (offset + done) asked gave ∷ calls) since.after;
    made = (take done buffer, at_is, asked_is, nothing, since.made);
  }

-- WRITES

module _ (old now new : List Call) (offset done : ℕ) (bytes told : List ℕ) (is : told ≡ drop done bytes) (since : Since old now (Writes offset bytes done)) where
  pub more_written : (n : ℕ) → new ≡ WriteAt (offset + done) told (Ok n) ∷ now → Since old new (Writes offset bytes (done + n))
  more_written n noted = record {
    calls = WriteAt (offset + done) told (Ok n) ∷ since.calls;
    after = noted ∙ ap (λ (calls : List Call). WriteAt (offset + done) told (Ok n) ∷ calls) since.after;
    made = (done, refl, refl, is, since.made);
  }

  pub stops_writing : (took : Result ℕ Failure) (why : Failure) → TookNothing took why → new ≡ WriteAt (offset + done) told took ∷ now → Since old new (StopsWriting offset bytes why)
  stops_writing took why nothing noted = record {
    calls = WriteAt (offset + done) told took ∷ since.calls;
    after = noted ∙ ap (λ (calls : List Call). WriteAt (offset + done) told took ∷ calls) since.after;
    made = (done, refl, is, nothing, since.made);
  }

-- all bytes came, or were taken
pub reads_whole : (old now : List Call) (offset count done : ℕ) (buffer : List ℕ) → length buffer ≡ count → done ≡ count → Since old now (Reads offset count (take done buffer)) → Since old now (ReadsAll offset buffer)
reads_whole old now offset count done buffer long is since =
    subst (λ (n : ℕ). Since old now (Reads offset n buffer)) (sym long)
    (subst (λ (got : List ℕ). Since old now (Reads offset count got)) (take_all done buffer (omega arith)) since)

pub writes_whole : (old now : List Call) (offset done : ℕ) (bytes : List ℕ) → done ≡ length bytes → Since old now (Writes offset bytes done) → Since old now (WritesAll offset bytes)
writes_whole old now offset done bytes is since = subst (λ (n : ℕ). Since old now (Writes offset bytes n)) is since

-- what a call is told of the bytes from one on
pub rest_is : (done : ℕ) (bytes : List ℕ) → slice_range bytes done (length bytes) ≡ drop done bytes
rest_is done bytes = take_all (length bytes - done) (drop done bytes) (omega (arith, length-drop done bytes))
