-- A piece of a request asks below for what the request has from its place on.
use Rattle.std.proofs.Common.{◌≡◌, ◌<◌, ◌≤◌, ℕ, ◌+◌, ◌*◌, ◌/◌, Bool, false, List, refl, sym, ◌∙◌, ap, arith, length, replicate}
use Rattle.class_disk.proofs.Common.{slice_range, length-replicate, Extent, piece_of, Kind, Read, Write, Request, Rules, as_client, State, Untouched, new_request, part_request_of, IsPartOf, below_rules, sectors_are}

-- these bytes are what those have from a place on, for this many places
abbrev pub AreBytesFrom : (size at count : ℕ) (bytes whole : List ℕ) → Type 0
AreBytesFrom size at count bytes whole = (a n : ℕ) → a + n ≤ count → slice_range bytes (a * size) ((a + n) * size) ≡ slice_range whole ((at + a) * size) ((at + a + n) * size)

module _ (rules : Rules) (some : 0 < rules.sector_size) (volume : ℕ) (extent : Extent) (through : Bool) (s : State) (runs : s.paused ≡ false) (next k : ℕ) (bytes whole : List ℕ) where
  abbrev asked : Kind → Request
  asked kind = record { volume = volume; kind = kind; extent = extent; through = through }

  abbrev piece : Extent
  piece = piece_of extent rules.max_transfer k

  long : length (replicate (piece.count * rules.sector_size / rules.sector_size) Untouched) ≡ piece.count
  long = length-replicate _ Untouched ∙ sectors_are piece.count rules.sector_size some

  from : piece.first * rules.sector_size / rules.sector_size ≡ extent.first * rules.sector_size / rules.sector_size + k * rules.max_transfer
  from = sectors_are piece.first rules.sector_size some ∙ ap (λ n. n + k * rules.max_transfer) (sym (sectors_are extent.first rules.sector_size some))

  pub read_part : AreBytesFrom rules.sector_size (k * rules.max_transfer) piece.count bytes whole
      → IsPartOf rules (as_client rules (asked Read) whole) (k * rules.max_transfer) (new_request (below_rules rules) s next (as_client rules (part_request_of rules.max_transfer (asked Read) k) bytes))
  read_part same = record {
    kind = refl;
    through = refl;
    partition = refl;
    from = from;
    short = let l = long in omega (arith, l);
    timely = runs;
    bytes = λ a n fits. same a n (let l = long in omega (arith, l, fits));
    long = λ is. absurd (cc (is));
  }

  pub write_part : length bytes ≡ piece.count * rules.sector_size → AreBytesFrom rules.sector_size (k * rules.max_transfer) piece.count bytes whole
      → IsPartOf rules (as_client rules (asked Write) whole) (k * rules.max_transfer) (new_request (below_rules rules) s next (as_client rules (part_request_of rules.max_transfer (asked Write) k) bytes))
  write_part own same = record {
    kind = refl;
    through = refl;
    partition = refl;
    from = from;
    short = let l = long in omega (arith, l);
    timely = runs;
    bytes = λ a n fits. same a n (let l = long in omega (arith, l, fits));
    long = λ is. own ∙ ap (λ n. n * rules.sector_size) (sym long);
  }
