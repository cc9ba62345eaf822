-- What the calls of the queues mean for the books.
use Rattle.hold_filter.proofs.Common.{◌≡◌, ◌≢◌, ℕ, true, [], ◌∷◌, ◌++◌, Option, Some, refl, sym, subst, ap, ◌∙◌, All, MatchOption, Irp, Queue, Finds, FindsNot, Pushes, RemovesNumber, RemovesNone, Held, Limits, TableView, MayEnd, LacksNumber, HoldsAt, WithdrawsNot, Withdraws, marked}
use Rattle.hold_filter.proofs.Lists.{here_of, any_there, lacks_all, none_all}

abbrev pub number_held : Held → ℕ
number_held held = held.irp.value.number

pub found_held : (q q' : Queue Held) (number : ℕ) (result : Option ℕ)
    → MatchOption result (FindsNot number_held q number q') (λ at. Finds number_held q number at q')
    → MatchOption result (LacksNumber number q.entries) (λ at. HoldsAt number at q.entries)
found_held q q' number (Some at) h = subst (λ es. HoldsAt number at es) (sym h.stood)
    (any_there (λ (e : ℕ × Held). (e.0 ≡ at) × (e.1.irp.value.number ≡ number)) h.before (at, h.item) h.behind
    (refl, h.is_number))
found_held q q' number Option.None h = lacks_all number_held number q.entries h.none

pub withdrawn_none : (b b' : TableView) (q q' : Queue Held) (spot number : ℕ) → b.held ≡ q.entries
    → b.places.held ≡ q.places → RemovesNone number_held q spot number q'
    → b' ≡ record b { held = q'.entries; places = record b.places { held = q'.places } }
    → WithdrawsNot b spot number b'
withdrawn_none b b' q q' spot number is places h after = record {
  none = subst (λ es. All (λ (e : ℕ × Held). e.0 ≡ spot → e.1.irp.value.number ≢ number) es) (sym is)
      (none_all number_held spot number q.entries h.none);
  same = after ∙ ap (λ (x : Queue Held). record b
      { held = x.entries; places = record b.places { held = x.places } })
      h.same
      ∙ ap (λ es. record b { held = es; places = record b.places { held = q.places } }) (sym is)
      ∙ ap (λ n. record b { places = record b.places { held = n } }) (sym places);
}

-- one that left may go to those that have ended
pub may_end : (b : TableView) (q q' : Queue Held) (spot number : ℕ) (held : Held)
    → RemovesNumber number_held q spot number held q' → All (MayEnd b) q.entries → MayEnd b (spot, held)
may_end b q q' spot number held h all = here_of (MayEnd b) q.entries h.removes.before (spot, held) h.removes.behind
    h.removes.stood all

-- it is marked as cancelled
pub pushed_marked : (r r' : Queue Held) (spot : ℕ) (held : Held) (irp : Irp)
    → irp ≡ record held.irp.value { cancelled = true }
    → Pushes r spot (record held { irp = record held.irp { value = irp } }) r' → Pushes r spot (marked held) r'
pushed_marked r r' spot held irp e p =
    subst (λ (x : Irp). Pushes r spot (record held { irp = record held.irp { value = x } }) r') e p

pub withdrawn : (b b' : TableView) (q q' r r' : Queue Held) (spot number : ℕ) (held : Held) → b.held ≡ q.entries
    → b.ended ≡ r.entries → b.places ≡ record { held = q.places; ended = r.places }
    → RemovesNumber number_held q spot number held q' → Pushes r spot (marked held) r'
    → b' ≡ record b {
      held = q'.entries;
      ended = r'.entries;
      places =
          record { held = q'.places; ended = r'.places };
    }
    → Withdraws b spot number b'
withdrawn b b' q q' r r' spot number held is ended places h p after = record {
  before = h.removes.before;
  held = held;
  behind = h.removes.behind;
  was_held = is ∙ h.removes.stood;
  is_number = h.is_number;
  after = after
      ∙ ap (λ (x : Queue Held). record b {
        held = x.entries;
        ended = r'.entries;
        places =
            record { held = x.places; ended = r'.places };
      }) h.removes.after
      ∙ ap (λ (x : Queue Held). record b {
        held = h.removes.before ++ h.removes.behind;
        ended = x.entries;
        places =
            record { held = q.places; ended = x.places };
      }) p.after
      ∙ ap (λ (ps : Limits). record b {
        held = h.removes.before ++ h.removes.behind;
        ended =
            r.entries ++ (spot, marked held) ∷ [];
        places = ps;
      }) (sym places)
      ∙ ap (λ es. record b { held = h.removes.before ++ h.removes.behind; ended = es ++ (spot, marked held) ∷ [] })
      (sym ended);
}
