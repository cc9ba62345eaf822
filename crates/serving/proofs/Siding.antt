-- A stack whose pieces several threads move goes on by what each of them did.
use Rattle.serving.proofs.Common.{◌≡◌, inl, inr, ℕ, Bool, true, false, List, [], None, ◌∷◌, ◌++◌, map, All, All-append, All-cons, All-contains, All-nil, All-contains_itself, All-weaker, Contains, Contains-append_cases, Contains-append_left, Contains-append_right, Contains-permutation, Rules, refl, sym, ap, subst, ◌∙◌, Label, ManagerView, DiskView, IsInOrder, IsReached, Deed, IsTold, StandsIn, TellsOn, quiet, IsRight, IsLed, led, there_mapped, as_label, Answer, Reply, Event, Act, Finish, FitsTogether, TraceView, Wrote}
use Rattle.io_manager.specs.Right.{Told, as_answer, end_labels}
use Rattle.compose.specs.Journaled.{ArmedMayBeBooked, BookedActsAddEntries, IdleActsKeepEntries, IsNoAct, StepsKeepEntries, StepsStayApart}
use Rattle.compose.specs.Armed.{ArmedAskForPieces, BookedActsTell, IdleActsTellNothing}
use Rattle.serving.proofs.Undone.{Undoes}
use Rattle.serving.specs.Beside.{GoesBeside, IsNewest, IsOwn, Moved, WaitsOrTold, deeds_of}
use Rattle.serving.specs.Elsewhere.{Acts, ActsOne, AreNewest, BooksSo, ComesBack, MovesOne, Returns}
use Rattle.serving.proofs.Newest.{act_answers_none, all_newest, newest_behind}
use Rattle.serving.proofs.Carrying.{act_goes, act_handles, answers_are, booked_told, finish_handles, new_rules, others_stand, others_told, tells_more, tells_nothing_more}

deeds_append : (xs ys : List Moved) → deeds_of (xs ++ ys) ≡ deeds_of xs ++ deeds_of ys
deeds_append [] ys = refl
deeds_append (x ∷ xs) ys = ap (λ (ds : List Deed). x.deed ∷ ds) (deeds_append xs ys)

-- ANSWERS THAT WAIT

all_waiting : (labels : List Label) (xs : List Answer) → All (WaitsOrTold xs labels) xs
all_waiting labels xs = All-weaker (Contains xs) (WaitsOrTold xs labels) (λ (a : Answer) c. inr c) xs (All-contains_itself xs)

waits_on : (waiting between : List Answer) (ls ls' : List Label) (answer : Answer) → All (WaitsOrTold waiting ls) between → WaitsOrTold between ls' answer → WaitsOrTold waiting (ls ++ ls') answer
waits_on waiting between ls ls' answer all (inl c) = inl (Contains-append_right ls ls' (as_answer answer) c)
waits_on waiting between ls ls' answer all (inr c) = elim (All-contains (WaitsOrTold waiting ls) between answer all c) [
  | inl there ↦ inl (Contains-append_left ls ls' (as_answer answer) there)
  | inr there ↦ inr there
]

told_there : (told : Told) (labels : List Label) (answer : Answer) → labels ≡ ((told.own ++ map as_label told.device) ++ map as_answer told.answers) ++ end_labels told.ends → Contains told.answers answer → Contains labels (as_answer answer)
told_there told labels answer order c =
    subst (λ (ls : List Label). Contains ls (as_answer answer)) (sym order)
    (Contains-append_left _ _ _ (Contains-append_right (told.own ++ map as_label told.device) (map as_answer told.answers) (as_answer answer) (there_mapped as_answer told.answers answer c)))

one_untaken : (old new : ManagerView) (l : IsLed old new) (answer : Answer) → Contains new.answers answer → WaitsOrTold old.answers new.labels answer
one_untaken old new l answer c = elim (Contains-append_cases l.told.answers old.answers answer (Contains-permutation _ _ answer l.by.untaken c)) [
  | inl there ↦ inl (told_there l.told new.labels answer l.by.in_order there)
  | inr there ↦ inr there
]

untaken_led : (old new : ManagerView) → IsLed old new → All (WaitsOrTold old.answers new.labels) new.answers
untaken_led old new l = All-weaker (Contains new.answers) (WaitsOrTold old.answers new.labels) (λ (a : Answer) c. one_untaken old new l a c) new.answers (All-contains_itself new.answers)

-- STEPS IN A ROW

pub beside_none : (v : ManagerView) → GoesBeside v [] [] v
beside_none v = record { same_rules = refl; same_handles = refl; told = tells_nothing_more v; own = All-nil IsOwn; untaken = all_waiting [] v.answers }

pub beside_more : (old mid new : ManagerView) (ls ls' : List Label) (ms ms' : List Moved) → GoesBeside old ls ms mid → GoesBeside mid ls' ms' new → GoesBeside old (ls ++ ls') (ms ++ ms') new
beside_more old mid new ls ls' ms ms' g h = record {
  same_rules = h.same_rules ∙ g.same_rules;
  same_handles = h.same_handles ∙ g.same_handles;
  told =
      subst (λ (ds : List Deed). TellsOn old (ls ++ ls') ds new) (sym (deeds_append ms ms')) (tells_more old mid new ls ls' (deeds_of ms) (deeds_of ms') g.told h.told);
  own = All-append IsOwn ms ms' g.own h.own;
  untaken = All-weaker (WaitsOrTold mid.answers ls') (WaitsOrTold old.answers (ls ++ ls')) (λ (a : Answer) w. waits_on old.answers mid.answers ls ls' a g.untaken w) new.answers h.untaken;
}

untaken_told : (v : ManagerView) (rest : List Answer) (arrays : List (List (List ℕ))) (trace : List Label) (before : List Deed) → IsTold arrays (trace ++ []) (before ++ []) v → IsTold arrays (trace ++ []) (before ++ []) (record v { answers = rest })
untaken_told v rest arrays trace before it = record { apart = it.apart; whole = it.whole; run = it.run; did = it.did; journaled = record { of_acts = it.journaled.of_acts; started = it.journaled.started } }

-- an answer that waited was taken
pub beside_taken : (v : ManagerView) (rest : List Answer) → All (Contains v.answers) rest → GoesBeside v [] [] (record v { answers = rest })
beside_taken v rest all = record {
  same_rules = refl;
  same_handles = refl;
  told = λ arrays trace before told. untaken_told v rest arrays trace before (tells_nothing_more v arrays trace before told);
  own = All-nil IsOwn;
  untaken = All-weaker (Contains v.answers) (WaitsOrTold v.answers []) (λ (a : Answer) c. inr c) rest all;
}

-- any event but an act
pub others_beside : StepsKeepEntries → StepsStayApart → (old new : ManagerView) (event : Event) (reply : Reply) → IsNoAct event → Undoes event → IsRight old event reply new → new.handles ≡ old.handles → GoesBeside old new.labels [] (record new { labels = [] })
others_beside keep apart old new event reply other undoes right handles = record {
  same_rules = (led old event reply new right).by.same_rules;
  same_handles = handles;
  told = others_told keep apart old new event reply other right undoes;
  own = All-nil IsOwn;
  untaken = untaken_led old new (led old event reply new right);
}

pub finish_beside : StepsKeepEntries → StepsStayApart → (old new : ManagerView) (tag : ℕ) (reply : Reply) → IsRight old (Finish tag) reply new → GoesBeside old new.labels [] (record new { labels = [] })
finish_beside keep apart old new tag reply right = others_beside keep apart old new (Finish tag) reply tt tt right (finish_handles old new tag reply right)

pub finish_returns : StepsKeepEntries → StepsStayApart → (old new : ManagerView) (tag : ℕ) (reply : Reply) → IsRight old (Finish tag) reply new → Returns old (record new { labels = [] })
finish_returns keep apart old new tag reply right = record {
  labels = new.labels;
  went = finish_beside keep apart old new tag reply right;
  newest = λ none. all_newest old new (led old (Finish tag) reply new right) none;
}

pub finish_stands : StepsKeepEntries → StepsStayApart → (old new : ManagerView) (tag : ℕ) (reply : Reply) → IsRight old (Finish tag) reply new → (disk : DiskView) → StandsIn old disk → StandsIn (record new { labels = [] }) disk
finish_stands keep apart old new tag reply right = others_stand keep apart old new (Finish tag) reply tt right

-- a trace that nobody has
abbrev unseen : TraceView
unseen = record { whole = false; bytes = None }

wrote_unseen : (labels : List Label) → Wrote unseen labels unseen
wrote_unseen labels = λ whole. absurd (let e : ◌≡◌ {A = Bool} false true = whole in cc)

-- the act of a piece of which it is booked what came of it
module _ (idle : IdleActsKeepEntries) (adds : BookedActsAddEntries) (may : ArmedMayBeBooked) (tells : BookedActsTell) (silent : IdleActsTellNothing) (asks : ArmedAskForPieces) (apart : StepsStayApart)
    (booked new : ManagerView) (tag : ℕ) (reply : Reply) (order : IsInOrder booked.adapter) (fits : FitsTogether booked) (reached : IsReached booked.rules booked.state) (right : IsRight booked (Act tag) reply new) where
  module _ (old : ManagerView) (before after : DiskView) (failed : Bool) (stands : StandsIn old before) (fits_old : FitsTogether old) (so : BooksSo old before tag failed booked after) where
    abbrev it : Deed
    it = record { tag = tag; piece = so.has.piece; srb = so.has.srb; what = so.has.what }

    abbrev move : Moved
    move = record { deed = it; before = before; after = after }

    waits : All (WaitsOrTold old.answers new.labels) new.answers
    waits =
        subst (λ (xs : List Answer). All (WaitsOrTold xs new.labels) new.answers) (answers_are idle adds may tells silent asks apart old booked new before after tag reply stands fits_old order fits reached right so.has)
        (untaken_led booked new (led booked (Act tag) reply new right))

    went : GoesBeside old new.labels (move ∷ []) (record new { labels = [] })
    went = record {
      same_rules = new_rules idle adds may tells silent asks apart old booked new before after tag reply stands fits_old order fits reached right so.has;
      same_handles = act_handles booked new tag reply right ∙ ap (λ (v : ManagerView). v.handles) so.has.books.same;
      told = booked_told idle adds may tells silent asks apart old booked new before after tag reply stands fits_old order fits reached right so.has;
      own = All-cons IsOwn move [] so.has.transfers (All-nil IsOwn);
      untaken = waits;
    }

    acted : ActsOne old before tag failed (record new { labels = [] }) after
    acted = record {
      deed = it;
      on_tag = refl;
      fails = so.fails;
      labels = new.labels;
      went = went;
      none_told = λ none. act_answers_none booked new tag reply right (ap (λ (v : ManagerView). v.answers) so.has.books.same ∙ none);
      stands = (act_goes idle adds may tells silent asks apart old booked new before after tag reply stands fits_old order fits reached right unseen unseen (λ bytes. wrote_unseen new.labels) (inl so.has)).stands stands;
    }

  pub act_comes : Acts booked tag (record new { labels = [] })
  act_comes old before after failed stands fits_old so = acted old before after failed stands fits_old so

newest_more : (labels more : List Label) (v : ManagerView) → AreNewest more v → AreNewest (labels ++ more) v
newest_more labels more v all =
    All-weaker (λ (a : Answer). IsNewest more (as_answer a)) (λ (a : Answer). IsNewest (labels ++ more) (as_answer a)) (λ (a : Answer) n. newest_behind labels more (as_answer a) n) v.answers all

pub comes_more : (booked mid new : ManagerView) (tag : ℕ) → Acts booked tag mid → Returns mid new → ((disk : DiskView) → StandsIn mid disk → StandsIn new disk) → ComesBack booked tag new
comes_more booked mid new tag acts r s old before after failed stands fits so =
    let one = acts old before after failed stands fits so in
    record {
      deed = one.deed;
      on_tag = one.on_tag;
      fails = one.fails;
      labels = one.labels ++ r.labels;
      went = beside_more old mid new one.labels r.labels (record { deed = one.deed; before = before; after = after } ∷ []) [] one.went r.went;
      newest = λ none. newest_more one.labels r.labels new (r.newest (one.none_told none));
      stands = s after one.stands;
    }

-- booking tells no label
pub booked_quietly : (old booked : ManagerView) (before after : DiskView) (tag : ℕ) (failed : Bool) → BooksSo (quiet old) before tag failed (quiet booked) after → old.labels ≡ [] → booked.labels ≡ []
booked_quietly old booked before after tag failed so taken = ap (λ (v : ManagerView). v.labels) so.has.books.same ∙ taken

-- a disk of another thread stands in as before
pub moved_stands : (old new : ManagerView) (before after : DiskView) (tag : ℕ) (failed : Bool) → MovesOne old before tag failed new after → (disk : DiskView) → StandsIn old disk → StandsIn new disk
moved_stands old new before after tag failed m disk s = record {
  apart = m.stands.apart;
  sector_size = s.sector_size ∙ ap (λ (r : Rules). r.sector_size) (sym m.went.same_rules);
  sectors = s.sectors ∙ ap (λ (r : Rules). r.disk_sectors) (sym m.went.same_rules);
}
