use Rattle.host.proofs.Common.{◌≡◌, List, length, sym, ap, ◌∙◌, subst, arith, AllStand, TraceEntry, TracedView, calls, Entered, JournalView, BookView, BeginsWith, ClientView, client_at, AreBorneOut, total, KeeperView}
use Rattle.host.proofs.Ending.{closed_is}
use Rattle.host.proofs.Lifted.{are_first, runs_faithfully}
use Rattle.host.proofs.Settling.{settled}
use Rattle.host.proofs.host.Host.close.Goals as goal

pub returns : goal.returns
returns g c =
    let clients : List ClientView = c.args.clients.items in
    let b : BookView = c.audit.new.self in
    let v : TracedView = b.traced in
    let same : b ≡ c.check.new.self = c.audit.ensures.same ∙ c.collect.ensures.same in
    let borne : AreBorneOut v.entries (length clients) clients = subst (λ (x : BookView). AreBorneOut x.traced.entries (length clients) clients) (sym same) c.collect.ensures.borne in
    let all : calls c.collect.new.book.traced.entries ≡ calls v.entries = ap (λ (x : BookView). calls x.traced.entries) (sym c.audit.ensures.same) in
    let sum : total (length clients) (λ k. length (client_at clients k).called) ≡ calls v.entries = omega (arith, c.audit.ensures.calls, c.audit.ensures.kept, c.collect.ensures.amount, all) in
    let stand : AllStand v.entries c.keeper.inside.known.told = subst (λ (x : BookView). AllStand x.traced.entries c.keeper.inside.known.told) (sym (same ∙ c.check.ensures.same.0)) c.check.ensures.stand in
    let told = subst (λ (k : KeeperView). AllStand v.entries k.told) c.keeper.view_is stand in
    let taken : b.taken ≡ c.book_rest.new.self.taken = ap (λ (x : BookView). x.taken) (same ∙ c.check.ensures.same.0) in
    let front = subst (BeginsWith _) (sym taken) c.book_rest.ensures.front in
    let entered = c.into_parts-medium.ensures.entries ∙ ap (λ (j : JournalView). j.entered) c.book_rest.ensures.same in
    let first = subst (λ (es : List Entered). BeginsWith es b.taken) (sym entered) front in
    record {
      told = subst (λ (es : List TraceEntry). AllStand es c.args.keeper.told) (sym c.into_rows-trace.ensures.rows.stored) told;
      closed = closed_is _ _ _ _ v clients _ _ c.requires.all c.into_rows-trace.ensures.rows c.into_rows-trace.ensures.run borne sum;
      settled_at_removed = settled c.laws_of_removals.ensures.empty c.laws_of_removals.ensures.splits _ _ _ c.shows_opening.ensures.opening _ c.into_rows-trace.ensures.run;
      acts = are_first _ _ _ _ b.taken _ first c.into_rows-trace.ensures.receipts c.into_rows-trace.ensures.acts;
      replays = c.into_parts-medium.ensures.rule;
      run = runs_faithfully c.journals_close_runs.ensures _ _ _ _ _ b.taken _ _ _ first c.into_rows-trace.ensures.acts c.into_rows-trace.ensures.run c.into_parts-medium.ensures.rule c.into_parts-medium.ensures.opening c.shows_disk.ensures;
    }
