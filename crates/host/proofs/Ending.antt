-- What a host gives when it is closed.
use Rattle.host.proofs.Common.{◌≡◌, ◌<◌, ℕ, List, length, sym, ap, ◌∙◌, subst, Rules, State, Run, TraceEntry, AreRowsOf, TracedView, RowView, AreNumbered, ClientView, client_at, AreBorneOut, IsClosed, total}
use Rattle.traced.specs.Entries.{calls, labels_of}
use Rattle.host.proofs.Counting.{just}

pub closed_is : (rules : Rules) (opening last : State) (n : ℕ) (v : TracedView) (clients : List ClientView) (trace : List TraceEntry) (rows : List RowView)
    → AreNumbered n clients → AreRowsOf n v trace rows → Run rules opening (labels_of trace) last → AreBorneOut v.entries (length clients) clients
    → total (length clients) (λ c. length (client_at clients c).called) ≡ calls v.entries → IsClosed rules opening clients trace rows
closed_is rules opening last n v clients trace rows numbered are run borne sum = subst (λ (t : List TraceEntry). IsClosed rules opening clients t rows) (sym are.stored) at
  where
    sum_n : total n (λ c. length (client_at clients c).called) ≡ calls v.entries
    sum_n = ap (λ (k : ℕ). total k (λ c. length (client_at clients c).called)) (sym numbered.all) ∙ sum

    borne_n : AreBorneOut v.entries n clients
    borne_n = subst (λ (k : ℕ). AreBorneOut v.entries k clients) numbered.all borne

    at : IsClosed rules opening clients v.entries rows
    at = record {
      last = last;
      run = subst (λ (t : List TraceEntry). Run rules opening (labels_of t) last) are.stored run;
      owners = v.owners;
      rowed = are.kept.rowed;
      row = λ c less. (are.kept.each c (subst (λ (k : ℕ). c < k) numbered.all less)).places;
      stand = borne;
      calls = λ c less. just n v.owners v.entries clients are.kept.rowed are.kept.owned borne_n numbered.numbers sum_n c (subst (λ (k : ℕ). c < k) numbered.all less);
    }
