use Rattle.std.proofs.Common.{◌≡◌, ◌≤◌, ◌+◌, ◌*◌, ℕ, refl, sym, arith, rules, below_more, length, subst}
use Rattle.host.specs.Clients.{client_at}
use Rattle.rounds.specs.declared.Tally.{Tally}
use Rattle.rounds.specs.Tallies.{AreCounted, HasCounted}
use Rattle.rounds.proofs.Counting.{counted_most, none_of, one_more}
use Rattle.rounds.proofs.threads.join_clients.Goals as goal

-- the client that is joined is the next one
pub loop-handle-preserved : goal.loop-handle-preserved
loop-handle-preserved g c =
    let was = c.loop-handle.invariant in let step = c.in-Some.ensures.steps in let done = length c.loop-handle.clients.items in
    let all = c.push.new.self.items in
    let number : c.in-Some.handle.promise.number ≡ done = let h = was.1 0 c.in-Some.handle in grind rules in
    let rounds : c.in-Some.handle.promise.rounds ≡ c.args.plan.rounds = let h = was.2 0 c.in-Some.handle in grind rules in
    let kept = c.join-served.ensures in
    let grown : length all ≡ done + 1 = search rules in
    let joined : client_at all done ≡ c.join-served.result.client = search rules in
    let last : (client_at all done).client ≡ done = search rules in (
      search rules,
      (λ k d below. let h = was.1 (k + 1) d in grind rules),
      (λ k d below. let h = was.2 (k + 1) d in grind rules),
      (λ k below. below_more (λ i. (client_at all i).client ≡ i) done (λ i low. search rules) last k (omega arith)),
      (let h = was.4 in let i = kept.1 in omega arith),
      counted_most c.loop-handle.tally.answered c.join-served.result.tally.answered done c.args.plan.rounds (length all) was.5
          (subst (λ (n : ℕ). c.join-served.result.tally.answered ≤ 2 * n) rounds kept.2) grown,
      (λ none.
          let both = none_of c.loop-handle.has_wanted c.join-served.result.has_wanted none in
          let one : HasCounted c.args.plan.rounds (client_at all done) c.join-served.result.tally =
          subst (λ v. HasCounted c.args.plan.rounds v c.join-served.result.tally) (sym joined) (subst (λ n. HasCounted n c.join-served.result.client c.join-served.result.tally) rounds (kept.3 both.1)) in
          let sum : Tally = record {
            answered = c.loop-handle.tally.answered + c.join-served.result.tally.answered;
            differing = c.loop-handle.tally.differing + c.join-served.result.tally.differing;
          } in
          subst (λ n. AreCounted n c.args.plan.rounds all sum) (sym grown)
          (one_more done c.args.plan.rounds c.loop-handle.clients.items all c.loop-handle.tally c.join-served.result.tally sum (λ i low. search rules) one refl refl (was.6 both.0))),
    )
