use Rattle.std.proofs.Common.{◌≡◌, ◌<◌, ◌∙◌, [], ap, ◌+◌, arith, rules, below_more, get_or, length}
use Rattle.rounds.proofs.threads.start_clients.Goals as goal

-- the client whose thread is started is the next one
pub loop-client-preserved : goal.loop-client-preserved
loop-client-preserved g c =
    let was = c.loop-client.invariant in let step = c.in-Some.ensures.steps in let done = length c.loop-client.handles.items in
    let all = c.push.new.self.items in
    let number : c.in-Some.client.client ≡ done = let h = was.1 0 in grind rules in
    let grown : length all ≡ done + 1 = search rules in (
      search rules,
      (λ k below. let h = was.1 (k + 1) in grind rules),
      (λ k d below. below_more (λ i. (get_or all i d).promise.number ≡ i) done (λ i low. ap (λ h. h.promise.number) (c.push.ensures.by_index.0 i d (search rules)) ∙ was.2 i d low) (search rules) k (omega arith)),
      (λ k d below. below_more (λ i. (get_or all i d).promise.rounds ≡ c.args.shared.now.plan.rounds) done (λ i low. ap (λ h. h.promise.rounds) (c.push.ensures.by_index.0 i d (search rules)) ∙ was.3 i d low) (search rules) k (omega arith)),
    )

pub spawn_with-requires-clause-runs : goal.spawn_with-requires-clause-runs
spawn_with-requires-clause-runs g c κs within =
    let was = c.loop-client.invariant in let step = c.in-Some.ensures.steps in
    let number : c.in-Some.client.client ≡ length c.loop-client.handles.items = let h = was.1 0 in grind rules in
    let none : c.in-Some.client.answered ≡ [] = let h = was.1 0 in grind rules in
    let low : length c.loop-client.handles.items < 64 = search rules in
    (rw number low, none)
