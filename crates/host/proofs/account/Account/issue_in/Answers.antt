use Rattle.std.proofs.Common.{◌≡◌, ◌+◌, ◌<◌, ◌≤◌, ◌++◌, ℕ, List, [], Option, Some, None, length, refl, sym, ap, ◌∙◌, subst, arith}
use Rattle.host.proofs.Common.{IfSome, slice_index_or, ClientRequest, Label, Reply, status_of_refusal, AllStand, open_at, BookView, ReceiptsView, receipt, AccountView, IsCalled, IsTurnedDown, told_request, HasCounted, IsAnsweredAtOnce, IsTold, Stands, buffer_of, request_of, Places}
use Rattle.machine.specs.declared.Label.TheVariants.{Answer as AnswerLabel, Call as CallLabel}
use Rattle.io_manager.specs.declared.Refusal.{Refusal as Why}
use Rattle.host.specs.declared.call.Reason.TheVariants.{Refused}
use Rattle.host.specs.declared.call.Refusal.{Refusal}
use Rattle.host.proofs.Issuing.{IsAnswerReceived, IsReceived, answer_received, called_view, received, stands_noted, stands_within}
use Rattle.host.proofs.account.Account.issue_in.Goals as goal
use Rattle.host.proofs.account.Account.issue_in.Goals.{After-note, After-note-claim}

abbrev refusal_of : Why → List ℕ → Option Places → Refusal
refusal_of why bytes places = record { reason = Refused why; bytes = bytes; places = places }

-- what the book tells of the call, by its reply
told : (g : _) (c : After-note-claim g) (reply : Reply) → c.carry_call-reply.result.0 ≡ reply
    → IsTold g.N.TraceNaming.slots c.self.inside.share c.carry_call-reply.new.share (request_of (slice_index_or g.N.TraceNaming.partitions c.self.inside.share.client 0) c.args.call) (buffer_of c.args.call) c.carry_call-reply.new.book.traced reply (Some c.in-Some.place)
told g c reply is =
    let q : ClientRequest = request_of (slice_index_or g.N.TraceNaming.partitions c.self.inside.share.client 0) c.args.call in
    let tells : Reply → Option ℕ → Type 0 = IsTold g.N.TraceNaming.slots c.self.inside.share c.carry_call-reply.new.share q (buffer_of c.args.call) c.carry_call-reply.new.book.traced in
    subst (λ (r : Reply). tells r (Some c.in-Some.place)) is (subst (tells c.carry_call-reply.result.0) c.in-Some.is c.carry_call-reply.ensures.told)

-- the receipt of the call, above all before
call_noted : (g : _) (c : After-note-claim g) (number : ℕ) (q : ClientRequest) → Stands c.carry_call-reply.new.book.traced.entries c.in-Some.place (CallLabel number q) c.self.inside.share.client
    → HasCounted c.self.inside.share 1 c.carry_call-reply.new.share
    → IsReceived g.N.TraceNaming.handles g.N.TraceNaming.partitions c.self.inside.share c.carry_call-reply.new.share c.self.inside.called.list c.note-claim.new.self.list c.self.inside.answered.list c.check-2.new.self.list c.note-claim.result c.in-Some.place number q
call_noted g c number q stands counted =
    let late = subst (λ (p : Option ℕ). IfSome p (λ at. length c.check-2.new.book.traced.entries ≤ at)) c.in-Some.is c.carry_call-reply.ensures.late in
    received g.N.TraceNaming.handles g.N.TraceNaming.partitions c.self.inside.share c.carry_call-reply.new.share c.self.inside.called c.check.new.self c.note-claim.new.self c.self.inside.answered c.check-2.new.self c.note-claim.result c.args.book.now.traced.entries c.check.new.book.traced.entries c.check-2.new.book.traced.entries c.carry_call-reply.new.book.traced.entries c.in-Some.place number q
    c.self.invariant c.check.ensures.stand (ap (λ (b : BookView). b.traced.entries) c.check.ensures.same.0) c.check.ensures.same.1 c.check-2.ensures.stand (ap (λ (b : BookView). b.traced.entries) c.check-2.ensures.same.0) c.check-2.ensures.same.1 late stands counted c.note-claim.ensures.entry c.note-claim.ensures.noted

-- the call is taken in
call_taken : (g : _) (c : After-note-claim g) (number : ℕ) (slot : Option ℕ)
    → Stands c.carry_call-reply.new.book.traced.entries c.in-Some.place (CallLabel number (told_request slot (request_of (slice_index_or g.N.TraceNaming.partitions c.self.inside.share.client 0) c.args.call))) c.self.inside.share.client
    → HasCounted c.self.inside.share 1 c.carry_call-reply.new.share
    → IsCalled (slice_index_or g.N.TraceNaming.partitions c.args.self.now.share.client 0) c.args.self.now (record { client = c.client-client.result; number = number; place = c.in-Some.place; slot = slot; call = c.note-claim.result }) c.args.call
    (record { share = c.carry_call-reply.new.share; called = c.note-claim.new.self; answered = c.check-2.new.self })
call_taken g c number slot stands counted =
    let r = call_noted g c _ _ stands counted in
    called_view g.N.TraceNaming.partitions _ _ _ c.args.call _ c.self.view_is
    (record { client = c.client-client.ensures.number; receipt_is = r.claim_is; above_calls = r.above_calls; above_answers = r.above_answers; same_client = counted.client; called = r.list; answered = c.check-2.ensures.same.1 })

-- where a label stands right behind the call, there is an entry
behind_within : (g : _) (c : After-note-claim g) (label : Label) → Stands c.carry_call-reply.new.book.traced.entries (c.in-Some.place + 1) label c.self.inside.share.client → c.in-Some.place + 1 < length c.note-claim.new.book.traced.entries
behind_within g c label stands = stands_within c.carry_call-reply.new.book.traced.entries c.note-claim.new.book.traced.entries (c.in-Some.place + 1) label c.self.inside.share.client (ap (λ (b : BookView). b.traced.entries) c.note-claim.ensures.book) stands

-- the receipt of the answer by which the book refused the call
refusal_noted : (g : _) (c : After-note g) (number : ℕ)
    → IsAnsweredAtOnce c.self.inside.share c.carry_call-reply.new.share (request_of (slice_index_or g.N.TraceNaming.partitions c.self.inside.share.client 0) c.args.call) c.carry_call-reply.new.book.traced.entries number (AnswerLabel number (status_of_refusal c.in-Refused-reply.refusal) 0 []) c.in-Some.place
    → IsAnswerReceived g.N.TraceNaming.handles g.N.TraceNaming.partitions c.self.inside.share.client c.carry_call-reply.new.share c.note-claim.new.self.list c.check-2.new.self.list c.note.new.self.list c.note.result (c.in-Some.place + 1) (AnswerLabel number (status_of_refusal c.in-Refused-reply.refusal) 0 [])
refusal_noted g c number t =
    let r = call_noted g (goal.at.After-note g c).After-note-claim _ _ t.called t.counted in
    answer_received g.N.TraceNaming.handles g.N.TraceNaming.partitions c.self.inside.share c.carry_call-reply.new.share c.note-claim.new.self.list c.check-2.new.self c.note.new.self c.note.result c.carry_call-reply.new.book.traced.entries c.note-claim.new.book.traced.entries (c.in-Some.place + 1) (AnswerLabel number (status_of_refusal c.in-Refused-reply.refusal) 0 [])
    r.kept t.counted.client (ap (λ (b : BookView). b.traced.entries) c.note-claim.ensures.book) t.answered tt c.note.ensures.entry c.note.ensures.noted

pub invariant_of-self-in-Request : goal.invariant_of-self-in-Request
invariant_of-self-in-Request g c =
    let noted = (goal.at.invariant_of-self-in-Request g c).After-note-claim in
    let t = told g noted _ c.in-Request.is in
    (call_noted g noted _ _ t.called t.counted).kept

pub claim-told-requires : goal.claim-told-requires
claim-told-requires g c =
    let noted = (goal.at.claim-told-requires g c).After-note-claim in
    behind_within g noted _ (told g noted _ c.in-Answered.is).answered

pub invariant_of-self-in-Answered : goal.invariant_of-self-in-Answered
invariant_of-self-in-Answered g c =
    let noted = (goal.at.invariant_of-self-in-Answered g c).After-note-claim in
    let t = told g noted _ c.in-Answered.is in
    (call_noted g noted _ _ t.called t.counted).kept

pub note-requires-clause-place : goal.note-requires-clause-place
note-requires-clause-place g c =
    let noted = (goal.at.note-requires-clause-place g c).After-note-claim in
    behind_within g noted _ (told g noted _ c.in-Refused-reply.is).1.1.answered

pub invariant_of-self-in-Refused-reply-2 : goal.invariant_of-self-in-Refused-reply-2
invariant_of-self-in-Refused-reply-2 g c =
    let at = goal.at.invariant_of-self-in-Refused-reply-2 g c in
    let t = told g at.After-note-claim _ c.in-Refused-reply.is in
    (refusal_noted g at.After-note t.1.0 t.1.1).kept

pub returns-in-Request-clause-issued : goal.returns-in-Request-clause-issued
returns-in-Request-clause-issued g c =
    let noted = (goal.at.returns-in-Request-clause-issued g c).After-note-claim in
    let t = told g noted _ c.in-Request.is in
    call_taken g noted c.in-Request.id.number (Some c.in-Request.id.slot) t.called t.counted

pub returns-in-Request-clause-stands : goal.returns-in-Request-clause-stands
returns-in-Request-clause-stands g c = stands_noted c.carry_call-reply.new.book c.note-claim.new.book c.in-Some.place c.note-claim.result c.note-claim.ensures.book c.note-claim.ensures.entry

pub returns-in-Request-clause-held : goal.returns-in-Request-clause-held
returns-in-Request-clause-held g c =
    let t = told g (goal.at.returns-in-Request-clause-held g c).After-note-claim _ c.in-Request.is in
    subst (λ (b : BookView). open_at b.traced.stack c.in-Request.id.slot ≡ Some c.in-Request.id.number) (sym c.note-claim.ensures.book) t.held

pub returns-in-Answered-clause-stands : goal.returns-in-Answered-clause-stands
returns-in-Answered-clause-stands g c =
    subst (λ (b : BookView). AllStand b.traced.entries c.note-claim.result) (sym c.claim-told.ensures.same) (stands_noted c.carry_call-reply.new.book c.note-claim.new.book c.in-Some.place c.note-claim.result c.note-claim.ensures.book c.note-claim.ensures.entry)

pub returns-in-Answered-clause-issued : goal.returns-in-Answered-clause-issued
returns-in-Answered-clause-issued g c =
    let noted = (goal.at.returns-in-Answered-clause-issued g c).After-note-claim in
    let t = told g noted _ c.in-Answered.is in
    call_taken g noted c.in-Answered.answer.number None t.called t.counted

pub returns-in-Refused-reply-clause-refused : goal.returns-in-Refused-reply-clause-refused
returns-in-Refused-reply-clause-refused g c =
    let at = goal.at.returns-in-Refused-reply-clause-refused g c in
    let place : ℕ = c.in-Some.place in
    let t = told g at.After-note-claim _ c.in-Refused-reply.is in
    let r = call_noted g at.After-note-claim _ _ t.1.1.called t.1.1.counted in
    let a = refusal_noted g at.After-note t.1.0 t.1.1 in
    let label : Label = AnswerLabel t.1.0 (status_of_refusal c.in-Refused-reply.refusal) 0 [] in
    let refusal : Refusal = record { reason = Refused c.in-Refused-reply.refusal; bytes = c.in-Refused-reply.bytes; places = Some (record { call = place; answer = place + 1 }) } in
    let new : AccountView = record { share = c.carry_call-reply.new.share; called = c.note-claim.new.self; answered = c.note.new.self } in
    let rooms = ap (λ (v : ReceiptsView). v.room) c.note.ensures.noted in
    let same = ap (λ (v : ReceiptsView). v.room) c.check-2.ensures.same.1 in
    let is : c.of_stack-in-Refused-reply.result ≡ refusal = c.of_stack-in-Refused-reply.ensures ∙ ap (λ (p : Places). refusal_of c.in-Refused-reply.refusal c.in-Refused-reply.bytes (Some p)) c.at_once-places.ensures in
    subst (λ (r : Refusal). IsTurnedDown (slice_index_or g.N.TraceNaming.partitions c.args.self.now.share.client 0) c.args.self.now c.args.call r new) (sym is)
    (subst (λ (v : AccountView). IsTurnedDown (slice_index_or g.N.TraceNaming.partitions v.share.client 0) v c.args.call refusal new) c.self.view_is
    (record {
      bytes = t.0;
      same_client = t.1.1.counted.client;
      room = omega (arith, rooms, same);
      labels = record { number = t.1.0; behind = refl; above_calls = r.above_calls; above_answers = r.above_answers; called_is = r.list ∙ ap (λ x. c.self.inside.called.list ++ x) r.claim_is; answered_is = a.list ∙ ap (λ (v : ReceiptsView). v.list ++ receipt (place + 1) label c.self.inside.share.client) c.check-2.ensures.same.1 };
    }))
