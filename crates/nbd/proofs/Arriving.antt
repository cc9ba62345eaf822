-- A request that is read before those in front of it are answered.
use Rattle.std.proofs.Common.{◌≡◌, ◌<◌, ℕ, List, [], length, inl, inr, Option, Result, Ok, Err, refl, sym, subst, ◌∙◌}
use Rattle.std.specs.Io.KnownBytes.{Consumes}
use Rattle.nbd.specs.declared.End.{End}
use Rattle.nbd.specs.declared.End.TheVariants.{Input}
use Rattle.nbd.specs.declared.arrays.Sizes.{Sizes}
use Rattle.nbd.specs.declared.incoming.Incoming.{Incoming}
use Rattle.nbd.specs.declared.requests.Command.{Command}
use Rattle.nbd.specs.declared.requests.ReplyError.{ReplyError}
use Rattle.nbd.specs.declared.requests.ReplyError.TheVariants.{Enomem}
use Rattle.nbd.specs.Requests.{command_in, payload_count}
use Rattle.nbd.specs.Incoming.{IsAskedBy, IsIncoming}
use Rattle.nbd.specs.Session.{IsLast, TakesLast}
use Rattle.nbd.specs.inside.Session.{TakesRequest}
use Rattle.nbd.specs.inside.Streams.{Skips, Takes}
use Rattle.nbd.proofs.Streaming.{takes_more, takes_nothing}
use Rattle.nbd.proofs.Serving.{begins_nothing}

arrives : (sizes : Sizes) (i m r : Option (List ℕ)) (incoming : Incoming) (payload : List ℕ) → TakesRequest i m incoming.request → length payload ≡ payload_count incoming.request → Consumes m r payload
    → ((header : List ℕ) → IsAskedBy sizes (record { header = header; request = incoming.request; payload = payload }) incoming.asked incoming.payload.items)
    → IsIncoming sizes i r incoming
arrives sizes i m r incoming payload t long taken asked = record {
  one = record { header = t.header; request = incoming.request; payload = payload };
  is_taken = record { is_request = t.is_request; goes_on = t.goes_on; long = long };
  bytes = takes_more i m r t.header payload t.taken taken;
  named = refl;
  asked = asked t.header;
}

pub arrives_wrong : (sizes : Sizes) (i m r : Option (List ℕ)) (incoming : Incoming) (count : ℕ) (found : Result Command ReplyError) (error : ReplyError) → TakesRequest i m incoming.request → count ≡ payload_count incoming.request
    → found ≡ command_in sizes.block sizes.bytes incoming.request → found ≡ Err error → incoming.asked ≡ Err error → Skips count m r → IsIncoming sizes i r incoming
arrives_wrong sizes i m r incoming count found error t counted is failed asked skips =
    arrives sizes i m r incoming skips.bytes t (skips.long ∙ counted) skips.taken (λ header. rw asked (inl (sym is ∙ failed)))

pub arrives_unheld : (sizes : Sizes) (i m r : Option (List ℕ)) (incoming : Incoming) (count : ℕ) → TakesRequest i m incoming.request → count ≡ payload_count incoming.request
    → incoming.asked ≡ Err Enomem → 0 < count → Skips count m r → IsIncoming sizes i r incoming
arrives_unheld sizes i m r incoming count t counted asked some skips =
    arrives sizes i m r incoming skips.bytes t (skips.long ∙ counted) skips.taken (λ header. rw asked (inr (subst (λ n. 0 < n) (sym skips.long) some, refl)))

pub arrives_bare : (sizes : Sizes) (i m : Option (List ℕ)) (incoming : Incoming) (count : ℕ) (found : Result Command ReplyError) (command : Command) → TakesRequest i m incoming.request → count ≡ payload_count incoming.request → count ≡ 0
    → found ≡ command_in sizes.block sizes.bytes incoming.request → found ≡ Ok command → incoming.asked ≡ Ok command → IsIncoming sizes i m incoming
arrives_bare sizes i m incoming count found command t counted none is found_is asked =
    arrives sizes i m m incoming [] t (sym none ∙ counted) (takes_nothing m) (λ header. rw asked (sym is ∙ found_is, λ some. absurd (some refl)))

pub arrives_whole : (sizes : Sizes) (i m r : Option (List ℕ)) (incoming : Incoming) (count : ℕ) (found : Result Command ReplyError) (command : Command) → TakesRequest i m incoming.request → count ≡ payload_count incoming.request
    → found ≡ command_in sizes.block sizes.bytes incoming.request → found ≡ Ok command → incoming.asked ≡ Ok command → Takes count m r incoming.payload.items → IsIncoming sizes i r incoming
arrives_whole sizes i m r incoming count found command t counted is found_is asked takes =
    arrives sizes i m r incoming incoming.payload.items t (takes.long ∙ counted) takes.taken (λ header. rw asked (sym is ∙ found_is, λ some. refl))

pub ends_within : (i : Option (List ℕ)) (end : End) → end ≡ Input → TakesLast i end
ends_within i end is = record { last = []; asked = begins_nothing i; is_last = subst (λ (e : End). IsLast e []) (sym is) refl }
