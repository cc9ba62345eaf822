-- The call that an event stands for.
use Rattle.serving.proofs.Common.{◌≡◌, ℕ, List, [], length, refl, sym, subst, ClientRequest, bytes_carried, Handle, Reply, ManagerView, Event, IsRight, Asks}
use Rattle.io_manager.specs.Right.{CallReplies, IsRight as IsRightCall}
use Rattle.compose.specs.declared.Event.TheVariants.{Open, Close, Read as ReadEvent, Write as WriteEvent, Flush as FlushEvent, CancelIoEx, Mark, QueryRemove, CancelRemove, Remove, SurpriseRemove, Act, Finish, Reset}

-- a right call of this request, which brings as many bytes as it says
pub record IsCalled (old : ManagerView) (q : ClientRequest) (reply : Reply) (new : ManagerView) : Type 0 where
  pub handle : Handle
  pub buffer : List ℕ
  pub right : IsRightCall (CallReplies old handle q buffer reply new) old new
  pub carries : length q.bytes ≡ bytes_carried q.kind q.length

pub called : (old : ManagerView) (event : Event) (q : ClientRequest) (reply : Reply) (new : ManagerView) → Asks old event q → IsRight old event reply new → IsCalled old q reply new
called old (ReadEvent handle offset buffer) q reply new e h = record {
  handle = handle;
  buffer = buffer;
  right = subst (λ (r : ClientRequest). IsRightCall (CallReplies old handle r buffer reply new) old new) (sym e) h;
  carries = subst (λ (r : ClientRequest). length r.bytes ≡ bytes_carried r.kind r.length) (sym e) refl;
}
called old (WriteEvent handle offset bytes through) q reply new e h = record {
  handle = handle;
  buffer = bytes;
  right = subst (λ (r : ClientRequest). IsRightCall (CallReplies old handle r bytes reply new) old new) (sym e) h;
  carries = subst (λ (r : ClientRequest). length r.bytes ≡ bytes_carried r.kind r.length) (sym e) refl;
}
called old (FlushEvent handle) q reply new e h = record {
  handle = handle;
  buffer = [];
  right = subst (λ (r : ClientRequest). IsRightCall (CallReplies old handle r [] reply new) old new) (sym e) h;
  carries = subst (λ (r : ClientRequest). length r.bytes ≡ bytes_carried r.kind r.length) (sym e) refl;
}
called old (Open partition) q reply new e h = absurd e
called old (Close handle) q reply new e h = absurd e
called old (CancelIoEx handle target) q reply new e h = absurd e
called old (Mark number) q reply new e h = absurd e
called old QueryRemove q reply new e h = absurd e
called old CancelRemove q reply new e h = absurd e
called old Remove q reply new e h = absurd e
called old SurpriseRemove q reply new e h = absurd e
called old (Act tag) q reply new e h = absurd e
called old (Finish tag) q reply new e h = absurd e
called old Reset q reply new e h = absurd e
