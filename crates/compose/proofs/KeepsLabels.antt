-- Whether labels are kept changes with no step.
use Rattle.std.proofs.Common.{◌≡◌, ℕ, Option, Some, None, MatchOption, ap, replicate, sym}
use Rattle.compose.proofs.Common.{length-replicate, Label, Asked, Handle, Refusal, Reply, ManagerView, Refuses, TakesLabel, TakesShown, TakesAnswer, TakesAnswerOf, Event, IsRight}
use Rattle.io_manager.specs.declared.Answer.{Answer}
use Rattle.compose.specs.declared.Event.TheVariants.{Open, Close, Read, Write, Flush, CancelIoEx, Mark, QueryRemove}
use Rattle.compose.specs.declared.Event.TheVariants.{CancelRemove, Remove, SurpriseRemove, Act, Finish, Reset}

pub step_keeps : (old : ManagerView) (event : Event) (reply : Reply) (new : ManagerView) → IsRight old event reply new → new.keeps ≡ old.keeps
step_keeps old (Open partition) reply new h = h.by.same_keeps
step_keeps old (Close handle) reply new h = h.by.same_keeps
step_keeps old (Read handle offset buffer) reply new h = h.by.same_keeps
step_keeps old (Write handle offset bytes through) reply new h = h.by.same_keeps
step_keeps old (Flush handle) reply new h = h.by.same_keeps
step_keeps old (CancelIoEx handle target) reply new h = h.by.same_keeps
step_keeps old (Mark number) reply new h = h.by.same_keeps
step_keeps old QueryRemove reply new h = h.by.same_keeps
step_keeps old CancelRemove reply new h = h.by.same_keeps
step_keeps old Remove reply new h = h.by.same_keeps
step_keeps old SurpriseRemove reply new h = h.by.same_keeps
step_keeps old (Act tag) reply new h = h.by.same_keeps
step_keeps old (Finish tag) reply new h = h.by.same_keeps
step_keeps old Reset reply new h = h.1.by.same_keeps

pub step_same_rules : (old : ManagerView) (event : Event) (reply : Reply) (new : ManagerView) → IsRight old event reply new → new.rules ≡ old.rules
step_same_rules old (Open partition) reply new h = h.by.same_rules
step_same_rules old (Close handle) reply new h = h.by.same_rules
step_same_rules old (Read handle offset buffer) reply new h = h.by.same_rules
step_same_rules old (Write handle offset bytes through) reply new h = h.by.same_rules
step_same_rules old (Flush handle) reply new h = h.by.same_rules
step_same_rules old (CancelIoEx handle target) reply new h = h.by.same_rules
step_same_rules old (Mark number) reply new h = h.by.same_rules
step_same_rules old QueryRemove reply new h = h.by.same_rules
step_same_rules old CancelRemove reply new h = h.by.same_rules
step_same_rules old Remove reply new h = h.by.same_rules
step_same_rules old SurpriseRemove reply new h = h.by.same_rules
step_same_rules old (Act tag) reply new h = h.by.same_rules
step_same_rules old (Finish tag) reply new h = h.by.same_rules
step_same_rules old Reset reply new h = h.1.by.same_rules

pub shown_keeps : (old : ManagerView) (found : Option Label) (new : ManagerView) → TakesShown old found new → new.keeps ≡ old.keeps
shown_keeps old None new h = ap (λ (v : ManagerView). v.keeps) h.1
shown_keeps old (Some label) new h = ap (λ (v : ManagerView). v.keeps) h.4

pub label_keeps : (old : ManagerView) (found : Option Label) (new : ManagerView) → TakesLabel old found new → new.keeps ≡ old.keeps
label_keeps old None new h = ap (λ (v : ManagerView). v.keeps) h.1
label_keeps old (Some label) new h = ap (λ (v : ManagerView). v.keeps) h.2

pub answer_keeps : (old : ManagerView) (found : Option Answer) (new : ManagerView) → TakesAnswer old found new → new.keeps ≡ old.keeps
answer_keeps old None new h = ap (λ (v : ManagerView). v.keeps) h.1
answer_keeps old (Some answer) new h = ap (λ (v : ManagerView). v.keeps) h.3

pub answer_of_keeps : (old : ManagerView) (number : ℕ) (found : Option Answer) (new : ManagerView) → TakesAnswerOf old number found new → new.keeps ≡ old.keeps
answer_of_keeps old number None new h = ap (λ (v : ManagerView). v.keeps) h.1
answer_of_keeps old number (Some answer) new h = ap (λ (v : ManagerView). v.keeps) h.3

pub refused_keeps : (old : ManagerView) (handle : Handle) (asked : Asked) (found : Option Refusal) (new : ManagerView)
    → MatchOption found (new ≡ old) (λ refusal. Refuses old handle asked refusal new) → new.keeps ≡ old.keeps
refused_keeps old handle asked None new h = ap (λ (v : ManagerView). v.keeps) h
refused_keeps old handle asked (Some refusal) new h = (h (replicate asked.length 0) (sym (length-replicate asked.length 0))).by.same_keeps
