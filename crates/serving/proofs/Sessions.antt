-- What a run of the program reads and writes.
use Rattle.serving.proofs.Common.{◌≡◌, ℕ, List, Option, Some, inl, inr, refl, subst, Config, IsSession, End, Error, AreRead, IsServed, IsStartFault, fault_of_end, may_fail, new_array}
use Rattle.nbd.specs.Content.{Content}

module _ (config : Option (List ℕ)) (p : ℕ) (input out : Option (List ℕ)) where
  module _ (settings : Config) (are_read : AreRead config settings) where
    pub without_disk : (fault : Error) → IsStartFault settings p fault → IsServed config p input out (Some fault) input out
    without_disk fault why = inl (record { fault = fault; told_is = refl; early = inr (settings, are_read, why); unread = refl; unwritten = refl })

    pub with_session : (first last : Content) (end : End) (told : Option Error) (rest after : Option (List ℕ)) → first ≡ new_array settings p
        → IsSession may_fail first input out end last after → told ≡ fault_of_end end → IsServed config p input out told rest after
    with_session first last end told rest after is session ends =
        inr (record {
          settings = settings;
          are_read = are_read;
          end = end;
          told_is = ends;
          last = last;
          session = subst (λ (c : Content). IsSession may_fail c input out end last after) is session;
        })
