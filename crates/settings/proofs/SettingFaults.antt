-- The faults of settings, once the keys before the lists have none.
use Rattle.std.proofs.Common.{◌≡◌, ℕ, ◌-◌, List, ◌∷◌, length, true, false, nat_le, Option, None, Result, Ok, Err, codes, ap, sym, ◌∙◌, inl, inr}
use Rattle.std.specs.Result.{result_err}
use Rattle.toml.specs.Data.{Members, array, boolean, no_items, get_member}
use Rattle.settings.specs.declared.ConfigFault.{ConfigFault}
use Rattle.settings.specs.Settings.{whole, IsNumber, values_of, has_known_keys}
use Rattle.ntstatus.specs.First.{first_some}
use Rattle.settings.specs.Faults.{is_from, is_sector_size, is_number, is_truth, is_list_of, number_of, needed_fault, optional_fault, partition_faults, rules_fault, setting_faults, IsRefusedFor}
use Rattle.settings.proofs.FirstFault.{ends}

-- what stands before the lists has no fault
pub record HasNumbers (document : Members) (end : ℕ) : Type 0 where
  pub known_keys : has_known_keys document ≡ true
  pub few_partitions : nat_le (length (values_of (get_member (codes "partition") document))) 4 ≡ true
  pub sector_size : None ≡ needed_fault (is_number is_sector_size) (get_member (codes "sector_size") document)
  pub sectors : None ≡ needed_fault (is_number (is_from 1 1099511627776)) (get_member (codes "sectors") document)
  pub sectors_is : IsNumber (get_member (codes "sectors") document) end
  pub max_transfer : None ≡ needed_fault (is_number (is_from 1 65536)) (get_member (codes "max_transfer") document)
  pub depth : None ≡ needed_fault (is_number (is_from 1 32)) (get_member (codes "depth") document)
  pub window : None ≡ needed_fault (is_number (is_from 1 64)) (get_member (codes "window") document)
  pub open_requests : None ≡ optional_fault (whole 64) (is_number (is_from 1 64)) (get_member (codes "open_requests") document)
  pub write_protected : None ≡ optional_fault (boolean false) is_truth (get_member (codes "write_protected") document)

-- the first fault is then one of the lists
pub at_lists : (document : Members) (sectors : ℕ) → HasNumbers document sectors → first_some (setting_faults document)
    ≡ first_some (optional_fault (array no_items) (is_list_of (is_number (is_from 0 (sectors - 1)))) (get_member (codes "bad_sectors") document)
    ∷ rules_fault (get_member (codes "fault") document) ∷ partition_faults (get_member (codes "partition") document))
at_lists document sectors h =
    rw (h.known_keys, h.few_partitions, ← h.sector_size, ← h.sectors, ← h.max_transfer, ← h.depth, ← h.window, ← h.open_requests, ← h.write_protected, ap number_of h.sectors_is)

-- what a call was refused for is what its caller is refused for
pub refused : {A B : Type 0} (fault : Option ConfigFault) (call : Result A ConfigFault) (result : Result B ConfigFault) (error : ConfigFault)
    → call ≡ Err error → result ≡ Err error → IsRefusedFor fault call → IsRefusedFor fault result
refused fault call result error was is (inl there) = inl (ap result_err is ∙ sym (ap result_err was) ∙ there)
refused fault call result error was is (inr memory) = inr (ap result_err is ∙ sym (ap result_err was) ∙ memory)

-- what a call was refused for is the first of the faults that begin with the call's
pub refused_here : {A B : Type 0} (fault : Option ConfigFault) (rest : List (Option ConfigFault)) (call : Result A ConfigFault) (result : Result B ConfigFault) (error : ConfigFault)
    → call ≡ Err error → result ≡ Err error → IsRefusedFor fault call → IsRefusedFor (first_some (fault ∷ rest)) result
refused_here fault rest call result error was is (inl there) = inl (ap result_err is ∙ sym (ends fault rest error (sym there ∙ ap result_err was)))
refused_here fault rest call result error was is (inr memory) = inr (ap result_err is ∙ sym (ap result_err was) ∙ memory)

-- a call that was not refused
pub none_here : {A : Type 0} (fault : Option ConfigFault) (call : Result A ConfigFault) (value : A) → call ≡ Ok value → IsRefusedFor fault call → fault ≡ None
none_here fault call value was (inl there) = sym there ∙ ap result_err was
none_here fault call value was (inr memory) = cc
