-- A step whose labels nobody keeps.
use Rattle.volume.proofs.Common.{[], true, false, subst, IsRead, Reply, ManagerView, Event, StepsUntraced, IsBetween}

-- what is shown before it, once no label is kept
abbrev pub untraced : ManagerView → ManagerView
untraced v = record v { keeps = false }

-- and behind it, once its labels are forgotten and the next are kept
abbrev pub forgotten : ManagerView → ManagerView
forgotten v = record v { labels = []; keeps = true }

-- what it leaves is read from the adapter
pub read_stepped : (old : ManagerView) (event : Event) (reply : Reply) (new : ManagerView) (h : StepsUntraced old event reply new) → IsBetween new → IsRead h.stepped.rules h.stepped.state h.stepped.adapter
read_stepped old event reply new h between = subst (λ (v : ManagerView). IsRead v.rules v.state v.adapter) h.after between.whole.read
