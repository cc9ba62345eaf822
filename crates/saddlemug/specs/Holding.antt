-- What C holds before and after a call.
use Rattle.std.specs.Prelude.{⊤, List, Option, Some, None}
use Rattle.saddlemug.specs.declared.instance.Instance.{Instance}
use Rattle.saddlemug.specs.declared.instance.Instance.TheVariants.{Volume, Stack, Over, Judge}
use Rattle.saddlemug.specs.declared.places.PieceBytes.{PieceBytes}
use Rattle.io_manager.specs.Shown.{ManagerView}
use Rattle.volume.specs.Shown.{VolumeView}
use Rattle.referee.specs.Taking.{RefereeView}
use Rattle.saddlemug.specs.Over.{OverView}

-- an instance is a volume of which this is true
abbrev pub IsVolume : (VolumeView → Type 0) → Instance → Type 0
IsVolume P (Volume v) = P v
IsVolume P (Stack v) = ⊥
IsVolume P (Over v) = ⊥
IsVolume P (Judge v) = ⊥

abbrev pub IsAnyVolume : Instance → Type 0
IsAnyVolume = IsVolume (λ v. ⊤)

-- a cell holds such a volume
abbrev pub HoldsVolume : (VolumeView → Type 0) → Option Instance → Type 0
HoldsVolume P None = ⊥
HoldsVolume P (Some held) = IsVolume P held

abbrev pub HoldsAnyVolume : Option Instance → Type 0
HoldsAnyVolume = HoldsVolume (λ v. ⊤)

-- an instance is a stack of which this is true, whoever keeps its sectors
abbrev pub IsStack : (ManagerView → Type 0) → Instance → Type 0
IsStack P (Volume v) = ⊥
IsStack P (Stack v) = P v
IsStack P (Over v) = P v.stack
IsStack P (Judge v) = ⊥

abbrev pub IsAnyStack : Instance → Type 0
IsAnyStack = IsStack (λ v. ⊤)

-- a cell holds such a stack
abbrev pub HoldsStack : (ManagerView → Type 0) → Option Instance → Type 0
HoldsStack P None = ⊥
HoldsStack P (Some held) = IsStack P held

abbrev pub HoldsAnyStack : Option Instance → Type 0
HoldsAnyStack = HoldsStack (λ v. ⊤)

-- an instance is a stack whose sectors C keeps, and of which this is true
abbrev pub IsOver : (OverView → Type 0) → Instance → Type 0
IsOver P (Volume v) = ⊥
IsOver P (Stack v) = ⊥
IsOver P (Over v) = P v
IsOver P (Judge v) = ⊥

-- if C keeps the sectors of the stack, this is true
abbrev pub IfOver : (OverView → Type 0) → Instance → Type 0
IfOver P (Volume v) = ⊤
IfOver P (Stack v) = ⊤
IfOver P (Over v) = P v
IfOver P (Judge v) = ⊤

-- if the stack has its sectors in memory, this is true
abbrev pub IfInMemory : Type 0 → Instance → Type 0
IfInMemory P (Volume v) = ⊤
IfInMemory P (Stack v) = P
IfInMemory P (Over v) = ⊤
IfInMemory P (Judge v) = ⊤

-- the places of a stack whose sectors C keeps
abbrev pub places_in : Instance → Option (List (Option PieceBytes))
places_in (Volume v) = None
places_in (Stack v) = None
places_in (Over v) = Some v.places
places_in (Judge v) = None

abbrev pub HoldsOver : (OverView → Type 0) → Option Instance → Type 0
HoldsOver P None = ⊥
HoldsOver P (Some held) = IsOver P held

abbrev pub IfHoldsOver : (OverView → Type 0) → Option Instance → Type 0
IfHoldsOver P None = ⊤
IfHoldsOver P (Some held) = IfOver P held

abbrev pub IfHoldsInMemory : Type 0 → Option Instance → Type 0
IfHoldsInMemory P None = ⊤
IfHoldsInMemory P (Some held) = IfInMemory P held

abbrev pub places_held : Option Instance → Option (List (Option PieceBytes))
places_held None = None
places_held (Some held) = places_in held

-- an instance is a judge of which this is true
abbrev pub IsJudge : (RefereeView → Type 0) → Instance → Type 0
IsJudge P (Volume v) = ⊥
IsJudge P (Stack v) = ⊥
IsJudge P (Over v) = ⊥
IsJudge P (Judge v) = P v

abbrev pub IsAnyJudge : Instance → Type 0
IsAnyJudge = IsJudge (λ v. ⊤)

-- a cell holds such a judge
abbrev pub HoldsJudge : (RefereeView → Type 0) → Option Instance → Type 0
HoldsJudge P None = ⊥
HoldsJudge P (Some held) = IsJudge P held

abbrev pub HoldsAnyJudge : Option Instance → Type 0
HoldsAnyJudge = HoldsJudge (λ v. ⊤)
