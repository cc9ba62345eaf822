-- It owns nothing, so it may go to another thread.
use denote.RattleType.{RattleType}
use denote.Param.Send.{IsSend, sendable}
use denote.Param.SendFields.{owner_send}
use Rattle.noted.specs.contracts.list.Noted.{the_row, the_type}

pub send : (T : RattleType) → IsSend (the_row T)
send T = owner_send (the_type T) (search sendable, tt) (λ d. tt) (λ k x w. tt)
