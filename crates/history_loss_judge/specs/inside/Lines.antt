-- Lines as the machine's sessions have them.
use Rattle.std.specs.Prelude.{List, [], ◌∷◌}
use Rattle.loss.specs.Sessions.{Line as SessionLine, Told as ToldLine, Lost as LostLine, Ended as EndedLine}
use Rattle.history_loss_sector.specs.declared.seen.Turned.{Turned}
use Rattle.history_loss_sector.specs.declared.seen.Turned.TheVariants.{Lost as TurnsLost, Ended as TurnsEnded}
use Rattle.history_loss_judge.specs.declared.lines.Line.{Line}
use Rattle.history_loss_judge.specs.declared.lines.Line.TheVariants.{Told, Lost, Ended}

abbrev pub line_in : Line → SessionLine
line_in (Told label) = ToldLine label
line_in Lost = LostLine
line_in Ended = EndedLine

abbrev pub lines_in : List Line → List SessionLine
lines_in [] = []
lines_in (line ∷ lines) = line_in line ∷ lines_in lines

-- a session ended so
abbrev pub turned_line : Turned → Line
turned_line TurnsLost = Lost
turned_line TurnsEnded = Ended

abbrev pub line_of : Turned → SessionLine
line_of TurnsLost = LostLine
line_of TurnsEnded = EndedLine
