-- What a command gives back.
use Rattle.model.specs.declared.Answer.{Answer}
use Rattle.model.specs.declared.State.{State}
use Rattle.device.specs.declared.Reply.{Reply}

-- an answer with a state
abbrev pub replied : Answer → State → Reply
replied a s = record { answer = a; device = record { state = s } }
