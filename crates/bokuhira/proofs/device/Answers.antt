-- `bokuhira::device` meets its contract. Assumes nothing.
use Rattle.bokuhira.proofs.Calls.{coded_long}
use Rattle.bokuhira.proofs.device.Goals as goal

pub load-requires : goal.load-requires
load-requires c = coded_long _ c.requires
