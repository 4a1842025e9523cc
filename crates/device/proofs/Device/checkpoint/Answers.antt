-- `Device::checkpoint` meets its contract: `housekeeping::checkpoint` does. Assumes nothing.
use Rattle.device.proofs.Device.checkpoint.Goals as goal

pub returns : goal.returns
returns c = rw c.strode.ensures c.checkpoint.ensures
