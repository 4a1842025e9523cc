-- `Device::reclaim` meets its contract: `housekeeping::reclaim` does. Assumes nothing.
use Rattle.device.proofs.Device.reclaim.Goals as goal

pub returns : goal.returns
returns c = rw c.strode.ensures c.reclaim.ensures
