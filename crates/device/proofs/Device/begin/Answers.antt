-- `Device::begin` meets its contract: `opening::begin` does. Assumes nothing.
use Rattle.device.proofs.Device.begin.Goals as goal

pub returns : goal.returns
returns c = rw c.strode.ensures c.begin.ensures
