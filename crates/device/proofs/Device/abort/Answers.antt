-- `Device::abort` meets its contract: `opening::abort` does. Assumes nothing.
use Rattle.device.proofs.Device.abort.Goals as goal

pub returns : goal.returns
returns c = rw c.strode.ensures c.abort.ensures
